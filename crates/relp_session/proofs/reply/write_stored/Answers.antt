-- The number, and then the rest of the frame.
use Rattle.std.proofs.Common.{◌≡◌, ◌∙◌, ℕ, List, [], ◌∷◌, ◌++◌, cond, sym, ap, lit<, append_assoc}
use Rattle.std.specs.Prelude.{Result, Ok, Err, OnOk, is_ok, codes}
use Rattle.std.specs.Fmt.{decimal}
use Rattle.std.proofs.lemmas.Fmt.{decimal_digit}
use Rattle.relp_session.specs.Answer.{stored}
use Rattle.relp_session.proofs.reply.write_stored.Goals as goal

-- what follows the number
abbrev rest : List ℕ
rest = codes " rsp 6 200 OK" ++ 10 ∷ []

spelled : (txnr : ℕ) → decimal txnr ++ rest ≡ stored txnr
spelled txnr = ap (λ v. decimal txnr ++ 32 ∷ (codes "rsp" ++ 32 ∷ (v ++ 32 ∷ (codes "200 OK" ++ 10 ∷ [])))) (sym (decimal_digit 6 (lit< tt)))

written : {T E : Type 0} (r : Result T E) (old first second : List ℕ) (txnr : ℕ) → first ≡ old ++ decimal txnr → second ≡ cond (is_ok r) (first ++ rest) first → OnOk r (second ≡ old ++ stored txnr)
written (Ok x) old first second txnr f s = s ∙ ap (λ v. v ++ rest) f ∙ append_assoc old (decimal txnr) rest ∙ ap (λ v. old ++ v) (spelled txnr)
written (Err e) old first second txnr f s = tt

pub returns-clause-ok : goal.returns-clause-ok
returns-clause-ok c =
    let digits : c.as_bytes.result.now ≡ decimal c.args.txnr = c.as_bytes.ensures.value ∙ c.format.ensures.text in
    let first : c.extend_from_slice.new.self.items ≡ c.args.out.now.items ++ decimal c.args.txnr = c.in_ok-extend_from_slice.ensures.items ∙ ap (λ v. c.args.out.now.items ++ v) digits in
    written c.extend_from_slice-2.result c.args.out.now.items c.extend_from_slice.new.self.items c.extend_from_slice-2.new.self.items c.args.txnr first c.extend_from_slice-2.ensures.items
