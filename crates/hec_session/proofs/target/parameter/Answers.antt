use Rattle.std.proofs.Common.{◌≡◌, ◌∙◌, true, sym, ap, Some}
use Rattle.std.specs.Str.{bytes_eq}
use Rattle.hec_session.specs.Target.{decoded}
use Rattle.hec_session.proofs.QueryLaws.{named_first}
use Rattle.hec_session.proofs.target.parameter.Goals as goal

pub returns-then-eq : goal.returns-then-eq
returns-then-eq c =
    let (key, value, first, texts) = c.in-Some.ensures.steps.0 in
    let both = rw c.in_ok-key.was at texts in
    let named : bytes_eq (decoded key) c.args.name.now ≡ true =
    ap (λ text. bytes_eq text c.args.name.now) (sym (c.as_str.ensures.value ∙ both.0.2)) ∙ (sym c.eq.ensures ∙ c.if-eq.true) in
    ap Some (c.in_ok-into_owned.ensures.ok ∙ both.1.2) ∙ sym (c.loop-pair.invariant ∙ named_first _ key value _ _ first named)
