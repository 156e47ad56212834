-- The run that is stored next, and its answers.
use Rattle.std.proofs.Common.{◌≡◌, ℕ, zero, suc, ◌+◌, ◌-◌, ◌^◌, ◌<◌, ◌≤◌, ◌∙◌, min, List, [], ◌∷◌, ◌++◌, length, take, drop, get_or, refl, sym, ap, subst, lit<, arith, length-append, length-take}
use Rattle.std.specs.Prelude.{Result, Ok, Err, OnOk, codes}
use Rattle.std.specs.List.{All}
use Rattle.std.specs.Fmt.{decimal}
use Rattle.std.proofs.lemmas.Fmt.{decimal_digit}
use Rattle.std.proofs.lemmas.List.{append-nil, take_more, take-append-drop}
use Rattle.std.proofs.lemmas.Grind.{flat_map-append}
use Rattle.std.proofs.lemmas.List.Elements.{All-tail}
use Rattle.std.proofs.Math.Seq.{take-append_seam, drop-append_seam}
use Rattle.event_form.specs.declared.event.Entry.{Entry}
use Rattle.relp_session.specs.Answer.{stored}
use Rattle.spool_answers.specs.declared.receipt.Receipt.{Receipt}
use Rattle.spool_faults.specs.declared.fault.TakeFault.{TakeFault}
use Rattle.desk_access.specs.Batch.{AreNext}
use Rattle.desk_access.specs.Call.{takes, taken_of, TookSurely}
use Rattle.conn_serve.specs.Groups.{IsFrameEntry}
use Rattle.conn_serve.specs.Runs.{answers_of, size_of}
use Rattle.conn_serve.specs.RelpServing.{IsReady}
use Rattle.conn_serve.proofs.LumberActing.{may_behind, group_conn, group_sure}
use Rattle.conn_serve.proofs.Runs.{size_then, size_drop}

-- ---- the first of some entries were taken

next_take : (conn index : ℕ) (es : List Entry) (n : ℕ) → AreNext conn index es → AreNext conn index (take n es)
next_take conn index es zero next = tt
next_take conn index [] (suc n) next = tt
next_take conn index (e ∷ es) (suc n) next = (next.0, next.1, next_take conn (index + 1) es n next.2)

-- then the next ones may be
pub front_may : (may : ℕ → ℕ → Type 0) (conn index n : ℕ) (es : List Entry) (r : Result Receipt TakeFault) → n ≤ length es → AreNext conn index es
    → ((receipt : Receipt) → r ≡ Ok receipt → All TookSurely (takes (take n es) (Ok receipt) ∷ []) → All (λ (e : Entry). e.conn ≡ conn) (taken_of (takes (take n es) (Ok receipt) ∷ [])) → may conn (index + length (taken_of (takes (take n es) (Ok receipt) ∷ []))))
    → OnOk r (may conn (index + n))
front_may may conn index n es (Ok receipt) few next law =
    may_behind may conn index (index + n) (take n es) receipt (law receipt refl (group_sure (take n es) receipt) (group_conn conn index (take n es) receipt (next_take conn index es n next))) (omega (arith, length-take n es, few))
front_may may conn index n es (Err fault) few next law = tt

-- ---- the bytes of answers

-- what follows the number
abbrev rest : List ℕ
rest = codes " rsp 6 200 OK" ++ 10 ∷ []

spelled : (txnr : ℕ) → decimal txnr ++ rest ≡ stored txnr
spelled txnr = ap (λ (v : List ℕ). decimal txnr ++ 32 ∷ (codes "rsp" ++ 32 ∷ (v ++ 32 ∷ (codes "200 OK" ++ 10 ∷ [])))) (sym (decimal_digit 6 (lit< tt)))

pub stored_size : (txnr : ℕ) → length (stored txnr) ≡ length (decimal txnr) + 14
stored_size txnr = sym (ap length (spelled txnr)) ∙ length-append (decimal txnr) rest

pub answers_then : (xs ys : List Entry) → answers_of (xs ++ ys) ≡ answers_of xs ++ answers_of ys
answers_then xs ys = flat_map-append (λ (e : Entry). stored e.unit) xs ys

pub answers_more : (entries : List Entry) (i : ℕ) (d : Entry) → i < length entries → length (answers_of (take (i + 1) entries)) ≡ length (answers_of (take i entries)) + length (stored (get_or entries i d).unit)
answers_more entries i d few =
    let e = get_or entries i d in
    ap (λ (l : List Entry). length (answers_of l)) (take_more entries i d few) ∙ ap length (answers_then (take i entries) (e ∷ [])) ∙ length-append (answers_of (take i entries)) (answers_of (e ∷ []))
    ∙ ap (λ (l : List ℕ). length (answers_of (take i entries)) + length l) (append-nil (stored e.unit))

-- the answers of the first, and of the others
pub answers_cut : (entries : List Entry) (n : ℕ) → answers_of entries ≡ answers_of (take n entries) ++ answers_of (drop n entries)
answers_cut entries n = ap answers_of (sym (take-append-drop n entries)) ∙ answers_then (take n entries) (drop n entries)

pub answers_front : (entries : List Entry) (answers : List ℕ) (n len : ℕ) → answers ≡ answers_of entries → len ≡ length (answers_of (take n entries)) → take len answers ≡ answers_of (take n entries)
answers_front entries answers n len is size = ap (λ (k : ℕ). take k answers) size ∙ ap (take (length (answers_of (take n entries)))) (is ∙ answers_cut entries n) ∙ take-append_seam (answers_of (take n entries)) (answers_of (drop n entries))

answers_behind : (entries : List Entry) (answers : List ℕ) (n len : ℕ) → answers ≡ answers_of entries → len ≡ length (answers_of (take n entries)) → drop len answers ≡ answers_of (drop n entries)
answers_behind entries answers n len is size = ap (λ (k : ℕ). drop k answers) size ∙ ap (drop (length (answers_of (take n entries)))) (is ∙ answers_cut entries n) ∙ drop-append_seam (answers_of (take n entries)) (answers_of (drop n entries))

pub answers_inside : (entries : List Entry) (answers : List ℕ) (n len : ℕ) → answers ≡ answers_of entries → len ≡ length (answers_of (take n entries)) → len ≤ length answers
answers_inside entries answers n len is size = omega (arith, size, ap length (is ∙ answers_cut entries n), length-append (answers_of (take n entries)) (answers_of (drop n entries)))

-- ---- what is kept of a run

pub ready_push : (old new : List Entry) (a b : List ℕ) (size len : ℕ) (e : Entry) → IsReady old a size → All IsFrameEntry new → new ≡ old ++ e ∷ [] → b ≡ a ++ stored e.unit → length e.event.text ≡ len → len ≤ 131072 → size_of old ≤ 131136 → IsReady new b (min (size + len) (2 ^ 64 - 1))
ready_push old new a b size len e ready limits is said text short few = record {
  limits = limits;
  spelled = said ∙ ap (λ (l : List ℕ). l ++ stored e.unit) ready.spelled ∙ ap (λ (l : List ℕ). answers_of old ++ l) (sym (append-nil (stored e.unit))) ∙ sym (answers_then old (e ∷ [])) ∙ ap answers_of (sym is);
  counted = omega (arith, ap size_of is, size_then old (e ∷ []), text, short, few, ready.counted);
}

drop_limits : (entries : List Entry) (n : ℕ) → All IsFrameEntry entries → All IsFrameEntry (drop n entries)
drop_limits entries zero all = all
drop_limits [] (suc n) all = all
drop_limits (e ∷ entries) (suc n) all = drop_limits entries n (All-tail IsFrameEntry e entries all)

pub ready_drop : (old new : List Entry) (a b : List ℕ) (size n len : ℕ) → IsReady old a size → new ≡ drop n old → b ≡ drop len a → len ≡ length (answers_of (take n old)) → IsReady new b size
ready_drop old new a b size n len ready is cut count = record {
  limits = subst (All IsFrameEntry) (sym is) (drop_limits old n ready.limits);
  spelled = cut ∙ answers_behind old a n len ready.spelled count ∙ ap answers_of (sym is);
  counted = omega (arith, ap size_of is, size_drop n old, ready.counted);
}
