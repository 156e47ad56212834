-- What is missing between slots.
use Rattle.std.proofs.Common.{◌≡◌, ◌∙◌, ℕ, zero, suc, ◌+◌, ◌<◌, List, [], ◌∷◌, ◌++◌, length, drop, get_or, refl, sym, ap, append_assoc, subst, arith}
use Rattle.std.specs.Prelude.{max}
use Rattle.spool_state.specs.SpoolState.{OpenSlot}
use Rattle.bridge_rescue.specs.declared.found.Found.{Found}
use Rattle.bridge_rescue.specs.declared.gaps.Span.{Span}
use Rattle.bridge_rescue.specs.Gaps.{span, spans_in, spans_of, gap_between, gaps_from}
use Rattle.bridge_rescue.specs.Looking.{AreKnown}

-- the numbers that memory has of the slots are theirs
pub same_spans : (sound : List OpenSlot) (items : List Found) (c : List ℕ) → AreKnown sound items c → spans_of items ≡ spans_in sound
same_spans [] [] c known = refl
same_spans [] (slot ∷ slots) c known = absurd known
same_spans (one ∷ more) [] c known = absurd known
same_spans (one ∷ more) (slot ∷ slots) c known =
    let rest = same_spans more slots c known.1 in
    λ i. span (known.0.first i) (known.0.first i + known.0.count i) ∷ rest i

-- of the slots from a place on, the one there comes first
next_span : (slots : List Found) (i : ℕ) (slot : Found) (end : ℕ) → i < length slots → get_or slots i slot ≡ slot
    → gaps_from end (spans_of (drop i slots)) ≡ gap_between end slot.slot.first ++ gaps_from (max end (slot.slot.first + slot.slot.count)) (spans_of (drop (suc i) slots))
next_span [] i slot end lt is = absurd (omega (arith, lt))
next_span (first ∷ slots) zero slot end lt is = ap (λ (s : Found). gap_between end s.slot.first ++ gaps_from (max end (s.slot.first + s.slot.count)) (spans_of slots)) is
next_span (first ∷ slots) (suc i) slot end lt is = next_span slots i slot end (omega (arith, lt)) is

after_one : (i : ℕ) → suc i ≡ i + 1
after_one i = omega arith

-- what was found before it, with what is missing before it, is what was found by then
pub more_gaps : (slots : List Found) (i : ℕ) (slot : Found) (end : ℕ) (found all : List Span) → i < length slots → get_or slots i slot ≡ slot
    → found ++ gaps_from end (spans_of (drop i slots)) ≡ all
    → (found ++ gap_between end slot.slot.first) ++ gaps_from (max end (slot.slot.first + slot.slot.count)) (spans_of (drop (i + 1) slots)) ≡ all
more_gaps slots i slot end found all lt is so =
    subst (λ (n : ℕ). (found ++ gap_between end slot.slot.first) ++ gaps_from (max end (slot.slot.first + slot.slot.count)) (spans_of (drop n slots)) ≡ all) (after_one i)
    (append_assoc found (gap_between end slot.slot.first) (gaps_from (max end (slot.slot.first + slot.slot.count)) (spans_of (drop (suc i) slots)))
    ∙ ap (λ (l : List Span). found ++ l) (sym (next_span slots i slot end lt is)) ∙ so)
