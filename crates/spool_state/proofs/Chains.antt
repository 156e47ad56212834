-- Slots that are in order, and the state that they make.
use Rattle.std.proofs.Common.{◌≡◌, inl, inr, ℕ, ◌+◌, ◌<◌, ◌≤◌, List, [], ◌∷◌, ◌++◌, length, refl, arith, length-append}
use Rattle.std.specs.Prelude.{All}
use Rattle.std.proofs.lemmas.List.Elements.{All-nil, All-cons, All-head, All-tail}
use Rattle.spool_state.specs.Layout.{most_number}
use Rattle.spool_state.specs.Segment.{entries_of}
use Rattle.spool_state.specs.SpoolState.{OpenSlot, entries_in, first_of, ordinal_of, HasEarlyOrdinal, AreConsecutive}
use Rattle.spool_state.specs.Order.{AreSorted, count_of, AreInOrder, FirstAtFault}

-- ---- what being in order gives

pub rising : (slots : List OpenSlot) (ordinal first : ℕ) → AreInOrder slots ordinal first → All (λ slot. ordinal ≤ slot.segment.ordinal) slots
rising [] ordinal first h = All-nil (λ slot. ordinal ≤ slot.segment.ordinal)
rising (slot ∷ slots) ordinal first h =
    All-cons (λ s. ordinal ≤ s.segment.ordinal) slot slots (omega (arith, h.0.ordinal_due))
    (λ k d lt. omega (arith, h.0.ordinal_due, rising slots (slot.segment.ordinal + 1) (slot.segment.first + count_of slot) h.1 k d lt))

pub sorted-in_order : (slots : List OpenSlot) (ordinal first : ℕ) → AreInOrder slots ordinal first → AreSorted slots
sorted-in_order [] ordinal first h = tt
sorted-in_order (slot ∷ slots) ordinal first h =
    ((λ k d lt. inl (omega (arith, rising slots (slot.segment.ordinal + 1) (slot.segment.first + count_of slot) h.1 k d lt))), sorted-in_order slots (slot.segment.ordinal + 1) (slot.segment.first + count_of slot) h.1)

-- none of them is at fault
pub in_order_no_fault : (slots : List OpenSlot) (ordinal first place : ℕ) → AreInOrder slots ordinal first → FirstAtFault slots ordinal first place → ⊥
in_order_no_fault [] ordinal first place h fault = fault
in_order_no_fault (slot ∷ slots) ordinal first place h (inl here) = here.1 h.0
in_order_no_fault (slot ∷ slots) ordinal first place h (inr later) = in_order_no_fault slots (slot.segment.ordinal + 1) (slot.segment.first + count_of slot) place h.1 later.1

-- ---- the older slots, and the active one after them

pub some-push : (slots : List OpenSlot) (last : OpenSlot) → 0 < length (slots ++ last ∷ [])
some-push slots last = omega (arith, length-append slots (last ∷ []))

pub first_of-push : (slots : List OpenSlot) (last : OpenSlot) (first : ℕ) → first_of (slots ++ last ∷ []) first ≡ first_of slots last.segment.first
first_of-push [] last first = refl
first_of-push (slot ∷ slots) last first = refl

pub ordinal_of-push : (slots : List OpenSlot) (last : OpenSlot) (ordinal : ℕ) → ordinal_of (slots ++ last ∷ []) ordinal ≡ ordinal_of slots last.segment.ordinal
ordinal_of-push [] last ordinal = refl
ordinal_of-push (slot ∷ slots) last ordinal = refl

pub length-entries_in-push : (slots : List OpenSlot) (last : OpenSlot) → length (entries_in (slots ++ last ∷ [])) ≡ length (entries_in slots) + count_of last
length-entries_in-push [] last = omega (arith, length-append (entries_of last.segment) [])
length-entries_in-push (slot ∷ slots) last = omega (arith, length-append (entries_of slot.segment) (entries_in (slots ++ last ∷ [])), length-append (entries_of slot.segment) (entries_in slots), length-entries_in-push slots last)

first_below : (slots : List OpenSlot) (ordinal first : ℕ) → AreConsecutive slots ordinal first → first_of slots first ≤ first
first_below [] ordinal first h = omega arith
first_below (slot ∷ slots) ordinal first h = omega (arith, h.1, first_below slots ordinal first h.3)

-- the slots of a state are in order
pub in_order : (slots : List OpenSlot) (last : OpenSlot) (ordinal first : ℕ) → ordinal_of slots last.segment.ordinal ≡ ordinal → first_of slots last.segment.first ≡ first
    → AreConsecutive slots last.segment.ordinal last.segment.first → All HasEarlyOrdinal slots → HasEarlyOrdinal last → last.segment.first + count_of last ≤ most_number
    → AreInOrder (slots ++ last ∷ []) ordinal first
in_order [] last ordinal first o f h all early fits = (record { ordinal_due = o; first_due = f; some = λ some. absurd (omega arith); early = early; ends = fits }, tt)
in_order (slot ∷ slots) last ordinal first o f h all early fits = (
  record {
    ordinal_due = o;
    first_due = f;
    some = λ some. h.2;
    early = All-head HasEarlyOrdinal slot slots all;
    ends = omega (arith, h.1, first_below slots last.segment.ordinal last.segment.first h.3);
  },
  in_order slots last (slot.segment.ordinal + 1) (slot.segment.first + count_of slot) h.0 h.1 h.3 (All-tail HasEarlyOrdinal slot slots all) early fits,
)

-- and slots in order are those of a state
pub last_in_order : (slots : List OpenSlot) (last : OpenSlot) (ordinal first : ℕ) → AreInOrder (slots ++ last ∷ []) ordinal first → HasEarlyOrdinal last × (last.segment.first + count_of last ≤ most_number)
last_in_order [] last ordinal first h = (h.0.early, h.0.ends)
last_in_order (slot ∷ slots) last ordinal first h = last_in_order slots last (slot.segment.ordinal + 1) (slot.segment.first + count_of slot) h.1

due_first : (slots : List OpenSlot) (last : OpenSlot) (ordinal first : ℕ) → AreInOrder (slots ++ last ∷ []) ordinal first → (ordinal_of slots last.segment.ordinal ≡ ordinal) × (first_of slots last.segment.first ≡ first)
due_first [] last ordinal first h = (h.0.ordinal_due, h.0.first_due)
due_first (slot ∷ slots) last ordinal first h = (h.0.ordinal_due, h.0.first_due)

pub consecutive : (slots : List OpenSlot) (last : OpenSlot) (ordinal first : ℕ) → AreInOrder (slots ++ last ∷ []) ordinal first → AreConsecutive slots last.segment.ordinal last.segment.first
consecutive [] last ordinal first h = tt
consecutive (slot ∷ slots) last ordinal first h =
    let due = due_first slots last (slot.segment.ordinal + 1) (slot.segment.first + count_of slot) h.1 in
    (due.0, due.1, h.0.some (some-push slots last), consecutive slots last (slot.segment.ordinal + 1) (slot.segment.first + count_of slot) h.1)

pub all_early : (slots : List OpenSlot) (last : OpenSlot) (ordinal first : ℕ) → AreInOrder (slots ++ last ∷ []) ordinal first → All HasEarlyOrdinal slots
all_early [] last ordinal first h = All-nil HasEarlyOrdinal
all_early (slot ∷ slots) last ordinal first h = All-cons HasEarlyOrdinal slot slots h.0.early (all_early slots last (slot.segment.ordinal + 1) (slot.segment.first + count_of slot) h.1)
