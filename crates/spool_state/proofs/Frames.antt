-- What a change of one part of the device leaves of the others.
use Rattle.std.proofs.Common.{◌≡◌, ◌≢◌, ◌⊎◌, inl, inr, ℕ, ◌+◌, ◌<◌, ◌≤◌, List, length, get_or, ◌∙◌, arith}
use Rattle.std.specs.Prelude.{All}
use Rattle.std.proofs.lemmas.Bool.{cases_order}
use Rattle.std.proofs.lemmas.Nat.{row_fits}
use Rattle.foundation.specs.Bytes.{part, SameBut}
use Rattle.foundation.proofs.Bytes.{same_part}
use Rattle.known_numbers.specs.declared.stretch.TheConstants.{MOST_STRETCHES}
use Rattle.known_numbers.specs.declared.stretch.Stretch.{Stretch}
use Rattle.spool_state.specs.Layout.{first_cell, second_cell, cell_length, first_slot, cell_head}
use Rattle.spool_state.specs.Segment.{Segment}
use Rattle.spool_state.specs.SpoolState.{OpenSlot, AreElsewhere, IsOpenSlot}
use Rattle.spool_state.specs.Cells.{RegisterHolds, RegisterHas}
use Rattle.spool_state.specs.Image.{slot_at, HoldsSegment, HoldsSlot}
use Rattle.spool_state.proofs.Registers.{content_short, counts_stay}

pub byte_frame : (at n : ℕ) (a b : List ℕ) (i : ℕ) → SameBut at n a b → (i < at) ⊎ (at + n ≤ i) → get_or b i 0 ≡ get_or a i 0
byte_frame at n a b i same (inl lt) = same.below i lt
byte_frame at n a b i same (inr le) = same.above i le

pub segment_frame : (at n i m : ℕ) (segment : Segment) (a b : List ℕ) → SameBut at n a b → (i + m ≤ at) ⊎ (at + n ≤ i) → i + m ≤ length a → HoldsSegment i m segment a → HoldsSegment i m segment b
segment_frame at n i m segment a b same away room holds = record {
  rest = holds.rest;
  text = same_part at n i m a b same away room ∙ holds.text;
  more = holds.more;
  closed = holds.closed;
}

-- the cells, by a change after them
pub register_frame : (at n ordinal : ℕ) (content a b : List ℕ) → SameBut at n a b → first_slot ≤ at → first_slot ≤ length a → cell_head + length content ≤ cell_length → RegisterHolds ordinal content a → RegisterHolds ordinal content b
register_frame at n ordinal content a b same away room short (inl counts) = inl (counts_stay first_cell second_cell ordinal content at n a b same (inl (omega arith)) (inl (omega arith)) (omega arith) (omega arith) counts)
register_frame at n ordinal content a b same away room short (inr counts) = inr (counts_stay second_cell first_cell ordinal content at n a b same (inl (omega arith)) (inl (omega arith)) (omega arith) (omega arith) counts)

pub register_has : (at n ordinal run cursor : ℕ) (known : List Stretch) (a b : List ℕ) → SameBut at n a b → first_slot ≤ at → first_slot ≤ length a → length known ≤ MOST_STRETCHES → RegisterHas ordinal run cursor known a → RegisterHas ordinal run cursor known b
register_has at n ordinal run cursor known a b same away room few has =
    (has.0, has.1, register_frame at n ordinal has.0 a b same away room (omega (arith, content_short run cursor known has.0 few has.1)) has.2)

-- two slots don't meet
pub apart : (size p q : ℕ) → p ≢ q → (slot_at size p + size ≤ slot_at size q) ⊎ (slot_at size q + size ≤ slot_at size p)
apart size p q off = elim (cases_order p q) [
  | inl same ↦ absurd (off same)
  | inr other ↦ elim other [
    | inl lt ↦ inl (omega (arith, row_fits p size q size lt (omega arith)))
    | inr gt ↦ inr (omega (arith, row_fits q size p size gt (omega arith)))
  ]
]

-- a slot lies in the device
pub inside : (size p slots : ℕ) → p < slots → slot_at size p + size ≤ slot_at size slots
inside size p slots lt = omega (arith, row_fits p size slots size lt (omega arith))

-- a change within one slot
module _ (size slots place : ℕ) (old c : List ℕ) (long : length old ≡ slot_at size slots) (lt : place < slots) (same : SameBut (slot_at size place) size old c) where
  pub slot_stays : (slot : OpenSlot) → slot.place < slots → slot.place ≢ place → HoldsSlot size slot old → HoldsSlot size slot c
  slot_stays slot within off holds = segment_frame (slot_at size place) size (slot_at size slot.place) size slot.segment old c same (apart size slot.place place off) (omega (arith, inside size slot.place slots within)) holds

  pub slots_stay : (rows : List OpenSlot) → All (IsOpenSlot slots) rows → AreElsewhere place rows → All (λ slot. HoldsSlot size slot old) rows → All (λ slot. HoldsSlot size slot c) rows
  slots_stay rows within off hold = λ k d lt. slot_stays (get_or rows k d) (within k d lt).place (off k d lt) (hold k d lt)

  pub register_stays : (ordinal run cursor : ℕ) (known : List Stretch) → length known ≤ MOST_STRETCHES → RegisterHas ordinal run cursor known old → RegisterHas ordinal run cursor known c
  register_stays ordinal run cursor known few has = register_has (slot_at size place) size ordinal run cursor known old c same (omega arith) (omega arith) few has

  pub header_stays : part 0 20 c ≡ part 0 20 old
  header_stays = same_part (slot_at size place) size 0 20 old c same (inl (omega arith)) (omega arith)

  pub gate_stays : (p : ℕ) → p ≢ place → 0 < size → get_or c (slot_at size p) 0 ≡ get_or old (slot_at size p) 0
  gate_stays p off some = byte_frame (slot_at size place) size old c (slot_at size p) same (elim (apart size p place off) [ inl before ↦ inl (omega arith) | inr behind ↦ inr behind ])
