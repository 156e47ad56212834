-- What bytes that stand for a state say of its parts, and the state that parts make.
use Rattle.std.proofs.Common.{◌≡◌, ◌≢◌, inl, inr, ℕ, ◌+◌, ◌^◌, ◌<◌, ◌≤◌, List, [], ◌∷◌, ◌++◌, refl, sym, ◌∙◌, ap, subst, arith}
use Rattle.std.specs.Prelude.{All}
use Rattle.std.specs.Int.{to_be_bytes, from_be_bytes}
use mir.Syntax.{w32, w64}
use Rattle.std.proofs.lemmas.List.Elements.{All-nil, All-cons, All-head, All-tail, All-push}
use Rattle.std.proofs.lemmas.Nat.{from_be_bytes-to_be_bytes_4, from_be_bytes-to_be_bytes_8}
use Rattle.foundation.specs.Bytes.{part}
use Rattle.known_numbers.specs.declared.stretch.Stretch.{Stretch}
use Rattle.spool_state.specs.Layout.{first_cell, second_cell, most_run}
use Rattle.spool_state.specs.SpoolState.{OpenSlot, SpoolState, first_of, ordinal_of, end, HasEarlyOrdinal, AreElsewhere, IsOpenSlot, IsSound}
use Rattle.spool_state.specs.Cells.{IsContentOf, Counts, RegisterHas}
use Rattle.spool_state.specs.Image.{magic, header_text, HoldsSlot, StandsFor}
use Rattle.spool_state.specs.Order.{count_of, AreOpenSlots, AreInOrder}
use Rattle.spool_state.specs.Rules.{slots_told, size_told, IsRegister, RegisterIsAt}
use Rattle.spool_state.proofs.Places.{part_inside}
use Rattle.spool_state.proofs.Registers.{HasRoom, Says, fitting, says, is_counting, is_good, one_counts}
use Rattle.spool_state.proofs.Texts.{end_active}
use Rattle.spool_state.proofs.Chains.{sorted-in_order, first_of-push, ordinal_of-push, in_order}

-- ---- the header

-- the parts of a header
module _ (slots size : ℕ) (c : List ℕ) (header : part 0 20 c ≡ header_text slots size) where
  pub name_is : part 0 8 c ≡ magic
  unfolding header_text
  name_is = part_inside 0 20 0 8 [] magic (to_be_bytes w32 slots ++ to_be_bytes w64 size) c header refl refl (omega arith) (omega arith)

  pub slots_is : slots < 2 ^ 32 → slots_told c ≡ slots
  unfolding header_text
  slots_is fits = ap (λ (l : List ℕ). from_be_bytes w32 l) (part_inside 0 20 8 4 magic (to_be_bytes w32 slots) (to_be_bytes w64 size) c header refl refl (omega arith) (omega arith)) ∙ from_be_bytes-to_be_bytes_4 slots fits

  pub size_is : size < 2 ^ 64 → size_told c ≡ size
  unfolding header_text
  size_is fits = ap (λ (l : List ℕ). from_be_bytes w64 l) (part_inside 0 20 12 8 (magic ++ to_be_bytes w32 slots) (to_be_bytes w64 size) [] c header refl refl (omega arith) (omega arith)) ∙ from_be_bytes-to_be_bytes_8 size fits

-- ---- the register

-- the cell that counts is good
pub counts_register : (here other ordinal run cursor : ℕ) (known : List Stretch) (content c : List ℕ) → HasRoom ordinal run cursor known → run ≤ most_run → IsContentOf run cursor known content → Counts here other ordinal content c → IsRegister here other c
counts_register here other ordinal run cursor known content c room runs is counts = record {
  counting = is_counting here other ordinal content c room.ordinal_room counts;
  good = is_good here ordinal run cursor known c room.ordinal_room runs (says here ordinal run cursor known c room content is counts.holds);
}

-- the numbers of the register stand in the cell where it lies
pub says_there : (cell ordinal run cursor : ℕ) (known : List Stretch) (c : List ℕ) → HasRoom ordinal run cursor known → RegisterHas ordinal run cursor known c → RegisterIsAt cell c → Says cell ordinal run cursor known c
says_there cell ordinal run cursor known c room (content, is, inl p) (inl at) = subst (λ (n : ℕ). Says n ordinal run cursor known c) (sym at.0) (says first_cell ordinal run cursor known c room content is p.holds)
says_there cell ordinal run cursor known c room (content, is, inl p) (inr at) = absurd (one_counts first_cell second_cell c (is_counting first_cell second_cell ordinal content c room.ordinal_room p) at.1.counting)
says_there cell ordinal run cursor known c room (content, is, inr p) (inl at) = absurd (one_counts second_cell first_cell c (is_counting second_cell first_cell ordinal content c room.ordinal_room p) at.1.counting)
says_there cell ordinal run cursor known c room (content, is, inr p) (inr at) = subst (λ (n : ℕ). Says n ordinal run cursor known c) (sym at.0) (says second_cell ordinal run cursor known c room content is p.holds)

-- ---- the slots

abbrev pub state_of : ℕ → ℕ → ℕ → ℕ → List Stretch → ℕ → List OpenSlot → OpenSlot → SpoolState
state_of slots size run cursor known ordinal older active =
    record { slots = slots; size = size; run = run; cursor = cursor; known = known; ordinal = ordinal; older = older; active = active }

-- a cell has room for the numbers of a sound state
pub state_room : (s : SpoolState) → IsSound s → HasRoom s.ordinal s.run s.cursor s.known
state_room s sound = record {
  ordinal_room = sound.ordinal;
  run_room = omega (arith, sound.run);
  cursor_room = omega (arith, sound.to_end, sound.ends);
  few = sound.known.few;
  known_room = fitting s.cursor (end s) s.known sound.known.apart sound.known_to_end sound.ends;
}

abbrev pub all_slots : SpoolState → List OpenSlot
all_slots s = s.older ++ s.active ∷ []

early_of : (slots : ℕ) (opened : List OpenSlot) → All (IsOpenSlot slots) opened → All HasEarlyOrdinal opened
early_of slots opened all k d lt = (all k d lt).early

-- the numbers of slots in order fit in eight bytes
slots_fit : (slots : List OpenSlot) (ordinal first : ℕ) → AreInOrder slots ordinal first → All (λ slot. (slot.segment.ordinal < 2 ^ 64) × (slot.segment.first < 2 ^ 64)) slots
slots_fit [] ordinal first h = All-nil (λ slot. (slot.segment.ordinal < 2 ^ 64) × (slot.segment.first < 2 ^ 64))
slots_fit (slot ∷ slots) ordinal first h =
    All-cons (λ slot. (slot.segment.ordinal < 2 ^ 64) × (slot.segment.first < 2 ^ 64)) slot slots
    (omega (arith, h.0.early, h.0.ends), omega (arith, h.0.ends))
    (slots_fit slots (slot.segment.ordinal + 1) (slot.segment.first + count_of slot) h.1)

elsewhere_split : (place : ℕ) (slots : List OpenSlot) (last : OpenSlot) → AreElsewhere place (slots ++ last ∷ []) → AreElsewhere place slots × (last.place ≢ place)
elsewhere_split place [] last all = (All-nil (λ slot. slot.place ≢ place), All-head (λ slot. slot.place ≢ place) last [] all)
elsewhere_split place (slot ∷ slots) last all =
    let others = elsewhere_split place slots last (All-tail (λ s. s.place ≢ place) slot (slots ++ last ∷ []) all) in
    (All-cons (λ s. s.place ≢ place) slot slots (All-head (λ s. s.place ≢ place) slot (slots ++ last ∷ []) all) others.0, others.1)

module _ (s : SpoolState) (c : List ℕ) (stands : StandsFor s c) where
  pub state_in_order : AreInOrder (all_slots s) (ordinal_of (all_slots s) 0) (first_of (all_slots s) 0)
  state_in_order = in_order s.older s.active (ordinal_of (all_slots s) 0) (first_of (all_slots s) 0) (sym (ordinal_of-push s.older s.active 0)) (sym (first_of-push s.older s.active 0))
      stands.sound.consecutive (early_of s.slots s.older stands.sound.older) stands.sound.active.early (omega (arith, stands.sound.ends, end_active s stands.sound.consecutive))

  open_slots : All (IsOpenSlot s.slots) (all_slots s)
  open_slots = All-push (IsOpenSlot s.slots) s.older s.active stands.sound.older stands.sound.active

  hold : All (λ slot. HoldsSlot s.size slot c) (all_slots s)
  hold = All-push (λ slot. HoldsSlot s.size slot c) s.older s.active stands.older stands.active

  pub state_open_slots : AreOpenSlots s.slots s.size c (all_slots s)
  state_open_slots =
      let fit = slots_fit (all_slots s) (ordinal_of (all_slots s) 0) (first_of (all_slots s) 0) state_in_order in
      record {
        found = λ k d lt. record { place = (open_slots k d lt).place; holds = hold k d lt; groups = (open_slots k d lt).groups; ordinal = (fit k d lt).0; first = (fit k d lt).1 };
        sorted = sorted-in_order (all_slots s) (ordinal_of (all_slots s) 0) (first_of (all_slots s) 0) state_in_order;
        others = λ place lt none.
            let split = elsewhere_split place s.older s.active none in
            stands.closed place lt split.1 split.0;
      }

  pub state_slots : slots_told c ≡ s.slots
  state_slots = slots_is s.slots s.size c stands.header (omega (arith, stands.sound.few))

  pub state_size : size_told c ≡ s.size
  state_size = size_is s.slots s.size c stands.header (omega (arith, stands.sound.small))
