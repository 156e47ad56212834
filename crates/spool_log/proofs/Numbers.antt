-- The numbers of a state, as memory knows them.
use Rattle.std.proofs.Common.{ap, ◌≡◌, ℕ, ◌+◌, ◌-◌, ◌≤◌, ◌<◌, List, [], ◌∷◌, ◌++◌, length, flat_map, arith, length-append, take, drop, refl, ◌∙◌}
use Rattle.std.specs.Prelude.{All}
use Rattle.std.proofs.Math.Logic.{∥∥₁_elim}
use Rattle.std.proofs.lemmas.Grind.{common_steps}
use Rattle.event_form.specs.declared.event.Entry.{Entry}
use Rattle.spool_state.specs.Segment.{IsGroup, entries_of, segment_text}
use Rattle.spool_state.specs.SpoolState.{OpenSlot, SpoolState, first_of, base, end, room, IsSound}
use Rattle.spool_state.proofs.Texts.{end_active}
use Rattle.spool_state.proofs.Segments.{empty_length}
use Rattle.spool_slots.specs.declared.slot.Slot.{Slot}
use Rattle.spool_log.specs.declared.memory.Memory.{Memory}
use Rattle.spool_log.specs.Knows.{KnowsSlot, KnowsSlots, Knows}
use Rattle.spool_log.specs.Device.{first_in}
use Rattle.spool_log.specs.Memory.{base_of}

-- what has a proof, and can have none
pub no_proof : {A : Type 0} → ∥ A ∥₁ → (A → ⊥) → ⊥
no_proof {A} some none = ∥∥₁_elim some (λ p q. absurd p) none

pub end_known : (s : SpoolState) (slot : Slot) → IsSound s → KnowsSlot s.size s.active slot → slot.first + slot.count ≡ end s
end_known s slot sound knows = omega (arith, end_active s sound.consecutive, knows.first_is, knows.count_is)

first_of-known : (size : ℕ) (slots : List OpenSlot) (known : List Slot) (first : ℕ) → KnowsSlots size slots known → first_in known first ≡ first_of slots first
first_of-known size [] [] first h = refl
first_of-known size [] (k ∷ known) first h = absurd h
first_of-known size (slot ∷ slots) [] first h = absurd h
first_of-known size (slot ∷ slots) (k ∷ known) first h = h.0.first_is

pub base_known : (s : SpoolState) (memory : Memory) → Knows s memory → base_of memory ≡ base s
base_known s memory knows = first_of-known s.size s.older memory.older.items memory.active.first knows.older ∙ ap (first_of s.older) knows.active.first_is

pub room_known : (s : SpoolState) (slot : Slot) → KnowsSlot s.size s.active slot → slot.size - slot.gate - 1 ≡ room s
room_known s slot knows = omega (arith, knows.size_is, knows.gate_is)

-- a segment that has less room than an empty one has an entry
some_by : (ordinal first : ℕ) (groups : List (List Entry)) (size need : ℕ) → All IsGroup groups → need ≤ size - 18 → size - length (segment_text (record { ordinal = ordinal; first = first; groups = groups })) - 1 < need → 0 < length (flat_map (λ group. group) groups)
some_by ordinal first [] size need sound small full = absurd (omega (arith, empty_length ordinal first))
some_by ordinal first (group ∷ groups) size need sound small full = omega (arith, (sound 0 group (omega arith)).some, length-append group (flat_map (λ g. g) groups))

pub some_entry : (s : SpoolState) (slot : Slot) (need : ℕ) → IsSound s → KnowsSlot s.size s.active slot → need ≤ s.size - 18 → slot.size - slot.gate - 1 < need → 0 < length (entries_of s.active.segment)
some_entry s slot need sound knows small full =
    some_by s.active.segment.ordinal s.active.segment.first s.active.segment.groups s.size need sound.active.groups small (omega (arith, room_known s slot knows))

pub knows_push : (size : ℕ) (slots : List OpenSlot) (known : List Slot) (slot : OpenSlot) (k : Slot) → KnowsSlots size slots known → KnowsSlot size slot k → KnowsSlots size (slots ++ slot ∷ []) (known ++ k ∷ [])
knows_push size [] [] slot k h one = (one, tt)
knows_push size [] (x ∷ known) slot k h one = absurd h
knows_push size (x ∷ slots) [] slot k h one = absurd h
knows_push size (x ∷ slots) (y ∷ known) slot k h one = (h.0, knows_push size slots known slot k h.1 one)

-- the buffer after a call that was lent it
pub length-lent : (n : ℕ) (lent new items : List ℕ) → lent ≡ items → length lent ≡ n → length new ≡ length lent → length items ≡ 65536 → length (take n (new ++ drop (length new) items)) ≡ 65536
length-lent n lent new items same whole kept is =
    let long : n ≡ 65536 = omega (arith, ap length same) in
    let full : length new ≡ 65536 = omega (arith, ap length same) in
    grind (arith, common_steps)
