-- An image that keeps all rules stands for a state.
use Rattle.std.proofs.Common.{◌≡◌, ℕ, ◌<◌, List, [], ◌∷◌, ◌++◌, length, refl, sym, ◌∙◌, ap, subst, arith}
use Rattle.std.specs.Int.{to_be_bytes}
use mir.Syntax.{w32, w64}
use Rattle.foundation.specs.Bytes.{part}
use Rattle.foundation.proofs.Bytes.{length-part}
use Rattle.event_form.proofs.Numbers.{IsBytes, IsBytes-drop, IsBytes-take, four_again, eight_again}
use Rattle.spool_state.specs.SpoolState.{OpenSlot, SpoolState, ordinal_of, first_of}
use Rattle.spool_state.specs.Cells.{ordinal_at, run_at, cursor_at, known_at}
use Rattle.spool_state.specs.Image.{header_text, StandsFor}
use Rattle.spool_state.specs.Order.{AreOpenSlots, AreInOrder}
use Rattle.spool_state.specs.Rules.{slots_told, size_told, IsNamed, HasHead, IsChain, AreAmong}
use Rattle.spool_state.proofs.Places.{part_split}
use Rattle.spool_state.proofs.Standing.{state_of}
use Rattle.spool_state.proofs.Making.{state_stands}
use Rattle.spool_state.proofs.Told.{told_few, register_told}

-- the header tells the numbers that it has
pub told_header : (c : List ℕ) → IsBytes c → IsNamed c → part 0 20 c ≡ header_text (slots_told c) (size_told c)
unfolding header_text
told_header c bytes named =
    let slots : to_be_bytes w32 (slots_told c) ≡ part 8 4 c = four_again (part 8 4 c) (length-part 8 4 c (omega (arith, named.room))) (IsBytes-take 4 _ (IsBytes-drop 8 c bytes)) in
    let size : to_be_bytes w64 (size_told c) ≡ part 12 8 c = eight_again (part 12 8 c) (length-part 12 8 c (omega (arith, named.room))) (IsBytes-take 8 _ (IsBytes-drop 12 c bytes)) in
    part_split 0 12 8 c
    ∙ ap (λ (l : List ℕ). l ++ part 12 8 c) (part_split 0 8 4 c)
    ∙ (λ i. (named.name i ++ sym slots i) ++ sym size i)

-- the last of some slots, and those before it
pub last_of : (slots : List OpenSlot) → 0 < length slots → (older : List OpenSlot) × (active : OpenSlot) × (slots ≡ older ++ active ∷ [])
last_of [] some = absurd (omega arith)
last_of (slot ∷ []) some = ([], slot, refl)
last_of (slot ∷ next ∷ slots) some =
    let rest = last_of (next ∷ slots) (omega arith) in
    (slot ∷ rest.0, rest.1, ap (λ (l : List OpenSlot). slot ∷ l) rest.2)

-- Where the header and the cells keep their rules, the open slots are in order, and the known numbers are among
-- theirs, the image stands for a state: that of the numbers that it tells, of either version of the register.
pub image_stands : (cell : ℕ) (opened : List OpenSlot) (c : List ℕ) → IsBytes c → HasHead cell c → AreOpenSlots (slots_told c) (size_told c) c opened → IsChain opened → AreAmong (cursor_at cell c) (known_at cell c) opened
    → (s : SpoolState) × StandsFor s c
image_stands cell opened c bytes head has chain among =
    let told = register_told cell c head.named.room bytes head.register in
    let split = last_of opened chain.some in
    let older = split.0 in
    let active = split.1 in (
      state_of (slots_told c) (size_told c) (run_at cell c) (cursor_at cell c) (known_at cell c) (ordinal_at cell c) older active,
      state_stands (slots_told c) (size_told c) (run_at cell c) (cursor_at cell c) (known_at cell c) (ordinal_at cell c) older active c (ordinal_of opened 0) (first_of opened 0)
          (record { some = head.measured.some; few = head.measured.few; large = head.measured.large; small = head.measured.small; run_few = told.0.run; ordinal_few = told.0.ordinal })
          (told_few cell c told.0.form) head.measured.long (told_header c bytes head.named) told.1
          (subst (AreOpenSlots (slots_told c) (size_told c) c) split.2 has)
          (subst (λ (l : List OpenSlot). AreInOrder l (ordinal_of opened 0) (first_of opened 0)) split.2 chain.all)
          (subst (AreAmong (cursor_at cell c) (known_at cell c)) split.2 among),
    )
