-- Bytes that stand for a state, and bytes that break no rule; and a state in which no slot is free.
use Rattle.std.specs.Prelude.{◌≡◌, ◌↔◌, ℕ, ◌<◌, false, List, slice_index, None}
use Rattle.spool_state.specs.SpoolState.{OpenSlot, SpoolState, IsSound}
use Rattle.spool_state.specs.Free.{NoneIsFree, lowest_closed, first_is_confirmed}
use Rattle.spool_state.specs.Image.{StandsFor}
use Rattle.spool_state.specs.Order.{AreOpenSlots}
use Rattle.spool_state.specs.Cells.{cursor_at, known_at}
use Rattle.spool_state.specs.Rules.{slots_told, size_told, HasHead, IsChain, AreAmong, Breaks}

-- Bytes that stand for a state break no rule.
abbrev pub StandingBreaksNone : Type 0
StandingBreaksNone = (s : SpoolState) (c : List ℕ) → StandsFor s c → (at : ℕ) → Breaks at c → ⊥

-- Bytes that break no rule, and of which these are the open slots, stand for a state.
abbrev pub UnbrokenStands : Type 0
UnbrokenStands =
    (c : List ℕ) (opened : List OpenSlot) → ((i : ℕ) → slice_index c i < 256) → AreOpenSlots (slots_told c) (size_told c) c opened
    → ((at : ℕ) → Breaks at c → ⊥) → (s : SpoolState) × StandsFor s c

-- Bytes that keep the rules one by one stand for a state: those of the header and of the cell that counts, the open slots in order, and
-- the known numbers among theirs.
abbrev pub KeptRulesStand : Type 0
KeptRulesStand =
    (cell : ℕ) (c : List ℕ) (opened : List OpenSlot) → ((i : ℕ) → slice_index c i < 256) → HasHead cell c → AreOpenSlots (slots_told c) (size_told c) c opened
    → IsChain opened → AreAmong (cursor_at cell c) (known_at cell c) opened → (s : SpoolState) × StandsFor s c

-- They stand for one at most.
abbrev pub OneState : Type 0
OneState = (s t : SpoolState) (c : List ℕ) → StandsFor s c → StandsFor t c → s ≡ t

-- No slot is free exactly where none is chosen for the next segment.
abbrev pub NoneIsChosen : Type 0
NoneIsChosen = (s : SpoolState) → IsSound s → NoneIsFree s ↔ ((lowest_closed s s.slots ≡ None) × (first_is_confirmed s s.older ≡ false))
