-- Which slots are counted as free.
use Rattle.std.specs.Prelude.{◌≡◌, ◌↔◌, ℕ, List, length, eqb}
use Rattle.std.specs.List.{Contains, IsDistinct}
use Rattle.spool_state.specs.Free.{IsFree}
use Rattle.spool_state.specs.SpoolState.{SpoolState, IsSound}
use Rattle.spool_turns.specs.Levels.{free_slots_in}

-- So many places of slots are free, in which a take may begin a segment: these places, of which no two are the same, and no others.
pub record AreFree (s : SpoolState) (count : ℕ) : Type 0 where
  pub places : List ℕ
  pub distinct : IsDistinct eqb places
  pub each : (place : ℕ) → Contains places place ↔ IsFree s place
  pub many : length places ≡ count

-- as many are free as are counted
abbrev pub FreeSlotsAreFree : Type 0
FreeSlotsAreFree = (s : SpoolState) → IsSound s → AreFree s (free_slots_in s)
