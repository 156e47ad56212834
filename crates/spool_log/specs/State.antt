-- A spool in memory and on its disk.
use Rattle.std.specs.Prelude.{◌↔◌, ◌⊎◌, ℕ, ◌<◌, Bool, IsTrue, List, [], length, Result, MatchResult}
use Rattle.spool_state.specs.SpoolState.{SpoolState, IsSound}
use Rattle.edge_disk.specs.Disk.{Moment, LeavesOnly}
use Rattle.spool_log.specs.declared.memory.Memory.{Memory}
use Rattle.spool_log.specs.Knows.{Knows, IsStored}
use Rattle.spool_answers.specs.Stages.{last_of, StandsForOne, IsMidway, AllFollow}

-- memory knows what the device stands for
abbrev pub KnowsDevice : Memory → List ℕ → Type 0
KnowsDevice memory c = ∥ ((s : SpoolState) × IsStored s memory c) ∥₁

-- A spool at a moment: what memory keeps of it, whether it is in doubt, and its disk.
pub record View : Type 1 where
  pub memory : Memory
  pub in_doubt : Bool
  pub moment : Moment

abbrev pub view : Memory → Bool → Moment → View
view memory in_doubt moment = record { memory = memory; in_doubt = in_doubt; moment = moment }

-- The spool is in this state, and in this doubt: memory knows the state, and what a crash leaves stands for it
-- or for a stage of the doubt. It says that it is in doubt exactly where the doubt isn't empty.
pub record IsIn (s : SpoolState) (doubt : List SpoolState) (v : View) : Type 0 where
  pub sound : IsSound s
  pub knows : Knows s v.memory
  pub each : (c : List ℕ) → v.moment.image c → StandsForOne s doubt c
  pub follow : AllFollow s doubt
  pub doubtful : IsTrue v.in_doubt ↔ (0 < length doubt)

-- Whenever a crash came between the two moments, it left what it could leave before, or what a change with these
-- stages leaves.
abbrev pub LeavesStages : SpoolState → List SpoolState → Moment → Moment → Type 0
LeavesStages s stages old new = LeavesOnly (λ c. old.image c ⊎ IsMidway s stages c) old new

-- A change with these stages was made, or failed at the disk on the way; meanwhile a crash left the state or one of the stages.
pub record Changes {T E : Type 0} (s : SpoolState) (stages : List SpoolState) (result : Result T E) (old new : View) : Type 0 where
  pub reached : MatchResult result (λ _. IsIn (last_of s stages) [] new) (λ _. IsIn s stages new)
  pub any_moment : LeavesOnly (StandsForOne s stages) old.moment new.moment
