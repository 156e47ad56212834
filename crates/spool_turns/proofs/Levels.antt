-- The level that lies beside the journal's seat.
use Rattle.std.proofs.Common.{◌≡◌, ℕ, suc, ◌+◌, ◌-◌, List, [], ◌∷◌, refl, sym, subst}
use Rattle.std.specs.Prelude.{None, if◌then◌else◌, nat_le}
use Rattle.atomic_table.specs.Table.{Me}
use Rattle.edge_disk.specs.declared.disk.Disk.{Ghosts}
use Rattle.hec_ids.specs.Table.{Table}
use Rattle.spool_state.specs.SpoolState.{OpenSlot, SpoolState}
use Rattle.spool_slots.specs.declared.slot.Slot.{Slot}
use Rattle.spool_log.specs.declared.memory.Memory.{Memory}
use Rattle.spool_log.specs.Knows.{Knows, KnowsSlots}
use Rattle.spool_log.specs.Memory.{cursor_of}
use Rattle.desk_access.specs.Division.{DividedRun}
use Rattle.desk_access.specs.Desk.{DeskState}
use Rattle.spool_desk.specs.declared.alone.Alone.{Alone}
use Rattle.spool_turns.specs.declared.level.Level.{Level}
use Rattle.spool_turns.specs.declared.view.Twin.{Twin}
use Rattle.spool_turns.specs.Rules.{View}
use Rattle.spool_turns.specs.Passes.{Beginning, facts_in}
use Rattle.spool_turns.specs.Twins.{of_journal}
use Rattle.spool_turns.specs.Levels.{count_held, count_held_in, free_slots_in, level_in, IsLevelOf, HasLevel}
use Rattle.spool_turns.specs.Stands.{IsKept}
use Rattle.spool_turns.proofs.Kept.{alone_with}

-- the level of the desk is that of the seat that knows it, and the other way round
pub level_beside : {D : Type 0} {disks : Ghosts D} (twin : Me (Alone D disks) (Twin (Alone D disks))) (a : Alone D disks) (level : Level)
    → twin ≡ of_journal a → level ≡ level_in a.desk.spool.memory → IsLevelOf twin.0 level
level_beside {D = D} {disks = disks} twin a level is same = subst (λ (m : Me (Alone D disks) (Twin (Alone D disks))). IsLevelOf m.0 level) (sym is) same

pub level_known : {D : Type 0} {disks : Ghosts D} (twin : Me (Alone D disks) (Twin (Alone D disks))) (a : Alone D disks) (level : Level)
    → twin ≡ of_journal a → IsLevelOf twin.0 level → level ≡ level_in a.desk.spool.memory
level_known {D = D} {disks = disks} twin a level is same = subst (λ (m : Me (Alone D disks) (Twin (Alone D disks))). IsLevelOf m.0 level) is same

-- a desk stood there to which the journal led
pub level_real : {D : Type 0} (disks : Ghosts D) (start : DeskState → Type 0) (run : DividedRun) (seats : ℕ) (began : Beginning) (ids : Table) (me : Me ℕ View)
    (twin : Me (Alone D disks) (Twin (Alone D disks))) (level : Level)
    → IsKept disks start run seats began ids me twin → IsLevelOf twin.0 level → HasLevel disks start run seats began level
level_real disks start run seats began ids me twin level kept same = record {
  log = (facts_in me.0).log;
  desk = alone_with ids None kept.desk;
  replays = kept.replays;
  met = kept.met;
  level_is = level_known twin kept.desk level kept.twin_is same;
}

-- the slots that memory counts are those of the state
known_held : (size : ℕ) (s : SpoolState) (slots : List OpenSlot) (known : List Slot) (cursor : ℕ) → KnowsSlots size slots known → cursor ≡ s.cursor
    → count_held cursor known ≡ count_held_in s slots
known_held size s [] [] cursor knows same = refl
known_held size s [] (first ∷ known) cursor knows same = absurd knows
known_held size s (slot ∷ slots) [] cursor knows same = absurd knows
known_held size s (slot ∷ slots) (first ∷ known) cursor knows same =
    let rest = known_held size s slots known cursor knows.1 same in
    λ i. if nat_le (knows.0.first_is i + knows.0.count_is i) (same i) then rest i else suc (rest i)

pub known_free : (s : SpoolState) (memory : Memory) → Knows s memory → (level_in memory).free_slots ≡ free_slots_in s
known_free s memory knows =
    let held = known_held s.size s s.older memory.older.items (cursor_of memory) knows.older knows.cursor in
    λ i. knows.slots i - (held i + 1)
