-- The devices of a move, opened as they are.
use Rattle.std.proofs.Common.{◌≡◌, inl, inr, ℕ, List, [], length, ap, subst, arith, length-drop}
use Rattle.std.specs.Prelude.{Bool, false, Result, Ok, Err, IsOk}
use Rattle.edge_disk.specs.declared.disk.Disk.{Ghosts as Disks}
use Rattle.edge_disk.specs.Disk.{Moment, LeavesOnly}
use Rattle.edge_disk.proofs.Moments.{weaker}
use Rattle.spool_state.specs.SpoolState.{SpoolState}
use Rattle.spool_state.specs.Left.{left}
use Rattle.spool_log.specs.declared.fault.RecoverFault.{RecoverFault}
use Rattle.spool_log.specs.declared.fault.RecoverFault.TheVariants as Recover
use Rattle.spool_log.specs.declared.memory.Memory.{Memory}
use Rattle.spool_log.specs.declared.opening.Opening.TheVariants.{Keep}
use Rattle.spool_log.specs.declared.spool.Spool.{Spool}
use Rattle.spool_log.specs.Opening.{IsRefusing, Opens}
use Rattle.spool_log.specs.State.{View, view}
use Rattle.spool_move.specs.declared.fault.MoveFault.{MoveFault}
use Rattle.spool_move.specs.Moves.{Moves, IsAnyMoment}
use Rattle.bridge_parts.specs.Pending.{pending_in}
use Rattle.bridge_parts.specs.Run.{OutputRun}
use Rattle.bridge_parts.proofs.Numbers.{pending_seen}
use Rattle.bridge_move.specs.declared.moved.Moved.{Moved}
use Rattle.bridge_move.specs.Ended.{EndsOpen, LeavesOpen}
use Rattle.bridge_move.specs.MoveRun.{MovesOpened, two_disks}
use Rattle.bridge_move.proofs.Both.{both_weaker, both_opened}

-- refused, it has what it had
pub closed_images : (fault : RecoverFault) (old new : Moment) → LeavesOnly (IsRefusing Keep fault old) old new → LeavesOnly old.image old new
closed_images fault old new only = weaker _ old.image old new only (same fault) where
  same : (fault : RecoverFault) (c : List ℕ) → IsRefusing Keep fault old c → old.image c
  same (Recover.NotSpool at) c h = h
  same (Recover.RunsSpent run) c h = h
  same (Recover.Worn ordinal) c h = h
  same Recover.DiskFault c h = h
  same Recover.NoMemory c h = h

-- opened, it is not in doubt
pub opened_sure : (tells : Type 0) (reads : List ℕ) (memory : Memory) (doubt : Bool) (m : Moment) → doubt ≡ false
    → (tells → (s : SpoolState) × Opens Keep s reads (view memory doubt m)) → tells → (s : SpoolState) × Opens Keep s reads (view memory false m)
opened_sure tells reads memory doubt m sure opened told = subst (λ (b : Bool). (s : SpoolState) × Opens Keep s reads (view memory b m)) sure (opened told)

-- where all were moved none is left
none_left : (tag : ℕ) (s t : SpoolState) (result : Result ℕ MoveFault) (from into : View) → IsOk result → Moves tag s t result from into → pending_in from.memory ≡ 0
none_left tag s t (Err fault) from into ok moves = absurd (cc)
none_left tag s t (Ok count) from into ok moves =
    let reaches = moves.reaches in
    omega (arith, pending_seen reaches.s [] from reaches.source, ap length reaches.stands.source.left_is, length-drop (length (left s)) (left s))

module _ {D E : Type 0} (disks : Disks D) (targets : Disks E) (tag : ℕ) (source : D) (target : E) (opened : Spool D disks) (opened' : Spool E targets)
    (ended : Moved D E) (output : OutputRun) where
  abbrev on : D → Moment
  on = disks.moment

  abbrev onto : E → Moment
  onto = targets.moment

  -- both were opened, and entries were moved
  pub moves_opened : EndsOpen tag opened opened' ended output
      → (disks.tells → (s : SpoolState) × Opens Keep s (on source).reads (view opened.memory false (on opened.disk)))
      → (targets.tells → (t : SpoolState) × Opens Keep t (onto target).reads (view opened'.memory false (onto opened'.disk)))
      → (disks.tells → LeavesOnly (on source).image (on source) (on opened.disk))
      → (targets.tells → LeavesOnly (onto target).image (onto target) (onto opened'.disk))
      → LeavesOpen tag opened opened' ended
      → MovesOpened (two_disks disks.tells targets.tells on onto) tag (source, target) (ended.source, ended.target) output ended.note
  moves_opened ends opens opens' only only' leaves = record {
    result = ends.result;
    source_memory = ends.source_memory;
    source_doubt = ends.source_doubt;
    target_memory = ends.target_memory;
    target_doubt = ends.target_doubt;
    told = ends.told;
    said = ends.said;
    none_left = λ ok told told'.
        let o = opens told in let o' = opens' told' in
        none_left tag o.0 o'.0 ends.result _ _ ok (ends.moves o.0 o'.0 told told' o.1.reached o'.1.reached);
    moved = λ told told'.
        let o = opens told in let o' = opens' told' in
        record {
          source_state = o.0;
          target_state = o'.0;
          source_stood = o.1.stood;
          target_stood = o'.1.stood;
          moves = ends.moves o.0 o'.0 told told' o.1.reached o'.1.reached;
          any_moment =
              both_opened on onto (IsAnyMoment tag o.0 [] o'.0 [] (on source) (onto target)) source opened.disk ended.source target opened'.disk ended.target (only told) (only' told')
              (λ c d image image'. inl (image, image'))
              (both_weaker on onto _ _ opened.disk opened'.disk ended.source ended.target (λ c d any. elim any [
                | inl images ↦ inl ((only told).now c images.0, (only' told').now d images.1)
                | inr moving ↦ inr moving
              ]) (leaves o.0 o'.0 told told' o.1.reached o'.1.reached));
        };
  }
