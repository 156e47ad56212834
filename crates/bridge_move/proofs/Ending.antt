-- How a move between two open spools ended, as its note tells.
use Rattle.std.proofs.Common.{◌≡◌, ◌⊎◌, inl, inr, ℕ, List, [], refl, sym, ap, subst, arith}
use Rattle.std.specs.Prelude.{Bool, false, Result, Ok, Err, IfErr, IsErrOf}
use Rattle.edge_disk.specs.declared.disk.Disk.{Ghosts as Disks}
use Rattle.edge_disk.specs.Calls.{Calls}
use Rattle.edge_disk.specs.Disk.{Moment}
use Rattle.edge_disk.proofs.Calls.{calls_as, calls_on}
use Rattle.spool_state.specs.SpoolState.{SpoolState}
use Rattle.spool_log.specs.declared.fault.RecoverFault.{RecoverFault}
use Rattle.spool_log.specs.declared.fault.RecoverFault.TheVariants as Recover
use Rattle.spool_log.specs.declared.spool.Spool.{Spool}
use Rattle.spool_log.specs.State.{View, IsIn, view}
use Rattle.spool_move.specs.declared.fault.MoveFault.{MoveFault}
use Rattle.spool_move.specs.declared.fault.MoveFault.TheVariants as Fault
use Rattle.spool_move.specs.Moves.{Moves, MovesFrom}
use Rattle.spool_move.specs.Said.{IsSaidBy}
use Rattle.notes.specs.declared.note.Note.{Note}
use Rattle.bridge_parts.specs.Pending.{pending_in}
use Rattle.bridge_parts.specs.Refused.{note_of_recover}
use Rattle.bridge_parts.specs.Run.{OutputRun}
use Rattle.bridge_move.specs.declared.moved.Moved.{Moved}
use Rattle.bridge_move.specs.Ended.{note_of_move, IsMoveNote, TellsDisks, IsTold, EndsOpen}

-- a move between spools outside doubt begins with their states
pub sure_moves : (tag : ℕ) (s t : SpoolState) (result : Result ℕ MoveFault) (from from' into into' : View) → IsIn s [] from → IsIn t [] into
    → MovesFrom tag s [] t [] result from from' into into' → Moves tag s t result from' into'
sure_moves tag s t result from from' into into' held held' (inl stays) = absurd (omega (arith, held.doubtful.0 stays.2.in_doubt))
sure_moves tag s t result from from' into into' held held' (inr (inl stops)) = absurd (omega (arith, held'.doubtful.0 stops.stays.in_doubt))
sure_moves tag s t result from from' into into' held held' (inr (inr goes)) =
    subst (λ (u : SpoolState). Moves tag s u result from' into') goes.other
    (subst (λ (m : SpoolState). Moves tag m goes.u result from' into') goes.one goes.moves)

-- So a move between spools that are open ends, where they aren't in doubt.
module _ {D E : Type 0} (disks : Disks D) (targets : Disks E) (tag : ℕ) (source source' : Spool D disks) (target target' : Spool E targets)
    (result : Result ℕ MoveFault) (ended : Moved D E) (output : OutputRun) where
  -- what both show, before it and after it
  abbrev from : View
  from = view source.memory source.doubt (disks.moment source.disk)

  abbrev from' : View
  from' = view source'.memory source'.doubt (disks.moment source'.disk)

  abbrev onto : View
  onto = view target.memory target.doubt (targets.moment target.disk)

  abbrev onto' : View
  onto' = view target'.memory target'.doubt (targets.moment target'.disk)

  pub ends_open : source.doubt ≡ false → target.doubt ≡ false → ended.source ≡ source'.disk → ended.target ≡ target'.disk
      → IfErr result (IsSaidBy source'.memory target'.memory)
      → ((s t : SpoolState) (ds dt : List SpoolState) → disks.tells → targets.tells → IsIn s ds from → IsIn t dt onto
      → MovesFrom tag s ds t dt result from from' onto onto')
      → IsTold result (pending_in source'.memory) output ended.note → EndsOpen tag source target ended output
  ends_open sure sure' source_is target_is said moves told = record {
    result = result;
    source_memory = source'.memory;
    source_doubt = source'.doubt;
    target_memory = target'.memory;
    target_doubt = target'.doubt;
    told = told;
    said = said;
    moves = λ s t h h' held held'.
        let in_source : IsIn s [] from = subst (λ (b : Bool). IsIn s [] (view source.memory b (disks.moment source.disk))) (sym sure) held in
        let in_target : IsIn t [] onto = subst (λ (b : Bool). IsIn t [] (view target.memory b (targets.moment target.disk))) (sym sure') held' in
        let moved = sure_moves tag s t result from from' onto onto' in_source in_target (moves s t [] [] h h' in_source in_target) in
        subst (λ (d : D). Moves tag s t result (view source'.memory source'.doubt (disks.moment d))
        (view target'.memory target'.doubt (targets.moment ended.target))) (sym source_is)
        (subst (λ (e : E). Moves tag s t result from' (view target'.memory target'.doubt (targets.moment e))) (sym target_is) moved);
  }

-- ---- the line

abbrev IsPrintOf : Note → Type 0
IsPrintOf note = (note ≡ Note.Fine) ⊎ ((note ≡ Note.WriteFault) ⊎ (note ≡ Note.NoMemory))

pub printed_note : (note : Note) → IsPrintOf note → IsMoveNote note
printed_note note (inl is) = subst IsMoveNote (sym is) tt
printed_note note (inr (inl is)) = subst IsMoveNote (sym is) tt
printed_note note (inr (inr is)) = subst IsMoveNote (sym is) tt

printed_disk : (note : Note) → IsPrintOf note → note ≡ Note.DiskFault → ⊥
printed_disk note (inl is) by = cc
printed_disk note (inr (inl is)) by = cc
printed_disk note (inr (inr is)) by = cc

module _ (from from' onto onto' : Moment) where
  -- no call failed before it was printed
  pub printed_disks : (note : Note) (count : ℕ) → IsPrintOf note → Calls (IsErrOf (Ok count) Fault.SourceFault) from from' → Calls (IsErrOf (Ok count) Fault.TargetFault) onto onto'
      → TellsDisks note from from' onto onto'
  printed_disks note count print calls calls' = inl (
    calls_as (IsErrOf (Ok count) Fault.SourceFault) (note ≡ Note.DiskFault) from from' calls (λ by. absurd (printed_disk note print by)) (λ is. absurd (cc)),
    calls_as (IsErrOf (Ok count) Fault.TargetFault) ⊥ onto onto' calls' (λ never. absurd never) (λ is. cc),
  )

  -- ---- a refusal

  -- a call of one disk failed exactly where the refusal says so
  by_source : (fault : MoveFault) (is : note_of_move fault ≡ Note.DiskFault → fault ≡ Fault.SourceFault) (never : fault ≡ Fault.TargetFault → ⊥)
      → Calls (IsErrOf {T = ℕ} (Err fault) Fault.SourceFault) from from' → Calls (IsErrOf {T = ℕ} (Err fault) Fault.TargetFault) onto onto'
      → TellsDisks (note_of_move fault) from from' onto onto'
  by_source fault is never calls calls' = inl (
    calls_as _ (note_of_move fault ≡ Note.DiskFault) from from' calls (λ by. ap Err (is by)) (λ by. let same : fault ≡ Fault.SourceFault = cc in ap note_of_move same),
    calls_as _ ⊥ onto onto' calls' (λ none. absurd none) (λ by. never (cc)),
  )

  by_target : (fault : MoveFault) (is : note_of_move fault ≡ Note.DiskFault → fault ≡ Fault.TargetFault) (never : fault ≡ Fault.SourceFault → ⊥)
      → Calls (IsErrOf {T = ℕ} (Err fault) Fault.SourceFault) from from' → Calls (IsErrOf {T = ℕ} (Err fault) Fault.TargetFault) onto onto'
      → TellsDisks (note_of_move fault) from from' onto onto'
  by_target fault is never calls calls' = inr (
    calls_as _ ⊥ from from' calls (λ none. absurd none) (λ by. never (cc)),
    calls_as _ (note_of_move fault ≡ Note.DiskFault) onto onto' calls' (λ by. ap Err (is by)) (λ by. let same : fault ≡ Fault.TargetFault = cc in ap note_of_move same),
  )

  pub refused_disks : (fault : MoveFault) → Calls (IsErrOf {T = ℕ} (Err fault) Fault.SourceFault) from from' → Calls (IsErrOf {T = ℕ} (Err fault) Fault.TargetFault) onto onto'
      → TellsDisks (note_of_move fault) from from' onto onto'
  refused_disks Fault.TargetFault calls calls' = by_target Fault.TargetFault (λ by. refl) (λ by. cc) calls calls'
  refused_disks Fault.SourceFault calls calls' = by_source Fault.SourceFault (λ by. refl) (λ by. cc) calls calls'
  refused_disks (Fault.Strange number) calls calls' = by_source (Fault.Strange number) (λ by. absurd (cc)) (λ by. cc) calls calls'
  refused_disks (Fault.TooLarge need most) calls calls' = by_source (Fault.TooLarge need most) (λ by. absurd (cc)) (λ by. cc) calls calls'
  refused_disks (Fault.Spent at) calls calls' = by_source (Fault.Spent at) (λ by. absurd (cc)) (λ by. cc) calls calls'
  refused_disks (Fault.Full need free) calls calls' = by_source (Fault.Full need free) (λ by. absurd (cc)) (λ by. cc) calls calls'
  refused_disks (Fault.Worn ordinal) calls calls' = by_source (Fault.Worn ordinal) (λ by. absurd (cc)) (λ by. cc) calls calls'
  refused_disks (Fault.NotSpool at) calls calls' = by_source (Fault.NotSpool at) (λ by. absurd (cc)) (λ by. cc) calls calls'
  refused_disks Fault.NoMemory calls calls' = by_source Fault.NoMemory (λ by. absurd (cc)) (λ by. cc) calls calls'

pub refused_note : (fault : MoveFault) → IsMoveNote (note_of_move fault)
refused_note Fault.TargetFault = tt
refused_note Fault.SourceFault = tt
refused_note (Fault.Strange number) = tt
refused_note (Fault.TooLarge need most) = tt
refused_note (Fault.Spent at) = tt
refused_note (Fault.Full need free) = tt
refused_note (Fault.Worn ordinal) = tt
refused_note (Fault.NotSpool at) = tt
refused_note Fault.NoMemory = tt

-- nothing was written
pub refused_write : (fault : MoveFault) → note_of_move fault ≡ Note.WriteFault → ⊥
refused_write Fault.TargetFault is = cc
refused_write Fault.SourceFault is = cc
refused_write (Fault.Strange number) is = cc
refused_write (Fault.TooLarge need most) is = cc
refused_write (Fault.Spent at) is = cc
refused_write (Fault.Full need free) is = cc
refused_write (Fault.Worn ordinal) is = cc
refused_write (Fault.NotSpool at) is = cc
refused_write Fault.NoMemory is = cc

-- ---- a device that is not opened

pub closed_note : (fault : RecoverFault) → IsMoveNote (note_of_recover fault)
closed_note (Recover.NotSpool at) = tt
closed_note (Recover.RunsSpent run) = tt
closed_note (Recover.Worn ordinal) = tt
closed_note Recover.DiskFault = tt
closed_note Recover.NoMemory = tt

closed_disk : (fault : RecoverFault) → note_of_recover fault ≡ Note.DiskFault → fault ≡ Recover.DiskFault
closed_disk Recover.DiskFault is = refl
closed_disk fault is = absurd (cc)

pub closed_calls : (fault : RecoverFault) (old new : Moment) → Calls (fault ≡ Recover.DiskFault) old new → Calls (note_of_recover fault ≡ Note.DiskFault) old new
closed_calls fault old new calls =
    calls_as (fault ≡ Recover.DiskFault) (note_of_recover fault ≡ Note.DiskFault) old new calls (closed_disk fault) (λ by. ap note_of_recover by)

pub closed_write : (fault : RecoverFault) → note_of_recover fault ≡ Note.WriteFault → ⊥
closed_write (Recover.NotSpool at) is = cc
closed_write (Recover.RunsSpent run) is = cc
closed_write (Recover.Worn ordinal) is = cc
closed_write Recover.DiskFault is = cc
closed_write Recover.NoMemory is = cc

-- both were opened before, and no call failed
pub tells_on : (note : Note) (a from from' b onto onto' : Moment) → Calls ⊥ a from → Calls ⊥ b onto → TellsDisks note from from' onto onto' → TellsDisks note a from' b onto'
tells_on note a from from' b onto onto' first first' (inl calls) = inl (
  calls_on ⊥ (note ≡ Note.DiskFault) a from from' first (λ never. never) calls.0,
  calls_on ⊥ ⊥ b onto onto' first' (λ never. never) calls.1,
)
tells_on note a from from' b onto onto' first first' (inr calls) = inr (
  calls_on ⊥ ⊥ a from from' first (λ never. never) calls.0,
  calls_on ⊥ (note ≡ Note.DiskFault) b onto onto' first' (λ never. never) calls.1,
)
