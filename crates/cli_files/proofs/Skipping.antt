-- A skip over a disk that another one holds.
use Rattle.std.proofs.Common.{ℕ, inl, inr}
use Rattle.edge_disk.specs.Disk.{Moment}
use Rattle.spool_state.specs.SpoolState.{SpoolState}
use Rattle.notes.specs.declared.note.Note.{Note}
use Rattle.bridge_parts.specs.Run.{OutputRun}
use Rattle.bridge_skip.specs.Skipped.{Skips}
use Rattle.bridge_skip.specs.SkipRun.{IsSkipRun}

-- of which value it is nothing is said where the spool is open
open_of : (number : ℕ) (state : SpoolState) (tells : Type 0) (old new : Moment) (same other : Type 0) (output : OutputRun) (note : Note)
    → Skips number state (record { tells = tells; old = old; new = new; same = same }) output note
    → Skips number state (record { tells = tells; old = old; new = new; same = other }) output note
open_of number state tells old new same other output note (inl none) =
    inl (record { why = none.why; unprinted = none.unprinted; any_moment = none.any_moment })
open_of number state tells old new same other output note (inr some) = inr (
  some.0,
  some.1,
  elim some.2 [
    | inl stop ↦ inl (record { stopped = stop.stopped; printed = stop.printed; any_moment = stop.any_moment })
    | inr known ↦ inr known
  ],
)

-- nor of all that was done
pub of_any_value : (number : ℕ) (tells : Type 0) (old new : Moment) (same other : Type 0) (output : OutputRun) (note : Note)
    → IsSkipRun number (record { tells = tells; old = old; new = new; same = same }) output note
    → IsSkipRun number (record { tells = tells; old = old; new = new; same = other }) output note
of_any_value number tells old new same other output note run = record {
  known = run.known;
  calls = run.calls;
  writes = run.writes;
  done = elim run.done [
    | inl un ↦ inl (record { fault = un.fault; note_is = un.note_is; why = un.why; silent = un.silent; any_moment = un.any_moment })
    | inr from ↦ inr (λ told.
        let f = from told in
        record { state = f.state; stood = f.stood; skips = open_of number f.state tells old new same other output note f.skips })
  ];
}
