-- A run, from what was done with the spool that was opened, or with none.
use Rattle.std.proofs.Common.{◌≡◌, ◌⊎◌, inl, inr, ℕ, List, refl, ap}
use Rattle.edge_disk.specs.Calls.{Calls}
use Rattle.edge_disk.specs.Disk.{Moment, LeavesOnly}
use Rattle.edge_disk.proofs.Calls.{calls_as}
use Rattle.edge_disk.proofs.Moments.{both, weaker}
use Rattle.event_form.specs.declared.event.Event.{Event}
use Rattle.spool_state.specs.SpoolState.{SpoolState}
use Rattle.spool_faults.specs.declared.fault.PendFault.{PendFault}
use Rattle.spool_faults.specs.declared.fault.PendFault.TheVariants as Pend
use Rattle.spool_answers.specs.Mark.{mark_stages}
use Rattle.spool_answers.specs.Pend.{IsNotBroken}
use Rattle.spool_answers.specs.Stages.{IsMidway}
use Rattle.spool_log.specs.declared.fault.RecoverFault.{RecoverFault}
use Rattle.spool_log.specs.declared.fault.RecoverFault.TheVariants as Recover
use Rattle.spool_log.specs.declared.opening.Opening.TheVariants.{Keep}
use Rattle.spool_log.specs.Opening.{IsRefusing, IsRefusedAs}
use Rattle.conn_serve.proofs.Faults.{counts_none}
use Rattle.notes.specs.declared.note.Note.{Note}
use Rattle.bridge_parts.specs.Refused.{note_of_pend, note_of_recover}
use Rattle.bridge_parts.specs.Run.{DiskRun, OutputRun, IsSilent}
use Rattle.bridge_skip.specs.Released.{only, Releases}
use Rattle.bridge_skip.specs.Skipped.{IsOpenNote, IsUnread, SkipsEvent, Skips}
use Rattle.bridge_skip.specs.SkipRun.{IsSkipNote, IsSkipRun}

-- ---- after a reading

pub unread : (fault : PendFault) → IsNotBroken fault → IsUnread (note_of_pend fault)
unread (Pend.NotSpool at) is = absurd is
unread Pend.DiskFault is = tt
unread Pend.NoMemory is = tt

-- a disk that was at the one moment and is at the other
abbrev going : Type 0 → Moment → Moment → Type 0 → DiskRun
going tells old new same = record { tells = tells; old = old; new = new; same = same }

module _ (number : ℕ) (s : SpoolState) (tells same same' : Type 0) (old mid new : Moment) (output : OutputRun) (note : Note) (first : LeavesOnly old.image old mid) where
  still : LeavesOnly mid.image mid new → LeavesOnly old.image old new
  still next = both old.image mid.image old.image old mid new first next (λ c image. image) (λ c image. first.now c image)

  releases_after : Releases s number mid new note → Releases s number old new note
  releases_after did = record {
    result = did.result;
    marks = did.marks;
    tells = did.tells;
    now = did.now;
    any_moment =
        both old.image (λ c. mid.image c ⊎ IsMidway s (mark_stages s (only number) did.result) c) (λ c. old.image c ⊎ IsMidway s (mark_stages s (only number) did.result) c)
        old mid new first did.any_moment (λ c image. inl image) (λ c one. elim one [ inl image ↦ inl (first.now c image) | inr midway ↦ inr midway ]);
    alone = did.alone;
  }

  pub event_after : (event : Event) → SkipsEvent number event s (going tells mid new same) output note → SkipsEvent number event s (going tells old new same') output note
  event_after event (inl stops) = inl (record { stopped = stops.stopped; printed = stops.printed; any_moment = still stops.any_moment })
  event_after event (inr goes) = inr (goes.0, releases_after goes.1)

  pub skips_after : Skips number s (going tells mid new same) output note → Skips number s (going tells old new same') output note
  skips_after (inl none) = inl (record { why = none.why; unprinted = none.unprinted; any_moment = still none.any_moment })
  skips_after (inr found) = inr (found.0, found.1, event_after found.0.entry.event found.2)

-- ---- notes

pub open_note : (number : ℕ) (note : Note) → IsOpenNote number note → IsSkipNote number note
open_note number (Note.RunsSpent run) is = tt
open_note number note is = is

closed_note : (number : ℕ) (fault : RecoverFault) → IsSkipNote number (note_of_recover fault)
closed_note number (Recover.NotSpool at) = tt
closed_note number (Recover.RunsSpent run) = tt
closed_note number (Recover.Worn ordinal) = tt
closed_note number Recover.DiskFault = tt
closed_note number Recover.NoMemory = tt

closed_disk : (fault : RecoverFault) → note_of_recover fault ≡ Note.DiskFault → fault ≡ Recover.DiskFault
closed_disk Recover.DiskFault is = refl
closed_disk fault is = absurd (cc)

closed_write : (fault : RecoverFault) → note_of_recover fault ≡ Note.WriteFault → ⊥
closed_write (Recover.NotSpool at) is = cc
closed_write (Recover.RunsSpent run) is = cc
closed_write (Recover.Worn ordinal) is = cc
closed_write Recover.DiskFault is = cc
closed_write Recover.NoMemory is = cc

closed_images : (fault : RecoverFault) (old : Moment) (c : List ℕ) → IsRefusing Keep fault old c → old.image c
closed_images (Recover.NotSpool at) old c is = is
closed_images (Recover.RunsSpent run) old c is = is
closed_images (Recover.Worn ordinal) old c is = is
closed_images Recover.DiskFault old c is = is
closed_images Recover.NoMemory old c is = is

-- ---- a device that was not opened

pub not_opened : (number : ℕ) (disk : DiskRun) (output : OutputRun) (fault : RecoverFault) → Calls (fault ≡ Recover.DiskFault) disk.old disk.new
    → (disk.tells → IsRefusedAs Keep disk.old.reads fault) → (disk.tells → LeavesOnly (IsRefusing Keep fault disk.old) disk.old disk.new) → IsSilent output
    → IsSkipRun number disk output (note_of_recover fault)
not_opened number disk output fault calls why only silent = record {
  known = closed_note number fault;
  calls = calls_as (fault ≡ Recover.DiskFault) (note_of_recover fault ≡ Note.DiskFault) disk.old disk.new calls (closed_disk fault) (λ by. ap note_of_recover by);
  writes = counts_none (note_of_recover fault ≡ Note.WriteFault) output.faults output.faults_after (closed_write fault) silent.faults;
  done = inl (record {
    fault = fault;
    note_is = refl;
    why = why;
    silent = silent;
    any_moment = λ told. weaker (IsRefusing Keep fault disk.old) disk.old.image disk.old disk.new (only told) (closed_images fault disk.old);
  });
}
