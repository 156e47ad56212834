-- Whether a call of the disk failed in a connection, as its note says.
use Rattle.std.proofs.Common.{◌≡◌, ◌⊎◌, inl, inr, ℕ, List, Option, refl, sym, ◌∙◌, ap, subst}
use Rattle.foundation.specs.Faults.{Rose}
use Rattle.event_form.specs.declared.talk.Talk.{Talk}
use Rattle.edge_io.specs.declared.proto.Proto.{Proto}
use Rattle.edge_io.specs.declared.proto.Proto.TheVariants.{Hec}
use Rattle.edge_disk.specs.Disk.{Moment}
use Rattle.edge_disk.specs.Calls.{Calls}
use Rattle.edge_disk.proofs.Calls.{calls_on}
use Rattle.desk_access.specs.Call.{Call, failures_of}
use Rattle.spool_desk.specs.Alone.{AloneView, Ran}
use Rattle.desk_access.specs.Journal.{failed_by}
use Rattle.conn_serve.specs.DiskFaults.{TellsFailures}
use Rattle.conn_serve.specs.Serves.{CarriedAs}
use Rattle.conn_serve.specs.Terms.{Terms}
use Rattle.conn_serve.proofs.Failing.{disk_fault_is_told}
use Rattle.notes.specs.declared.note.Note.{Note}
use Rattle.notes.specs.Notes.{note_of_talk}
use Rattle.commands.specs.Failed.{TellsDiskFault}

pub talk_by_disk : (talk : Talk) → note_of_talk talk ≡ Note.DiskFault → talk ≡ Talk.DiskFault
talk_by_disk Talk.DiskFault is = refl
talk_by_disk talk is = absurd (cc)

pub talk_by_read : (talk : Talk) → note_of_talk talk ≡ Note.ReadFault → talk ≡ Talk.ReadFault
talk_by_read Talk.ReadFault is = refl
talk_by_read talk is = absurd (cc)

pub talk_by_write : (talk : Talk) → note_of_talk talk ≡ Note.WriteFault → talk ≡ Talk.WriteFault
talk_by_write Talk.WriteFault is = refl
talk_by_write talk is = absurd (cc)

-- a connection ended by a fault of the disk, or in another way
by_disk_or_not : (talk : Talk) → (talk ≡ Talk.DiskFault) ⊎ (talk ≡ Talk.DiskFault → ⊥)
by_disk_or_not Talk.DiskFault = inl refl
by_disk_or_not talk = inr (λ is. cc)

module _ (talk : Talk) (note : Note) (is : note ≡ note_of_talk talk) where
  not_by_note : (talk ≡ Talk.DiskFault → ⊥) → note ≡ Note.DiskFault → ⊥
  not_by_note other by = other (talk_by_disk talk (sym is ∙ by))

  -- some calls of the only caller of a desk, of which so many were answered that the disk failed
  tells_disk : (proto : Proto) (calls : List Call) (tells : Type 0) (old new : AloneView) → TellsFailures proto (failures_of calls) talk
      → Ran tells old calls new → TellsDiskFault (proto ≡ Hec) note old.spool.moment new.spool.moment
  tells_disk proto calls tells old new told ran =
      let own = failed_by 0 calls ran.records ran.by in
      let rose : (n : ℕ) → failures_of calls ≡ n → Rose n old.spool.moment.faults new.spool.moment.faults = λ n many. subst (λ (k : ℕ). Rose k old.spool.moment.faults new.spool.moment.faults) (own ∙ many) ran.runs.cause in
      elim (by_disk_or_not talk) [
        | inl by ↦ inl (record {
          size = ran.runs.size;
          later = ran.runs.later;
          cause = λ note_is. rose 1 (told.cause by);
          quiet = λ other. absurd (other (is ∙ ap note_of_talk by));
        })
        | inr other ↦ elim (told.quiet other) [
          | inl none ↦ inl (record {
            size = ran.runs.size;
            later = ran.runs.later;
            cause = λ by. absurd (not_by_note other by);
            quiet = λ other_note. ran.runs.quiet (own ∙ none);
          })
          | inr cut ↦ inr (cut.0, is ∙ ap note_of_talk cut.1, record { size = ran.runs.size; later = ran.runs.later; cause = λ always. rose 1 cut.2; quiet = λ never. absurd (never tt) })
        ]
      ]

-- The note says whether a call of the disk failed.
pub disk_calls : (proto : Proto) (terms : Terms) (conn : ℕ) (left : Option (List ℕ)) (b : List ℕ) (calls : List Call) (text : List ℕ) (talk : Talk) (note : Note) (tells : Type 0) (old new : AloneView) → note ≡ note_of_talk talk
    → CarriedAs proto terms conn left b calls text talk → Ran tells old calls new → TellsDiskFault (proto ≡ Hec) note old.spool.moment new.spool.moment
disk_calls proto terms conn left b calls text talk note tells old new is carried ran = tells_disk talk note is proto calls tells old new (disk_fault_is_told proto terms conn left b calls text talk carried) ran

-- so it is after calls of which none failed
pub tells_on : (first collector : Type 0) (note : Note) (old mid new : Moment) → Calls first old mid → (first → ⊥) → TellsDiskFault collector note mid new → TellsDiskFault collector note old new
tells_on first collector note old mid new before passed (inl exact) = inl (calls_on first (note ≡ Note.DiskFault) old mid new before passed exact)
tells_on first collector note old mid new before passed (inr cut) = inr (cut.0, cut.1, calls_on first (Unit {0}) old mid new before passed cut.2)

pub tells_as : (collector other : Type 0) (note : Note) (old new : Moment) → (collector → other) → TellsDiskFault collector note old new → TellsDiskFault other note old new
tells_as collector other note old new leads (inl exact) = inl exact
tells_as collector other note old new leads (inr cut) = inr (leads cut.0, cut.1, cut.2)
