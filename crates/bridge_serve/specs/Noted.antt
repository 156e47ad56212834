-- Why a run ended that served, and the line that it ends with.
use Rattle.std.specs.Prelude.{◌≡◌, ◌⊎◌, ℕ, Bool, true, false, if◌then◌else◌, List, Option, None, Some}
use Rattle.std.specs.List.{list_any, sum_by}
use Rattle.serve_workers.specs.declared.worker.WorkerEnd.{WorkerEnd}
use Rattle.serve_workers.specs.declared.worker.WorkerEnd.TheVariants as worker
use Rattle.serve_workers.specs.declared.worker.WorkerReport.{WorkerReport}
use Rattle.serve_forwarder.specs.declared.looking.Outcome.{Outcome}
use Rattle.serve_forwarder.specs.declared.looking.Outcome.TheVariants as outcome
use Rattle.conn_serve.specs.Endings.{CountsFaults}
use Rattle.notes.specs.declared.note.Note.{Note}
use Rattle.notes.specs.declared.note.Note.TheVariants.{Fine, NoMemory, NetFault, WriteFault}
use Rattle.bridge_parts.specs.Run.{OutputRun}
use Rattle.bridge_parts.specs.Refused.{note_of_pend, note_of_net, note_of_sent}
use Rattle.bridge_parts.specs.Written.{first_of, PrintsAfter}

-- whether a worker found no memory to give a link back, and whether an accept of it failed
abbrev pub is_starved : WorkerEnd → Bool
is_starved worker.NoMemory = true
is_starved end = false

abbrev pub is_refused : WorkerEnd → Bool
is_refused worker.AcceptFault = true
is_refused end = false

-- The note of the workers: want of memory in one of them, or else an accept of one that failed, or else that all is well.
abbrev pub note_of_workers : List WorkerReport → Note
note_of_workers reports =
    if list_any (λ report. is_starved report.end) reports then NoMemory else (if list_any (λ report. is_refused report.end) reports then NetFault else Fine)

-- The note of the last look: `Fine` where nothing was pending, its session was acknowledged to the end, or there is no place to forward
-- to; else what failed.
abbrev pub note_of_look : Option Outcome → Note
note_of_look None = Fine
note_of_look (Some outcome.Idle) = Fine
note_of_look (Some (outcome.Unread fault)) = note_of_pend fault
note_of_look (Some (outcome.Undialed fault)) = note_of_net fault
note_of_look (Some (outcome.Held sent)) = note_of_sent sent

-- The note of a run before its line: that of the workers, or where they ended well that of the last look.
abbrev pub note_of_run : List WorkerReport → Option Outcome → Note
note_of_run reports last = first_of (note_of_workers reports) (note_of_look last)

-- how many connections were served to their end and given back
abbrev pub talks_of : List WorkerReport → ℕ
talks_of reports = sum_by (λ report. report.finished) reports

-- The line is printed after a run that ended so, unless no memory was found in it: whole; or cut, where a write of it failed; or not at
-- all, where no memory was found for it. The output's count of writes that failed rose where a write of the line failed, and nowhere
-- else.
abbrev pub PrintsLast : Note → List ℕ → Note → OutputRun → Type 0
PrintsLast NoMemory line note output = (note ≡ NoMemory) × (output.faults_after ≡ output.faults) × (output.taken_after ≡ output.taken)
PrintsLast ended line note output =
    (prints : PrintsAfter ended line note output.taken output.taken_after)
    × CountsFaults (prints.print ≡ WriteFault) output.faults output.faults_after

-- the note is that of the run, or of the print of its line
abbrev pub IsNoteOf : Note → Note → Type 0
IsNoteOf ended note = (note ≡ ended) ⊎ ((note ≡ WriteFault) ⊎ (note ≡ NoMemory))
