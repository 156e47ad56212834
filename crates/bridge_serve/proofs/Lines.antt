-- The line that a run ends with.
use Rattle.std.proofs.Common.{◌≡◌, List, ℕ, refl, subst}
use Rattle.conn_serve.specs.Endings.{CountsFaults}
use Rattle.notes.specs.declared.note.Note.{Note}
use Rattle.bridge_parts.specs.Run.{OutputRun}
use Rattle.bridge_parts.specs.Written.{PrintsAfter}
use Rattle.bridge_serve.specs.Noted.{PrintsLast}

-- it is printed after each run but one without memory
pub prints_last : (ended : Note) (line : List ℕ) (note : Note) (output : OutputRun) → (ended ≡ Note.NoMemory → ⊥)
    → (prints : PrintsAfter ended line note output.taken output.taken_after)
    → CountsFaults (prints.print ≡ Note.WriteFault) output.faults output.faults_after → PrintsLast ended line note output
prints_last Note.NoMemory line note output other prints counts = absurd (other refl)
prints_last ended line note output other prints counts = (prints, counts)

-- where no memory was found in the run, the note says so
pub memory_last : (ended : Note) (line : List ℕ) (note : Note) (output : OutputRun) → ended ≡ Note.NoMemory → PrintsLast ended line note output
    → note ≡ Note.NoMemory
memory_last ended line note output is prints = (subst (λ (e : Note). PrintsLast e line note output) is prints).0
