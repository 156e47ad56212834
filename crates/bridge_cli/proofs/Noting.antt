-- What the note of a run tells.
use Rattle.std.proofs.Common.{◌≡◌, ◌⊎◌, inl, inr, ℕ, List, refl, subst, sym}
use Rattle.conn_serve.proofs.Faults.{counts_none}
use Rattle.notes.specs.declared.note.Note.{Note}
use Rattle.bridge_words.specs.declared.need.Need.{Need}
use Rattle.bridge_words.specs.declared.need.Need.TheVariants.{NoCommand, Pair}
use Rattle.bridge_words.specs.Words.{IsNeed}
use Rattle.bridge_parts.specs.Run.{Run}
use Rattle.bridge_core.specs.RunOf.{IsRunOf}
use Rattle.bridge_core.proofs.Alone.{no_command_is_told, usage_is_of_words}
use Rattle.bridge_core.proofs.OneCommand.{needs_device}
use Rattle.bridge_cli.specs.Noted.{Faults, IsNoteOf, faults_at}

-- of a run of the words
pub noted : (words : List (List ℕ)) (run : Run) (note : Note) → IsRunOf words run note
    → IsNoteOf words note (faults_at run.input.faults run.output.faults run.net.old) (faults_at run.input.faults_after run.output.faults_after run.net.new)
noted words run note is = record {
  usage = usage_is_of_words words run note is;
  no_command = no_command_is_told words run note is;
  reads = is.reads;
  writes = is.writes;
  dials = is.dials;
}

-- no memory was found, and nothing was done
pub no_memory : (words : List (List ℕ)) (faults : Faults) → IsNoteOf words Note.NoMemory faults faults
no_memory words faults = record {
  usage = λ by. absurd (cc);
  no_command = λ none. inr refl;
  reads = inl (counts_none (Note.NoMemory ≡ Note.ReadFault) faults.reads faults.reads (λ by. cc) refl);
  writes = inl (counts_none (Note.NoMemory ≡ Note.WriteFault) faults.writes faults.writes (λ by. cc) refl);
  dials = inl (counts_none (Note.NoMemory ≡ Note.NetFault) faults.net.net_faults faults.net.net_faults (λ by. cc) refl);
}

-- the device that the words want wasn't opened
pub unopened : (words : List (List ℕ)) (need : Need) (note : Note) (faults : Faults) → (need ≡ NoCommand → ⊥)
    → ((target : List ℕ) (tag : ℕ) → need ≡ Pair target tag → ⊥) → IsNeed words need → note ≡ Note.DiskFault ⊎ note ≡ Note.NoMemory
    → IsNoteOf words note faults faults
unopened words need note faults other alone is (inr memory) = subst (λ n. IsNoteOf words n faults faults) (sym memory) (no_memory words faults)
unopened words need note faults other alone is (inl same) = record {
  usage = λ by. absurd (cc);
  no_command = λ none. absurd (needs_device need words other alone is none);
  reads = inl (counts_none (note ≡ Note.ReadFault) faults.reads faults.reads (λ by. cc) refl);
  writes = inl (counts_none (note ≡ Note.WriteFault) faults.writes faults.writes (λ by. cc) refl);
  dials = inl (counts_none (note ≡ Note.NetFault) faults.net.net_faults faults.net.net_faults (λ by. cc) refl);
}
