-- What the note of a run tells: of its words, and of what failed.
use Rattle.std.specs.Prelude.{◌≡◌, ◌⊎◌, ℕ, List}
use Rattle.edge_io.specs.Net.{NetState}
use Rattle.notes.specs.declared.note.Note.{Note}
use Rattle.notes.specs.declared.note.Note.TheVariants.{Usage, NoMemory}
use Rattle.bridge_words.specs.Words.{IsNoCommand}
use Rattle.bridge_core.specs.Failed.{TellsReadFault, TellsWriteFault, TellsDial}

-- How many reads of the input and how many writes of the output have failed so far, and what the net tells.
pub record Faults : Type 0 where
  pub reads : ℕ
  pub writes : ℕ
  pub net : NetState

abbrev pub faults_at : ℕ → ℕ → NetState → Faults
faults_at reads writes net = record { reads = reads; writes = writes; net = net }

-- The note of a run of these words: it is `Usage` only where they are no command, and where they are none it says so, or that memory
-- was wanting. And it says what failed meanwhile.
pub record IsNoteOf (words : List (List ℕ)) (note : Note) (old new : Faults) : Type 0 where
  pub usage : note ≡ Usage → IsNoCommand words
  pub no_command : IsNoCommand words → note ≡ Usage ⊎ note ≡ NoMemory
  pub reads : TellsReadFault words note old.reads new.reads old.net new.net
  pub writes : TellsWriteFault words note old.writes new.writes old.net new.net
  pub dials : TellsDial words note old.net new.net
