-- What a call of `bridge` did.
use Rattle.std.specs.Prelude.{◌≡◌, ◌⊎◌, ℕ, List}
use Rattle.bridge_words.specs.declared.command.Command.{Command}
use Rattle.notes.specs.declared.note.Note.{Note}
use Rattle.notes.specs.declared.note.Note.TheVariants.{Usage, NoMemory}
use Rattle.bridge_words.specs.Words.{IsCommand, IsNoCommand, IsSomeCommand}
use Rattle.bridge_parts.specs.Run.{Run}
use Rattle.bridge_core.specs.Failed.{TellsDisk, TellsReadFault, TellsWriteFault, TellsDial}
use Rattle.bridge_core.specs.Done.{IsUntouched, IsUndone, Does}

-- What a call with these words did that ended with this note.
pub record IsRunOf (words : List (List ℕ)) (run : Run) (note : Note) : Type 0 where
  -- What failed: a call of the disk, a read of the input, a write of the output or a dial exactly where the note says so. Of
  -- the disk's calls there is one exception: a reply of the collector that says so and was cut short. Of the reads and
  -- writes there are those of `drain`: with a place they are the link's, and then the output's; and a write that failed
  -- before the disk did is reported as the disk's. Where many senders are served, the disk, the net and its links may have failed
  -- where the note tells something else.
  pub calls : TellsDisk words note run.disk.old run.disk.new
  pub reads : TellsReadFault words note run.input.faults run.input.faults_after run.net.old run.net.new
  pub writes : TellsWriteFault words note run.output.faults run.output.faults_after run.net.old run.net.new
  pub dials : TellsDial words note run.net.old run.net.new
  -- The words are those of a command, or of none; or no memory was found for reading them, and nothing was done.
  pub which : IsSomeCommand words ⊎ (IsNoCommand words ⊎ IsUndone run note)
  -- Words that are no command do nothing, and the note says so, unless no memory was found for reading them.
  pub unchanged : IsNoCommand words → IsUntouched run
  pub usage : IsNoCommand words → (note ≡ Usage) ⊎ (note ≡ NoMemory)
  -- Else what was done is what the command says; or nothing, where no memory was found for reading the words.
  pub done : (command : Command) → IsCommand command words → IsUndone run note ⊎ Does command run note
