-- What a call leaves alone, and what its note says of the words.
use Rattle.std.specs.Prelude.{◌≡◌, ◌⊎◌, ℕ, List, [], Option}
use Rattle.edge_io.specs.declared.proto.Proto.{Proto}
use Rattle.notes.specs.declared.note.Note.{Note}
use Rattle.notes.specs.declared.note.Note.TheVariants.{Usage, NoMemory, WrongLength}
use Rattle.bridge_words.specs.declared.command.Command.TheVariants.{Replay}
use Rattle.bridge_words.specs.Words.{IsCommand, IsNoCommand}
use Rattle.bridge_parts.specs.Run.{Run}
use Rattle.commands.specs.Refused.{IsRefusedFirst}
use Rattle.bridge_core.specs.Failed.{AsksStream, AsksPlace, AsksDrain, AsksLoad, AsksServe}
use Rattle.bridge_core.specs.RunOf.{IsRunOf}

-- Of one call with these words that ended with this note.
pub record LeavesAlone (words : List (List ℕ)) (run : Run) (note : Note) : Type 0 where
  -- `Usage` comes only where the words are no command; where they are none, the note is `Usage`, or `NoMemory`.
  pub usage : note ≡ Usage → IsNoCommand words
  pub no_command : IsNoCommand words → (note ≡ Usage) ⊎ (note ≡ NoMemory)
  -- A device of another length stays as it was, and `load` uses no disk.
  pub wrong_length : (have want : ℕ) → note ≡ WrongLength have want → run.disk.same
  pub disk_unused : AsksLoad words → run.disk.same
  -- `serve` alone binds doors, and what the net tells of binds is as before else.
  pub doors : (AsksServe words → ⊥) → (run.doors ≡ []) × (run.net.new.bound ≡ run.net.old.bound)
  -- Words or a device that are refused leave the input and the output alone, but with `drain` and `serve`.
  pub unused : IsRefusedFirst note → (AsksDrain words → ⊥) → (AsksServe words → ⊥) → run.input.same × run.output.same
  -- `replay` and `drain` without a place alone read the input.
  pub unread : ((proto : Proto) (token ack_token : Option ℕ) → IsCommand (Replay proto token ack_token) words → ⊥) → (AsksStream words → ⊥)
      → run.input.same
  -- `drain` and `serve` alone use the net; without a place `drain` only waits.
  pub net_unused : (AsksDrain words → ⊥) → (AsksServe words → ⊥) → run.net.same
  pub net_undialed : (AsksPlace words → ⊥) → (AsksServe words → ⊥) → run.net.new ≡ run.net.old

-- so it is whatever the words and the note are
abbrev pub EachLeavesAlone : Run → Type 0
EachLeavesAlone run = (words : List (List ℕ)) (note : Note) → IsRunOf words run note → LeavesAlone words run note
