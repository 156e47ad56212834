-- Where `replay` has to end well, and what the spool has then.
use Rattle.std.specs.Prelude.{◌≡◌, ◌⊎◌, ◌<◌, ◌+◌, ◌*◌, ◌^◌, ℕ, List, [], length, Option, Some}
use Rattle.event_form.specs.declared.event.Event.{Event}
use Rattle.edge_io.specs.declared.proto.Proto.{Proto}
use Rattle.hec_session.specs.declared.tokens.Tokens.{Tokens}
use Rattle.spool_state.specs.Layout.{most_run, most_number}
use Rattle.spool_state.specs.SpoolState.{SpoolState}
use Rattle.spool_state.specs.Image.{StandsFor}
use Rattle.spool_log.specs.declared.opening.Opening.TheVariants.{Raise}
use Rattle.spool_log.specs.Opening.{opened}
use Rattle.bridge_words.specs.declared.command.Command.TheVariants.{Replay}
use Rattle.notes.specs.declared.note.Note.{Note}
use Rattle.notes.specs.declared.note.Note.TheVariants.{Fine, NoMemory}
use Rattle.bridge_words.specs.Words.{IsCommand}
use Rattle.bridge_laws.specs.Complete.{NoneFailed}
use Rattle.bridge_parts.specs.Run.{Run}
use Rattle.bridge_core.specs.RunOf.{IsRunOf}
use Rattle.ending_laws.specs.Replaying.{NoneIsRefused, EndsWhole, Stores, Gains}

-- The device stands for that state, which can be opened for storing, and the input has these bytes, which are not too many.
pub record CanReplay (run : Run) (s : SpoolState) (b : List ℕ) : Type 0 where
  pub told : run.disk.tells
  pub stands : StandsFor s run.disk.old.reads
  pub runs : s.run < most_run
  pub ordinals : s.ordinal < most_number
  pub input : run.input.left ≡ Some b
  pub short : length b < 2 ^ 40

-- the number of the connection that `replay` serves over a spool in that state
abbrev pub conn_in : SpoolState → ℕ
conn_in s = (s.run + 1) * 2 ^ 32

-- the input's events were added to the spool, unless no memory was found
abbrev pub TakesAll : Proto → Tokens → Run → SpoolState → List ℕ → Note → Type 0
TakesAll proto tokens run s b note =
    (note ≡ NoMemory)
    ⊎ ((note ≡ Fine) × ((events : List Event) × Stores proto tokens b events × Gains (opened Raise s) run.disk.new events))

-- Where no call failed, `replay` ends well if the bytes end with a frame, and no group and no id is refused that they bring.
abbrev pub ReplayEndsWell : Run → Type 0
ReplayEndsWell run =
    (proto : Proto) (token ack_token : Option ℕ) (words : List (List ℕ)) (note : Note) (s : SpoolState) (b : List ℕ)
    → let tokens : Tokens = record { token = token; ack_token = ack_token; listed = [] } in
    IsRunOf words run note → NoneFailed run → IsCommand (Replay proto token ack_token) words → CanReplay run s b
    → EndsWhole proto b → NoneIsRefused proto tokens (conn_in s) (opened Raise s) b → TakesAll proto tokens run s b note
