-- The promise to senders: what was acknowledged is not lost.
use Rattle.std.specs.Prelude.{◌≡◌, ◌⊎◌, ℕ, ◌+◌, List, ◌++◌, Option, Some, slice_get}
use Rattle.std.specs.Io.KnownBytes.{Appends}
use Rattle.event_form.specs.declared.talk.Talk.{Talk}
use Rattle.edge_io.specs.Door.{DoorState, Talked}
use Rattle.edge_disk.specs.Disk.{Moment}
use Rattle.desk_access.specs.Division.{divided, first_conn}
use Rattle.desk_access.specs.Call.{Call, Record, own_of}
use Rattle.desk_access.specs.Durable.{IsIdTakenDurably}
use Rattle.conn_serve.specs.declared.rules.Rules.{Rules}
use Rattle.conn_serve.specs.Acked.{Acknowledges}
use Rattle.conn_serve.specs.Durable.{AckedIsDurable, AnswersAreDurable}
use Rattle.conn_serve.specs.Serves.{CarriedBy}
use Rattle.conn_serve.specs.Terms.{terms_of}
use Rattle.serve_workers.specs.Served.{Served, Tells}
use Rattle.serve_laws.specs.Durable.{IsLinkDurable}
use Rattle.bridge_words.specs.declared.command.Command.{Command}
use Rattle.bridge_words.specs.declared.command.Command.TheVariants.{Replay, Serve}
use Rattle.bridge_words.specs.declared.command.Server.{Server}
use Rattle.bridge_words.specs.Words.{IsCommand}
use Rattle.bridge_parts.specs.Run.{DiskRun, Run}
use Rattle.commands.specs.Replayed.{IsStored, replay_rules}
use Rattle.bridge_serve.specs.Answered.{Linked, HasLed}
use Rattle.bridge_serve.specs.Doors.{rules_of}
use Rattle.notes.specs.declared.note.Note.{Note}
use Rattle.bridge_core.specs.RunOf.{IsRunOf}

-- The input was one connection, served by these rules: what was read of it, and the text that was written to the output. The disk was
-- opened for storing, and then the calls that the protocol asks for by these bytes were made, and no others. Whatever the text
-- acknowledges was taken by them and is durable now: by RELP the transactions that are answered 200, by Lumberjack the sequence numbers
-- of its acks, and by the collector what its replies say.
pub record InputIsKept (rules : Rules) (run : Run) : Type 0 where
  pub conn : ℕ
  pub bytes : List ℕ
  pub text : List ℕ
  pub read : Appends run.input.given run.input.given_after bytes
  pub wrote : Appends run.output.taken run.output.taken_after text
  pub left : Option (List ℕ)
  pub calls : List Call
  pub talk : Talk
  pub carried : CarriedBy rules conn left bytes calls text talk
  pub made : IsStored run.disk.old run.disk.new conn calls
  pub acked : (numbers : List ℕ) → Acknowledges rules.proto text numbers → AckedIsDurable rules.proto calls run.disk.new numbers
  pub answered : AnswersAreDurable rules.proto (terms_of rules) conn left bytes calls text talk carried run.disk.new
      (λ channel id. IsIdTakenDurably calls run.disk.new id)

-- A connection that a door tells of is a link that was served by the rules, and its number is the link's in the run that began as the
-- disk was opened: that of its worker, and of the links that this worker had served before. The calls made for it stand in a journal
-- among its worker's, and that led the desk from the opening to now and says what every crash since could leave. Whatever the text that
-- was written acknowledges was taken by them and is durable now; but where the collector tells an id true, some caller took it before.
pub record TalkIsKept (tells : Type 0) (old now : Moment) (link : Linked) (told : Talked) : Type 0 where
  pub one : Served
  pub told_as : Tells link.rules one told
  pub log : List Record
  pub led : HasLed tells old now log
  pub conn_is : one.conn ≡ first_conn (divided link.division led.start.spool.run) link.worker + link.before
  pub earlier : List Call
  pub later : List Call
  pub own : own_of link.worker log ≡ earlier ++ (one.calls ++ later)
  pub durable : IsLinkDurable log link.worker now link.rules one

-- each connection that the worker's door tells of, in the order in which the links were served
abbrev pub TalksAreKept : Server → DiskRun → ℕ → DoorState → Type 0
TalksAreKept server disk worker door =
    (talks : List Talked) → door.talks ≡ Some talks → (k : ℕ) (told : Talked) → slice_get talks k ≡ Some told
    → TalkIsKept disk.tells disk.old disk.new (record { rules = rules_of server told.proto; division = server.division; worker = worker; before = k }) told

-- each connection that a door tells of
abbrev pub DoorsAreKept : Server → DiskRun → List DoorState → Type 0
DoorsAreKept server disk doors = (worker : ℕ) (door : DoorState) → slice_get doors worker ≡ Some door → TalksAreKept server disk worker door

-- Whatever was acknowledged to a sender stands on the disk that is handed back: by `replay` in what it wrote to the output, unless
-- that is nothing; by `serve` in what each door that comes back tells was written to each of its connections.
abbrev pub AcknowledgedIsKept : Command → Run → Type 0
AcknowledgedIsKept (Replay proto token ack_token) run =
    (run.output.taken_after ≡ run.output.taken) ⊎ InputIsKept (replay_rules proto token ack_token) run
AcknowledgedIsKept (Serve server) run = DoorsAreKept server run.disk run.doors
AcknowledgedIsKept command run = Unit {0}

-- So it is for the words of each command, where the disk tells what it reads.
abbrev pub KeepsAcknowledged : List (List ℕ) → Run → Type 0
KeepsAcknowledged words run = (command : Command) → IsCommand command words → run.disk.tells → AcknowledgedIsKept command run

-- What a call promises in all: what it did, and that whatever was acknowledged is kept.
abbrev pub KeepsPromises : List (List ℕ) → Run → Note → Type 0
KeepsPromises words run note = IsRunOf words run note × KeepsAcknowledged words run
