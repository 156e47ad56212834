-- What `replay` does.
use Rattle.std.specs.Prelude.{◌≡◌, ◌⊎◌, false, ℕ, ◌+◌, ◌*◌, ◌^◌, List, [], Option}
use Rattle.event_form.specs.declared.talk.Attended.{Attended}
use Rattle.edge_io.specs.declared.proto.Proto.{Proto}
use Rattle.edge_io.specs.declared.proto.Proto.TheVariants.{Hec}
use Rattle.edge_disk.specs.declared.disk.Disk.{Ghosts as Disks}
use Rattle.edge_disk.specs.Disk.{Moment, LeavesOnly}
use Rattle.spool_state.specs.SpoolState.{SpoolState}
use Rattle.spool_state.specs.Image.{StandsFor}
use Rattle.spool_log.specs.declared.opening.Opening.TheVariants.{Raise}
use Rattle.spool_log.specs.declared.spool.Spool.{Spool}
use Rattle.spool_log.specs.Opening.{opened, CanOpen, IsOpening}
use Rattle.desk_access.specs.Call.{Call}
use Rattle.desk_access.specs.Desk.{Stood}
use Rattle.desk_access.specs.Durable.{IsIdTakenDurably}
use Rattle.conn_serve.specs.Acked.{Acknowledges}
use Rattle.conn_serve.specs.Durable.{AckedIsDurable, AnswersAreDurable}
use Rattle.conn_serve.specs.declared.rules.Rules.{Rules}
use Rattle.conn_serve.specs.Endings.{CountsFaults}
use Rattle.conn_serve.specs.Serves.{CarriedBy, Serves}
use Rattle.conn_serve.specs.Terms.{terms_of}
use Rattle.notes.specs.declared.note.Note.{Note}
use Rattle.notes.specs.declared.note.Note.TheVariants.{ReadFault, WriteFault}
use Rattle.notes.specs.Notes.{note_of_talk}
use Rattle.bridge_parts.specs.Opened.{desk_in, IsUnopened}
use Rattle.bridge_parts.specs.Reached.{Reaches}
use Rattle.bridge_parts.specs.Run.{DiskRun, InputRun, LinkRun, OutputRun, both_run, IsSilent, IsUngiven}
use Rattle.commands.specs.Failed.{TellsDiskFault}
use Rattle.commands.specs.SpoolRun.{SpoolRun, WasIn, spool_over}

-- the rules of a replay: by these tokens, and each event of RELP is stored by itself
abbrev pub replay_rules : Proto → Option ℕ → Option ℕ → Rules
replay_rules proto token ack_token = record { proto = proto; token = token; ack_token = ack_token; listed = []; group = false }

-- And so it was from that moment on: whatever a crash left meanwhile stands for the state after the first of the
-- calls, or for a stage of the next one.
pub record Keeps (s : SpoolState) (old new : Moment) (calls : List Call) : Type 0 where
  pub reached : Reaches s new calls
  pub any_moment : LeavesOnly (Stood (desk_in s) reached.records) old new

-- so it was from whatever state the spool was in
abbrev pub KeepsFrom : SpoolRun → List Call → Type 0
KeepsFrom spool calls = (s : SpoolState) → spool.disk.tells → WasIn spool s → Keeps s spool.disk.old spool.disk.new calls

-- so it was of a spool that was given, and of the disk on which it is now
abbrev pub KeepsOver : {D : Type 0} {disks : Disks D} → Spool D disks → D → List Call → Type 0
KeepsOver spool new calls = KeepsFrom (spool_over spool new) calls

-- The device stood for a state, and was opened for storing: its run was raised by one, and the connection has
-- the number that begins the new run. Then the calls were made on the spool. Whatever a crash left meanwhile is what
-- it could leave as the call began, or stands for that state with the run raised or not, or for one on the way of the
-- calls.
pub record IsStored (old new : Moment) (conn : ℕ) (calls : List Call) : Type 0 where
  pub state : SpoolState
  pub stood : StandsFor state old.reads
  pub could : CanOpen Raise state
  pub conn_is : conn ≡ (state.run + 1) * 2 ^ 32
  pub reached : Reaches (opened Raise state) new calls
  pub any_moment : LeavesOnly (λ c. IsOpening Raise old c ⊎ Stood (desk_in (opened Raise state)) reached.records c) old new

-- A link was served by these rules, as one connection of this number: the bytes read are its frames, from the first one, none skipped;
-- the calls on the spool and the bytes written are those that they ask for; where it ended with the input, the input was read to its
-- end; and the note is that of the connection's ending.
pub record ServesLink (rules : Rules) (conn : ℕ) (link : LinkRun) (Made : List Call → Type 0) (note : Note) : Type 0 where
  pub attended : Attended
  pub note_is : note ≡ note_of_talk attended.talk
  pub serves : Serves (CarriedBy rules conn) link.given link.given_after link.left link.left_after link.taken link.taken_after Made attended

-- And that was done over the spool that the device stood for. Whatever the text that was written acknowledges is durable:
-- by RELP and Lumberjack the numbers in it, and by the collector its replies, of which one that tells an id true means that
-- these calls took a group of that id.
pub record ServesInput (rules : Rules) (disk : DiskRun) (link : LinkRun) (note : Note) : Type 0 where
  pub conn : ℕ
  pub served : ServesLink rules conn link (λ calls. disk.tells → IsStored disk.old disk.new conn calls) note
  pub acknowledged : (numbers : List ℕ) → disk.tells → Acknowledges rules.proto served.serves.text numbers
      → AckedIsDurable rules.proto served.serves.calls disk.new numbers
  pub answered : disk.tells → AnswersAreDurable rules.proto (terms_of rules) conn link.left_after served.serves.bytes served.serves.calls
      served.serves.text served.attended.talk served.serves.carried disk.new (λ channel id. IsIdTakenDurably served.serves.calls disk.new id)

-- What a call of `replay` did: the device was not opened, and nothing was read or written; or the input was served. `ReadFault`,
-- `WriteFault` and `DiskFault` come exactly where a read, a write or a call of the disk failed in it, but for a reply of the collector
-- that says that the disk failed and was cut short.
pub record IsReplayed (rules : Rules) (disk : DiskRun) (input : InputRun) (output : OutputRun) (note : Note) : Type 0 where
  pub calls : TellsDiskFault (rules.proto ≡ Hec) note disk.old disk.new
  pub reads : CountsFaults (note ≡ ReadFault) input.faults input.faults_after
  pub writes : CountsFaults (note ≡ WriteFault) output.faults output.faults_after
  pub replayed : (IsUnopened disk.tells disk.old disk.new note × IsUngiven input × IsSilent output)
      ⊎ ServesInput rules disk (both_run input output) note
