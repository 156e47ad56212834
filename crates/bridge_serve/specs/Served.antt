-- What the top call does with the words of `serve`.
use Rattle.std.specs.Prelude.{◌≡◌, ◌⊎◌, ℕ, ◌+◌, ◌-◌, ◌≤◌, Bool, List, [], length, map, Option}
use Rattle.foundation.specs.Faults.{Rose}
use Rattle.edge_disk.specs.declared.disk.Disk.{Ghosts as Disks}
use Rattle.edge_disk.specs.Calls.{Calls}
use Rattle.edge_disk.specs.Disk.{LeavesOnly}
use Rattle.edge_io.specs.declared.sink.Sink.{Ghosts as Sinks}
use Rattle.edge_io.specs.Door.{DoorState}
use Rattle.edge_io.specs.Net.{NetState, SameHung}
use Rattle.conn_serve.specs.declared.rules.Rules.{Rules}
use Rattle.conn_serve.specs.Endings.{CountsFaults}
use Rattle.spool_state.specs.SpoolState.{SpoolState, end}
use Rattle.spool_state.specs.Left.{left}
use Rattle.spool_log.specs.declared.memory.Memory.{Memory}
use Rattle.spool_log.specs.declared.opening.Opening.TheVariants.{Raise}
use Rattle.spool_log.specs.Memory.{end_of}
use Rattle.spool_log.specs.Opening.{IsOpening}
use Rattle.hec_ids.specs.Table.{Table}
use Rattle.desk_access.specs.declared.division.Division.{Division}
use Rattle.desk_access.specs.Division.{DividedRun}
use Rattle.desk_access.specs.Desk.{DeskState, Stood}
use Rattle.spool_turns.specs.Passes.{begun}
use Rattle.serve_workers.specs.declared.crew.Post.{Post}
use Rattle.serve_workers.specs.declared.worker.WorkerReport.{WorkerReport}
use Rattle.serve_forwarder.specs.declared.destination.Destination.{Destination}
use Rattle.serve_forwarder.specs.declared.looking.Outcome.{Outcome}
use Rattle.serve_desk.specs.declared.serving.Served.{Served}
use Rattle.serve_run.specs.Running.{Given, Left, given_as, given_by, left_as}
use Rattle.serve_desk.specs.Serving.{HasServed, seating_as}
use Rattle.bridge_words.specs.declared.command.Server.{Server}
use Rattle.notes.specs.declared.note.Note.{Note}
use Rattle.notes.specs.declared.note.Note.TheVariants.{NoMemory, NetFault}
use Rattle.bridge_words.specs.Lines.{serve_line}
use Rattle.bridge_parts.specs.Opened.{IsUnopened}
use Rattle.bridge_parts.specs.Pending.{pending_in}
use Rattle.bridge_parts.specs.Run.{DiskRun, NetRun, OutputRun, IsOffline, IsSilent, disk_run, net_run, output_run}
use Rattle.bridge_serve.specs.declared.ended.Over.{Over}
use Rattle.bridge_serve.specs.Doors.{AreBound, AreUnused, TellsBound, binds_of, with_bound, destination_of, SomeRose}
use Rattle.bridge_serve.specs.Noted.{IsNoteOf, note_of_run, talks_of, PrintsLast}
use Rattle.bridge_serve.specs.Opened.{IsOpenedDesk, opened_at, desk_over, IsOpenedOnly}
use Rattle.bridge_serve.specs.Promised.{Promises}

-- How a server is set up: whether takes of several workers may be stored as one group, and how the numbers of connections are divided.
pub record Setup : Type 0 where
  pub grouped : Bool
  pub division : Division

abbrev pub setup_as : Bool → Division → Setup
setup_as grouped division = record { grouped = grouped; division = division }

-- What a desk leaves: the spool, as memory has it, and whether that is in doubt.
pub record DeskLeft : Type 0 where
  pub memory : Memory
  pub in_doubt : Bool

abbrev pub desk_as : Memory → Bool → DeskLeft
desk_as memory in_doubt = record { memory = memory; in_doubt = in_doubt }

-- What comes back: the doors, and the net as it is then.
pub record Back : Type 0 where
  pub doors : List DoorState
  pub net : NetState

abbrev pub back_as : List DoorState → NetState → Back
back_as doors net = record { doors = doors; net = net }

-- No worker began: a place was not bound, or no memory was found. The net's count of faults rose where a bind failed, and nowhere else.
-- Nothing was taken, no link was hung up, and nothing was printed.
pub record IsUnserved (disk : DiskRun) (output : OutputRun) (net : NetRun) (note : Note) : Type 0 where
  pub why : (note ≡ NoMemory) ⊎ ((note ≡ NetFault) × Rose 1 net.old.net_faults net.new.net_faults)
  pub opened : disk.tells → IsOpenedOnly disk.old disk.new
  pub calls : Calls ⊥ disk.old disk.new
  pub hung : SameHung net.old net.new
  pub binds : CountsFaults (note ≡ NetFault) net.old.net_faults net.new.net_faults
  pub silent : output.taken_after ≡ output.taken

-- The workers served at the doors, and the forwarder beside them, over a spool that was opened for storing: one journal of all their
-- calls led the desk from the state in which the device was opened to where it is. Whatever a crash left meanwhile is what it could
-- leave as the opening began, or stands for the opened state with its run raised or not, or for one on the way of the journal. Takes
-- of several workers may be stored as one group only where the run is grouped. The numbers of connections are divided as said.
pub record RunsOver (disk : DiskRun) (setup : Setup) (given : Given) (left : Left) (desk : DeskLeft) : Type 0 where
  pub run : DividedRun
  pub divided_by : run.division ≡ setup.division
  pub clock : ℕ
  pub later : disk.tells → disk.old.clock ≤ clock
  pub opened : disk.tells → (x : DeskState) × IsOpenedDesk disk.tells disk.old.reads x
  pub ids : Table
  pub served : HasServed disk.tells (IsOpenedDesk disk.tells disk.old.reads)
      (seating_as run (length given.doors + 1) (begun (opened_at disk.tells disk.old clock) setup.grouped)) given left
      (desk_over desk.memory desk.in_doubt disk.new ids)
  pub any_moment : (x : DeskState) → IsOpenedDesk disk.tells disk.old.reads x
      → LeavesOnly (λ c. IsOpening Raise disk.old c ⊎ Stood x served.log c) disk.old disk.new

-- so it is of all that such a run leaves, by what a door tells and what the net tells then, over a disk as it was before
abbrev pub RanOver : {P D L : Type 0} {disks : Disks D} → (P → DoorState) → D → Setup → Given → NetState → Served P D L disks → Type 0
RanOver {disks = disks} told before setup given net served =
    RunsOver (disk_run disks.tells disks.moment before served.desk.spool.disk) setup given
    (left_as (map told served.doors.items) served.reports.items net served.last) (desk_as served.desk.spool.memory served.desk.spool.doubt)

-- What was done between two states, in numbers: entries that were taken, entries left before or taken that aren't left, and entries
-- that are left.
pub record Counts (before after : SpoolState) (stored confirmed remaining : ℕ) : Type 0 where
  pub stored_is : stored ≡ end after - end before
  pub confirmed_is : confirmed ≡ length (left before) + stored - length (left after)
  pub remaining_is : remaining ≡ length (left after)

-- the line of a run over a spool that had this end, and so many entries left
abbrev pub line_after : {P D L : Type 0} {disks : Disks D} → (had_end had_left : ℕ) → Served P D L disks → List ℕ
line_after had_end had_left served =
    let now = served.desk.spool.memory in
    let stored = end_of now - had_end in
    serve_line (talks_of served.reports.items) stored (had_left + stored - pending_in now) (pending_in now)

-- The server ran over the spool, at these doors. At the end the line tells the numbers of the journal, and how many connections
-- were given back. The note is that of the workers, or of the last look, or of the print: of the first that didn't end well.
pub record IsRunAt (setup : Setup) (given : Given) (disk : DiskRun) (output : OutputRun) (back : Back) (note : Note) : Type 0 where
  pub reports : List WorkerReport
  pub last : Option Outcome
  -- How single connections ended doesn't change the note.
  pub note_is : IsNoteOf (note_of_run reports last) note
  pub desk : DeskLeft
  pub over : RunsOver disk setup given (left_as back.doors reports back.net last) desk
  -- what this means for the senders, the peer and the operator
  pub promises : Promises over.served note
  pub stored : ℕ
  pub confirmed : ℕ
  pub remaining : ℕ
  pub numbers : (x : DeskState) (is : IsOpenedDesk disk.tells disk.old.reads x)
      → Counts x.spool (over.served.closes.replays.leads x is).after.spool stored confirmed remaining
  pub printed : PrintsLast (note_of_run reports last) (serve_line (talks_of reports) stored confirmed remaining) note output
  -- the note reports a net fault only where the net's own count rose, or that of a door
  pub cause : note ≡ NetFault → Rose 1 given.net.net_faults back.net.net_faults ⊎ SomeRose given.doors back.doors

-- What the traits say that each tells: the disk, the output, the net and a door.
abbrev pub Telling : Type 0 → Type 0 → Type 0 → Type 0 → Type 1
Telling D K N P = Disks D × Sinks K × (N → NetState) × (P → DoorState)

-- The server ran at these posts, over what was there before and is there then; or no worker began, and the net is as it was, and the
-- doors of the posts come back as they were. With the posts it is given how many links each worker serves at most, and the destination.
abbrev pub EndsAt : {D K N P L : Type 0} → Telling D K N P → Setup → ℕ × Option Destination × List (Post P L) → D × K × N → K × N → Over D P → Type 0
EndsAt tell setup at old new over =
    let disk = disk_run tell.0.tells tell.0.moment old.0 over.disk in
    let output = output_run tell.1.taken tell.1.write_faults old.1 new.0 in
    let net = net_run tell.2 old.2 new.1 in
    (IsUnserved disk output net over.note × net.same × (over.doors.items ≡ map (λ post. post.door) at.2))
    ⊎ IsRunAt setup (given_by tell.3 at.0 at.2 at.1 net.old) disk output (back_as (map tell.3 over.doors.items) net.new) over.note

-- The doors of the words were bound, as is told, and nothing else was; and the server ran there.
pub record IsRun (server : Server) (disk : DiskRun) (output : OutputRun) (net : NetRun) (doors' : List DoorState) (note : Note) : Type 0 where
  pub doors : List DoorState
  pub rules : List Rules
  pub bound : AreBound server doors rules
  pub told : TellsBound (binds_of server) net.old.bound net.new.bound
  pub ran : IsRunAt (setup_as server.group server.division)
      (given_as server.talks rules doors (destination_of server.forward) (with_bound net.old net.new.bound)) disk output
      (back_as doors' net.new) note

-- What was done: the device was not opened, and then no door was bound, nothing was dialed and nothing was printed; or no worker began,
-- and the doors that were bound come back, with no link accepted; or the server ran. What was bound is told in each case.
abbrev pub IsServed : Server → DiskRun → OutputRun → NetRun → List DoorState → Note → Type 0
IsServed server disk output net doors' note =
    (IsUnopened disk.tells disk.old disk.new note × IsOffline net × (doors' ≡ []) × IsSilent output)
    ⊎ ((IsUnserved disk output net note × AreUnused server net.old.bound net.new.bound doors')
    ⊎ IsRun server disk output net doors' note)
