-- What the server may write to those who send to it, where it may bind doors, and where it may dial.
use Rattle.std.specs.Prelude.{◌≡◌, ◌⊎◌, ◌+◌, ◌<◌, ◌++◌, ℕ, List, Some, IfSome, All}
use Rattle.edge_disk.specs.Disk.{Moment, LeavesOnly}
use Rattle.edge_io.specs.declared.proto.Proto.{Proto}
use Rattle.spool_log.specs.declared.opening.Opening.TheVariants.{Raise}
use Rattle.spool_log.specs.Opening.{IsOpening}
use Rattle.desk_access.specs.declared.division.Division.{Division}
use Rattle.desk_access.specs.Division.{divided, each_of, first_conn}
use Rattle.desk_access.specs.Call.{Call, Record, own_of}
use Rattle.desk_access.specs.Desk.{DeskState, Goes, Stood}
use Rattle.conn_serve.specs.declared.rules.Rules.{Rules}
use Rattle.conn_serve.specs.Acked.{Acknowledges}
use Rattle.conn_serve.specs.Durable.{AckedIsDurable, AnswersAreDurable, IsToldDurably}
use Rattle.conn_serve.specs.Says.{PromisesNothing}
use Rattle.conn_serve.specs.Terms.{terms_of}
use Rattle.serve_workers.specs.Served.{Served, IsServed}
use Rattle.bridge_words.specs.declared.command.Server.{Server}
use Rattle.bridge_serve.specs.Doors.{rules_of, place_for, first_worker}
use Rattle.bridge_serve.specs.Opened.{IsOpenedDesk}

-- A link that came in: the rules by which it is served, how the run's numbers are divided among the workers, the number of the worker
-- that serves it, and how many links that worker had served before.
pub record Linked : Type 0 where
  pub rules : Rules
  pub division : Division
  pub worker : ℕ
  pub before : ℕ

-- the first link of a worker
abbrev pub first_link : Division → ℕ → Rules → Linked
first_link division worker rules = record { rules = rules; division = division; worker = worker; before = 0 }

-- A journal led the desk from the state in which the disk was opened, as it was before, to now. Whatever a crash left meanwhile is what
-- it could leave as the opening began, or stands for that state with its run raised or not, or for one on the way of the journal.
pub record HasLed (tells : Type 0) (before now : Moment) (log : List Record) : Type 0 where
  pub start : DeskState
  pub opened : IsOpenedDesk tells before.reads start
  pub after : DeskState
  pub goes : Goes start log after
  pub any_moment : LeavesOnly (λ c. IsOpening Raise before c ⊎ Stood start log c) before now

-- Whatever the text acknowledges, of what was sent over the link in these bytes, is durable now. The link is the connection that has its
-- number in the run that was opened; these bytes were read from it, and this text goes with them by its rules. The calls made for it, all
-- but those that promise nothing, are the last of a caller in a journal that led to now; and whatever a crash leaves now stands for a
-- spool that keeps what the text acknowledges, by numbers in whole frames or by a collector's replies. So it is where the disk tells what
-- it reads: over one that doesn't, nothing is said.
pub record IsDurable (tells : Type 0) (before now : Moment) (link : Linked) (bytes text : List ℕ) : Type 0 where
  pub one : Served
  pub bytes_are : one.bytes ≡ bytes
  pub text_is : one.text ≡ text
  pub log : List Record
  pub led : tells → HasLed tells before now log
  pub conn_is : (told : tells) → one.conn ≡ first_conn (divided link.division (led told).start.spool.run) link.worker + link.before
  pub caller : ℕ
  pub earlier : List Call
  pub made : List Call
  pub own : own_of caller log ≡ earlier ++ made
  pub late : List Call
  pub calls_are : one.calls ≡ made ++ late
  pub nothing_late : All PromisesNothing late
  pub served : IsServed link.rules one
  pub acked : tells → (numbers : List ℕ) → Acknowledges link.rules.proto text numbers → AckedIsDurable link.rules.proto one.calls now numbers
  pub answers : tells
      → AnswersAreDurable link.rules.proto (terms_of link.rules) one.conn one.left one.bytes one.calls one.text one.talk served now
      (IsToldDurably log caller now)

-- A text may be written to a link of the worker of which this is the first link, to one who has sent these bytes, once all that the text
-- acknowledges of them is durable on the disk. `given` is the disk as it was before it was opened. A worker serves at most as many links
-- as it has numbers for.
abbrev pub WorkerMayAnswer : {D : Type 0} → Type 0 → (D → Moment) → D → Linked → (ℕ → List ℕ → List ℕ → Type 0) → Type 0
WorkerMayAnswer {D} tells moment given first Permits =
    (k : ℕ) → k < each_of first.division → (disk : D) (bytes text : List ℕ)
    → IsDurable tells (moment given) (moment disk) (record first { before = k }) bytes text → Permits k bytes text

-- At a place that the words name for a protocol, to the k-th link of one of the doors that are bound there, one for each worker, a text may
-- be written to one who has sent these bytes, once all that the text acknowledges of them is durable on the disk. So each worker may
-- answer. `given` is the disk as it was before it was opened. A worker serves at most as many links as it has numbers for.
abbrev pub MayAnswer : {D : Type 0} → Type 0 → (D → Moment) → D → Server → (List ℕ → ℕ → ℕ → List ℕ → List ℕ → Type 0) → Type 0
MayAnswer {D} tells moment given server Permits =
    (proto : Proto) (place : List ℕ) → place_for server proto ≡ Some place → (door : ℕ) → door < server.workers
    → (k : ℕ) → k < each_of server.division → (disk : D) (bytes text : List ℕ)
    → IsDurable tells (moment given) (moment disk)
    (record { rules = rules_of server proto; division = server.division; worker = first_worker server proto + door; before = k }) bytes text
    → Permits place door k bytes text

-- Doors may be bound at the places that the words name, and those who ask for numbers may come in at the place of `--status`.
abbrev pub MayBind : Server → (List ℕ → Type 0) → Type 0
MayBind server May = ((proto : Proto) (place : List ℕ) → place_for server proto ≡ Some place → May place) × IfSome server.status May

-- The place that the words forward to may be dialed.
abbrev pub MayDial : Server → (List ℕ → Type 0) → Type 0
MayDial server May = IfSome server.forward (λ relay. May relay.place)

-- The worker of that number serves, by these rules, one of the doors at a place that the words name, and what may be written there may be
-- written to the links of its door.
pub record StandsAt (server : Server) (Permits : List ℕ → ℕ → ℕ → List ℕ → List ℕ → Type 0) (number : ℕ) (rules : Rules)
    (DoorPermits : ℕ → List ℕ → List ℕ → Type 0) : Type 0 where
  pub proto : Proto
  pub place : List ℕ
  pub door : ℕ
  pub named : place_for server proto ≡ Some place
  pub few : door < server.workers
  pub number_is : number ≡ first_worker server proto + door
  pub rules_are : rules ≡ rules_of server proto
  pub permits : (k : ℕ) (read text : List ℕ) → Permits place door k read text → DoorPermits k read text
