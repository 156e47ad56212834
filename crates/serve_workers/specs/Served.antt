-- Links that were served at a door, and what the door reports of them.
use Rattle.std.specs.Prelude.{◌≡◌, ℕ, ◌+◌, List, [], ◌∷◌, ◌++◌, length, Option, Some, None}
use Rattle.std.specs.List.{AllZip, flat_map, sum_by}
use Rattle.foundation.specs.Faults.{Rose}
use Rattle.event_form.specs.declared.talk.Talk.{Talk}
use Rattle.event_form.specs.declared.talk.Talk.TheVariants.{ReadFault, WriteFault, DiskFault}
use Rattle.edge_io.specs.Door.{Talked, DoorState}
use Rattle.desk_access.specs.Call.{Call}
use Rattle.desk_access.specs.Endings.{IsAtEndOfInput}
use Rattle.conn_serve.specs.declared.rules.Rules.{Rules}
use Rattle.conn_serve.specs.Serves.{CarriedBy}
use Rattle.notes.specs.Notes.{status_of, note_of_talk}

-- A link that was served: the number of its connection, the calls made for it on the desk, the bytes read, the bytes that its input
-- has left unread, where it says so, the text written, and the ending.
pub record Served : Type 0 where
  pub conn : ℕ
  pub calls : List Call
  pub bytes : List ℕ
  pub left : Option (List ℕ)
  pub text : List ℕ
  pub talk : Talk

-- the calls of these links, joined in their order
abbrev pub calls_in : List Served → List Call
calls_in served = flat_map (λ one. one.calls) served

-- The link was served by these rules: by the protocol's table these calls, this text and this ending go with the bytes read.
abbrev pub IsServed : Rules → Served → Type 0
IsServed rules one = CarriedBy rules one.conn one.left one.bytes one.calls one.text one.talk

-- so were these links, one after another, and their connections are numbered from this number on
abbrev pub AreServed : Rules → ℕ → List Served → Type 0
AreServed rules conn [] = Unit {0}
AreServed rules conn (one ∷ more) = (one.conn ≡ conn) × IsServed rules one × AreServed rules (conn + 1) more

-- What a door reports of a link that was given back is what was served: the protocol, the number, the bytes read and written, the
-- status of its ending, and how many bytes are left unread. Where its input was read to its end, none is.
pub record Tells (rules : Rules) (one : Served) (told : Talked) : Type 0 where
  pub proto : told.proto ≡ rules.proto
  pub conn : told.conn ≡ one.conn
  pub read : told.read ≡ one.bytes
  pub written : told.written ≡ one.text
  pub status : told.status ≡ status_of (note_of_talk one.talk)
  pub left : (rest : List ℕ) × (one.left ≡ Some rest) × (told.left ≡ length rest)
  pub at_end : IsAtEndOfInput one.talk → told.left ≡ 0

-- The list of links given back, where the door keeps one, has these links more at its end, in order. A door over a socket keeps none.
abbrev pub TellsMore : Rules → List Served → Option (List Talked) → Option (List Talked) → Type 0
TellsMore rules served None new = new ≡ None
TellsMore rules served (Some old) new = (more : List Talked) × AllZip (Tells rules) served more × (new ≡ Some (old ++ more))

-- the count, where the door keeps it, rose by n
abbrev pub RisesBy : ℕ → Option ℕ → Option ℕ → Type 0
RisesBy n None new = new ≡ None
RisesBy n (Some old) new = new ≡ Some (old + n)

-- 1 for a connection that ended at a read that failed, and 0 for each other; so for writes that failed, and for calls of the disk
abbrev pub by_read : Talk → ℕ
by_read ReadFault = 1
by_read talk = 0

abbrev pub by_write : Talk → ℕ
by_write WriteFault = 1
by_write talk = 0

abbrev pub by_disk : Talk → ℕ
by_disk DiskFault = 1
by_disk talk = 0

-- how many of the links ended so
abbrev pub how_many : (Talk → ℕ) → List Served → ℕ
how_many so served = sum_by (λ one. so one.talk) served

-- Links that were served at a door: those that were given back, and after them one that no memory was found to give back, if any.
pub record Links : Type 0 where
  pub finished : List Served
  pub late : List Served

abbrev pub links_as : List Served → List Served → Links
links_as finished late = record { finished = finished; late = late }

-- all of them, in order
abbrev pub links_in : Links → List Served
links_in links = links.finished ++ links.late

-- What was done at a door: the links were accepted, one after another, and each was served to its end by the rules, as connections
-- numbered from `first` on. Those that were given back the door reports. The calls made are those of all links. As many links wait
-- fewer, and the counts of reads and of writes that failed rose by at least as many as ended a link.
pub record AtDoor (rules : Rules) (first : ℕ) (old new : DoorState) (made : List Call → Type 0) (links : Links) : Type 0 where
  pub calls : made (calls_in (links_in links))
  pub served : AreServed rules first (links_in links)
  pub talks : TellsMore rules links.finished old.talks new.talks
  pub place : new.place ≡ old.place
  pub waiting : RisesBy (length (links_in links)) new.waiting old.waiting
  pub accepted : RisesBy (length (links_in links)) old.accepted new.accepted
  pub reads : Rose (how_many by_read (links_in links)) old.read_faults new.read_faults
  pub writes : Rose (how_many by_write (links_in links)) old.write_faults new.write_faults
