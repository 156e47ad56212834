-- What the text of a connection acknowledges, as its sender reads it.
use Rattle.std.specs.Prelude.{◌≡◌, ℕ, ◌+◌, Bool, ◌&&◌, if◌then◌else◌, List, [], ◌∷◌, ◌++◌, map, flat_map, Option, codes}
use Rattle.std.specs.List.{All}
use Rattle.event_form.specs.declared.event.Entry.{Entry}
use Rattle.event_form.specs.declared.talk.Talk.{Talk}
use Rattle.edge_io.specs.declared.proto.Proto.{Proto}
use Rattle.edge_io.specs.declared.proto.Proto.TheVariants.{Relp, Lumberjack, Hec}
use Rattle.relp_frame.specs.declared.frame.Frame.{Frame}
use Rattle.relp_frame.specs.Spelling.{IsSpelling}
use Rattle.relp_session.specs.Request.{is_word}
use Rattle.lumber_frame.specs.declared.frame.LumberFrame.TheVariants.{Ack}
use Rattle.lumber_frame.specs.declared.side.Side.TheVariants.{Sender}
use Rattle.lumber_frame.specs.Spelling.{Spells, ack_text}
use Rattle.stream_grammar.specs.Framing.{AreSpelled}
use Rattle.desk_access.specs.Call.{Call}
use Rattle.desk_access.specs.Carried.{Carried}
use Rattle.desk_access.specs.Groups.{Group, HasEntries, groups_of}
use Rattle.conn_serve.specs.Lumber.{lumberjack}
use Rattle.conn_serve.specs.Serves.{CarriedAs}
use Rattle.conn_serve.specs.Terms.{Terms}
use Rattle.conn_serve.specs.Groups.{units}

-- an answer of RELP that says that an event is durable: a `rsp` frame whose data is 200 OK
abbrev pub is_success : Frame → Bool
is_success f = is_word (codes "rsp") f.command && is_word (codes "200 OK") f.body

-- the transaction numbers that are answered so, in order
abbrev pub successes : List Frame → List ℕ
successes [] = []
successes (f ∷ fs) = if is_success f then f.txnr ∷ successes fs else successes fs

-- The whole frames at the front of the text acknowledge these numbers, in order.
abbrev pub Acknowledges : Proto → List ℕ → List ℕ → Type 0
-- the transaction numbers to which an answer says 200 OK
Acknowledges Relp text numbers =
    (answers : List Frame) × (front : List ℕ) × (rest : List ℕ) × AreSpelled IsSpelling answers front × (text ≡ front ++ rest)
    × (numbers ≡ successes answers)
-- the sequence numbers of A frames
Acknowledges Lumberjack text numbers =
    (front : List ℕ) × (rest : List ℕ) × AreSpelled (Spells Sender) (map (λ seq. Ack seq) numbers) front × (text ≡ front ++ rest)
-- the collector's replies name no groups by a number of theirs
Acknowledges Hec text numbers = ⊥

-- each entry as a group of its own, with its number
abbrev pub singles_from : ℕ → List Entry → List Group
singles_from first [] = []
singles_from first (e ∷ entries) = record { first = first; entries = e ∷ [] } ∷ singles_from (first + 1) entries

-- What the sender of a connection knows by one number each, of what these calls took, in order: each entry by RELP, and else each group.
abbrev pub acked_by : Proto → List Call → List Group
acked_by Relp calls = flat_map (λ (group : Group). singles_from group.first group.entries) (groups_of calls)
acked_by proto calls = groups_of calls

-- The numbers are those of the first that these calls took: by RELP of the first entries, and else of the first groups. They are as many,
-- in order.
pub record AreOfFirst (proto : Proto) (calls : List Call) (numbers : List ℕ) : Type 0 where
  pub groups : List Group
  pub more : List Group
  pub taken : acked_by proto calls ≡ groups ++ more
  pub some : All HasEntries groups
  pub own : numbers ≡ units groups

-- Whatever numbers the text of a connection acknowledges, they are those of the first entries or groups that were taken.
abbrev pub AckedIsTaken : Type 0
AckedIsTaken =
    (proto : Proto) (terms : Terms) (conn : ℕ) (left : Option (List ℕ)) (b : List ℕ) (calls : List Call) (text : List ℕ) (talk : Talk)
    → CarriedAs proto terms conn left b calls text talk
    → (numbers : List ℕ) → Acknowledges proto text numbers → AreOfFirst proto calls numbers

-- acknowledgments of Lumberjack for these numbers, one after another
abbrev pub acks_of : List ℕ → List ℕ
acks_of numbers = flat_map (λ seq. ack_text seq) numbers

-- The text of a Lumberjack connection is the acknowledgments of the groups that were taken, in order, one each, but the
-- last one perhaps in part or not at all.
abbrev pub AcksAreOfGroups : Type 0
AcksAreOfGroups =
    (conn : ℕ) (left : Option (List ℕ)) (b : List ℕ) (calls : List Call) (text : List ℕ) (talk : Talk)
    → Carried (lumberjack conn) left b calls text talk
    → (behind : List ℕ) × All HasEntries (groups_of calls) × (text ++ behind ≡ acks_of (units (groups_of calls)))
