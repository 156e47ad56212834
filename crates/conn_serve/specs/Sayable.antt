-- What a text acknowledges that a connection may write once these calls were made.
use Rattle.std.specs.Prelude.{◌≡◌, ℕ, List, []}
use Rattle.std.specs.List.{Contains}
use Rattle.edge_io.specs.declared.proto.Proto.{Proto}
use Rattle.hec_session.specs.declared.tokens.Tokens.{Tokens}
use Rattle.desk_access.specs.Call.{Call, Record, AreBy}
use Rattle.desk_access.specs.Carried.{Carried}
use Rattle.desk_access.specs.Desk.{DeskState, Goes}
use Rattle.desk_access.specs.Groups.{Group, IsOfId, groups_of}
use Rattle.desk_access.specs.Settled.{AllSettleStored}
use Rattle.conn_serve.specs.Acked.{Acknowledges, AreOfFirst}
use Rattle.conn_serve.specs.Hec.{hec}
use Rattle.conn_serve.specs.HecAcked.{AcknowledgesGroup, TellsTrue}
use Rattle.conn_serve.specs.Numbering.{AreOfConn}
use Rattle.conn_serve.specs.Says.{HasCarried}
use Rattle.conn_serve.specs.Serves.{CarriedAs}
use Rattle.conn_serve.specs.Terms.{Terms}

-- The numbers that it acknowledges are those of the first entries or groups that were taken.
abbrev pub SayableIsTaken : Type 0
SayableIsTaken =
    (proto : Proto) (terms : Terms) (conn : ℕ) (b : List ℕ) (calls : List Call) (text : List ℕ)
    → HasCarried (CarriedAs proto terms conn) b calls text
    → (numbers : List ℕ) → Acknowledges proto text numbers → AreOfFirst proto calls numbers

-- A group that a collector's reply in it acknowledges without an id was taken.
abbrev pub SayableGroupIsTaken : Type 0
SayableGroupIsTaken =
    (tokens : Tokens) (conn : ℕ) (b : List ℕ) (calls : List Call) (text : List ℕ)
    (has : HasCarried (Carried (hec tokens conn)) b calls text)
    → (group : Group) → AcknowledgesGroup has.carried group → Contains (groups_of calls) group

-- Where the connection is the only caller of a desk, whose table held no id as it began: an id that a collector's answer in it tells
-- true is that of a group that was taken.
abbrev pub SayableIdIsTaken : Type 0
SayableIdIsTaken =
    (tokens : Tokens) (conn : ℕ) (b : List ℕ) (calls : List Call) (text : List ℕ)
    (has : HasCarried (Carried (hec tokens conn)) b calls text)
    → (x z : DeskState) (number : ℕ) (records : List Record) → x.ids.held ≡ [] → Goes x records z → AreBy number calls records
    → (channel id : ℕ) → TellsTrue has.carried channel id → (group : Group) × Contains (groups_of calls) group × IsOfId id group

-- The collector has settled each id after its entries were taken.
abbrev pub SayableIsSettled : Type 0
SayableIsSettled =
    (tokens : Tokens) (conn : ℕ) (b : List ℕ) (calls : List Call) (text : List ℕ)
    → HasCarried (Carried (hec tokens conn)) b calls text → AllSettleStored [] calls

-- The calls take entries of the connection's number alone, with indexes from 0 on.
abbrev pub SayableIsOfConn : Type 0
SayableIsOfConn =
    (proto : Proto) (terms : Terms) (conn : ℕ) (b : List ℕ) (calls : List Call) (text : List ℕ)
    → HasCarried (CarriedAs proto terms conn) b calls text → AreOfConn conn 0 calls
