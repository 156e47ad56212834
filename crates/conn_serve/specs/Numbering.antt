-- Of which connection the entries are that the calls of a connection ask the desk to take.
use Rattle.std.specs.Prelude.{ℕ, ◌+◌, List, [], ◌∷◌, length, Option}
use Rattle.event_form.specs.declared.talk.Talk.{Talk}
use Rattle.edge_io.specs.declared.proto.Proto.{Proto}
use Rattle.desk_access.specs.Batch.{AreNext}
use Rattle.desk_access.specs.Call.{Call, takes, taken_by}
use Rattle.conn_serve.specs.Serves.{CarriedAs}
use Rattle.conn_serve.specs.Terms.{Terms}

-- The group of a take, whatever its answer, is of that connection, and its indexes go on from this one.
abbrev pub IsOfConn : ℕ → ℕ → Call → Type 0
IsOfConn conn index (takes group result) = AreNext conn index group
IsOfConn conn index _ = Unit {0}

-- So is each of these calls, where the index counts the entries that were taken before it.
abbrev pub AreOfConn : ℕ → ℕ → List Call → Type 0
AreOfConn conn index [] = Unit {0}
AreOfConn conn index (call ∷ calls) = IsOfConn conn index call × AreOfConn conn (index + length (taken_by call)) calls

-- Whatever a connection has carried, its calls take entries of its number alone, with indexes from 0 on.
abbrev pub CallsAreOfConn : Type 0
CallsAreOfConn =
    (proto : Proto) (terms : Terms) (conn : ℕ) (left : Option (List ℕ)) (b : List ℕ) (calls : List Call) (text : List ℕ) (talk : Talk)
    → CarriedAs proto terms conn left b calls text talk
    → AreOfConn conn 0 calls
