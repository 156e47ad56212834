-- What the ending of a connection says of the calls on the desk that were answered that the disk failed.
use Rattle.std.specs.Prelude.{◌≡◌, ◌⊎◌, ℕ, List, Option}
use Rattle.event_form.specs.declared.talk.Talk.{Talk}
use Rattle.event_form.specs.declared.talk.Talk.TheVariants.{DiskFault, WriteFault}
use Rattle.edge_io.specs.declared.proto.Proto.{Proto}
use Rattle.edge_io.specs.declared.proto.Proto.TheVariants.{Hec}
use Rattle.desk_access.specs.Call.{Call, failures_of}
use Rattle.conn_serve.specs.Serves.{CarriedAs}
use Rattle.conn_serve.specs.Terms.{Terms}

-- So many calls were answered that the disk failed: one where the connection ended so, and else none. Where it ended
-- since a reply was cut short, the collector may have made one such call: the reply was to say so.
pub record TellsFailures (proto : Proto) (failures : ℕ) (talk : Talk) : Type 0 where
  pub cause : talk ≡ DiskFault → failures ≡ 1
  pub quiet : (talk ≡ DiskFault → ⊥) → (failures ≡ 0) ⊎ ((proto ≡ Hec) × (talk ≡ WriteFault) × (failures ≡ 1))

-- Whatever a connection has carried, its ending says that.
abbrev pub DiskFaultIsTold : Type 0
DiskFaultIsTold =
    (proto : Proto) (terms : Terms) (conn : ℕ) (left : Option (List ℕ)) (b : List ℕ) (calls : List Call) (text : List ℕ) (talk : Talk)
    → CarriedAs proto terms conn left b calls text talk
    → TellsFailures proto (failures_of calls) talk
