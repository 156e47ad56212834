-- What a connection has done from its first byte to its ending.
use Rattle.std.specs.Prelude.{◌≡◌, ℕ, List, Option}
use Rattle.std.specs.Io.KnownBytes.{Appends, Consumes}
use Rattle.event_form.specs.declared.talk.Talk.{Talk}
use Rattle.event_form.specs.declared.talk.Attended.{Attended}
use Rattle.edge_io.specs.declared.proto.Proto.{Proto}
use Rattle.edge_io.specs.declared.proto.Proto.TheVariants.{Relp, Lumberjack, Hec}
use Rattle.desk_access.specs.Call.{Call}
use Rattle.desk_access.specs.Step.{count}
use Rattle.desk_access.specs.Carried.{Carried}
use Rattle.conn_serve.specs.declared.rules.Rules.{Rules}
use Rattle.conn_serve.specs.Done.{AreBytes}
use Rattle.conn_serve.specs.Runs.{relp_runs}
use Rattle.conn_serve.specs.Lumber.{lumberjack}
use Rattle.conn_serve.specs.Hec.{hec}
use Rattle.conn_serve.specs.Terms.{Terms, terms_of}

-- what was carried, by the protocol and the terms: RELP stores so many events as one group at most, and the collector judges requests by
-- its tokens
abbrev pub CarriedAs : Proto → Terms → ℕ → Option (List ℕ) → List ℕ → List Call → List ℕ → Talk → Type 0
CarriedAs Relp terms conn left b calls text talk = Carried (relp_runs terms.most conn) left b calls text talk
CarriedAs Lumberjack terms conn left b calls text talk = Carried (lumberjack conn) left b calls text talk
CarriedAs Hec terms conn left b calls text talk = Carried (hec terms.tokens conn) left b calls text talk

-- what was carried by these rules
abbrev pub CarriedBy : Rules → ℕ → Option (List ℕ) → List ℕ → List Call → List ℕ → Talk → Type 0
CarriedBy rules = CarriedAs rules.proto (terms_of rules)

-- Some bytes were read, each a number below 256, calls made on the desk and a text written, and of these this was
-- carried: of what is left of the input too, so that an ending at its end says that it was read to there. The entries
-- that were taken are counted.
pub record Serves (Is : Option (List ℕ) → List ℕ → List Call → List ℕ → Talk → Type 0) (given given' left left' written written' : Option (List ℕ))
    (ran : List Call → Type 0) (attended : Attended) : Type 0 where
  pub bytes : List ℕ
  pub calls : List Call
  pub text : List ℕ
  pub read : Appends given given' bytes
  pub consumed : Consumes left left' bytes
  pub are_bytes : AreBytes bytes
  pub wrote : Appends written written' text
  pub made : ran calls
  pub counted : attended.taken ≡ count calls
  pub carried : Is left' bytes calls text attended.talk
