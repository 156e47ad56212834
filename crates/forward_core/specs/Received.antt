-- What a peer has received.
use Rattle.std.specs.Prelude.{ℕ, List}
use Rattle.desk_access.specs.Call.{Call}
use Rattle.forward_core.specs.Acknowledged.{IsAcknowledged}
use Rattle.forward_core.specs.Protocols.{EndsAs, settings_as}
use Rattle.forward_core.specs.declared.outward.Outward.{Outward}

-- The peer that is spoken to so has received the entry of that number: of the entries that the calls of a session read, it acknowledged
-- this one or one after it, by the bytes and the text that were exchanged with it. Where the session starts and which calls it made is
-- so on the desk.
pub record IsReceived (outward : Outward) (Exchanged : List ℕ → List ℕ → Type 0) (Made : ℕ → List Call → Type 0) (n : ℕ) : Type 0 where
  pub start : ℕ
  pub until : ℕ
  pub bytes : List ℕ
  pub calls : List Call
  pub text : List ℕ
  pub exchanged : Exchanged bytes text
  pub made : Made start calls
  pub acknowledged : IsAcknowledged (EndsAs (settings_as outward) outward.proto) start until bytes calls text n
