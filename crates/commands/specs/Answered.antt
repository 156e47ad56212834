-- What `replay` may write, and when.
use Rattle.std.specs.Prelude.{ℕ, ◌++◌, List, Option}
use Rattle.std.specs.Io.KnownBytes.{Appends}
use Rattle.edge_io.specs.Told.{MayFollow}
use Rattle.edge_disk.specs.Disk.{Moment}
use Rattle.desk_access.specs.Call.{Call}
use Rattle.desk_access.specs.Durable.{IsIdTakenDurably}
use Rattle.conn_serve.specs.Acked.{Acknowledges}
use Rattle.conn_serve.specs.Durable.{AckedIsDurable, AnswersAreDurable}
use Rattle.conn_serve.specs.declared.rules.Rules.{Rules}
use Rattle.conn_serve.specs.Says.{HasCarried}
use Rattle.conn_serve.specs.Serves.{CarriedBy}
use Rattle.conn_serve.specs.Terms.{terms_of}
use Rattle.commands.specs.Replayed.{IsStored, KeepsFrom}
use Rattle.commands.specs.SpoolRun.{SpoolRun}

-- Whatever the text acknowledges, of what was read in these bytes, is durable now. A connection by these rules goes so that ends here: it
-- has read these bytes, made these calls and written this text. The calls were made on the spool that the device stood for before, once
-- its run was raised by one, and led to what the device holds now. By RELP and Lumberjack it is the numbers in the text that are
-- acknowledged, and by the collector its replies, of which one that tells an id true means that these calls took a group of that id.
pub record IsDurable (tells : Type 0) (before now : Moment) (rules : Rules) (bytes text : List ℕ) : Type 0 where
  pub conn : ℕ
  pub calls : List Call
  pub carried : HasCarried (CarriedBy rules conn) bytes calls text
  pub stored : tells → IsStored before now conn calls
  pub acknowledged : (numbers : List ℕ) → tells → Acknowledges rules.proto text numbers → AckedIsDurable rules.proto calls now numbers
  pub answered : tells → AnswersAreDurable rules.proto (terms_of rules) conn carried.left bytes (calls ++ carried.late) text carried.talk
      carried.carried now (λ channel id. IsIdTakenDurably calls now id)

-- These bytes were read from the input, or the link, since it was the old one.
abbrev pub WasRead : {S : Type 0} → (S → S → Type 0) → (S → Option (List ℕ)) → S → List ℕ → Type 0
WasRead {S} same given old bytes = (now : S) × same old now × Appends (given old) (given now) bytes

-- The output, or the link, may have taken this text since it was the old one: so it permits, whatever it has become.
abbrev pub MayTake : {K : Type 0} → (K → K → Type 0) → (K → Option (List ℕ)) → (K → List ℕ → Type 0) → K → List ℕ → Type 0
MayTake {K} same taken permits old text = (now : K) → same old now → MayFollow (permits now) (taken old) text

-- Once these bytes were read a text may be written, if all that it acknowledges of them is durable on the disk as it is then. `given` is
-- the disk as it was before it was opened.
abbrev pub MayReplay : {D : Type 0} → Type 0 → (D → Moment) → D → Rules → (List ℕ → Type 0) → (List ℕ → Type 0) → Type 0
MayReplay {D} tells moment given rules Read Take =
    (disk : D) (bytes text : List ℕ) → Read bytes → IsDurable tells (moment given) (moment disk) rules bytes text → Take text

-- The same over a spool that is open, as it is then, for the connection of this number.
abbrev pub MayServe : {D : Type 0} → (D → SpoolRun) → ℕ → Rules → (List ℕ → Type 0) → (List ℕ → Type 0) → Type 0
MayServe {D} spool conn rules Read Take =
    (disk : D) (bytes : List ℕ) (calls : List Call) (text : List ℕ) → Read bytes → KeepsFrom (spool disk) calls
    → HasCarried (CarriedBy rules conn) bytes calls text → Take text
