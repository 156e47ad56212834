-- What the replies of a collector's connection acknowledge, by the steps that wrote them.
use Rattle.std.specs.Prelude.{◌≡◌, ◌⊎◌, ℕ, ◌<◌, Bool, true, false, List, [], ◌∷◌, ◌++◌, length, get_or, Option, None}
use Rattle.std.specs.List.{Contains}
use Rattle.event_form.specs.declared.talk.Talk.{Talk}
use Rattle.event_form.specs.declared.talk.Talk.TheVariants.{Closed}
use Rattle.http_edge.specs.declared.request.HttpItem.{HttpItem}
use Rattle.hec_session.specs.declared.tokens.Tokens.{Tokens}
use Rattle.desk_access.specs.Call.{Call, asks, Record, AreBy}
use Rattle.desk_access.specs.Carried.{Carried}
use Rattle.desk_access.specs.Desk.{DeskState, Goes}
use Rattle.desk_access.specs.Groups.{Group, IsOfId, groups_of}
use Rattle.desk_access.specs.Protocol.{Protocol}
use Rattle.desk_access.specs.Settled.{AllSettleStored}
use Rattle.desk_access.specs.Step.{Step}
use Rattle.conn_serve.specs.Hec.{hec, success, answers}

-- These calls were made for an item, and this text, which lies whole in that of the connection, was said for it: as a
-- step of the connection, or for the request that closed it.
abbrev pub IsSaid : {p : Protocol HttpItem} {left : Option (List ℕ)} {b : List ℕ} {calls : List Call} {text : List ℕ} {talk : Talk}
    → Carried p left b calls text talk → List Call → List ℕ → Type 0
IsSaid {talk = talk} carried made said =
    ((s : Step HttpItem) × Contains carried.steps s × (made ≡ s.calls) × (said ≡ s.text))
    ⊎ ((talk ≡ Closed) × (made ≡ carried.late) × (said ≡ carried.part))

-- Success without an id acknowledges the group that was taken for it
abbrev pub SaysStored : List Call → List ℕ → Group → Type 0
SaysStored made said group = (closing : Bool) × (groups_of made ≡ group ∷ []) × (said ≡ success None closing)

-- an answer to a query of the channel tells the id true
abbrev pub SaysSettled : List Call → List ℕ → ℕ → ℕ → Type 0
SaysSettled made said channel id =
    (ids : List ℕ) × (known : List Bool) × (closing : Bool) × (k : ℕ) × (made ≡ asks channel ids known ∷ []) × (said ≡ answers ids known closing)
    × (k < length ids) × (get_or ids k 0 ≡ id) × (get_or known k false ≡ true)

-- A reply that acknowledges this group lies whole in the text of the connection.
abbrev pub AcknowledgesGroup : {p : Protocol HttpItem} {left : Option (List ℕ)} {b : List ℕ} {calls : List Call} {text : List ℕ} {talk : Talk}
    → Carried p left b calls text talk → Group → Type 0
AcknowledgesGroup carried group = (made : List Call) × (said : List ℕ) × IsSaid carried made said × SaysStored made said group

-- A reply that tells this id of the channel true does.
abbrev pub TellsTrue : {p : Protocol HttpItem} {left : Option (List ℕ)} {b : List ℕ} {calls : List Call} {text : List ℕ} {talk : Talk}
    → Carried p left b calls text talk → ℕ → ℕ → Type 0
TellsTrue carried channel id = (made : List Call) × (said : List ℕ) × IsSaid carried made said × SaysSettled made said channel id

-- The calls lie together in those of the connection, and the text in its text.
pub record LiesWhole (calls made : List Call) (text said : List ℕ) : Type 0 where
  pub first : List Call
  pub more : List Call
  pub before : List ℕ
  pub after : List ℕ
  pub calls_are : calls ≡ first ++ (made ++ more)
  pub text_is : text ≡ before ++ (said ++ after)

-- ---- what follows

-- What is said for an item lies whole in the text, and the calls for it lie together in the calls.
abbrev pub SaidLiesWhole : Type 0
SaidLiesWhole =
    (tokens : Tokens) (conn : ℕ) (left : Option (List ℕ)) (b : List ℕ) (calls : List Call) (text : List ℕ) (talk : Talk)
    (carried : Carried (hec tokens conn) left b calls text talk)
    → (made : List Call) (said : List ℕ) → IsSaid carried made said → LiesWhole calls made text said

-- A group that is acknowledged without an id was taken.
abbrev pub AcknowledgedIsTaken : Type 0
AcknowledgedIsTaken =
    (tokens : Tokens) (conn : ℕ) (left : Option (List ℕ)) (b : List ℕ) (calls : List Call) (text : List ℕ) (talk : Talk)
    (carried : Carried (hec tokens conn) left b calls text talk)
    → (group : Group) → AcknowledgesGroup carried group → Contains (groups_of calls) group

-- Each id is settled after its entries were taken.
abbrev pub SettledIsStored : Type 0
SettledIsStored =
    (tokens : Tokens) (conn : ℕ) (left : Option (List ℕ)) (b : List ℕ) (calls : List Call) (text : List ℕ) (talk : Talk)
    → Carried (hec tokens conn) left b calls text talk → AllSettleStored [] calls

-- Where the connection is the only caller of a desk, whose table held no id as it began: an id that is told true is that
-- of a group that was taken.
abbrev pub ToldIsTaken : Type 0
ToldIsTaken =
    (tokens : Tokens) (conn : ℕ) (left : Option (List ℕ)) (b : List ℕ) (calls : List Call) (text : List ℕ) (talk : Talk)
    (carried : Carried (hec tokens conn) left b calls text talk)
    → (x z : DeskState) (number : ℕ) (records : List Record) → x.ids.held ≡ [] → Goes x records z → AreBy number calls records
    → (channel id : ℕ) → TellsTrue carried channel id → (group : Group) × Contains (groups_of calls) group × IsOfId id group
