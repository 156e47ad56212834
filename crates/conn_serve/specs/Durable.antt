-- What the sender of a connection may rely on once it has read an acknowledgment.
use Rattle.std.specs.Prelude.{◌≡◌, ℕ, ◌^◌, ◌≤◌, List, [], ◌∷◌, ◌++◌, Option}
use Rattle.std.specs.List.{Contains}
use Rattle.event_form.specs.declared.event.Entry.{Entry}
use Rattle.event_form.specs.declared.talk.Talk.{Talk}
use Rattle.edge_io.specs.declared.proto.Proto.{Proto}
use Rattle.edge_io.specs.declared.proto.Proto.TheVariants.{Relp, Lumberjack, Hec}
use Rattle.edge_disk.specs.Disk.{Moment}
use Rattle.desk_access.specs.Call.{Call, Record, calls_of, own_of}
use Rattle.desk_access.specs.Durable.{AreDurable, IsTakenDurably, IsToldTrue}
use Rattle.desk_access.specs.Groups.{Group, IsOfId, groups_of}
use Rattle.desk_access.specs.History.{AddsAll}
use Rattle.desk_access.specs.Legal.{of_unit}
use Rattle.conn_serve.specs.Acked.{AreOfFirst}
use Rattle.conn_serve.specs.HecAcked.{AcknowledgesGroup, TellsTrue}
use Rattle.conn_serve.specs.Serves.{CarriedAs}
use Rattle.conn_serve.specs.Terms.{Terms}

-- The numbers that were acknowledged are those of the first that the calls took, one for each, in order: by RELP of entries, and else of
-- groups; and these are durable.
pub record AckedIsDurable (proto : Proto) (calls : List Call) (now : Moment) (numbers : List ℕ) : Type 0 where
  pub taken : AreOfFirst proto calls numbers
  pub durable : AreDurable now taken.groups

-- What a connection's answers acknowledged beside numbers. By the collector's protocol the group of a Success without an id, which the
-- connection's calls took, is durable; and so it is, as `TrueMeans` says, of each id of a channel for which an answer said true. That is
-- no one thing, since the id's group may have been taken by another connection, where there are others. The other protocols acknowledge by
-- numbers alone.
abbrev pub AnswersAreDurable : (proto : Proto) (terms : Terms) (conn : ℕ) (left : Option (List ℕ)) (b : List ℕ) (calls : List Call)
    (text : List ℕ) (talk : Talk) → CarriedAs proto terms conn left b calls text talk → Moment → (ℕ → ℕ → Type 0) → Type 0
AnswersAreDurable Relp terms conn left b calls text talk carried now TrueMeans = Unit {0}
AnswersAreDurable Lumberjack terms conn left b calls text talk carried now TrueMeans = Unit {0}
AnswersAreDurable Hec terms conn left b calls text talk carried now TrueMeans =
    ((group : Group) → AcknowledgesGroup carried group → IsTakenDurably calls now group)
    × ((channel id : ℕ) → TellsTrue carried channel id → TrueMeans channel id)

-- The caller of that number asked about the id and was answered true. Before that question some caller, itself or another, had taken
-- the id's group, and it is durable now. Where the id is a number from 2^32 on, that group is all that the journal added with the id.
pub record IsToldDurably (log : List Record) (number : ℕ) (now : Moment) (channel id : ℕ) : Type 0 where
  pub before : List Record
  pub question : Record
  pub after : List Record
  pub parts : log ≡ before ++ question ∷ after
  pub by : question.by ≡ number
  pub told : IsToldTrue channel id question.call
  pub taker : ℕ
  pub group : Group
  pub of_id : IsOfId id group
  pub taken : Contains (groups_of (own_of taker before)) group
  pub durable : AreDurable now (group ∷ [])
  pub whole : 2 ^ 32 ≤ id → (added : List Entry) → AddsAll (calls_of log) added → of_unit id added ≡ group.entries
