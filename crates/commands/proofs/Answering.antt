-- What a text acknowledges is durable as it is written.
use Rattle.std.proofs.Common.{◌≡◌, ◌∙◌, ◌∷◌, ◌++◌, ℕ, List, [], flat_map, refl, sym, ap}
use Rattle.std.specs.Prelude.{All}
use Rattle.edge_io.specs.declared.proto.Proto.{Proto}
use Rattle.edge_io.specs.declared.proto.Proto.TheVariants.{Relp, Lumberjack, Hec}
use Rattle.edge_disk.specs.Disk.{Moment}
use Rattle.spool_log.specs.declared.opening.Opening.TheVariants.{Raise}
use Rattle.spool_log.specs.Opening.{opened}
use Rattle.desk_access.specs.Call.{Call, asks}
use Rattle.desk_access.specs.Carried.{Carried}
use Rattle.desk_access.specs.Durable.{IsIdTakenDurably, KeepsCalls}
use Rattle.desk_access.specs.Groups.{Group}
use Rattle.desk_access.specs.Settled.{AllSettleStored}
use Rattle.desk_access.proofs.Durable.{one_durable}
use Rattle.conn_serve.specs.declared.rules.Rules.{Rules}
use Rattle.conn_serve.specs.Acked.{Acknowledges, acked_by, singles_from}
use Rattle.conn_serve.specs.Durable.{AckedIsDurable, AnswersAreDurable}
use Rattle.conn_serve.specs.Hec.{hec}
use Rattle.conn_serve.specs.HecAcked.{TellsTrue}
use Rattle.conn_serve.specs.Says.{HasCarried, PromisesNothing}
use Rattle.conn_serve.specs.Serves.{CarriedAs, CarriedBy}
use Rattle.conn_serve.specs.Terms.{Terms, terms_of}
use Rattle.conn_serve.proofs.Durable.{acked_durably, stored_durably}
use Rattle.conn_serve.proofs.HecAcks.{said_lies_whole, settle_first, settled_is_stored, told_among}
use Rattle.conn_serve.proofs.Late.{asks_late, groups_late, kept_late}
use Rattle.bridge_parts.specs.Opened.{desk_in}
use Rattle.commands.specs.Answered.{IsDurable}
use Rattle.commands.specs.Replayed.{IsStored}
use Rattle.commands.proofs.Durable.{keeps_calls}

-- calls that promise nothing take nothing that a sender could know
acked_late : (proto : Proto) (calls late : List Call) → All PromisesNothing late → acked_by proto (calls ++ late) ≡ acked_by proto calls
acked_late Relp calls late nothing = ap (λ (groups : List Group). flat_map (λ (group : Group). singles_from group.first group.entries) groups) (groups_late calls late nothing)
acked_late Lumberjack calls late nothing = groups_late calls late nothing
acked_late Hec calls late nothing = groups_late calls late nothing

module _ (terms : Terms) (conn : ℕ) (b : List ℕ) (calls : List Call) (text : List ℕ) (before now : Moment) (stored : IsStored before now conn calls) where
  keeps : KeepsCalls now calls
  keeps = keeps_calls conn calls before now stored

  -- also what calls that promise nothing took besides
  keeps_all : (proto : Proto) (has : HasCarried (CarriedAs proto terms conn) b calls text) → KeepsCalls now (calls ++ has.late)
  keeps_all proto has = λ c image. let k = keeps c image in (k.0, k.1, kept_late k.0 calls has.late has.nothing k.2)

  -- the numbers in the text
  acked : (proto : Proto) → HasCarried (CarriedAs proto terms conn) b calls text → (numbers : List ℕ) → Acknowledges proto text numbers
      → AckedIsDurable proto calls now numbers
  acked proto has numbers says =
      let all = acked_durably proto terms conn has.left b (calls ++ has.late) text has.talk now numbers has.carried (keeps_all proto has) says in
      record {
        taken = record {
          groups = all.taken.groups;
          more = all.taken.more;
          taken = sym (acked_late proto calls has.late has.nothing) ∙ all.taken.taken;
          some = all.taken.some;
          own = all.taken.own;
        };
        durable = all.durable;
      }

  -- an id that a reply of the collector tells true
  told_true : (has : HasCarried (Carried (hec terms.tokens conn)) b calls text) (channel id : ℕ) → TellsTrue has.carried channel id
      → IsIdTakenDurably calls now id
  told_true has channel id (made, said, is_said, (ids, known, closing, k, asked, answered, short, is_id, told)) =
      let whole = calls ++ has.late in
      let w = said_lies_whole terms.tokens conn has.left b whole text has.talk has.carried made said is_said in
      let parts : whole ≡ w.first ++ asks channel ids known ∷ w.more = w.calls_are ∙ ap (λ (l : List Call). w.first ++ (l ++ w.more)) asked in
      let behind = asks_late calls has.late w.first w.more channel ids known has.nothing parts in
      let settled : AllSettleStored [] calls = settle_first [] calls has.late
      (settled_is_stored terms.tokens conn has.left b whole text has.talk has.carried) in
      let group = told_among calls settled (desk_in (opened Raise stored.state)) stored.reached.after 0 stored.reached.records refl
      stored.reached.goes stored.reached.by w.first behind.0 channel id ids known k behind.1 short is_id told in
      (group.0, group.2, record { taken = group.1; durable = one_durable now calls group.0 keeps group.1 })

  -- and all replies of the collector
  answers : (proto : Proto) (has : HasCarried (CarriedAs proto terms conn) b calls text)
      → AnswersAreDurable proto terms conn has.left b (calls ++ has.late) text has.talk has.carried now
      (λ channel id. IsIdTakenDurably calls now id)
  answers Relp has = tt
  answers Lumberjack has = tt
  answers Hec has = (
    stored_durably terms.tokens conn has.left b (calls ++ has.late) text has.talk now has.carried (keeps_all Hec has),
    told_true has,
  )

-- what a connection has carried, whose calls were stored
pub is_durable : (tells : Type 0) (before now : Moment) (rules : Rules) (conn : ℕ) (bytes : List ℕ) (calls : List Call) (text : List ℕ)
    → HasCarried (CarriedBy rules conn) bytes calls text → (tells → IsStored before now conn calls) → IsDurable tells before now rules bytes text
is_durable tells before now rules conn bytes calls text has stored = record {
  conn = conn;
  calls = calls;
  carried = has;
  stored = stored;
  acknowledged = λ numbers told says. acked (terms_of rules) conn bytes calls text before now (stored told) rules.proto has numbers says;
  answered = λ told. answers (terms_of rules) conn bytes calls text before now (stored told) rules.proto has;
}
