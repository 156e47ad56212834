-- Each request has something to be done for it.
use Rattle.std.proofs.Common.{◌≡◌, ◌⊎◌, inl, inr, ℕ, List, refl, sym, ap, subst}
use Rattle.std.specs.Prelude.{map, Some, None, Result, Ok, Err}
use Rattle.body_faults.specs.declared.fault.BodyFault.{BodyFault}
use Rattle.body_faults.specs.declared.fault.BodyFault.TheVariants.{NoData, Format, NoEvent, Blank, TooMany, NoMemory}
use Rattle.hec_body.specs.Acks.{AsksFor}
use Rattle.hec_session.specs.declared.act.HecAct.{HecAct}
use Rattle.hec_session.specs.declared.act.HecAct.TheVariants.{StoreThenSay, SayThenStore, Ask, Say}
use Rattle.hec_session.specs.declared.code.HecCode.{HecCode}
use Rattle.hec_session.specs.declared.code.HecCode.TheVariants.{EmptyBody, InvalidFormat, EventRequired, EventBlank}
use Rattle.hec_session.specs.declared.endpoint.Form.{Form}
use Rattle.hec_session.specs.declared.endpoint.Form.TheVariants.{Objects, Raw}
use Rattle.hec_session.specs.declared.say.HecSay.{HecSay}
use Rattle.hec_session.specs.declared.task.Task.{Task}
use Rattle.hec_session.specs.declared.task.Task.TheVariants.{Store, StoreOn, AskOn}
use Rattle.hec_session.specs.Acts.{AsksOn, IsActFor, IsCutBy, Stores, StoresOn, Tells, event_of}
use Rattle.hec_session.specs.Checks.{task_of}
use Rattle.hec_session.specs.Codes.{say_of}
use Rattle.collector_laws.specs.Outcomes.{Asked, Does, HasCut, Outcome, Said, SomeAct, Stored, StoredOn}
use Rattle.collector_laws.proofs.SomeCuts.{some_cut}
use Rattle.collector_laws.proofs.SomeLines.{query_or_not, some_line_cut}

cut_by : (form : Form) (body : List ℕ) → HasCut (IsCutBy form) body
cut_by Objects body = some_cut body
cut_by Raw body = some_line_cut body

-- how a fault is told
told : (f : BodyFault) → (f ≡ NoMemory → ⊥) → (say : HecSay) × Tells f say
told NoData not = (say_of EmptyBody None, refl)
told (Format n) not = (say_of InvalidFormat (Some n), refl)
told (NoEvent n) not = (say_of EventRequired (Some n), refl)
told (Blank n) not = (say_of EventBlank (Some n), refl)
told TooMany not = (say_of InvalidFormat (Some 10000), refl)
told NoMemory not = absurd (not refl)

-- ---- by the task

abbrev HasOutcome : (HecAct → Type 0) → Type 0
HasOutcome Is = (outcome : Outcome) × ((act : HecAct) → Does act outcome → Is act)

module _ (form : Form) (body : List ℕ) where
  pub stored : (texts : List (List ℕ)) → IsCutBy form body (Ok texts) → (act : HecAct) → Does act (Stored (map (event_of form) texts)) → Stores form body act
  stored texts cut (StoreThenSay events) does = (texts, cut, does)
  stored texts cut (SayThenStore channel events) does = absurd does
  stored texts cut (Ask channel ids) does = absurd does
  stored texts cut (Say say) does = absurd does

  refused : (f : BodyFault) (say : HecSay) → IsCutBy form body (Err f) → Tells f say → (act : HecAct) → Does act (Said say) → Stores form body act
  refused f say cut tells (StoreThenSay events) does = absurd does
  refused f say cut tells (SayThenStore channel events) does = absurd does
  refused f say cut tells (Ask channel ids) does = absurd does
  refused f say cut tells (Say other) does = (f, cut, subst (Tells f) (sym does) tells)

  store_by : HasCut (IsCutBy form) body → HasOutcome (Stores form body)
  store_by (Ok texts, cut, not) = (Stored (map (event_of form) texts), stored texts cut)
  store_by (Err f, cut, not) = let t = told f (λ e. not (ap Err e)) in (Said t.0, refused f t.0 cut t.1)

  module _ (on : ℕ) where
    pub stored_on : (texts : List (List ℕ)) → IsCutBy form body (Ok texts) → (act : HecAct) → Does act (StoredOn on (map (event_of form) texts)) → StoresOn form on body act
    stored_on texts cut (StoreThenSay events) does = absurd does
    stored_on texts cut (SayThenStore channel events) does = (does.0, (texts, cut, does.1))
    stored_on texts cut (Ask channel ids) does = absurd does
    stored_on texts cut (Say say) does = absurd does

    refused_on : (f : BodyFault) (say : HecSay) → IsCutBy form body (Err f) → Tells f say → (act : HecAct) → Does act (Said say) → StoresOn form on body act
    refused_on f say cut tells (StoreThenSay events) does = absurd does
    refused_on f say cut tells (SayThenStore channel events) does = absurd does
    refused_on f say cut tells (Ask channel ids) does = absurd does
    refused_on f say cut tells (Say other) does = (f, cut, subst (Tells f) (sym does) tells)

    store_on_by : HasCut (IsCutBy form) body → HasOutcome (StoresOn form on body)
    store_on_by (Ok texts, cut, not) = (StoredOn on (map (event_of form) texts), stored_on texts cut)
    store_on_by (Err f, cut, not) = let t = told f (λ e. not (ap Err e)) in (Said t.0, refused_on f t.0 cut t.1)

module _ (on : ℕ) (body : List ℕ) where
  pub asked : (ids : List ℕ) → AsksFor body ids → (act : HecAct) → Does act (Asked on ids) → AsksOn on body act
  asked ids asks (StoreThenSay events) does = absurd does
  asked ids asks (SayThenStore channel events) does = absurd does
  asked ids asks (Ask channel them) does = (does.0, subst (AsksFor body) (sym does.1) asks)
  asked ids asks (Say say) does = absurd does

  not_asked : ((ids : List ℕ) → ¬ AsksFor body ids) → (act : HecAct) → Does act (Said (say_of InvalidFormat None)) → AsksOn on body act
  not_asked never (StoreThenSay events) does = absurd does
  not_asked never (SayThenStore channel events) does = absurd does
  not_asked never (Ask channel them) does = absurd does
  not_asked never (Say say) does = (never, does)

  ask_by : ((ids : List ℕ) × AsksFor body ids) ⊎ ((ids : List ℕ) → ¬ AsksFor body ids) → HasOutcome (AsksOn on body)
  ask_by (inl (ids, asks)) = (Asked on ids, asked ids asks)
  ask_by (inr never) = (Said (say_of InvalidFormat None), not_asked never)

said : (code : HecCode) (act : HecAct) → Does act (Said (say_of code None)) → act ≡ Say (say_of code None)
said code (StoreThenSay events) does = absurd does
said code (SayThenStore channel events) does = absurd does
said code (Ask channel ids) does = absurd does
said code (Say say) does = ap Say does

act_for : (body : List ℕ) (task : Result Task HecCode) → HasOutcome (IsActFor body task)
act_for body (Ok (Store form)) = store_by form body (cut_by form body)
act_for body (Ok (StoreOn form on)) = store_on_by form body on (cut_by form body)
act_for body (Ok (AskOn on)) = ask_by on body (query_or_not body)
act_for body (Err code) = (Said (say_of code None), said code)

pub some_act : SomeAct
some_act tokens r = act_for r.body (task_of tokens r)
