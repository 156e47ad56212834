-- The events with some texts.
use Rattle.std.proofs.Common.{◌≡◌, ◌≤◌, ◌<◌, ℕ, Result, Ok, Err, List, [], ◌∷◌, length, map, sym, ap, subst, arith}
use Rattle.std.specs.Global.{Vec}
use Rattle.std.specs.List.{All}
use Rattle.std.proofs.lemmas.List.{length-map}
use Rattle.std.proofs.lemmas.List.Elements.{All-map, All-nil, All-cons, All-head, All-tail}
use Rattle.event_form.specs.Event.{IsEvent}
use Rattle.event_form.specs.declared.event.Event.{Event}
use Rattle.event_form.specs.declared.event.Origin.TheVariants.{LumberData}
use Rattle.hec_body.specs.Limits as limits
use Rattle.hec_session.specs.declared.endpoint.Form.{Form}
use Rattle.hec_session.specs.declared.endpoint.Form.TheVariants.{Objects, Raw}
use Rattle.hec_session.specs.declared.act.HecAct.{HecAct}
use Rattle.hec_session.specs.declared.act.HecAct.TheVariants.{StoreThenSay, SayThenStore, Ask, Say}
use Rattle.hec_session.specs.declared.code.HecCode.{HecCode}
use Rattle.hec_session.specs.declared.task.Task.{Task}
use Rattle.hec_session.specs.declared.task.Task.TheVariants.{Store, StoreOn, AskOn}
use Rattle.hec_session.specs.declared.tokens.Tokens.{Tokens}
use Rattle.http_edge.specs.declared.request.HttpRequest.{HttpRequest}
use Rattle.hec_session.specs.Checks.{task_of}
use Rattle.hec_session.specs.Acts.{event_of, origin_of, AreEventsOf, AreWithinLimits, IsAct, IsActFor, count_of}

is_hec : {G : Type 0} (form : Form) → origin_of form ≡ LumberData → G
is_hec Objects e = cc
is_hec Raw e = cc

is_event : (form : Form) (text : List ℕ) → length text ≤ 131072 → IsEvent (event_of form text)
is_event form text short = record { short = short; pairs = λ e. is_hec form e }

are_events : (form : Form) (texts : List (List ℕ)) → All limits.IsShort texts → All (λ text. IsEvent (event_of form text)) texts
are_events form [] short = All-nil (λ text. IsEvent (event_of form text))
are_events form (text ∷ texts) short =
    All-cons (λ text. IsEvent (event_of form text)) text texts (is_event form text (All-head limits.IsShort text texts short)) (are_events form texts (All-tail limits.IsShort text texts short))

-- texts within their limits are events within theirs
pub events_within : (form : Form) (texts : List (List ℕ)) → limits.AreWithinLimits texts → AreWithinLimits (map (event_of form) texts)
events_within form texts h = record {
  some = subst (λ n. 0 < n) (sym (length-map texts (event_of form))) h.some;
  few = subst (λ n. n ≤ 10000) (sym (length-map texts (event_of form))) h.few;
  each = All-map IsEvent (event_of form) texts (are_events form texts h.short);
}

-- ---- an act stores at most 10,000 events

few_cut : (form : Form) (body : List ℕ) (events : List Event) → AreEventsOf form body events → length events ≤ 10000
few_cut Objects body events (texts, cut, is) = omega (arith, ap length is, length-map texts (event_of Objects), cut.1.few)
few_cut Raw body events (texts, cut, is) = omega (arith, ap length is, length-map texts (event_of Raw), cut.1.few)

few_for : (body : List ℕ) (task : Result Task HecCode) (act : HecAct) → IsActFor body task act → count_of act ≤ 10000
few_for body task (Ask channel ids) h = omega arith
few_for body task (Say say) h = omega arith
few_for body (Ok (Store form)) (StoreThenSay events) h = few_cut form body events.items h
few_for body (Ok (Store form)) (SayThenStore channel events) h = absurd h
few_for body (Ok (StoreOn form on)) (StoreThenSay events) h = absurd h
few_for body (Ok (StoreOn form on)) (SayThenStore channel events) h = few_cut form body events.items h.1
few_for body (Ok (AskOn on)) (StoreThenSay events) h = absurd h
few_for body (Ok (AskOn on)) (SayThenStore channel events) h = absurd h
few_for body (Err code) (StoreThenSay events) h = cc
few_for body (Err code) (SayThenStore channel events) h = cc

pub few_events : (tokens : Tokens) (r : HttpRequest) (act : HecAct) → IsAct tokens r act → count_of act ≤ 10000
few_events tokens r act h = few_for r.body (task_of tokens r) act h

-- ---- and under an id one at least

some_cut : (form : Form) (body : List ℕ) (events : List Event) → AreEventsOf form body events → 0 < length events
some_cut Objects body events (texts, cut, is) = omega (arith, ap length is, length-map texts (event_of Objects), cut.1.some)
some_cut Raw body events (texts, cut, is) = omega (arith, ap length is, length-map texts (event_of Raw), cut.1.some)

some_for : (body : List ℕ) (task : Result Task HecCode) (channel : ℕ) (events : Vec Event) → IsActFor body task (SayThenStore channel events) → 0 < length events.items
some_for body (Ok (Store form)) channel events h = absurd h
some_for body (Ok (StoreOn form on)) channel events h = some_cut form body events.items h.1
some_for body (Ok (AskOn on)) channel events h = absurd h
some_for body (Err code) channel events h = cc

pub some_events : (tokens : Tokens) (r : HttpRequest) (channel : ℕ) (events : Vec Event) → IsAct tokens r (SayThenStore channel events) → 0 < length events.items
some_events tokens r channel events h = some_for r.body (task_of tokens r) channel events h
