-- Each body and each request has an answer.
use Rattle.std.specs.Prelude.{◌≡◌, ◌≢◌, ◌⊎◌, ℕ, ◌<◌, ◌≤◌, ◌^◌, List, [], ◌∷◌, length, map, All, Some, Result, Ok, Err}
use Rattle.event_form.specs.declared.event.Entry.{Entry}
use Rattle.event_form.specs.declared.event.Event.{Event}
use Rattle.event_map.proofs.Functions.{hec_object_of}
use Rattle.http_edge.specs.declared.request.HttpRequest.{HttpRequest}
use Rattle.body_faults.specs.declared.fault.BodyFault.{BodyFault}
use Rattle.body_faults.specs.declared.fault.BodyFault.TheVariants.{NoMemory}
use Rattle.hec_body.specs.Acks.{AsksFor}
use Rattle.hec_body.specs.Events.{IsCut}
use Rattle.hec_body.specs.Lines.{IsLineCut}
use Rattle.hec_session.specs.declared.act.HecAct.{HecAct}
use Rattle.hec_session.specs.declared.act.HecAct.TheVariants.{StoreThenSay, SayThenStore, Ask, Say}
use Rattle.hec_session.specs.declared.endpoint.Form.TheVariants.{Objects}
use Rattle.hec_session.specs.declared.say.HecSay.{HecSay}
use Rattle.hec_session.specs.declared.tokens.Grant.{Grant}
use Rattle.hec_session.specs.declared.tokens.Grant.TheVariants.{WithAcks, WithoutAcks}
use Rattle.hec_session.specs.declared.tokens.Tokens.{Tokens}
use Rattle.hec_session.specs.Acts.{IsAct, event_of}
use Rattle.hec_session.specs.Checks.{granted}
use Rattle.hec_sender.specs.declared.terms.Terms.{Terms}
use Rattle.hec_sender.specs.Texts.{acks_text, objects_text}
use Rattle.collector_laws.specs.Posts.{AreGuids, events_path, post_at, query_path}
use Rattle.collector_laws.specs.Taken.{EntryIsOne}

-- what a body is cut into, which isn't the want of memory
abbrev pub HasCut : (List ℕ → Result (List (List ℕ)) BodyFault → Type 0) → List ℕ → Type 0
HasCut Cuts body = (cut : Result (List (List ℕ)) BodyFault) × Cuts body cut × (cut ≢ Err NoMemory)

-- Each body is events, or has a first fault.
abbrev pub SomeCut : Type 0
SomeCut = (body : List ℕ) → HasCut IsCut body

-- Each raw body is lines, or has a first fault.
abbrev pub SomeLineCut : Type 0
SomeLineCut = (body : List ℕ) → HasCut IsLineCut body

-- Each body asks for some ids, or for none.
abbrev pub QueryOrNot : Type 0
QueryOrNot = (body : List ℕ) → ((ids : List ℕ) × AsksFor body ids) ⊎ ((ids : List ℕ) → ¬ AsksFor body ids)

-- what is done for a request, whatever memory its events and its ids lie in
pub data Outcome : Type 0 where
  Stored : List Event → Outcome
  StoredOn : ℕ → List Event → Outcome
  Asked : ℕ → List ℕ → Outcome
  Said : HecSay → Outcome

-- the act does that
abbrev pub Does : HecAct → Outcome → Type 0
Does (StoreThenSay events) (Stored them) = events.items ≡ them
Does (SayThenStore channel events) (StoredOn on them) = (channel ≡ on) × (events.items ≡ them)
Does (Ask channel ids) (Asked on them) = (channel ≡ on) × (ids.items ≡ them)
Does (Say say) (Said it) = say ≡ it
Does act outcome = ⊥

-- Each request has something to be done for it, whatever the receiver's tokens: each act that does it is the request's act.
abbrev pub SomeAct : Type 0
SomeAct = (tokens : Tokens) (r : HttpRequest) → (outcome : Outcome) × ((act : HecAct) → Does act outcome → IsAct tokens r act)

-- ---- of what the collector's sender posts

-- events are stored by what the token is granted: on the channel, where it uses acks
abbrev pub stored_by : Grant → ℕ → List Event → Outcome
stored_by WithoutAcks channel events = Stored events
stored_by WithAcks channel events = StoredOn channel events

-- the events that a receiver of objects stores for these entries
abbrev pub stored_for : List Entry → List Event
stored_for entries = map (event_of Objects) (map (λ (e : Entry). hec_object_of e.event) entries)

-- A receiver that has the token stores the events of a request whose entries' objects are taken, in their order.
abbrev pub PostedIsStored : Type 0
PostedIsStored =
    (terms : Terms) (tokens : Tokens) (grant : Grant) (entries : List Entry) → AreGuids terms → granted tokens (Some terms.token) ≡ Ok grant
    → 0 < length entries → length entries ≤ 10000 → All EntryIsOne entries
    → (act : HecAct) → Does act (stored_by grant terms.channel (stored_for entries))
    → IsAct tokens (post_at events_path terms (objects_text entries)) act

-- And where that token uses acks it asks for the id of a query on the channel.
abbrev pub QueryIsAsked : Type 0
QueryIsAsked =
    (terms : Terms) (tokens : Tokens) (id : ℕ) → AreGuids terms → granted tokens (Some terms.token) ≡ Ok WithAcks → id < 2 ^ 64
    → (act : HecAct) → Does act (Asked terms.channel (id ∷ [])) → IsAct tokens (post_at query_path terms (acks_text id)) act
