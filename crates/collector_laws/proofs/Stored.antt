-- What is posted is stored, and what is asked for is asked.
use Rattle.std.proofs.Common.{ℕ, List, [], ◌∷◌, sym, ◌∙◌, ap, subst}
use Rattle.std.specs.Prelude.{Result, Ok, map}
use Rattle.event_form.specs.declared.event.Entry.{Entry}
use Rattle.event_map.proofs.Functions.{hec_object_of}
use Rattle.hec_body.specs.Events.{IsCut}
use Rattle.hec_sender.specs.Texts.{acks_text, objects_text}
use Rattle.hec_session.specs.declared.act.HecAct.{HecAct}
use Rattle.hec_session.specs.declared.code.HecCode.{HecCode}
use Rattle.hec_session.specs.declared.endpoint.Form.TheVariants.{Objects}
use Rattle.hec_session.specs.declared.task.Task.{Task}
use Rattle.hec_session.specs.declared.tokens.Grant.{Grant}
use Rattle.hec_session.specs.declared.tokens.Grant.TheVariants.{WithAcks, WithoutAcks}
use Rattle.hec_session.specs.Acts.{IsActFor}
use Rattle.hec_session.specs.Checks.{and_then}
use Rattle.collector_laws.specs.Asked.{ask_by, store_by}
use Rattle.collector_laws.specs.Outcomes.{Does, PostedIsStored, QueryIsAsked, stored_by, stored_for}
use Rattle.collector_laws.proofs.Queries.{query_asks}
use Rattle.collector_laws.proofs.Requests.{request_taken}
use Rattle.collector_laws.proofs.SomeActs.{asked, stored, stored_on}
use Rattle.collector_laws.proofs.Tasks.{events_stored, queries_asked}

by_grant : (grant : Grant) (channel : ℕ) (entries : List Entry) → IsCut (objects_text entries) (Ok (map (λ (e : Entry). hec_object_of e.event) entries))
    → (act : HecAct) → Does act (stored_by grant channel (stored_for entries)) → IsActFor (objects_text entries) (Ok (store_by grant channel)) act
by_grant WithoutAcks channel entries cut act does = stored Objects (objects_text entries) (map (λ (e : Entry). hec_object_of e.event) entries) cut act does
by_grant WithAcks channel entries cut act does = stored_on Objects (objects_text entries) channel (map (λ (e : Entry). hec_object_of e.event) entries) cut act does

pub posted_stored : PostedIsStored
posted_stored terms tokens grant entries are is some few all act does =
    let body = objects_text entries in
    let task = events_stored terms tokens body are ∙ ap (λ (g : Result Grant HecCode). and_then g (λ h. Ok (store_by h terms.channel))) is in
    subst (λ (t : Result Task HecCode). IsActFor body t act) (sym task) (by_grant grant terms.channel entries (request_taken entries some few all) act does)

pub query_asked : QueryIsAsked
query_asked terms tokens id are is few act does =
    let body = acks_text id in
    let task = queries_asked terms tokens body are ∙ ap (λ (g : Result Grant HecCode). and_then g (λ h. ask_by h terms.channel)) is in
    subst (λ (t : Result Task HecCode). IsActFor body t act) (sym task) (asked terms.channel body (id ∷ []) (query_asks id few) act does)
