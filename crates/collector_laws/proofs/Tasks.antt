-- What a receiver finds in a post, and what it is to do with it.
use Rattle.std.proofs.Common.{◌≡◌, ℕ, List, refl, ◌∙◌, ap}
use Rattle.std.specs.Prelude.{Some, Result, Ok, Err}
use Rattle.hec_sender.specs.declared.terms.Terms.{Terms}
use Rattle.hec_session.specs.declared.code.HecCode.{HecCode}
use Rattle.hec_session.specs.declared.endpoint.Endpoint.TheVariants.{Events, Acks}
use Rattle.hec_session.specs.declared.endpoint.Form.TheVariants.{Objects}
use Rattle.hec_session.specs.declared.task.Task.{Task}
use Rattle.hec_session.specs.declared.task.Task.TheVariants.{StoreOn, AskOn}
use Rattle.hec_session.specs.declared.tokens.Grant.{Grant}
use Rattle.hec_session.specs.declared.tokens.Grant.TheVariants.{WithAcks, WithoutAcks}
use Rattle.hec_session.specs.declared.tokens.Tokens.{Tokens}
use Rattle.hec_session.specs.Checks.{and_then, channel_of, grant_of, granted, in_plain_coding, known_channel, task_for}
use Rattle.collector_laws.specs.Posts.{AreGuids, events_path, post_at, query_path}
use Rattle.collector_laws.specs.Asked.{EventsAreStored, QueriesAreAsked, TermsAreFound, ask_by, store_by}
use Rattle.collector_laws.proofs.Guids.{guid_back}

token_found : (path : List ℕ) (terms : Terms) (body : List ℕ) (tokens : Tokens) → AreGuids terms → grant_of tokens (post_at path terms body) ≡ granted tokens (Some terms.token)
token_found path terms body tokens are = ap (granted tokens) (guid_back terms.token are.token)

channel_found : (path : List ℕ) (terms : Terms) (body : List ℕ) → AreGuids terms → channel_of (post_at path terms body) ≡ Ok terms.channel
channel_found path terms body are = ap known_channel (guid_back terms.channel are.channel)

pub terms_found : TermsAreFound
terms_found path terms body known are = record { token = λ tokens. token_found path terms body tokens are; channel = channel_found path terms body are }

-- ---- the tasks

abbrev on_events : Terms → List ℕ → Grant → Result Task HecCode
on_events terms body grant = let r = post_at events_path terms body in and_then (task_for r (Events Objects) grant) (in_plain_coding r)

abbrev on_query : Terms → List ℕ → Grant → Result Task HecCode
on_query terms body grant = let r = post_at query_path terms body in and_then (task_for r Acks grant) (in_plain_coding r)

events_task : (terms : Terms) (body : List ℕ) (grant : Grant) → AreGuids terms → on_events terms body grant ≡ Ok (store_by grant terms.channel)
events_task terms body WithoutAcks are = refl
events_task terms body WithAcks are =
    let r = post_at events_path terms body in
    ap (λ (c : Result ℕ HecCode). and_then (and_then c (λ channel. Ok (StoreOn Objects channel))) (in_plain_coding r)) (channel_found events_path terms body are)

query_task : (terms : Terms) (body : List ℕ) (grant : Grant) → AreGuids terms → on_query terms body grant ≡ ask_by grant terms.channel
query_task terms body WithoutAcks are = refl
query_task terms body WithAcks are =
    let r = post_at query_path terms body in
    ap (λ (c : Result ℕ HecCode). and_then (and_then c (λ channel. Ok (AskOn channel))) (in_plain_coding r)) (channel_found query_path terms body are)

then_same : (g : Result Grant HecCode) (f h : Grant → Result Task HecCode) → ((grant : Grant) → f grant ≡ h grant) → and_then g f ≡ and_then g h
then_same (Ok grant) f h same = same grant
then_same (Err code) f h same = refl

pub events_stored : EventsAreStored
events_stored terms tokens body are =
    ap (λ (g : Result Grant HecCode). and_then g (on_events terms body)) (token_found events_path terms body tokens are)
    ∙ then_same (granted tokens (Some terms.token)) (on_events terms body) (λ grant. Ok (store_by grant terms.channel)) (λ grant. events_task terms body grant are)

pub queries_asked : QueriesAreAsked
queries_asked terms tokens body are =
    ap (λ (g : Result Grant HecCode). and_then g (on_query terms body)) (token_found query_path terms body tokens are)
    ∙ then_same (granted tokens (Some terms.token)) (on_query terms body) (λ grant. ask_by grant terms.channel) (λ grant. query_task terms body grant are)
