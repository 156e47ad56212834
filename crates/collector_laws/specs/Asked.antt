-- What a receiver finds in what the collector's sender posts.
use Rattle.std.specs.Prelude.{◌≡◌, ℕ, ◌<◌, ◌^◌, List, [], ◌∷◌, Some, Result, Ok, Err}
use Rattle.hec_body.specs.Acks.{AsksFor}
use Rattle.hec_sender.specs.declared.terms.Terms.{Terms}
use Rattle.hec_sender.specs.Texts.{acks_text}
use Rattle.hec_session.specs.declared.code.HecCode.{HecCode}
use Rattle.hec_session.specs.declared.code.HecCode.TheVariants.{AckDisabled}
use Rattle.hec_session.specs.declared.endpoint.Form.TheVariants.{Objects}
use Rattle.hec_session.specs.declared.task.Task.{Task}
use Rattle.hec_session.specs.declared.task.Task.TheVariants.{Store, StoreOn, AskOn}
use Rattle.hec_session.specs.declared.tokens.Grant.{Grant}
use Rattle.hec_session.specs.declared.tokens.Grant.TheVariants.{WithAcks, WithoutAcks}
use Rattle.hec_session.specs.declared.tokens.Tokens.{Tokens}
use Rattle.hec_session.specs.Checks.{and_then, channel_of, grant_of, granted, task_of}
use Rattle.collector_laws.specs.Posts.{AreGuids, IsPath, events_path, post_at, query_path}

-- The token and the channel of a post are found in it: it is granted what the token is, and its channel is that number.
pub record IsFound (path : List ℕ) (terms : Terms) (body : List ℕ) : Type 0 where
  pub token : (tokens : Tokens) → grant_of tokens (post_at path terms body) ≡ granted tokens (Some terms.token)
  pub channel : channel_of (post_at path terms body) ≡ Ok terms.channel

abbrev pub TermsAreFound : Type 0
TermsAreFound = (path : List ℕ) (terms : Terms) (body : List ℕ) → IsPath path → AreGuids terms → IsFound path terms body

-- what is to be done with events, and with a query, by what the token is granted
abbrev pub store_by : Grant → ℕ → Task
store_by WithoutAcks channel = Store Objects
store_by WithAcks channel = StoreOn Objects channel

abbrev pub ask_by : Grant → ℕ → Result Task HecCode
ask_by WithoutAcks channel = Err AckDisabled
ask_by WithAcks channel = Ok (AskOn channel)

-- Whatever tokens the receiver has, a post of events is to be stored where its token is one of them, and a query is asked where that
-- token uses acks. No check but that of the token is in their way.
abbrev pub EventsAreStored : Type 0
EventsAreStored =
    (terms : Terms) (tokens : Tokens) (body : List ℕ) → AreGuids terms
    → task_of tokens (post_at events_path terms body) ≡ and_then (granted tokens (Some terms.token)) (λ grant. Ok (store_by grant terms.channel))

abbrev pub QueriesAreAsked : Type 0
QueriesAreAsked =
    (terms : Terms) (tokens : Tokens) (body : List ℕ) → AreGuids terms
    → task_of tokens (post_at query_path terms body) ≡ and_then (granted tokens (Some terms.token)) (λ grant. ask_by grant terms.channel)

-- The body of a query asks for its id, and for no other.
abbrev pub QueryAsksForOne : Type 0
QueryAsksForOne = (id : ℕ) → id < 2 ^ 64 → AsksFor (acks_text id) (id ∷ [])
