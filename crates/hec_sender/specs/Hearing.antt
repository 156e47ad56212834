-- What a reply leaves of a sender.
use Rattle.std.specs.Prelude.{◌≡◌, ℕ, ◌+◌, List, ◌≤◌, ◌∷◌, length, drop, Some}
use Rattle.http_reply.specs.declared.reply.HttpReply.{HttpReply}
use Rattle.http_reply.specs.Reading.{Reading}
use Rattle.hec_sender.specs.declared.query.Query.{Query}
use Rattle.hec_sender.specs.declared.stage.Stage.TheVariants.{Unsent, Paused, Asked}
use Rattle.hec_sender.specs.declared.stop.Stop.{Stop}
use Rattle.hec_sender.specs.declared.stop.Stop.TheVariants as stop
use Rattle.hec_sender.specs.declared.verdict.Verdict.{Verdict}
use Rattle.hec_sender.specs.declared.verdict.Verdict.TheVariants.{Confirms, Asks, Denies, Refuses, Faults}
use Rattle.hec_sender.specs.Replies.{Says}
use Rattle.hec_sender.specs.Requests.{request_of}
use Rattle.hec_sender.specs.Sender.{Sender, Awaits, asked_by}

-- a reply is waited for, and the next one, which begins at an offset, says this
pub record Hears (s : Sender) (at : ℕ) (verdict : Verdict) : Type 0 where
  pub awaits : Awaits s
  pub reply : HttpReply
  pub more : List HttpReply
  pub next : s.reader.waiting ≡ reply ∷ more
  pub place : reply.at ≡ at
  pub says : Says (asked_by s.stage) reply verdict

-- a reply that begins at an offset and says this ends the session so
abbrev pub EndsBy : Sender → ℕ → Verdict → Stop → Type 0
EndsBy s at Confirms how = ⊥
EndsBy s at (Asks id) how = ⊥
EndsBy s at Denies how = (q : Query) × (asked_by s.stage ≡ Some q) × (s.terms.polls ≤ q.times) × (how ≡ stop.Unconfirmed q.id)
EndsBy s at (Refuses code) how = how ≡ stop.Refused s.requests code
EndsBy s at Faults how = how ≡ stop.Broken at

-- the request is confirmed
abbrev pub confirmed : Sender → Reading → Sender
confirmed s reader = record s {
  reader = reader;
  rest = drop (length (request_of s.done s.rest)) s.rest;
  stage = Unsent;
  done = s.done + length (request_of s.done s.rest);
  requests = s.requests + 1;
}

-- a query is asked for the first time, or is to be repeated after a pause
abbrev pub asking : Sender → Reading → ℕ → Sender
asking s reader id = record s { reader = reader; stage = Asked (record { id = id; times = 1 }) }

abbrev pub pausing : Sender → Reading → Query → Sender
pausing s reader query = record s { reader = reader; stage = Paused (record { id = query.id; times = query.times + 1 }) }

-- the session ended
abbrev pub stopped : Sender → Reading → Stop → Sender
stopped s reader how = record s { reader = reader; stop = Some how }

-- a reply is waited for, and the next one ends the session so
pub record StopsSo (s : Sender) (stop : Stop) : Type 0 where
  pub at : ℕ
  pub verdict : Verdict
  pub hears : Hears s at verdict
  pub ends : EndsBy s at verdict stop
