-- What a collector's replies have brought, and what was written by then.
use Rattle.std.specs.Prelude.{◌≡◌, ℕ, ◌+◌, ◌<◌, ◌≤◌, List, [], ◌∷◌, ◌++◌, length, drop, Option, Some, None}
use Rattle.event_form.specs.declared.event.Entry.{Entry}
use Rattle.http_reply.specs.declared.reply.HttpReply.{HttpReply}
use Rattle.hec_sender.specs.declared.query.Query.{Query}
use Rattle.hec_sender.specs.declared.stop.Stop.{Stop}
use Rattle.hec_sender.specs.declared.stop.Stop.TheVariants as stop
use Rattle.hec_sender.specs.declared.terms.Terms.{Terms}
use Rattle.hec_sender.specs.declared.verdict.Verdict.{Verdict}
use Rattle.hec_sender.specs.declared.verdict.Verdict.TheVariants.{Confirms, Asks, Denies, Refuses, Faults}
use Rattle.hec_sender.specs.Replies.{Says}
use Rattle.hec_sender.specs.Requests.{known_from, confirmed_text, next_text}

-- Of each confirmed request what was asked for it, an id and how often, and of the next request the same: nothing where its
-- reply is still to come, or had no id.
pub record Progress : Type 0 where
  pub confirmed : List (Option Query)
  pub asked : Option Query

-- nothing is confirmed
abbrev pub unconfirmed : Progress
unconfirmed = record { confirmed = []; asked = None }

-- What a reply brings, by what it says, where a query is asked at most so often. One that denies asks for the query again.
abbrev pub Brings : ℕ → Progress → Verdict → Progress → Type 0
Brings polls p Confirms next = next ≡ record { confirmed = p.confirmed ++ p.asked ∷ []; asked = None }
Brings polls p (Asks id) next = next ≡ record { confirmed = p.confirmed; asked = Some (record { id = id; times = 1 }) }
Brings polls p Denies next =
    (q : Query) × (p.asked ≡ Some q) × (q.times < polls)
    × (next ≡ record { confirmed = p.confirmed; asked = Some (record { id = q.id; times = q.times + 1 }) })
Brings polls p (Refuses code) next = ⊥
Brings polls p Faults next = ⊥

abbrev pub Takes : ℕ → Progress → HttpReply → Progress → Type 0
Takes polls p reply next = (verdict : Verdict) × Says p.asked reply verdict × Brings polls p verdict next

-- the same of replies, one after another
abbrev pub TakesAll : ℕ → Progress → List HttpReply → Progress → Type 0
TakesAll polls p [] next = next ≡ p
TakesAll polls p (reply ∷ replies) next = (q : Progress) × Takes polls p reply q × TakesAll polls q replies next

-- How a reply that begins at an offset ends the session: the query was denied as often as it may be asked; the request with this
-- place in the session is refused; or the reply is none that may come.
abbrev pub Ends : ℕ → Progress → ℕ → Verdict → Stop → Type 0
Ends polls p at Confirms how = ⊥
Ends polls p at (Asks id) how = ⊥
Ends polls p at Denies how = (q : Query) × (p.asked ≡ Some q) × (polls ≤ q.times) × (how ≡ stop.Unconfirmed q.id)
Ends polls p at (Refuses code) how = how ≡ stop.Refused (length p.confirmed) code
Ends polls p at Faults how = how ≡ stop.Broken at

-- the reply ends the session so
abbrev pub Stops : ℕ → Progress → HttpReply → Stop → Type 0
Stops polls p reply how = (verdict : Verdict) × Says p.asked reply verdict × Ends polls p reply.at verdict how

-- HOW MANY of the first entries of a list are acknowledged: those of the confirmed requests
abbrev pub known_by : List Entry → Progress → ℕ
known_by entries p = known_from 0 p.confirmed entries

-- THE TEXT of a list of entries: its requests up to the first one that isn't confirmed, each followed by its query as often as the
-- replies ask for it
abbrev pub session_text : Terms → List Entry → Progress → List ℕ
session_text terms entries p = confirmed_text terms 0 p.confirmed entries ++ next_text terms (known_by entries p) p.asked (drop (known_by entries p) entries)
