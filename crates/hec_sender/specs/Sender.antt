-- What contracts see of a sender.
use Rattle.std.specs.Prelude.{◌≡◌, ℕ, ◌+◌, ◌-◌, ◌%◌, ◌<◌, ◌≤◌, ◌^◌, Bool, true, false, List, [], ◌++◌, length, Option, Some, None, All}
use Rattle.event_form.specs.declared.event.Entry.{Entry}
use Rattle.event_form.specs.Event.{IsEvent}
use Rattle.http_reply.specs.Reading.{Reading, come, unfed}
use Rattle.hec_sender.specs.declared.due.Due.{Due}
use Rattle.hec_sender.specs.declared.due.Due.TheVariants.{Stopped, Send, Repeat, Ask, End, Hear}
use Rattle.hec_sender.specs.declared.limits.TheConstants.{WINDOW}
use Rattle.hec_sender.specs.declared.query.Query.{Query}
use Rattle.hec_sender.specs.declared.stage.Stage.{Stage}
use Rattle.hec_sender.specs.declared.stage.Stage.TheVariants.{Unsent, Sent, Paused, Asked}
use Rattle.hec_sender.specs.declared.stop.Stop.{Stop}
use Rattle.hec_sender.specs.declared.terms.Terms.{Terms}
use Rattle.hec_sender.specs.Texts.{request_text, queries_text}

-- The terms of its requests; its reader; the entries that it was given and that aren't acknowledged, which are of one run; how far the
-- request of the first of them is; how many entries and how many requests are acknowledged; the number of the first entry; whether no
-- more entries come; whether the last turn asked for more; and how the session ended.
pub record Sender : Type 0 where
  pub terms : Terms
  pub reader : Reading
  pub rest : List Entry
  pub stage : Stage
  pub done : ℕ
  pub requests : ℕ
  pub first : ℕ
  pub finished : Bool
  pub asked : Bool
  pub stop : Option Stop

-- a sender that was given nothing
abbrev pub untouched : Terms → Sender
untouched terms = record {
  terms = terms;
  reader = unfed;
  rest = [];
  stage = Unsent;
  done = 0;
  requests = 0;
  first = 0;
  finished = false;
  asked = false;
  stop = None;
}

-- how many entries were given
abbrev pub given : Sender → ℕ
given s = s.done + length s.rest

-- how many bytes it was fed, up to a fault's reply
abbrev pub extent : Sender → ℕ
extent s = s.reader.at + come s.reader

-- what is asked for the request under way
abbrev pub asked_by : Stage → Option Query
asked_by Unsent = None
asked_by Sent = None
asked_by (Paused query) = Some query
asked_by (Asked query) = Some query

-- what was written of the request of these entries and of its queries
abbrev pub stage_text : Terms → Stage → List Entry → List ℕ
stage_text terms Unsent entries = []
stage_text terms Sent entries = request_text terms entries
stage_text terms (Paused query) entries = request_text terms entries ++ queries_text terms query.id (query.times - 1)
stage_text terms (Asked query) entries = request_text terms entries ++ queries_text terms query.id query.times

-- all that may be written was written, and a reply is to come
abbrev pub IsOut : Stage → Type 0
IsOut Unsent = ⊥
IsOut Sent = Unit {0}
IsOut (Paused query) = ⊥
IsOut (Asked query) = Unit {0}

-- Entries may follow those given so: none where no more come, and some only after whole runs.
pub record Follows (finished : Bool) (count : ℕ) (more : List Entry) : Type 0 where
  pub none : finished ≡ true → more ≡ []
  pub whole : 0 < length more → count % WINDOW ≡ 0

abbrev pub MayFollow : Sender → List Entry → Type 0
MayFollow s more = Follows s.finished (given s) more

-- no request is under way, and no entry is left to send
pub record IsIdle (s : Sender) (over : Bool) : Type 0 where
  pub goes : s.stop ≡ None
  pub stage : s.stage ≡ Unsent
  pub none : s.rest ≡ []
  pub finished : s.finished ≡ over

-- more entries are wanted: no ending came, all entries given are acknowledged, and more may come
abbrev pub Needs : Sender → Type 0
Needs s = IsIdle s false

-- all was written and acknowledged, and no more comes
abbrev pub IsDone : Sender → Type 0
IsDone s = IsIdle s true

-- a reply is waited for
abbrev pub Awaits : Sender → Type 0
Awaits s = (s.stop ≡ None) × IsOut s.stage

-- what is due
abbrev pub IsDue : Due → Sender → Type 0
IsDue (Stopped stop) s = s.stop ≡ Some stop
IsDue Send s = (s.stop ≡ None) × (s.stage ≡ Unsent) × (0 < length s.rest)
IsDue (Repeat query) s = (s.stop ≡ None) × (s.stage ≡ Paused query)
IsDue Ask s = Needs s
IsDue End s = IsDone s
IsDue Hear s = Awaits s

-- a query is asked at least once, and at most as often as it may be
abbrev pub IsWithin : ℕ → Stage → Type 0
IsWithin polls Unsent = Unit {0}
IsWithin polls Sent = Unit {0}
IsWithin polls (Paused query) = (0 < query.times) × (query.times ≤ polls)
IsWithin polls (Asked query) = (0 < query.times) × (query.times ≤ polls)

-- entries are left of which a request is under way
abbrev pub HasSome : Stage → List Entry → Type 0
HasSome Unsent rest = Unit {0}
HasSome stage rest = 0 < length rest

-- what holds of each sender
pub record Keeps (s : Sender) : Type 0 where
  pub some_polls : 0 < s.terms.polls
  pub few_polls : s.terms.polls < 2 ^ 32
  pub within : IsWithin s.terms.polls s.stage
  pub some : HasSome s.stage s.rest
  -- what is left is of one run
  pub run : length s.rest ≤ WINDOW - s.done % WINDOW
  pub requests : s.requests ≤ s.done
  pub number : s.first + given s ≤ 2 ^ 63
  pub events : All (λ (e : Entry). IsEvent e.event) s.rest
  pub need : s.asked ≡ true → Needs s
  pub ended : (stop : Stop) → s.stop ≡ Some stop → IsOut s.stage
