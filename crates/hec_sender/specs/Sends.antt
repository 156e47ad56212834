-- What a sender has sent.
use Rattle.std.specs.Prelude.{◌≡◌, ℕ, List, [], ◌∷◌, ◌++◌, length, Option, Some, None}
use Rattle.event_form.specs.declared.event.Entry.{Entry}
use Rattle.http_reply.specs.declared.reply.HttpReply.{HttpReply}
use Rattle.http_reply.specs.Reading.{Reading, Reads}
use Rattle.hec_sender.specs.declared.query.Query.{Query}
use Rattle.hec_sender.specs.declared.stop.Stop.{Stop}
use Rattle.hec_sender.specs.declared.terms.Terms.{Terms}
use Rattle.hec_sender.specs.Requests.{request_of, known_from, confirmed_text}
use Rattle.hec_sender.specs.Progress.{Progress, unconfirmed, TakesAll, Stops}
use Rattle.hec_sender.specs.Sender.{Sender, MayFollow, asked_by, stage_text}

-- What was done with a sender: the entries given, the collector's bytes fed, the replies of them that were taken, the bytes
-- written, and what the replies brought.
pub record History : Type 0 where
  pub entries : List Entry
  pub fed : List ℕ
  pub taken : List HttpReply
  pub out : List ℕ
  pub progress : Progress

-- nothing was done
abbrev pub nothing : History
nothing = record { entries = []; fed = []; taken = []; out = []; progress = unconfirmed }

-- replies more were taken, and a text more was written
abbrev pub later : History → List HttpReply → List ℕ → Progress → History
later h more text p = record h { taken = h.taken ++ more; out = h.out ++ text; progress = p }

-- of these entries the confirmed requests are the first so many ones, and their text is this
abbrev pub IsCut : Terms → List (Option Query) → List Entry → ℕ → List ℕ → Type 0
IsCut terms confirmed entries count text = (known_from 0 confirmed entries ≡ count) × (confirmed_text terms 0 confirmed entries ≡ text)

-- The bytes fed are the replies taken and, where the session ended, the reply after them, at which it did.
abbrev pub HasRead : ℕ → Reading → Progress → List ℕ → List HttpReply → Option Stop → Type 0
HasRead polls reader p fed taken None = Reads fed taken reader
HasRead polls reader p fed taken (Some stop) = (reply : HttpReply) × Reads fed (taken ++ reply ∷ []) reader × Stops polls p reply stop

-- With this history a sender has come to this.
pub record Sends (h : History) (s : Sender) : Type 0 where
  -- the entries of the confirmed requests
  pub front : List Entry
  pub entries : h.entries ≡ front ++ s.rest
  pub count : length front ≡ s.done
  -- the text of those requests, whatever entries follow, and what was written of the next one
  pub text : List ℕ
  pub cut : (more : List Entry) → MayFollow s more → IsCut s.terms h.progress.confirmed (front ++ (s.rest ++ more)) s.done text
  pub said : h.out ≡ text ++ stage_text s.terms s.stage (request_of s.done s.rest)
  -- the collector's replies
  pub requests : length h.progress.confirmed ≡ s.requests
  pub asked : h.progress.asked ≡ asked_by s.stage
  pub takes : TakesAll s.terms.polls unconfirmed h.taken h.progress
  pub read : HasRead s.terms.polls s.reader h.progress h.fed h.taken s.stop

-- whatever was done before, some replies more were taken, and this text more was written
abbrev pub SendsOn : Sender → List ℕ → Sender → Type 0
SendsOn old text new = (h : History) → Sends h old → (more : List HttpReply) × (p : Progress) × Sends (later h more text p) new
