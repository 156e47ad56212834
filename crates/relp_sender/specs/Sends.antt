-- What a sender has sent.
use Rattle.std.specs.Prelude.{◌≡◌, ◌≢◌, ◌⊎◌, ℕ, ◌<◌, ◌≤◌, Bool, true, List, [], ◌∷◌, ◌++◌, length, Option, Some, None, Contains}
use Rattle.std.specs.List.{AllPairs}
use Rattle.event_form.specs.declared.event.Entry.{Entry}
use Rattle.relp_frame.specs.declared.frame.Frame.{Frame}
use Rattle.relp_frame.specs.Placing.{BeginsAt}
use Rattle.relp_frame.specs.Reading.{Reads}
use Rattle.relp_sender.specs.declared.stage.Stage.{Stage}
use Rattle.relp_sender.specs.declared.stage.Stage.TheVariants.{Fresh, Opening, Open, Closed}
use Rattle.relp_sender.specs.declared.stage.Stop.{Stop}
use Rattle.relp_sender.specs.declared.stage.Stop.TheVariants.{Hint, Refused, BadReply}
use Rattle.relp_sender.specs.Texts.{open_text, close_text, frames_text}
use Rattle.relp_sender.specs.Marks.{grown, open_from}
use Rattle.relp_sender.specs.Window.{first_open}
use Rattle.relp_sender.specs.Progress.{Progress, Unopened, Opened, TakesAll, Stops, IsKnown}
use Rattle.relp_sender.specs.Sender.{Sender, given}

-- What was done with a sender: the entries given, the peer's bytes fed, the frames of them that were taken, the
-- bytes written, the places of the entries that were told one by one as acknowledged, and what the frames brought.
pub record History : Type 0 where
  pub entries : List Entry
  pub fed : List ℕ
  pub taken : List Frame
  pub out : List ℕ
  pub also : List ℕ
  pub progress : Progress

-- nothing was done
abbrev pub untouched : History
untouched = record { entries = []; fed = []; taken = []; out = []; also = []; progress = Unopened }

-- frames more were taken, a text more was written, and entries more were told one by one
abbrev pub later : History → List Frame → List ℕ → List ℕ → Progress → History
later h more text also p = record h { taken = h.taken ++ more; out = h.out ++ text; also = h.also ++ also; progress = p }

-- the list of all entries may have this length
pub record CanHave (s : Sender) (n : ℕ) : Type 0 where
  pub most : given s ≤ n
  pub all : s.finished ≡ true → n ≡ given s

-- at a stage, this was written for the entries that were
abbrev pub Said : Stage → List Entry → List ℕ → Type 0
Said Fresh written out = out ≡ []
Said Opening written out = out ≡ open_text
Said Open written out = out ≡ open_text ++ frames_text 0 written
Said Closed written out = out ≡ open_text ++ (frames_text 0 written ++ close_text (length written))

-- where the session is open: the marks, grown to the frames written, have these places unanswered
abbrev pub HasMarks : Progress → ℕ → List ℕ → Type 0
HasMarks p written unanswered =
    (marks : List Bool) × (p ≡ Opened marks) × (length (grown written marks) ≡ written) × (unanswered ≡ open_from 0 (grown written marks))

-- how far the peer's frames have brought it
abbrev pub Stands : Stage → Progress → ℕ → List ℕ → Type 0
Stands Fresh p written unanswered = p ≡ Unopened
Stands Opening p written unanswered = p ≡ Unopened
Stands Open p written unanswered = HasMarks p written unanswered
Stands Closed p written unanswered = HasMarks p written unanswered

-- the place of the frame at which the session ended, where it is told
abbrev pub StopsAt : List ℕ → List Frame → Stop → Type 0
StopsAt fed taken Hint = Unit {0}
StopsAt fed taken (Refused unit code) = Unit {0}
StopsAt fed taken (BadReply at) = BeginsAt fed taken at

-- the bytes fed are the frames taken and, where the session ended, the frame at which it did
abbrev pub HasRead : List ℕ → List Frame → Progress → Sender → Option Stop → Type 0
HasRead fed taken p s None = Reads fed taken s.reader
HasRead fed taken p s (Some stop) = (f : Frame) × Reads fed (taken ++ f ∷ []) s.reader × StopsAt fed taken stop × ((n : ℕ) → CanHave s n → Stops n p f stop)

-- Which entries are acknowledged: those before the first unanswered one, those that were told one by one, and
-- the one that is to be told. Those told are acknowledged, each was told once, and the one to be told wasn't.
pub record Knows (also : List ℕ) (p : Progress) (first : ℕ) (beyond : Option ℕ) : Type 0 where
  pub known : (place : ℕ) → IsKnown p place → (place < first) ⊎ (Contains also place ⊎ (beyond ≡ Some place))
  pub told : (place : ℕ) → Contains also place → IsKnown p place
  pub once : AllPairs (λ (a b : ℕ). a ≢ b) also
  pub next : (place : ℕ) → beyond ≡ Some place → IsKnown p place × (Contains also place → ⊥)

-- With this history a sender has come to this.
pub record Sends (h : History) (s : Sender) : Type 0 where
  pub front : List Entry
  pub whole : h.entries ≡ front ++ s.waiting
  pub count : length front ≡ s.written
  pub said : Said s.stage front h.out
  pub stands : Stands s.stage h.progress s.written s.unanswered
  pub takes : (n : ℕ) → CanHave s n → TakesAll n Unopened h.taken h.progress
  pub read : HasRead h.fed h.taken h.progress s s.stop
  pub knows : Knows h.also h.progress (first_open s.unanswered s.written) s.beyond

-- whatever was done before, some frames of the peer more were taken, this text more was written, and these places
-- more were told
abbrev pub SendsOn : Sender → List ℕ → List ℕ → Sender → Type 0
SendsOn old text also new = (h : History) → Sends h old → (more : List Frame) × (p : Progress) × Sends (later h more text also p) new
