-- Bytes that are fed, and what a change of the sender keeps.
use Rattle.std.proofs.Common.{◌≡◌, ℕ, List, [], ◌∷◌, ◌++◌, sym, subst}
use Rattle.std.specs.Prelude.{Option, Some, None}
use Rattle.relp_frame.specs.declared.frame.Frame.{Frame}
use Rattle.relp_frame.specs.Reading.{Reader, Reads, ReadsOn}
use Rattle.relp_frame.proofs.Placing.{begins_more}
use Rattle.relp_sender.specs.declared.stage.Stop.{Stop}
use Rattle.relp_sender.specs.declared.stage.Stop.TheVariants.{Hint, Refused, BadReply}
use Rattle.relp_sender.specs.Progress.{Progress, Unopened, TakesAll}
use Rattle.relp_sender.specs.Sender.{Sender}
use Rattle.relp_sender.specs.Sends.{History, Sends, CanHave, HasRead, StopsAt}
use Rattle.relp_sender.proofs.TextLaws.{append_none}

pub no_stop : (o : Option Stop) (stop : Stop) → o ≡ None → o ≡ Some stop → ⊥
no_stop o stop is h = cc

pub no_place : (o : Option ℕ) (place : ℕ) → o ≡ None → o ≡ Some place → ⊥
no_place o place is h = cc

-- the same frames of the peer, of a sender that may have as many entries
pub same_takes : (s t : Sender) (p : Progress) (taken : List Frame) → ((n : ℕ) → CanHave t n → CanHave s n) → ((n : ℕ) → CanHave s n → TakesAll n Unopened taken p) → (n : ℕ) → CanHave t n → TakesAll n Unopened (taken ++ []) p
same_takes s t p taken can takes n c = subst (λ (l : List Frame). TakesAll n Unopened l p) (sym (append_none taken)) (takes n (can n c))

-- and that read the same
read_keep : (fed : List ℕ) (taken : List Frame) (p : Progress) (s t : Sender) (stop : Option Stop) → t.reader ≡ s.reader → ((n : ℕ) → CanHave t n → CanHave s n) → HasRead fed taken p s stop → HasRead fed taken p t stop
read_keep fed taken p s t None is can h = subst (Reads fed taken) (sym is) h
read_keep fed taken p s t (Some stop) is can h = (h.0, subst (Reads fed (taken ++ h.0 ∷ [])) (sym is) h.1, h.2, λ n c. h.3 n (can n c))

pub same_read : (fed : List ℕ) (taken : List Frame) (p : Progress) (s t : Sender) (stop : Option Stop) → t.reader ≡ s.reader → ((n : ℕ) → CanHave t n → CanHave s n) → HasRead fed taken p s stop → HasRead fed (taken ++ []) p t stop
same_read fed taken p s t stop is can h = subst (λ (l : List Frame). HasRead fed l p t stop) (sym (append_none taken)) (read_keep fed taken p s t stop is can h)

stops_more : (fed piece : List ℕ) (taken : List Frame) (stop : Stop) → StopsAt fed taken stop → StopsAt (fed ++ piece) taken stop
stops_more fed piece taken Hint h = tt
stops_more fed piece taken (Refused unit code) h = tt
stops_more fed piece taken (BadReply at) h = begins_more fed piece taken at h

read_fed : (fed piece : List ℕ) (taken : List Frame) (p : Progress) (s : Sender) (r : Reader) (stop : Option Stop) → ReadsOn s.reader piece r → HasRead fed taken p s stop → HasRead (fed ++ piece) taken p (record s { reader = r }) stop
read_fed fed piece taken p s r None on h = on fed taken h
read_fed fed piece taken p s r (Some stop) on h = (h.0, on fed (taken ++ h.0 ∷ []) h.1, stops_more fed piece taken stop h.2, λ n c. h.3 n (record { most = c.most; all = c.all }))

pub sends_fed : (s : Sender) (r : Reader) (piece : List ℕ) → ReadsOn s.reader piece r → (h : History) → Sends h s → Sends (record h { fed = h.fed ++ piece }) (record s { reader = r })
sends_fed s r piece on h was = record {
  front = was.front;
  whole = was.whole;
  count = was.count;
  said = was.said;
  stands = was.stands;
  takes = λ n c. was.takes n (record { most = c.most; all = c.all });
  read = read_fed h.fed piece h.taken h.progress s r s.stop on was.read;
  knows = was.knows;
}
