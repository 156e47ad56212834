-- A frame of the peer.
use Rattle.std.proofs.Common.{◌≡◌, ◌≢◌, inl, inr, ℕ, suc, ◌+◌, ◌<◌, ◌≤◌, ◌∙◌, Bool, true, false, List, [], ◌∷◌, ◌++◌, length, take, drop, get_or, refl, sym, ap, subst, arith}
use Rattle.std.specs.Prelude.{◌⊎◌, All, Option, Some, None, slice_index}
use Rattle.std.specs.List.{remove}
use Rattle.std.proofs.lemmas.Bool.{false≢true}
use Rattle.std.proofs.lemmas.List.Elements.{All-append, All-take, All-drop}
use Rattle.std.proofs.lemmas.List.Quantifiers.{all_pairs_remove}
use Rattle.std.proofs.lemmas.List.Edits.{length-remove}
use Rattle.event_form.specs.declared.event.Entry.{Entry}
use Rattle.relp_frame.specs.declared.frame.Frame.{Frame}
use Rattle.relp_frame.specs.Placing.{BeginsAt}
use Rattle.relp_frame.specs.Reading.{Reader, Reads}
use Rattle.relp_sender.specs.declared.stage.Stage.{Stage}
use Rattle.relp_sender.specs.declared.stage.Stage.TheVariants.{Fresh, Opening, Open, Closed}
use Rattle.relp_sender.specs.declared.stage.Stop.{Stop}
use Rattle.relp_sender.specs.declared.stage.Stop.TheVariants.{Hint, Refused, BadReply}
use Rattle.relp_sender.specs.declared.hearing.Heard.{Heard}
use Rattle.relp_sender.specs.declared.hearing.Heard.TheVariants.{Ignored, Opens, Acknowledged, Stopped}
use Rattle.relp_sender.specs.Texts.{txnr_of}
use Rattle.relp_sender.specs.Reply.{code_of, IsReply}
use Rattle.relp_sender.specs.Marks.{NoneAwaits, IsEarliest, grown, allowed, count_known, marked_at, open_from}
use Rattle.relp_sender.specs.Window.{IsFirstOf, first_open, beyond_of}
use Rattle.relp_sender.specs.Hearing.{IsUnawaited, IsAwaited, IsStop, IsHeard}
use Rattle.relp_sender.specs.Progress.{Progress, Unopened, Opened, Takes, TakesAll, Stops, IsOutstanding}
use Rattle.relp_sender.specs.Sender.{Sender, Keeps, KeepsAt, given, MustHear}
use Rattle.relp_sender.specs.declared.due.Due.TheVariants.{Hear}
use Rattle.relp_sender.specs.Due.{IsAcknowledgment, IsDue, heard}
use Rattle.relp_sender.specs.Sends.{History, SendsOn, CanHave, HasRead, HasMarks, Knows, Stands, StopsAt, Said}
use Rattle.relp_sender.proofs.Marking.{Marked, mark_first, none_awaits, earliest_of, grown_marked, grown_short, grown_whole, known_grown, count_open, count_grown, marked_length, allowed_full, allowed_all, allowed_least}
use Rattle.relp_sender.proofs.TextLaws.{append_none}
use Rattle.relp_sender.proofs.Giving.{no_stop, no_place}
use Rattle.relp_sender.proofs.Knowing.{knows_same, knows_opened, knows_marked, knows_also, front_rises, beyond_at}

-- the window and the entries leave nothing to be written
pub allowed_is : (s : Sender) (marks : List Bool) → Keeps s → length (grown s.written marks) ≡ s.written → s.unanswered ≡ open_from 0 (grown s.written marks) → MustHear Open s
    → (n : ℕ) → CanHave s n → allowed n marks ≡ s.written
allowed_is s marks k len places must n can =
    let count : length s.unanswered ≡ length (open_from 0 (grown s.written marks)) = ap length places in
    elim must [
      | inl full ↦ allowed_full n s.written marks len (sym count ∙ full) (omega (arith, can.most))
      | inr rest ↦ allowed_all n s.written marks len (omega (arith, k.few, count)) (let all : n ≡ given s = can.all rest.1 in let none : length s.waiting ≡ 0 = ap length rest.0 in omega (arith, all, none))
    ]

-- how many are acknowledged
pub acknowledged_of : (s : Sender) (marks : List Bool) → length (grown s.written marks) ≡ s.written → s.unanswered ≡ open_from 0 (grown s.written marks) → count_known marks + length s.unanswered ≡ s.written
acknowledged_of s marks len places =
    let count : length s.unanswered ≡ length (open_from 0 (grown s.written marks)) = ap length places in
    omega (arith, count, count_open (grown s.written marks) 0, count_grown s.written marks, len)

-- what was written may be
written_may : (s : Sender) (marks : List Bool) → Keeps s → length (grown s.written marks) ≡ s.written → s.unanswered ≡ open_from 0 (grown s.written marks) → (n : ℕ) → CanHave s n → s.written ≤ allowed n marks
written_may s marks k len places n can = allowed_least n s.written marks (omega (arith, can.most)) (omega (arith, acknowledged_of s marks len places, k.few))

-- what a frame makes of what stands
record Steps (stage : Stage) (s : Sender) (unanswered : List ℕ) (beyond : Option ℕ) (f : Frame) (h : History) : Type 0 where
  next : Progress
  takes : (n : ℕ) → CanHave s n → Takes n h.progress f next
  stands : Stands stage next s.written unanswered
  knows : Knows h.also next (first_open unanswered s.written) beyond

abbrev KnowsOf : Sender → History → Type 0
KnowsOf s h = Knows h.also h.progress (first_open s.unanswered s.written) s.beyond

ignored : (stage : Stage) (s : Sender) (f : Frame) (h : History) → Keeps s → MustHear stage s → Stands stage h.progress s.written s.unanswered → KnowsOf s h → IsReply f → IsUnawaited stage s.unanswered f.txnr → Steps stage s s.unanswered s.beyond f h
ignored Fresh s f h k must stands knows reply none = absurd must
ignored Opening s f h k must stands knows reply none = record {
  next = Unopened;
  takes = λ n can. subst (λ (q : Progress). Takes n q f Unopened) (sym stands) (reply, inl (none, refl));
  stands = refl;
  knows = subst (λ (q : Progress). Knows h.also q (first_open s.unanswered s.written) s.beyond) stands knows;
}
ignored Open s f h k must stands knows reply none =
    let marks = stands.0 in
    let written : NoneAwaits s.written marks f.txnr = none_awaits s.written f.txnr marks stands.2 (subst (All (λ (q : ℕ). txnr_of q ≢ f.txnr)) stands.3 none) in
    record {
      next = Opened marks;
      takes = λ n can. (let all : NoneAwaits (allowed n marks) marks f.txnr = subst (λ (w : ℕ). NoneAwaits w marks f.txnr) (sym (allowed_is s marks k stands.2 stands.3 must n can)) written in
          subst (λ (q : Progress). Takes n q f (Opened marks)) (sym stands.1) (reply, inl (all, refl)));
      stands = (marks, refl, stands.2, stands.3);
      knows = subst (λ (q : Progress). Knows h.also q (first_open s.unanswered s.written) s.beyond) stands.1 knows;
    }
ignored Closed s f h k must stands knows reply none = absurd must

-- the entry that a reply acknowledges
record Answers (s : Sender) (marks : List Bool) (txnr index : ℕ) : Type 0 where
  before : List Bool
  after : List Bool
  was : grown s.written marks ≡ before ++ false ∷ after
  now : grown s.written (marked_at (length before) marks) ≡ before ++ true ∷ after
  place : slice_index s.unanswered index ≡ length before
  left : remove s.unanswered index ≡ open_from 0 (before ++ true ∷ after)
  earliest : (n : ℕ) → CanHave s n → IsEarliest (allowed n marks) marks txnr (length before)

answers : (s : Sender) (marks : List Bool) (txnr index : ℕ) → Keeps s → length (grown s.written marks) ≡ s.written → s.unanswered ≡ open_from 0 (grown s.written marks) → IsFirstOf s.unanswered txnr index → Answers s marks txnr index
answers s marks txnr index k len places first =
    let r : Marked 0 (grown s.written marks) txnr (remove (open_from 0 (grown s.written marks)) index) (slice_index (open_from 0 (grown s.written marks)) index) =
    mark_first (grown s.written marks) 0 txnr index (subst (λ (l : List ℕ). IsFirstOf l txnr index) places first) in
    let at : 0 + length r.before ≡ length r.before = omega arith in
    record {
      before = r.before;
      after = r.after;
      was = r.was;
      now = grown_marked r.before marks r.after s.written (grown_short s.written marks len) r.was;
      place = ap (λ (l : List ℕ). slice_index l index) places ∙ r.place_is ∙ at;
      left = ap (λ (l : List ℕ). remove l index) places ∙ sym r.left_is;
      earliest = λ n can. earliest_of s.written (allowed n marks) txnr marks r.before r.after len r.was r.number r.earliest (written_may s marks k len places n can);
    }

acknowledged : (s : Sender) (f : Frame) (h : History) (index : ℕ) → Keeps s → s.beyond ≡ None → HasMarks h.progress s.written s.unanswered → KnowsOf s h → IsReply f → IsFirstOf s.unanswered f.txnr index → code_of f.body ≡ Some 200
    → Steps Open s (remove s.unanswered index) (beyond_of index (slice_index s.unanswered index)) f h
acknowledged s f h index k alone stands knows reply first code =
    let marks = stands.0 in
    let a = answers s marks f.txnr index k stands.2 stands.3 first in
    let now = a.before ++ true ∷ a.after in
    let marked = marked_at (length a.before) marks in
    let len : length now ≡ s.written = marked_length a.before a.after ∙ sym (ap length a.was) ∙ stands.2 in
    let first_now = first_open (remove s.unanswered index) s.written in
    let next = beyond_of index (slice_index s.unanswered index) in
    let known : Knows h.also (Opened now) first_now next = knows_marked h.also h.progress marks a.before a.after s.unanswered s.written index s.beyond stands.1 a.was a.place k.order k.below first.inside alone knows in
    let as_now : (q : ℕ) → get_or marked q false ≡ get_or now q false = λ q. sym (known_grown s.written marked q) ∙ ap (λ (l : List Bool). get_or l q false) a.now in
    record {
      next = Opened marked;
      takes = λ n can. subst (λ (q : Progress). Takes n q f (Opened marked)) (sym stands.1) (reply, inr (length a.before, a.earliest n can, code, refl));
      stands = (marked, refl, ap length a.now ∙ len, a.left ∙ ap (open_from 0) (sym a.now));
      knows = knows_same h.also (Opened now) (Opened marked) first_now next (λ q h. sym (as_now q) ∙ h) (λ q h. as_now q ∙ h) known;
    }

awaits : (stage : Stage) (s : Sender) (f : Frame) (p : Progress) → Keeps s → Stands stage p s.written s.unanswered → IsAwaited stage s.unanswered f.txnr → (n : ℕ) → CanHave s n → IsOutstanding n p f.txnr
awaits Fresh s f p k stands a n can = absurd a
awaits Opening s f p k stands a n can = subst (λ (q : Progress). IsOutstanding n q f.txnr) (sym stands) a
awaits Open s f p k stands a n can =
    let marks = stands.0 in
    let x = answers s marks f.txnr a.0 k stands.2 stands.3 a.1 in
    subst (λ (q : Progress). IsOutstanding n q f.txnr) (sym stands.1) (length x.before, (x.earliest n can).awaits)
awaits Closed s f p k stands a n can = absurd a

stops : (stop : Stop) (s : Sender) (at : ℕ) (f : Frame) (p : Progress) → Keeps s → Stands s.stage p s.written s.unanswered → IsStop s.stage s.unanswered at f stop → (n : ℕ) → CanHave s n → Stops n p f stop
stops Hint s at f p k stands h n can = h
stops (Refused unit code) s at f p k stands h n can = (h.0, awaits s.stage s f p k stands h.1 n can, h.2, h.3, h.4)
stops (BadReply place) s at f p k stands h n can = elim h.1 [ inl o ↦ inl o | inr o ↦ inr (o.0, awaits s.stage s f p k stands o.1 n can, o.2) ]

stops_at : (stop : Stop) (stage : Stage) (unanswered : List ℕ) (at : ℕ) (f : Frame) (fed : List ℕ) (taken : List Frame) → IsStop stage unanswered at f stop → BeginsAt fed taken at → StopsAt fed taken stop
stops_at Hint stage unanswered at f fed taken h b = tt
stops_at (Refused unit code) stage unanswered at f fed taken h b = tt
stops_at (BadReply place) stage unanswered at f fed taken h b = subst (BeginsAt fed taken) (sym h.0) b

takes_then : (n : ℕ) (p : Progress) (frames : List Frame) (q : Progress) (f : Frame) (r : Progress) → TakesAll n p frames q → Takes n q f r → TakesAll n p (frames ++ f ∷ []) r
takes_then n p [] q f r all one = (r, subst (λ (x : Progress). Takes n x f r) all one, refl)
takes_then n p (g ∷ frames) q f r all one = (all.0, all.1, takes_then n all.0 frames q f r all.2 one)

read_of : (fed : List ℕ) (taken : List Frame) (p : Progress) (s : Sender) (stop : Option Stop) → stop ≡ None → HasRead fed taken p s stop → Reads fed taken s.reader
read_of fed taken p s None is h = h
read_of fed taken p s (Some stop) is h = absurd cc

has_read : (fed : List ℕ) (taken : List Frame) (p : Progress) (s : Sender) (stop : Option Stop) → stop ≡ None → Reads fed taken s.reader → HasRead fed taken p s stop
has_read fed taken p s None is h = h
has_read fed taken p s (Some stop) is h = absurd cc

said_open : (stage : Stage) (front : List Entry) (out : List ℕ) (s : Sender) → stage ≡ Opening → KeepsAt stage s → length front ≡ s.written → Said stage front out → Said Open front out
said_open Fresh front out s is k count said = absurd cc
said_open Opening [] out s is k count said = said ∙ sym (append_none _)
said_open Opening (e ∷ front) out s is k count said = absurd (omega (arith, count, k.0))
said_open Open front out s is k count said = absurd cc
said_open Closed front out s is k count said = absurd cc

opens : (stage : Stage) (s : Sender) (f : Frame) (h : History) → stage ≡ Opening → KeepsAt stage s → Stands stage h.progress s.written s.unanswered → KnowsOf s h → IsReply f → f.txnr ≡ 1 → code_of f.body ≡ Some 200 → Steps Open s s.unanswered s.beyond f h
opens Fresh s f h is k stands knows reply one code = absurd cc
opens Opening s f h is k stands knows reply one code =
    let empty : grown s.written [] ≡ [] = grown_whole s.written [] (sym k.0) in
    record {
      next = Opened [];
      takes = λ n can. subst (λ (q : Progress). Takes n q f (Opened [])) (sym stands) (reply, inr (one, code, refl));
      stands = ([], refl, subst (λ (l : List Bool). length l ≡ s.written) (sym empty) (sym k.0), subst (λ (l : List Bool). s.unanswered ≡ open_from 0 l) (sym empty) k.1);
      knows = knows_opened h.also h.progress (first_open s.unanswered s.written) s.beyond stands knows;
    }
opens Open s f h is k stands knows reply one code = absurd cc
opens Closed s f h is k stands knows reply one code = absurd cc

-- the frame that was taken from the reader, and where it begins
abbrev pub TakesFrom : Reader → ℕ → Frame → Reader → Type 0
TakesFrom old at f new = (fed : List ℕ) (taken : List Frame) → Reads fed taken old → BeginsAt fed taken at × Reads fed (taken ++ f ∷ []) new

-- the sender with other fields may have as many entries
can_have : (s t : Sender) (n : ℕ) → t.written ≡ s.written → t.waiting ≡ s.waiting → t.finished ≡ s.finished → CanHave t n → CanHave s n
can_have s t n a b c can =
    let w : length t.waiting ≡ length s.waiting = ap length b in
    record { most = omega (arith, can.most, a, w); all = λ e. (let x : n ≡ given t = can.all (c ∙ e) in omega (arith, x, a, w)) }

-- only an acknowledgment may be heard where that isn't due
due_of : (s : Sender) (x : Heard) → (IsAcknowledgment x → ⊥) → IsDue Hear s ⊎ IsAcknowledgment x → IsDue Hear s
due_of s x not may = elim may [ inl due ↦ due | inr a ↦ absurd (not a) ]

pub sends_heard : (x : Heard) (s : Sender) (r : Reader) (at : ℕ) (f : Frame) → Keeps s → s.stop ≡ None → s.beyond ≡ None → IsDue Hear s ⊎ IsAcknowledgment x → IsHeard s.stage s.unanswered at f x → TakesFrom s.reader at f r → SendsOn s [] [] (heard s r x)
sends_heard Ignored s r at f k goes alone may h took hist was =
    let must : MustHear s.stage s = (due_of s Ignored (λ a. a) may).2 in
    let step = ignored s.stage s f hist k must was.stands was.knows h.0 h.1 in (
      f ∷ [],
      step.next,
      record {
        front = was.front;
        whole = was.whole;
        count = was.count;
        said = subst (Said s.stage was.front) (sym (append_none hist.out)) was.said;
        stands = step.stands;
        takes = λ n can. (let c = can_have s (heard s r Ignored) n refl refl refl can in takes_then n Unopened hist.taken hist.progress f step.next (was.takes n c) (step.takes n c));
        read = has_read hist.fed (hist.taken ++ f ∷ []) step.next (heard s r Ignored) s.stop goes (took hist.fed hist.taken (read_of hist.fed hist.taken hist.progress s s.stop goes was.read)).1;
        knows = knows_also hist.also step.next (first_open s.unanswered s.written) s.beyond step.knows;
      },
    )
sends_heard Opens s r at f k goes alone may h took hist was =
    let step = opens s.stage s f hist h.1 k.at was.stands was.knows h.0 h.2 h.3 in (
      f ∷ [],
      step.next,
      record {
        front = was.front;
        whole = was.whole;
        count = was.count;
        said = subst (Said Open was.front) (sym (append_none hist.out)) (said_open s.stage was.front hist.out s h.1 k.at was.count was.said);
        stands = step.stands;
        takes = λ n can. (let c = can_have s (heard s r Opens) n refl refl refl can in takes_then n Unopened hist.taken hist.progress f step.next (was.takes n c) (step.takes n c));
        read = has_read hist.fed (hist.taken ++ f ∷ []) step.next (heard s r Opens) s.stop goes (took hist.fed hist.taken (read_of hist.fed hist.taken hist.progress s s.stop goes was.read)).1;
        knows = knows_also hist.also step.next (first_open s.unanswered s.written) s.beyond step.knows;
      },
    )
sends_heard (Acknowledged index) s r at f k goes alone may h took hist was =
    let stands' : HasMarks hist.progress s.written s.unanswered = subst (λ (t : Stage). Stands t hist.progress s.written s.unanswered) h.1 was.stands in
    let step = acknowledged s f hist index k alone stands' was.knows h.0 h.2 h.3 in
    let left = remove s.unanswered index in (
      f ∷ [],
      step.next,
      record {
        front = was.front;
        whole = was.whole;
        count = was.count;
        said = subst (Said s.stage was.front) (sym (append_none hist.out)) was.said;
        stands = subst (λ (t : Stage). Stands t step.next s.written left) (sym h.1) step.stands;
        takes = λ n can. (let c = can_have s (heard s r (Acknowledged index)) n refl refl refl can in takes_then n Unopened hist.taken hist.progress f step.next (was.takes n c) (step.takes n c));
        read = has_read hist.fed (hist.taken ++ f ∷ []) step.next (heard s r (Acknowledged index)) s.stop goes (took hist.fed hist.taken (read_of hist.fed hist.taken hist.progress s s.stop goes was.read)).1;
        knows = knows_also hist.also step.next (first_open left s.written) (beyond_of index (slice_index s.unanswered index)) step.knows;
      },
    )
sends_heard (Stopped stop) s r at f k goes alone may h took hist was =
    let got = took hist.fed hist.taken (read_of hist.fed hist.taken hist.progress s s.stop goes was.read) in
    let same : hist.taken ++ [] ≡ hist.taken = append_none hist.taken in (
      [],
      hist.progress,
      record {
        front = was.front;
        whole = was.whole;
        count = was.count;
        said = subst (Said s.stage was.front) (sym (append_none hist.out)) was.said;
        stands = was.stands;
        takes = λ n can. subst (λ (l : List Frame). TakesAll n Unopened l hist.progress) (sym same) (was.takes n (can_have s (heard s r (Stopped stop)) n refl refl refl can));
        read = (
          f,
          subst (λ (l : List Frame). Reads hist.fed (l ++ f ∷ []) r) (sym same) got.1,
          subst (λ (l : List Frame). StopsAt hist.fed l stop) (sym same) (stops_at stop s.stage s.unanswered at f hist.fed hist.taken h got.0),
          λ n can. stops stop s at f hist.progress k was.stands h n (can_have s (heard s r (Stopped stop)) n refl refl refl can),
        );
        knows = knows_also hist.also hist.progress (first_open s.unanswered s.written) s.beyond was.knows;
      },
    )

at_open : (stage : Stage) (s : Sender) (r : Reader) → stage ≡ Opening → KeepsAt stage s → 0 < given s
at_open Fresh s r is k = absurd cc
at_open Opening s r is k = omega (arith, k.2)
at_open Open s r is k = absurd cc
at_open Closed s r is k = absurd cc

at_same : (stage : Stage) (s t : Sender) → t.written ≡ s.written → t.unanswered ≡ s.unanswered → t.waiting ≡ s.waiting → t.finished ≡ s.finished → KeepsAt stage s → KeepsAt stage t
at_same Fresh s t a b c d k = (a ∙ k.0, b ∙ k.1)
at_same Opening s t a b c d k = (a ∙ k.0, b ∙ k.1, let e : length t.waiting ≡ length s.waiting = ap length c in omega (arith, e, k.2))
at_same Open s t a b c d k = let e : length t.waiting ≡ length s.waiting = ap length c in omega (arith, e, a, k)
at_same Closed s t a b c d k = (c ∙ k.0, b ∙ k.1, d ∙ k.2, omega (arith, a, k.3))

must_same : (stage : Stage) (s t : Sender) → t.unanswered ≡ s.unanswered → t.waiting ≡ s.waiting → t.finished ≡ s.finished → MustHear stage s → MustHear stage t
must_same Fresh s t b c d m = m
must_same Opening s t b c d m = m
must_same Open s t b c d m = let e : length t.unanswered ≡ length s.unanswered = ap length b in elim m [ inl x ↦ inl (e ∙ x) | inr x ↦ inr (c ∙ x.0, d ∙ x.1, omega (arith, e, x.2)) ]
must_same Closed s t b c d m = m

pub keeps_heard : (x : Heard) (s : Sender) (r : Reader) (at : ℕ) (f : Frame) → Keeps s → s.asked ≡ false → s.stop ≡ None → s.beyond ≡ None → IsDue Hear s ⊎ IsAcknowledgment x → IsHeard s.stage s.unanswered at f x → Keeps (heard s r x)
keeps_heard Ignored s r at f k asked goes alone may h = record { few = k.few; below = k.below; order = k.order; told = k.told; beyond = λ place e. absurd (no_place s.beyond place alone e); number = k.number; events = k.events; at = at_same s.stage s (heard s r Ignored) refl refl refl refl k.at; need = λ e. absurd (false≢true (sym asked ∙ e)); ended = λ stop e. absurd (no_stop s.stop stop goes e) }
keeps_heard Opens s r at f k asked goes alone may h = record { few = k.few; below = k.below; order = k.order; told = k.told; beyond = λ place e. absurd (no_place s.beyond place alone e); number = k.number; events = k.events; at = at_open s.stage s r h.1 k.at; need = λ e. absurd (false≢true (sym asked ∙ e)); ended = λ stop e. absurd (no_stop s.stop stop goes e) }
keeps_heard (Acknowledged index) s r at f k asked goes alone may h =
    let n = length-remove s.unanswered index h.2.inside in
    let at' : KeepsAt Open s = subst (λ (t : Stage). KeepsAt t s) h.1 k.at in
    record {
      few = omega (arith, k.few, n);
      below = All-append (λ (p : ℕ). p < s.written) (take index s.unanswered) (drop (suc index) s.unanswered) (All-take (λ (p : ℕ). p < s.written) index s.unanswered k.below) (All-drop (λ (p : ℕ). p < s.written) (suc index) s.unanswered k.below);
      order = all_pairs_remove (λ (a b : ℕ). a < b) s.unanswered index h.2.inside k.order;
      told = omega (arith, k.told, front_rises s.unanswered s.written index k.order k.below h.2.inside);
      beyond = λ place e. (let b = beyond_at s.unanswered s.written index place k.order k.below h.2.inside e in record { after = b.0; written = b.1 });
      number = k.number;
      events = k.events;
      at = subst (λ (t : Stage). KeepsAt t (heard s r (Acknowledged index))) (sym h.1) at';
      need = λ e. absurd (false≢true (sym asked ∙ e));
      ended = λ stop e. absurd (no_stop s.stop stop goes e);
    }
keeps_heard (Stopped stop) s r at f k asked goes alone may h = record { few = k.few; below = k.below; order = k.order; told = k.told; beyond = λ place e. absurd (no_place s.beyond place alone e); number = k.number; events = k.events; at = at_same s.stage s (heard s r (Stopped stop)) refl refl refl refl k.at; need = λ e. absurd (false≢true (sym asked ∙ e)); ended = λ _ e. (let due = due_of s (Stopped stop) (λ a. a) may in (record { front = due.1.front; beyond = due.1.beyond }, must_same s.stage s (heard s r (Stopped stop)) refl refl refl due.2)) }

-- the same with what the window is left with
pub sends_acknowledged : (index : ℕ) (s : Sender) (r : Reader) (at : ℕ) (f : Frame) (left : List ℕ) (after : Option ℕ) → Keeps s → s.stop ≡ None → s.beyond ≡ None → IsHeard s.stage s.unanswered at f (Acknowledged index) → TakesFrom s.reader at f r
    → left ≡ remove s.unanswered index → after ≡ beyond_of index (slice_index s.unanswered index) → SendsOn s [] [] (record s { reader = r; unanswered = left; beyond = after })
sends_acknowledged index s r at f left after k goes alone h took a b =
    subst (λ (l : List ℕ). SendsOn s [] [] (record s { reader = r; unanswered = l; beyond = after })) (sym a)
    (subst (λ (o : Option ℕ). SendsOn s [] [] (record s { reader = r; unanswered = remove s.unanswered index; beyond = o })) (sym b) (sends_heard (Acknowledged index) s r at f k goes alone (inr tt) h took))

pub keeps_acknowledged : (index : ℕ) (s : Sender) (r : Reader) (at : ℕ) (f : Frame) (left : List ℕ) (after : Option ℕ) → Keeps s → s.asked ≡ false → s.stop ≡ None → s.beyond ≡ None → IsHeard s.stage s.unanswered at f (Acknowledged index)
    → left ≡ remove s.unanswered index → after ≡ beyond_of index (slice_index s.unanswered index) → Keeps (record s { reader = r; unanswered = left; beyond = after })
keeps_acknowledged index s r at f left after k asked goes alone h a b =
    subst (λ (l : List ℕ). Keeps (record s { reader = r; unanswered = l; beyond = after })) (sym a)
    (subst (λ (o : Option ℕ). Keeps (record s { reader = r; unanswered = remove s.unanswered index; beyond = o })) (sym b) (keeps_heard (Acknowledged index) s r at f k asked goes alone (inr tt) h))
