-- What a sender of Lumberjack has sent, where a session ends.
use Rattle.std.proofs.Common.{◌≡◌, ◌≢◌, inl, inr, ℕ, ◌+◌, ◌*◌, ◌<◌, ◌≤◌, ◌^◌, ◌∙◌, true, List, [], ◌∷◌, ◌++◌, length, refl, sym, ap, subst, arith, append_assoc, length-append}
use Rattle.std.specs.Prelude.{◌%◌, ◌/◌, Contains, Option, Some, None, Result, Ok, Err, IfOk}
use Rattle.std.proofs.lemmas.Bool.{false≢true}
use Rattle.event_form.specs.declared.event.Entry.{Entry}
use Rattle.event_form.specs.declared.talk.Why.{Why}
use Rattle.event_form.specs.declared.turn.Turn.{Turn}
use Rattle.event_form.specs.declared.turn.Turn.TheVariants.{Write, Confirmed, Also, Need, Wait, Pause, Done, Refused, PeerClosed, PeerFault, Unconfirmed}
use Rattle.event_form.specs.Turn.{HasTold, IsResting, text_of}
use Rattle.lumber_frame.specs.declared.fault.LumberFault.{LumberFault}
use Rattle.lumber_frame.specs.declared.frame.LumberFrame.{LumberFrame}
use Rattle.lumber_frame.specs.declared.side.Side.{Side}
use Rattle.lumber_frame.specs.declared.side.Side.TheVariants as side
use Rattle.lumber_frame.specs.Reading.{ReadsTo}
use Rattle.lumber_frame.specs.Spelling.{Spells}
use Rattle.lumber_sender.specs.Progress.{Progress, TakesAll, known_by, unacknowledged}
use Rattle.lumber_sender.specs.Sender.{Sender, given, progress_of}
use Rattle.lumber_sender.specs.Sender as sender
use Rattle.lumber_sender.specs.Sends.{History, Sends, SendsOn, CanHave, EndAt, HasRead}
use Rattle.lumber_sender.specs.Turns.{Begins, IsSpent, IsTurn, IsWholeOf, TellsAll, TellsSent}
use Rattle.lumber_sender.specs.Turns as turns
use Rattle.lumber_sender.specs.Windows.{IsSent, windows_text}
use Rattle.forward_core.specs.declared.sent.Sent.{Sent}
use Rattle.forward_core.specs.declared.sent.Sent.TheVariants as ending
use Rattle.forward_core.specs.Lumber.{EndsAt, HasSent, IsFront, IsWhole, StopsNext, lumberjack}
use Rattle.forward_core.specs.Outlet.{Ended, Ends, IsFull, IsOpen}
use Rattle.forward_core.specs.Outlet as outlet
use Rattle.forward_core.specs.Turning.{IsAlsoOne, IsCut, IsEndingBy, IsHalt, IsSpending, IsTold, MayEnd, MayFollow, TellsFirst, also_of}
use Rattle.lumber_sender.proofs.Reading.{acks_length}
use Rattle.forward_core.proofs.Ends.{append_none, begins_first, cut_short, halted, many, missing_of, some_missing}

-- ---- what the turns of the two crates say

pub tells_first : (turn : Turn) (s : Sender) (before : ℕ) → IsTurn turn s → turns.IsTold turn before s.told → TellsFirst s.first turn before s.told
tells_first (Confirmed upto) s before is on = (on, is.2)
tells_first turn s before is on = on

pub also_one : (turn : Turn) (s : Sender) → IsTurn turn s → IsAlsoOne s.first s.told (given s) turn
also_one (Also from to) s is = absurd is
also_one turn s is = tt

-- it never tells of one entry alone
pub no_also : (turn : Turn) (s : Sender) (first : ℕ) → IsTurn turn s → also_of first turn ≡ []
no_also (Also from to) s first is = absurd is
no_also turn s first is = refl

pub spends : (turn : Turn) (s : Sender) (before now : ℕ) → IsTurn turn s → IsSpent turn before now → IsSpending turn before now
spends (Write text) s before now is on = on
spends (Confirmed upto) s before now is on = on
spends (Also from to) s before now is on = absurd is
spends Pause s before now is on = absurd is
spends turn s before now is on = on

pub unfinished : (turn : Turn) (s : Sender) → IsTurn turn s → turn ≡ Need → s.finished ≡ true → ⊥
unfinished turn s is need over =
    let n : IsTurn Need s = subst (λ (t : Turn). IsTurn t s) need is in
    false≢true (sym n.more ∙ over)

pub bound_of : (given spent : ℕ) → spent ≤ 2 * given → given ≤ 2 ^ 63 → spent ≤ 2 ^ 100
bound_of given spent le most = omega (arith, le, most)

pub even_of : (given : ℕ) → (q : ℕ) × (given ≡ 128 * q) → given % 128 ≡ 0
even_of given h = omega (arith, h.1)

pub sent_on : (old new : Sender) (text : List ℕ) → SendsOn old text new → (entries : List Entry) (fed out also : List ℕ) → HasSent old entries fed out also → HasSent new entries fed (out ++ text) also
sent_on old new text on entries fed out also h =
    let r = on (record { entries = entries; fed = fed; taken = h.1.0; out = out; progress = h.1.1 }) h.1.2 in
    (h.0, (h.1.0 ++ r.0, r.1, r.2))

pub sent_also : (old new : Sender) (turn : Turn) (first : ℕ) → IsTurn turn new → SendsOn old (text_of turn) new → (entries : List Entry) (fed out also : List ℕ) → HasSent old entries fed out also → HasSent new entries fed (out ++ text_of turn) (also ++ also_of first turn)
sent_also old new turn first is on entries fed out also h =
    let e : also ++ also_of first turn ≡ also = ap (λ (l : List ℕ). also ++ l) (no_also turn new first is) ∙ append_none also in
    subst (HasSent new entries fed (out ++ text_of turn)) (sym e) (sent_on old new (text_of turn) on entries fed out also h)

-- ---- the receiver's bytes

abbrev Spelling : LumberFrame → List ℕ → Type 0
Spelling = Spells side.Sender

front_of : (fed : List ℕ) (fs gs : List LumberFrame) (at : ℕ) (rest : List ℕ) (fault : Option LumberFault) → ReadsTo side.Sender fed (fs ++ gs) at rest fault → IsFront fed fs
front_of fed fs gs at rest None h =
    let r = begins_first Spelling fs gs fed h.front rest h.spelled h.whole in
    (length r.0, record { front = r.0; rest = r.1; spelled = r.2; whole = r.3; place = refl })
front_of fed fs gs at rest (Some e) h =
    let g = h.1 in
    let r = begins_first Spelling fs gs fed g.front (h.0 ++ (g.field ++ g.more)) g.spelled g.whole in
    (length r.0, record { front = r.0; rest = r.1; spelled = r.2; whole = r.3; place = refl })

front_first : (fed : List ℕ) (fs gs : List LumberFrame) → IsFront fed (fs ++ gs) → IsFront fed fs
front_first fed fs gs h =
    let b = h.1 in
    let r = begins_first Spelling fs gs fed b.front b.rest b.spelled b.whole in
    (length r.0, record { front = r.0; rest = r.1; spelled = r.2; whole = r.3; place = refl })

front_more : (fed piece : List ℕ) (fs : List LumberFrame) → IsFront fed fs → IsFront (fed ++ piece) fs
front_more fed piece fs h =
    let b = h.1 in
    (h.0, record { front = b.front; rest = b.rest ++ piece; spelled = b.spelled; whole = ap (λ (l : List ℕ). l ++ piece) b.whole ∙ append_assoc b.front b.rest piece; place = b.place })

-- what was read, of a sender's side
reads_of : (fed : List ℕ) (frames : List LumberFrame) (s : Sender) → s.reader.side ≡ side.Sender → ReadsTo s.reader.side fed frames s.reader.at s.reader.rest s.reader.fault → ReadsTo side.Sender fed frames s.reader.at s.reader.rest s.reader.fault
reads_of fed frames s is h = subst (λ (x : Side). ReadsTo x fed frames s.reader.at s.reader.rest s.reader.fault) is h

front_by : (fed : List ℕ) (taken : List LumberFrame) (s : Sender) (o : Option ℕ) → s.reader.side ≡ side.Sender → HasRead fed taken s o → IsFront fed taken
front_by fed taken s None is h = front_of fed taken s.reader.waiting s.reader.at s.reader.rest s.reader.fault (reads_of fed (taken ++ s.reader.waiting) s is h)
front_by fed taken s (Some at) is h = front_first fed taken (h.0 ∷ []) (front_of fed (taken ++ h.0 ∷ []) s.reader.waiting s.reader.at s.reader.rest s.reader.fault (reads_of fed ((taken ++ h.0 ∷ []) ++ s.reader.waiting) s is h.1))

-- all whole frames were taken
reads_all : (fed : List ℕ) (taken : List LumberFrame) (s : Sender) → s.reader.side ≡ side.Sender → s.stop ≡ None → s.reader.waiting ≡ [] → HasRead fed taken s s.stop → ReadsTo side.Sender fed taken s.reader.at s.reader.rest s.reader.fault
reads_all fed taken s is goes none h =
    let r : HasRead fed taken s None = subst (HasRead fed taken s) goes h in
    let e : taken ++ s.reader.waiting ≡ taken = ap (λ (l : List LumberFrame). taken ++ l) none ∙ append_none taken in
    subst (λ (l : List LumberFrame). ReadsTo side.Sender fed l s.reader.at s.reader.rest s.reader.fault) e (reads_of fed (taken ++ s.reader.waiting) s is r)

is_whole : (fed : List ℕ) (taken : List LumberFrame) (s : Sender) → s.reader.side ≡ side.Sender → s.stop ≡ None → s.reader.waiting ≡ [] → s.reader.fault ≡ None → HasRead fed taken s s.stop → IsWhole fed taken
is_whole fed taken s is goes none clean h = (s.reader.at, s.reader.rest, subst (ReadsTo side.Sender fed taken s.reader.at s.reader.rest) clean (reads_all fed taken s is goes none h))

ends_at : (fed : List ℕ) (taken : List LumberFrame) (at : ℕ) → IsFront fed taken → EndAt taken at → EndsAt fed taken at
ends_at fed taken at h e =
    let b = h.1 in
    record { front = b.front; rest = b.rest; spelled = b.spelled; whole = b.whole; place = acks_length taken b.front b.spelled ∙ sym (acks_length taken e.0 e.1) ∙ e.2 }

stops_next : (fed : List ℕ) (taken : List LumberFrame) (s : Sender) (n at : ℕ) → s.reader.side ≡ side.Sender → CanHave s n → s.stop ≡ Some at → HasRead fed taken s s.stop → StopsNext n fed taken (progress_of s) at
stops_next fed taken s n at is can stop h =
    let r : HasRead fed taken s (Some at) = subst (HasRead fed taken s) stop h in
    let all = front_of fed (taken ++ r.0 ∷ []) s.reader.waiting s.reader.at s.reader.rest s.reader.fault (reads_of fed ((taken ++ r.0 ∷ []) ++ s.reader.waiting) s is r.1) in
    (r.0, all, ends_at fed taken at (front_first fed taken (r.0 ∷ []) all) r.2, r.3 n can)

-- ---- the endings

-- what a turn says of the sender after it
pub record Facts (turn : Turn) (s : Sender) : Type 0 where
  pub side : s.reader.side ≡ side.Sender
  pub is : IsTurn turn s
  pub known : HasTold turn → (h : History) → Sends h s → TellsAll h s
  pub all : IsResting turn → turn ≢ Need → (h : History) (more : List Entry) → Sends h s → sender.MayFollow s more → IsWholeOf h more
  pub done : turn ≡ Done → s.told ≡ given s
  pub left : IsResting turn → turn ≢ Need → turn ≢ Done → s.told < given s

pub facts_of : {E : Type 0} (r : Result Turn E) (s : Sender) → s.reader.side ≡ side.Sender → IfOk r (λ turn. IsTurn turn s)
    → IfOk r (λ turn. HasTold turn → (h : History) → Sends h s → TellsAll h s)
    → IfOk r (λ turn. IsResting turn → turn ≢ Need → (h : History) (more : List Entry) → Sends h s → sender.MayFollow s more → IsWholeOf h more)
    → IfOk r (λ turn. turn ≡ Done → s.told ≡ given s)
    → IfOk r (λ turn. IsResting turn → turn ≢ Need → turn ≢ Done → s.told < given s) → IfOk r (λ turn. Facts turn s)
facts_of (Ok turn) s x a b c d e = record { side = x; is = a; known = b; all = c; done = d; left = e }
facts_of (Err y) s x a b c d e = tt

abbrev HistoryOf : List Entry → List ℕ → List ℕ → List LumberFrame → Progress → History
HistoryOf entries fed out taken p = record { entries = entries; fed = fed; taken = taken; out = out; progress = p }

-- these entries may follow
follow : (s : Sender) (more : List Entry) → MayFollow (s.finished ≡ true) (given s) more → sender.MayFollow s more
follow s more may = record { none = may.none; whole = λ some. even_of (given s) (may.whole some) }

count_of : (h : History) (s : Sender) → Sends h s → length h.entries ≡ given s
count_of h s was = let a : length h.entries ≡ length was.front + length s.batch = ap length was.entries ∙ length-append was.front s.batch in omega (arith, a, was.count)

can_have : (h : History) (s : Sender) (more : List Entry) → MayFollow (s.finished ≡ true) (given s) more → Sends h s → CanHave s (length (h.entries ++ more))
can_have h s more may was =
    let a = count_of h s was in
    let b = length-append h.entries more in
    record {
      most = omega (arith, a, b);
      all = λ f. (let z : length more ≡ 0 = ap length (may.none f) in omega (arith, a, b, z));
      whole = λ less. even_of (given s) (may.whole (omega (arith, a, b, less)));
    }

ended : (h : History) (s : Sender) (more : List Entry) (sent : Sent) → s.reader.side ≡ side.Sender → MayFollow (s.finished ≡ true) (given s) more → Sends h s
    → Ends lumberjack (h.entries ++ more) h.fed h.taken h.progress h.out s.told [] sent → Ended lumberjack (h.entries ++ more) h.fed h.out s.told [] sent
ended h s more sent is may was row = record {
  frames = h.taken;
  progress = h.progress;
  takes = subst (TakesAll (length (h.entries ++ more)) unacknowledged h.taken) (sym was.progress) (was.takes (length (h.entries ++ more)) (can_have h s more may was));
  begins = front_by h.fed h.taken s s.stop is was.read;
  ends = row;
}

none : (place : ℕ) → Contains [] place → ⊥
none place c = absurd (omega (arith, c.1))

-- what was told is what is acknowledged
tells_all : (h : History) (s : Sender) (all : List Entry) → TellsAll h s → outlet.TellsAll lumberjack all h.progress s.told []
tells_all h s all told = record {
  front = told;
  all = λ place. ((λ less. inl (omega (arith, less, told))), (λ is. elim is [ inl less ↦ omega (arith, less, told) | inr c ↦ absurd (none place c) ]));
}

full : (turn : Turn) (s : Sender) → Facts turn s → IsResting turn → HasTold turn → turn ≢ Need → (h : History) (more : List Entry) → MayFollow (s.finished ≡ true) (given s) more → Sends h s
    → IsFull lumberjack (h.entries ++ more) h.progress h.out s.told []
full turn s f rests told need h more may was = (f.all rests need h more was (follow s more may), tells_all h s (h.entries ++ more) (f.known told h was))

still : (turn : Turn) (s : Sender) → Facts turn s → IsResting turn → HasTold turn → turn ≢ Need → turn ≢ Done → (h : History) (more : List Entry) → MayFollow (s.finished ≡ true) (given s) more → Sends h s
    → IsOpen lumberjack (h.entries ++ more) h.progress h.out s.told []
still turn s f rests told need done h more may was =
    let k = full turn s f rests told need h more may was in
    let less = f.left rests need done in
    (k.0, k.1, omega (arith, less, count_of h s was, many h.entries more))

row_done : (s : Sender) → Facts Done s → (h : History) (more : List Entry) → MayFollow (s.finished ≡ true) (given s) more → Sends h s → Ended lumberjack (h.entries ++ more) h.fed h.out s.told [] ending.Drained
row_done s f h more may was =
    let z : length more ≡ 0 = ap length (may.none f.is.finished) in
    let d = f.done refl in
    let all : s.told ≡ length (h.entries ++ more) = omega (arith, d, z, count_of h s was, length-append h.entries more) in
    ended h s more ending.Drained f.side may was (full Done s f tt tt (λ e. cc) h more may was, all)

row_fault : (s : Sender) (at : ℕ) (why : Why) → Facts (PeerFault at why) s → (h : History) (more : List Entry) → MayFollow (s.finished ≡ true) (given s) more → Sends h s
    → Ended lumberjack (h.entries ++ more) h.fed h.out s.told [] (ending.PeerFault at why)
row_fault s at why f h more may was =
    let n = length (h.entries ++ more) in
    ended h s more (ending.PeerFault at why) f.side may was (
      still (PeerFault at why) s f tt tt (λ e. cc) (λ e. cc) h more may was,
      elim f.is [
        | inl x ↦ inl (subst (λ (p : Progress). StopsNext n h.fed h.taken p at) (sym was.progress) (stops_next h.fed h.taken s n at f.side (can_have h s more may was) x.0 was.read), x.1)
        | inr x ↦ (let e = x.2 in inr (s.reader.at, s.reader.rest, e.0, subst (ReadsTo side.Sender h.fed h.taken s.reader.at s.reader.rest) e.1 (reads_all h.fed h.taken s f.side x.0.0 x.1 was.read), e.2, e.3))
      ],
    )

abbrev EndedBy : List Entry → List ℕ → List ℕ → ℕ → Sent → List ℕ → Type 0
EndedBy entries fed out told sent also = Ended lumberjack entries fed out told also sent

pub ends_of : (turn : Turn) (s : Sender) → Facts turn s → (sent : Sent) → IsEndingBy turn sent → (entries more : List Entry) (fed out also : List ℕ) → MayFollow (s.finished ≡ true) (given s) more → HasSent s entries fed out also
    → Ended lumberjack (entries ++ more) fed out s.told also sent
ends_of Done s f sent is entries more fed out also may h =
    let row = row_done s f (HistoryOf entries fed out h.1.0 h.1.1) more may h.1.2 in
    subst (EndedBy (entries ++ more) fed out s.told sent) (sym h.0) (subst (Ended lumberjack (entries ++ more) fed out s.told []) (sym is) row)
ends_of (PeerFault at why) s f sent is entries more fed out also may h =
    let row = row_fault s at why f (HistoryOf entries fed out h.1.0 h.1.1) more may h.1.2 in
    subst (EndedBy (entries ++ more) fed out s.told sent) (sym h.0) (subst (Ended lumberjack (entries ++ more) fed out s.told []) (sym is) row)
ends_of (Refused unit code) s f sent is entries more fed out also may h = absurd f.is
ends_of PeerClosed s f sent is entries more fed out also may h = absurd f.is
ends_of (Unconfirmed asked) s f sent is entries more fed out also may h = absurd f.is
ends_of turn s f sent is entries more fed out also may h = absurd is

-- the receiver never closes the session by a frame
pub not_closed : (turn : Turn) (s : Sender) → IsTurn turn s → turn ≡ PeerClosed → ⊥
not_closed turn s is closed = subst (λ (t : Turn). IsTurn t s) closed is

-- where the receiver's bytes are waited for
waits_row : (s : Sender) → Facts Wait s → (entries more : List Entry) (fed out also : List ℕ) → MayFollow (s.finished ≡ true) (given s) more → (h : HasSent s entries fed out also) → (sent : Sent)
    → (IsOpen lumberjack (entries ++ more) h.1.1 out s.told [] → IsWhole fed h.1.0 → Ends lumberjack (entries ++ more) fed h.1.0 h.1.1 out s.told [] sent) → Ended lumberjack (entries ++ more) fed out s.told also sent
waits_row s f entries more fed out also may h sent row =
    let hist = HistoryOf entries fed out h.1.0 h.1.1 in
    let left = still Wait s f tt tt (λ e. cc) (λ e. cc) hist more may h.1.2 in
    let whole = is_whole fed h.1.0 s f.side f.is.0.0 f.is.1 f.is.2 h.1.2.read in
    subst (EndedBy (entries ++ more) fed out s.told sent) (sym h.0) (ended hist s more sent f.side may h.1.2 (row left whole))

waits_for : (s : Sender) → Facts Wait s → (entries more : List Entry) (also : List ℕ) → MayFollow (s.finished ≡ true) (given s) more
    → MayEnd (λ fed out. HasSent s entries fed out also) (λ fed out. Ended lumberjack (entries ++ more) fed out s.told also)
waits_for s f entries more also may = record {
  closed = λ fed out h. waits_row s f entries more fed out also may h ending.PeerClosed (λ left whole. (left, inl whole));
  read_fault = λ fed out h. waits_row s f entries more fed out also may h ending.ReadFault (λ left whole. (left, whole));
  too_much = λ fed out h size. waits_row s f entries more fed out also may h (ending.TooMuch (2 ^ 40)) (λ left whole. (left, whole, size, refl));
}

pub waits_of : (turn : Turn) (s : Sender) → Facts turn s → turn ≡ Wait → (entries more : List Entry) (also : List ℕ) → MayFollow (s.finished ≡ true) (given s) more
    → MayEnd (λ fed out. HasSent s entries fed out also) (λ fed out. Ended lumberjack (entries ++ more) fed out s.told also)
waits_of turn s f is = waits_for s (subst (λ (t : Turn). Facts t s) is f)

-- what a sender has told was sent
abbrev HasSentTold : Sender → Type 0
HasSentTold s = (h : History) (more : List Entry) → Sends h s → sender.MayFollow s more → TellsSent h more s

-- so it is once a text more was written
sent_still : (entries : List Entry) (out part : List ℕ) (place : ℕ) → IsSent entries out place → IsSent entries (out ++ part) place
sent_still entries out part place is = (is.0 ++ part, ap (λ (l : List ℕ). l ++ part) is.1 ∙ append_assoc (windows_text (place / 128 + 1) entries) is.0 part)

-- it tells of the first entries alone
pub of_first : (told : ℕ) (P : ℕ → Type 0) → ((place : ℕ) → place < told → P place) → (place : ℕ) → IsTold told [] place → P place
of_first told P all place is = elim is [ inl less ↦ all place less | inr c ↦ absurd (none place c) ]

-- a session halts
pub halts_of : (s : Sender) → s.reader.side ≡ side.Sender → ((h : History) (more : List Entry) → Sends h s → sender.MayFollow s more → Begins h more) → ((h : History) → Sends h s → s.told ≤ known_by h.progress) → HasSentTold s
    → (entries more : List Entry) (fed piece out also : List ℕ) (sent : Sent) → IsHalt sent → MayFollow (s.finished ≡ true) (given s) more → HasSent s entries fed out also → Ended lumberjack (entries ++ more) (fed ++ piece) out s.told also sent
halts_of s is begins most sent_of entries more fed piece out also sent halt may h =
    let hist = HistoryOf entries fed out h.1.0 h.1.1 in
    let was = h.1.2 in
    let b = begins hist more was (follow s more may) in
    let least = most hist was in
    let takes = subst (TakesAll (length (entries ++ more)) unacknowledged h.1.0) (sym was.progress) (was.takes (length (entries ++ more)) (can_have hist s more may was)) in
    let front = front_more fed piece h.1.0 (front_by fed h.1.0 s s.stop is was.read) in
    let only = of_first s.told (λ (place : ℕ). place < known_by h.1.1) (λ place less. omega (arith, less, least)) in
    let sent_are = of_first s.told (IsSent (entries ++ more) out) (sent_of hist more was (follow s more may)) in
    subst (EndedBy (entries ++ more) (fed ++ piece) out s.told sent) (sym h.0) (halted lumberjack (entries ++ more) (fed ++ piece) h.1.0 h.1.1 out s.told [] takes front (b.0, b.1, sent_are, only) sent halt)

-- what a turn leaves as it was, and what was told before it
pub record Before (old s : Sender) : Type 0 where
  pub given_is : given s ≡ given old
  pub finished : s.finished ≡ old.finished
  pub sent : HasSentTold old

-- what was told before a text was sent before it, whatever of the text was written
sent_before : (old s : Sender) → Before old s → s.told ≡ old.told → (h : History) (more : List Entry) (part : List ℕ) → sender.MayFollow s more → Sends h old → (place : ℕ) → place < s.told → IsSent (h.entries ++ more) (h.out ++ part) place
sent_before old s b same h more part may was place less =
    let may_old : sender.MayFollow old more = record { none = λ f. may.none (b.finished ∙ f); whole = λ some. ap (λ (n : ℕ). n % 128) (sym b.given_is) ∙ may.whole some } in
    sent_still (h.entries ++ more) h.out part place (b.sent h more was may_old place (omega (arith, less, same)))

-- a text is cut
cuts_for : (text : List ℕ) (old s : Sender) → Facts (Write text) s → SendsOn old text s → Before old s → s.told ≡ old.told → ((h : History) (more : List Entry) → Sends h s → sender.MayFollow s more → Begins h more)
    → (entries more : List Entry) (fed out part rest also : List ℕ) (sent : Sent) → IsCut sent → MayFollow (s.finished ≡ true) (given s) more → text ≡ part ++ rest → 0 < length rest → HasSent old entries fed out also
    → Ended lumberjack (entries ++ more) fed (out ++ part) s.told also sent
cuts_for text old s f on before same begins entries more fed out part rest also sent is may parts some was =
    let h = sent_on old s text on entries fed out also was in
    let after = HistoryOf entries fed (out ++ text) h.1.0 h.1.1 in
    let sends = h.1.2 in
    let b = begins after more sends (follow s more may) in
    let takes = subst (TakesAll (length (entries ++ more)) unacknowledged h.1.0) (sym sends.progress) (sends.takes (length (entries ++ more)) (can_have after s more may sends)) in
    let front = front_by fed h.1.0 s s.stop f.side sends.read in
    let row = cut_short lumberjack (entries ++ more) fed h.1.0 h.1.1 (out ++ part) s.told [] takes front (
      rest ++ b.0,
      some_missing rest b.0 some,
      b.1 ∙ missing_of out text part rest b.0 parts,
      tells_all after s (entries ++ more) (f.known tt after sends),
      of_first s.told (IsSent (entries ++ more) (out ++ part)) (sent_before old s before same (HistoryOf entries fed out was.1.0 was.1.1) more part (follow s more may) was.1.2),
    ) sent is in
    subst (EndedBy (entries ++ more) fed (out ++ part) s.told sent) (sym was.0) row

pub cuts_of : (turn : Turn) (old s : Sender) → Facts turn s → SendsOn old (text_of turn) s → Before old s → turns.IsTold turn old.told s.told → ((h : History) (more : List Entry) → Sends h s → sender.MayFollow s more → Begins h more)
    → (entries more : List Entry) (fed out part rest also : List ℕ) (sent : Sent) → IsCut sent → MayFollow (s.finished ≡ true) (given s) more → text_of turn ≡ part ++ rest → 0 < length rest → HasSent old entries fed out also
    → Ended lumberjack (entries ++ more) fed (out ++ part) s.told also sent
cuts_of (Write text) old s f on before same begins entries more fed out part rest also sent is may parts some was = cuts_for text old s f on before same begins entries more fed out part rest also sent is may parts some was
cuts_of turn old s f on before same begins entries more fed out part rest also sent is may parts some was = absurd (let n : 0 ≡ length (part ++ rest) = ap length parts in omega (arith, n, some, length-append part rest))
