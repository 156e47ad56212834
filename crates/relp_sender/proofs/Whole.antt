-- The text is whole, and what is acknowledged was told.
use Rattle.std.proofs.Common.{◌≡◌, ◌≢◌, inl, inr, ℕ, ◌+◌, ◌-◌, ◌<◌, ◌≤◌, ◌∙◌, Bool, true, false, List, [], ◌∷◌, ◌++◌, length, take, refl, sym, ap, subst, arith, add-one, append_assoc}
use Rattle.std.specs.Prelude.{◌⊎◌, Some, None, ◌==◌, if◌then◌else◌}
use Rattle.std.proofs.lemmas.Bool.{false≢true, ne_eqb, eq-eqb}
use Rattle.std.proofs.Math.ListN.{length-append}
use Rattle.event_form.specs.declared.event.Entry.{Entry}
use Rattle.event_form.specs.declared.turn.Turn.{Turn}
use Rattle.event_form.specs.declared.turn.Turn.TheVariants.{Write, Confirmed, Also, Need, Wait, Pause, Done, Refused, PeerClosed, PeerFault, Unconfirmed}
use Rattle.event_form.specs.Turn.{HasTold as TellsNothing, IsResting}
use Rattle.relp_sender.specs.declared.stage.Stage.{Stage}
use Rattle.relp_sender.specs.declared.stage.Stage.TheVariants.{Fresh, Opening, Open, Closed}
use Rattle.relp_sender.specs.declared.stage.Stop.TheVariants as stops
use Rattle.relp_sender.specs.Texts.{open_text, close_text, frames_text}
use Rattle.relp_sender.specs.Marks.{grown, count_known, known_front, allowed, open_from}
use Rattle.relp_sender.specs.Window.{first_open}
use Rattle.relp_sender.specs.Progress.{Progress, Unopened, Opened, IsKnown, known_by}
use Rattle.relp_sender.specs.Text.{session_text, text_by, closing_text}
use Rattle.relp_sender.specs.Sender.{Sender, Keeps, KeepsAt, HasTold, given, MustHear, IsDone, MayAsk}
use Rattle.relp_sender.specs.Sends.{History, Sends, CanHave, HasMarks, Stands, Said}
use Rattle.relp_sender.specs.Turns.{IsTurn, IsWhole, IsWholeOf, IsFirstOf, Begins, TellsAll}
use Rattle.relp_sender.proofs.Marking.{front_open, front_grown, allowed_all, allowed_least}
use Rattle.relp_sender.proofs.TextLaws.{append_none, frames_append}
use Rattle.relp_sender.proofs.Knowing.{known_below}
use Rattle.relp_sender.proofs.Frames.{acknowledged_of, allowed_is}
use Rattle.relp_sender.proofs.Writing.{empty_of}

-- ---- texts

session_some : (L : List Entry) (p : Progress) (over : Bool) → 0 < length L → session_text L p over ≡ text_by p L over
session_some [] p over some = absurd (omega (arith, some))
session_some (e ∷ es) p over some = refl

session_none : (L : List Entry) (p : Progress) (over : Bool) → L ≡ [] → session_text L p over ≡ []
session_none L p over is = ap (λ (l : List Entry). session_text l p over) is

closing_none : (n : ℕ) (marks : List Bool) (over : Bool) → ((over ≡ true) × (count_known marks ≡ n) → ⊥) → closing_text n marks over ≡ []
closing_none n marks false not = refl
closing_none n marks true not =
    let e : (count_known marks == n) ≡ false = ne_eqb (count_known marks) n (λ q. not (refl, q)) in
    ap (λ (b : Bool). if b then close_text n else []) e

closing_all : (n : ℕ) (marks : List Bool) → count_known marks ≡ n → closing_text n marks true ≡ close_text n
closing_all n marks is =
    let e : (count_known marks == n) ≡ true = eq-eqb (count_known marks) n is in
    ap (λ (b : Bool). if b then close_text n else []) e

take_front : (xs ys : List Entry) → take (length xs) (xs ++ ys) ≡ xs
take_front [] ys = refl
take_front (x ∷ xs) ys = ap (λ (l : List Entry). x ∷ l) (take_front xs ys)

take_written : (entries front rest : List Entry) (w : ℕ) → entries ≡ front ++ rest → length front ≡ w → take w entries ≡ front
take_written entries front rest w whole count = ap (λ (n : ℕ). take n entries) (sym count) ∙ ap (take (length front)) whole ∙ take_front front rest

take_more : (xs ys : List Entry) (a : ℕ) → length xs ≤ a → take a (xs ++ ys) ≡ xs ++ take (a - length xs) ys
take_more [] ys a le = let e : a ≡ a - 0 = omega arith in ap (λ (n : ℕ). take n ys) e
take_more (x ∷ xs) ys a le =
    let e : a ≡ (a - 1) + 1 = omega (arith, le) in
    let f : a - 1 - length xs ≡ a - length (x ∷ xs) = omega (arith, le) in
    ap (λ (n : ℕ). take n (x ∷ (xs ++ ys))) e ∙ rw add-one (ap (λ (l : List Entry). x ∷ l) (take_more xs ys (a - 1) (omega (arith, le)) ∙ ap (λ (n : ℕ). xs ++ take n ys) f))

-- the text of an open session, of which the first w entries were written
open_session : (L front rest : List Entry) (p : Progress) (marks : List Bool) (w : ℕ) (over : Bool) → 0 < length L → p ≡ Opened marks → L ≡ front ++ rest → length front ≡ w → allowed (length L) marks ≡ w → session_text L p over ≡ open_text ++ (frames_text 0 front ++ closing_text (length L) marks over)
open_session L front rest p marks w over some is parts count may =
    let taken : take (allowed (length L) marks) L ≡ front = ap (λ (n : ℕ). take n L) may ∙ take_written L front rest w parts count in
    session_some L p over some ∙ ap (λ (q : Progress). text_by q L over) is ∙ ap (λ (es : List Entry). open_text ++ (frames_text 0 es ++ closing_text (length L) marks over)) taken

-- ---- what holds at each stage

count_of : (entries front : List Entry) (s : Sender) → entries ≡ front ++ s.waiting → length front ≡ s.written → length entries ≡ given s
count_of entries front s whole count = ap length whole ∙ omega (arith, count, length-append front s.waiting)

open_few : (s : Sender) (marks : List Bool) → Keeps s → s.unanswered ≡ open_from 0 (grown s.written marks) → length (open_from 0 (grown s.written marks)) ≤ 1024
open_few s marks k places = let c : length s.unanswered ≡ length (open_from 0 (grown s.written marks)) = ap length places in omega (arith, k.few, c)

-- nothing may be written
abbrev AtRest : Stage → Sender → Type 0
AtRest stage s = MustHear stage s ⊎ (IsDone stage s ⊎ MayAsk stage s)

whole_open : (s : Sender) (h : History) (was : Sends h s) → Keeps s → KeepsAt Open s → AtRest Open s → HasMarks h.progress s.written s.unanswered → Said Open was.front h.out → IsWhole h s
whole_open s h was k at rest stands said =
    let marks = stands.0 in
    let n = length h.entries in
    let many : n ≡ given s = count_of h.entries was.front s was.whole was.count in
    let sum = acknowledged_of s marks stands.2 stands.3 in
    let may : allowed n marks ≡ s.written = elim rest [
      | inl must ↦ allowed_is s marks k stands.2 stands.3 must n (record { most = omega (arith, many); all = λ e. many })
      | inr other ↦ elim other [
        | inl done ↦ absurd done
        | inr none ↦ allowed_all n s.written marks stands.2 (open_few s marks k stands.3) (let e : length s.waiting ≡ 0 = ap length none.0 in omega (arith, many, e))
      ]
    ] in
    let not_all : (s.finished ≡ true) × (count_known marks ≡ n) → ⊥ = λ both. elim rest [
      | inl must ↦ elim must [ inl full ↦ omega (arith, full, sum, many, both.1) | inr left ↦ omega (arith, left.2, sum, many, both.1) ]
      | inr other ↦ elim other [ inl done ↦ done | inr none ↦ false≢true (sym none.1 ∙ both.0) ]
    ] in
    let text = open_session h.entries was.front s.waiting h.progress marks s.written s.finished (omega (arith, at, many)) stands.1 was.whole was.count may in
    said ∙ sym (text ∙ ap (λ (l : List ℕ). open_text ++ (frames_text 0 was.front ++ l)) (closing_none n marks s.finished not_all) ∙ ap (λ (l : List ℕ). open_text ++ l) (append_none (frames_text 0 was.front)))

whole_closed : (s : Sender) (h : History) (was : Sends h s) → Keeps s → KeepsAt Closed s → HasMarks h.progress s.written s.unanswered → Said Closed was.front h.out → h.out ≡ session_text h.entries h.progress true
whole_closed s h was k at stands said =
    let marks = stands.0 in
    let n = length h.entries in
    let many : n ≡ given s = count_of h.entries was.front s was.whole was.count in
    let none : length s.waiting ≡ 0 = ap length at.0 in
    let empty : length s.unanswered ≡ 0 = ap length at.1 in
    let sum = acknowledged_of s marks stands.2 stands.3 in
    let may : allowed n marks ≡ s.written = allowed_all n s.written marks stands.2 (open_few s marks k stands.3) (omega (arith, many, none)) in
    let all : count_known marks ≡ n = omega (arith, sum, empty, many, none) in
    let front_is : length was.front ≡ n = omega (arith, was.count, many, none) in
    let text = open_session h.entries was.front s.waiting h.progress marks s.written true (omega (arith, at.3, many)) stands.1 was.whole was.count may in
    said ∙ ap (λ (m : ℕ). open_text ++ (frames_text 0 was.front ++ close_text m)) front_is ∙ sym (text ∙ ap (λ (l : List ℕ). open_text ++ (frames_text 0 was.front ++ l)) (closing_all n marks all))

whole_by : (stage : Stage) (s : Sender) (h : History) (was : Sends h s) → Keeps s → KeepsAt stage s → AtRest stage s → Stands stage h.progress s.written s.unanswered → Said stage was.front h.out → IsWhole h s
whole_by Fresh s h was k at rest stands said =
    let none : s.waiting ≡ [] = elim rest [ inl must ↦ absurd must | inr other ↦ elim other [ inl done ↦ done.0 | inr x ↦ x.0 ] ] in
    let many : length h.entries ≡ given s = count_of h.entries was.front s was.whole was.count in
    let e : length s.waiting ≡ 0 = ap length none in
    said ∙ sym (session_none h.entries h.progress s.finished (empty_of h.entries (omega (arith, many, e, at.0))))
whole_by Opening s h was k at rest stands said =
    let many : length h.entries ≡ given s = count_of h.entries was.front s was.whole was.count in
    said ∙ sym (session_some h.entries h.progress s.finished (omega (arith, many, at.2)) ∙ ap (λ (q : Progress). text_by q h.entries s.finished) stands)
whole_by Open s h was k at rest stands said = whole_open s h was k at rest stands said
whole_by Closed s h was k at rest stands said = whole_closed s h was k at stands said ∙ ap (session_text h.entries h.progress) (sym at.2)

-- ---- resting turns

rested : (turn : Turn) (s : Sender) → Keeps s → IsTurn turn s → IsResting turn → AtRest s.stage s
rested (Write text) s k is at = absurd at
rested (Confirmed upto) s k is at = absurd at
rested (Also from to) s k is at = absurd at
rested Need s k is at = inr (inr is.may)
rested Wait s k is at = inl is.0.2
rested Pause s k is at = absurd is
rested Done s k is at = inr (inl is.2)
rested (Refused unit code) s k is at = inl (k.ended (stops.Refused unit code) is).1
rested PeerClosed s k is at = inl (k.ended stops.Hint is).1
rested (PeerFault place why) s k is at = elim is [ inl x ↦ inl (k.ended (stops.BadReply place) x.0).1 | inr x ↦ inl x.0.2 ]
rested (Unconfirmed asked) s k is at = absurd is

pub whole_at : (turn : Turn) (s : Sender) → Keeps s → IsTurn turn s → IsResting turn → (h : History) → Sends h s → IsWhole h s
whole_at turn s k is at h was = whole_by s.stage s h was k k.at (rested turn s k is at) was.stands was.said

told_at : (turn : Turn) (s : Sender) → Keeps s → IsTurn turn s → TellsNothing turn → HasTold s
told_at (Write text) s k is at = is.1
told_at (Confirmed upto) s k is at = absurd at
told_at (Also from to) s k is at = absurd at
told_at Need s k is at = is.told
told_at Wait s k is at = is.0.1
told_at Pause s k is at = absurd is
told_at Done s k is at = is.1
told_at (Refused unit code) s k is at = (k.ended (stops.Refused unit code) is).0
told_at PeerClosed s k is at = (k.ended stops.Hint is).0
told_at (PeerFault place why) s k is at = elim is [ inl x ↦ (k.ended (stops.BadReply place) x.0).0 | inr x ↦ x.0.1 ]
told_at (Unconfirmed asked) s k is at = absurd is

-- ---- what was told

front_marks : (s : Sender) (p : Progress) → HasMarks p s.written s.unanswered → s.told ≡ first_open s.unanswered s.written → s.told ≡ known_by p
front_marks s p stands told =
    let marks = stands.0 in
    let m = grown s.written marks in
    let w : 0 + length m ≡ s.written = omega (arith, stands.2) in
    let front : first_open (open_from 0 m) s.written ≡ known_front m = subst (λ (n : ℕ). first_open (open_from 0 m) n ≡ known_front m) w (front_open m 0 ∙ omega arith) in
    told ∙ ap (λ (l : List ℕ). first_open l s.written) stands.3 ∙ front ∙ front_grown s.written marks ∙ sym (ap known_by stands.1)

front_none : (s : Sender) (p : Progress) → p ≡ Unopened → s.written ≡ 0 → s.unanswered ≡ [] → s.told ≡ first_open s.unanswered s.written → s.told ≡ known_by p
front_none s p is zero none told = told ∙ ap (λ (l : List ℕ). first_open l s.written) none ∙ zero ∙ sym (ap known_by is)

front_by : (stage : Stage) (s : Sender) (p : Progress) → KeepsAt stage s → Stands stage p s.written s.unanswered → s.told ≡ first_open s.unanswered s.written → s.told ≡ known_by p
front_by Fresh s p at stands told = front_none s p stands at.0 at.1 told
front_by Opening s p at stands told = front_none s p stands at.0 at.1 told
front_by Open s p at stands told = front_marks s p stands told
front_by Closed s p at stands told = front_marks s p stands told

below_none : (s : Sender) (place : ℕ) → s.written ≡ 0 → s.unanswered ≡ [] → place < first_open s.unanswered s.written → ⊥
below_none s place zero none lt = let e : first_open s.unanswered s.written ≡ 0 = ap (λ (l : List ℕ). first_open l s.written) none ∙ zero in omega (arith, lt, e)

pub below_by : (stage : Stage) (s : Sender) (p : Progress) (place : ℕ) → KeepsAt stage s → Stands stage p s.written s.unanswered → place < first_open s.unanswered s.written → IsKnown p place
below_by Fresh s p place at stands lt = absurd (below_none s place at.0 at.1 lt)
below_by Opening s p place at stands lt = absurd (below_none s place at.0 at.1 lt)
below_by Open s p place at stands lt = known_below p stands.0 s.unanswered s.written place stands.1 stands.2 stands.3 lt
below_by Closed s p place at stands lt = known_below p stands.0 s.unanswered s.written place stands.1 stands.2 stands.3 lt

tells_all : (s : Sender) (h : History) → Keeps s → HasTold s → Sends h s → TellsAll h s
tells_all s h k told was = record {
  front = front_by s.stage s h.progress k.at was.stands told.front;
  all = λ place. (
    (λ known. elim (was.knows.known place known) [
      | inl low ↦ inl (omega (arith, low, told.front))
      | inr rest ↦ elim rest [ inl c ↦ inr c | inr e ↦ absurd (let f : None ≡ Some place = sym told.beyond ∙ e in cc) ]
    ]),
    (λ named. elim named [ inl low ↦ below_by s.stage s h.progress place k.at was.stands (omega (arith, low, told.front)) | inr c ↦ was.knows.told place c ]),
  );
}

pub tells_at : (turn : Turn) (s : Sender) → Keeps s → IsTurn turn s → TellsNothing turn → (h : History) → Sends h s → TellsAll h s
tells_at turn s k is at h was = tells_all s h k (told_at turn s k is at) was

-- ---- THE WHOLE LIST. Where the entries given are the first of a list, and all of it where no more come, the text begins that
-- of the list, and is that of the list where more entries aren't asked for.

all_of : (h : History) (s : Sender) (was : Sends h s) (more : List Entry) → h.entries ++ more ≡ was.front ++ (s.waiting ++ more)
all_of h s was more = ap (λ (l : List Entry). l ++ more) was.whole ∙ append_assoc was.front s.waiting more

begins_open : (s : Sender) (h : History) (was : Sends h s) (more : List Entry) → Keeps s → KeepsAt Open s → HasMarks h.progress s.written s.unanswered → Said Open was.front h.out → Begins h more
begins_open s h was more k at stands said =
    let marks = stands.0 in
    let all = h.entries ++ more in
    let n = length all in
    let a = allowed n marks in
    let many : length h.entries ≡ given s = count_of h.entries was.front s was.whole was.count in
    let both : n ≡ length h.entries + length more = length-append h.entries more in
    let sum = acknowledged_of s marks stands.2 stands.3 in
    let enough : s.written ≤ a = allowed_least n s.written marks (omega (arith, many, both)) (omega (arith, sum, k.few)) in
    let rest = take (a - length was.front) (s.waiting ++ more) in
    let taken : take a all ≡ was.front ++ rest = ap (take a) (all_of h s was more) ∙ take_more was.front (s.waiting ++ more) a (omega (arith, enough, was.count)) in
    let frames = frames_text 0 was.front in
    let next = frames_text (0 + length was.front) rest in
    let closing = closing_text n marks true in
    let text : session_text all h.progress true ≡ open_text ++ (frames_text 0 (take a all) ++ closing) = session_some all h.progress true (omega (arith, at, many, both)) ∙ ap (λ (q : Progress). text_by q all true) stands.1 in (
      next ++ closing,
      text ∙ ap (λ (es : List Entry). open_text ++ (frames_text 0 es ++ closing)) taken ∙ ap (λ (l : List ℕ). open_text ++ (l ++ closing)) (frames_append 0 was.front rest)
          ∙ ap (λ (l : List ℕ). open_text ++ l) (append_assoc frames next closing) ∙ sym (append_assoc open_text frames (next ++ closing)) ∙ ap (λ (l : List ℕ). l ++ (next ++ closing)) (sym said),
    )

begins_by : (stage : Stage) (s : Sender) (h : History) (was : Sends h s) (more : List Entry) → Keeps s → KeepsAt stage s → IsFirstOf s more → Stands stage h.progress s.written s.unanswered → Said stage was.front h.out → Begins h more
begins_by Fresh s h was more k at rest stands said = let text = session_text (h.entries ++ more) h.progress true in (text, ap (λ (l : List ℕ). l ++ text) (sym said))
begins_by Opening s h was more k at rest stands said =
    let many : length h.entries ≡ given s = count_of h.entries was.front s was.whole was.count in
    let some : 0 < length (h.entries ++ more) = omega (arith, many, at.2, length-append h.entries more) in
    ([], session_some (h.entries ++ more) h.progress true some ∙ ap (λ (q : Progress). text_by q (h.entries ++ more) true) stands ∙ sym said ∙ sym (append_none h.out))
begins_by Open s h was more k at rest stands said = begins_open s h was more k at stands said
begins_by Closed s h was more k at rest stands said =
    let none : h.entries ++ more ≡ h.entries = ap (λ (l : List Entry). h.entries ++ l) (rest at.2) ∙ append_none h.entries in
    ([], ap (λ (l : List Entry). session_text l h.progress true) none ∙ sym (whole_closed s h was k at stands said) ∙ sym (append_none h.out))

pub begins_at : (s : Sender) → Keeps s → (h : History) (more : List Entry) → Sends h s → IsFirstOf s more → Begins h more
begins_at s k h more was rest = begins_by s.stage s h was more k k.at rest was.stands was.said

all_open : (s : Sender) (h : History) (was : Sends h s) (more : List Entry) → Keeps s → KeepsAt Open s → MustHear Open s → IsFirstOf s more → HasMarks h.progress s.written s.unanswered → Said Open was.front h.out → IsWholeOf h more
all_open s h was more k at must rest stands said =
    let marks = stands.0 in
    let all = h.entries ++ more in
    let n = length all in
    let many : length h.entries ≡ given s = count_of h.entries was.front s was.whole was.count in
    let sum = acknowledged_of s marks stands.2 stands.3 in
    let both : n ≡ length h.entries + length more = length-append h.entries more in
    let can : CanHave s n = record { most = omega (arith, many, both); all = λ e. (let z : length more ≡ 0 = ap length (rest e) in omega (arith, many, both, z)) } in
    let may : allowed n marks ≡ s.written = allowed_is s marks k stands.2 stands.3 must n can in
    let not_all : (true ≡ true) × (count_known marks ≡ n) → ⊥ = λ pair. elim must [ inl full ↦ omega (arith, full, sum, many, both, pair.1) | inr left ↦ omega (arith, left.2, sum, many, both, pair.1) ] in
    let text = open_session all was.front (s.waiting ++ more) h.progress marks s.written true (omega (arith, at, many, both)) stands.1 (all_of h s was more) was.count may in
    said ∙ sym (text ∙ ap (λ (l : List ℕ). open_text ++ (frames_text 0 was.front ++ l)) (closing_none n marks true not_all) ∙ ap (λ (l : List ℕ). open_text ++ l) (append_none (frames_text 0 was.front)))

all_by : (stage : Stage) (s : Sender) (h : History) (was : Sends h s) (more : List Entry) → Keeps s → KeepsAt stage s → MustHear stage s ⊎ IsDone stage s → IsFirstOf s more → Stands stage h.progress s.written s.unanswered → Said stage was.front h.out → IsWholeOf h more
all_by Fresh s h was more k at due rest stands said = elim due [
  | inl must ↦ absurd must
  | inr done ↦ (let many : length h.entries ≡ given s = count_of h.entries was.front s was.whole was.count in
      let e : length s.waiting ≡ 0 = ap length done.0 in
      let z : length more ≡ 0 = ap length (rest done.1) in
      said ∙ sym (session_none (h.entries ++ more) h.progress true (empty_of (h.entries ++ more) (omega (arith, many, e, at.0, z, length-append h.entries more)))))
]
all_by Opening s h was more k at due rest stands said =
    let many : length h.entries ≡ given s = count_of h.entries was.front s was.whole was.count in
    let some : 0 < length (h.entries ++ more) = omega (arith, many, at.2, length-append h.entries more) in
    said ∙ sym (session_some (h.entries ++ more) h.progress true some ∙ ap (λ (q : Progress). text_by q (h.entries ++ more) true) stands)
all_by Open s h was more k at due rest stands said = elim due [ inl must ↦ all_open s h was more k at must rest stands said | inr done ↦ absurd done ]
all_by Closed s h was more k at due rest stands said =
    let none : h.entries ++ more ≡ h.entries = ap (λ (l : List Entry). h.entries ++ l) (rest at.2) ∙ append_none h.entries in
    whole_closed s h was k at stands said ∙ ap (λ (l : List Entry). session_text l h.progress true) (sym none)

-- a turn at which more entries aren't asked for
over : (turn : Turn) (s : Sender) → Keeps s → IsTurn turn s → IsResting turn → turn ≢ Need → MustHear s.stage s ⊎ IsDone s.stage s
over (Write text) s k is at not = absurd at
over (Confirmed upto) s k is at not = absurd at
over (Also from to) s k is at not = absurd at
over Need s k is at not = absurd (not refl)
over Wait s k is at not = inl is.0.2
over Pause s k is at not = absurd is
over Done s k is at not = inr is.2
over (Refused unit code) s k is at not = inl (k.ended (stops.Refused unit code) is).1
over PeerClosed s k is at not = inl (k.ended stops.Hint is).1
over (PeerFault place why) s k is at not = elim is [ inl x ↦ inl (k.ended (stops.BadReply place) x.0).1 | inr x ↦ inl x.0.2 ]
over (Unconfirmed asked) s k is at not = absurd is

pub all_at : (turn : Turn) (s : Sender) → Keeps s → IsTurn turn s → IsResting turn → turn ≢ Need → (h : History) (more : List Entry) → Sends h s → IsFirstOf s more → IsWholeOf h more
all_at turn s k is at not h more was rest = all_by s.stage s h was more k k.at (over turn s k is at not) rest was.stands was.said

done_by : (stage : Stage) (s : Sender) → KeepsAt stage s → IsDone stage s → s.told ≡ first_open s.unanswered s.written → (s.finished ≡ true) × (s.told ≡ given s)
done_by Fresh s at done told =
    let e : length s.waiting ≡ 0 = ap length done.0 in
    let first : first_open s.unanswered s.written ≡ s.written = ap (λ (l : List ℕ). first_open l s.written) at.1 in
    (done.1, omega (arith, told, first, e))
done_by Opening s at done told = absurd done
done_by Open s at done told = absurd done
done_by Closed s at done told =
    let e : length s.waiting ≡ 0 = ap length at.0 in
    let first : first_open s.unanswered s.written ≡ s.written = ap (λ (l : List ℕ). first_open l s.written) at.1 in
    (at.2, omega (arith, told, first, e))

pub done_at : (turn : Turn) (s : Sender) → Keeps s → IsTurn turn s → turn ≡ Done → (s.finished ≡ true) × (s.told ≡ given s)
done_at turn s k is done = let d : IsTurn Done s = subst (λ (t : Turn). IsTurn t s) done is in done_by s.stage s k.at d.2 d.1.front
