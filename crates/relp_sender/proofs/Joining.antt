-- Frames that one text has together.
use Rattle.std.proofs.Common.{◌≡◌, inl, inr, ℕ, zero, suc, ◌+◌, ◌<◌, ◌≤◌, ◌∙◌, List, [], ◌∷◌, ◌++◌, length, take, drop, refl, sym, ap, subst, arith, append_assoc}
use Rattle.std.specs.Prelude.{◌⊎◌}
use Rattle.std.proofs.Math.ListN.{length-append}
use Rattle.event_form.specs.declared.event.Entry.{Entry}
use Rattle.event_form.specs.declared.event.Event.{Event}
use Rattle.relp_sender.specs.declared.stage.Stage.TheVariants.{Open}
use Rattle.relp_sender.specs.Texts.{event_text, frames_text}
use Rattle.relp_sender.specs.Window.{first_open}
use Rattle.relp_sender.specs.Sender.{Sender, HasTold, places_from, wrote}
use Rattle.relp_sender.specs.Sends.{SendsOn}
use Rattle.relp_sender.specs.Due.{IsJoined}
use Rattle.relp_sender.specs.Spending.{count_of, due_reports, spent}
use Rattle.relp_sender.specs.Turns.{NoneLeft}
use Rattle.relp_sender.proofs.TextLaws.{append_none}
use Rattle.relp_sender.proofs.Telling.{sends_none, sends_then}
use Rattle.relp_sender.proofs.Writing.{sends_entry, wrote_one}

-- ---- one frame more

drop_next : (k : ℕ) (es : List Entry) → drop 1 (drop k es) ≡ drop (suc k) es
drop_next zero [] = refl
drop_next zero (e ∷ es) = refl
drop_next (suc k) [] = refl
drop_next (suc k) (e ∷ es) = drop_next k es

places_next : (place k : ℕ) → places_from place (suc k) ≡ places_from place k ++ (place + k) ∷ []
places_next place zero = let e : place ≡ place + 0 = omega arith in ap (λ (n : ℕ). n ∷ []) e
places_next place (suc k) =
    let e : place + 1 + k ≡ place + suc k = omega arith in
    ap (λ (l : List ℕ). place ∷ l) (places_next (place + 1) k) ∙ ap (λ (n : ℕ). place ∷ (places_from (place + 1) k ++ n ∷ [])) e

length-places_from : (place k : ℕ) → length (places_from place k) ≡ k
length-places_from place zero = refl
length-places_from place (suc k) = ap suc (length-places_from (place + 1) k)

pub wrote_none : (s : Sender) → wrote 0 s ≡ s
wrote_none s =
    let e : s.written + 0 ≡ s.written = omega arith in
    ap (λ (n : ℕ). record s { written = n; unanswered = s.unanswered ++ [] }) e ∙ ap (λ (l : List ℕ). record s { unanswered = l }) (append_none s.unanswered)

pub wrote_next : (k : ℕ) (s : Sender) → wrote 1 (wrote k s) ≡ wrote (k + 1) s
wrote_next k s =
    let places = places_from s.written k in
    let last = places_from (s.written + k) 1 in
    let n : s.written + k + 1 ≡ s.written + suc k = omega arith in
    let all : (s.unanswered ++ places) ++ last ≡ s.unanswered ++ places_from s.written (suc k) = append_assoc s.unanswered places last ∙ ap (λ (l : List ℕ). s.unanswered ++ l) (sym (places_next s.written k)) in
    let e : suc k ≡ k + 1 = omega arith in
    ap (λ (es : List Entry). record s { waiting = es; written = s.written + k + 1; unanswered = (s.unanswered ++ places) ++ last }) (drop_next k s.waiting)
    ∙ ap (λ (m : ℕ). record s { waiting = drop (suc k) s.waiting; written = m; unanswered = (s.unanswered ++ places) ++ last }) n
    ∙ ap (λ (l : List ℕ). record s { waiting = drop (suc k) s.waiting; written = s.written + suc k; unanswered = l }) all
    ∙ ap (λ (m : ℕ). wrote m s) e

pub length-wrote : (k : ℕ) (s : Sender) → length (s.unanswered ++ places_from s.written k) ≡ length s.unanswered + k
length-wrote k s = omega (arith, length-append s.unanswered (places_from s.written k), length-places_from s.written k)

front_wrote : (places : List ℕ) (written k : ℕ) → first_open (places ++ places_from written k) (written + k) ≡ first_open places written
front_wrote [] written zero = omega arith
front_wrote [] written (suc k) = refl
front_wrote (p ∷ places) written k = refl

pub told_wrote : (k : ℕ) (s : Sender) → HasTold s → HasTold (wrote k s)
told_wrote k s t = record { front = t.front ∙ sym (front_wrote s.unanswered s.written k); beyond = t.beyond }

-- nothing is to be reported
due_none : (s : Sender) → HasTold s → due_reports s ≡ 0
due_none s t = omega (arith, t.front, ap count_of t.beyond)

pub spent_wrote : (k : ℕ) (s : Sender) → 0 < k → length s.unanswered + k ≤ 1024 → HasTold s → spent s < spent (wrote k s)
spent_wrote k s some room t = omega (arith, some, room, length-wrote k s, due_none s t, due_none (wrote k s) (told_wrote k s t))

-- ---- the text

-- the first one's, and then those of the rest
many_next : (k : ℕ) (s : Sender) (e : Entry) (es : List Entry) → s.stage ≡ Open → s.waiting ≡ e ∷ es
    → (let t = wrote_one s es (s.unanswered ++ s.written ∷ []) in SendsOn t (frames_text t.written (take k t.waiting)) [] (wrote k t))
    → SendsOn s (frames_text s.written (take (suc k) s.waiting)) [] (wrote (suc k) s)
many_next k s e es is more rest =
    let w = s.written in
    let places = s.unanswered ++ w ∷ [] in
    let t = wrote_one s es places in
    let one = sends_entry s (event_text w e.event) e es places is more refl refl in
    let both = sends_then s t (wrote k t) (event_text w e.event) (frames_text (w + 1) (take k es)) [] [] one rest in
    let n : w + 1 + k ≡ w + suc k = omega arith in
    let same : wrote k t ≡ wrote (suc k) s =
    ap (λ (l : List Entry). record s { waiting = drop (suc k) l; written = w + 1 + k; unanswered = places ++ places_from (w + 1) k }) (sym more)
    ∙ ap (λ (m : ℕ). record s { waiting = drop (suc k) s.waiting; written = m; unanswered = places ++ places_from (w + 1) k }) n
    ∙ ap (λ (l : List ℕ). record s { waiting = drop (suc k) s.waiting; written = w + suc k; unanswered = l }) (append_assoc s.unanswered (w ∷ []) (places_from (w + 1) k)) in
    subst (λ (l : List Entry). SendsOn s (frames_text w (take (suc k) l)) [] (wrote (suc k) s)) (sym more) (subst (SendsOn s (event_text w e.event ++ frames_text (w + 1) (take k es)) []) same both)

first_entry : (es : List Entry) → 0 < length es → (e : Entry) × (rest : List Entry) × (es ≡ e ∷ rest)
first_entry [] some = absurd (omega (arith, some))
first_entry (e ∷ es) some = (e, es, refl)

pub sends_many : (k : ℕ) (s : Sender) → s.stage ≡ Open → k ≤ length s.waiting → SendsOn s (frames_text s.written (take k s.waiting)) [] (wrote k s)
sends_many zero s is le = subst (λ (t : Sender). SendsOn s [] [] t) (sym (wrote_none s)) (sends_none s)
sends_many (suc k) s is le =
    let f = first_entry s.waiting (omega (arith, le)) in
    many_next k s f.0 f.1 is f.2 (sends_many k (wrote_one s f.1 (s.unanswered ++ s.written ∷ [])) is (omega (arith, le, ap length f.2)))

pub sends_joined : (k : ℕ) (s : Sender) (text : List ℕ) → s.stage ≡ Open → IsJoined s.waiting s.written (length s.unanswered) k text → SendsOn s text [] (wrote k s)
sends_joined k s text is j = subst (λ (l : List ℕ). SendsOn s l [] (wrote k s)) (sym j.is) (sends_many k s is j.within)

-- ---- none is left that it might have

drop_all : (es : List Entry) (k : ℕ) → k ≡ length es → drop k es ≡ []
drop_all [] zero e = refl
drop_all [] (suc k) e = absurd (omega (arith, e))
drop_all (x ∷ es) zero e = absurd (omega (arith, e))
drop_all (x ∷ es) (suc k) e = drop_all es k (omega (arith, e))

alone : (es : List Entry) (place k : ℕ) (text : List ℕ) → k ≡ 1 → k ≤ length es → text ≡ frames_text place (take k es) → (at : ℕ) × (event : Event) × (text ≡ event_text at event)
alone [] place k text one le is = absurd (omega (arith, one, le))
alone (e ∷ es) place k text one le is = (place, e.event, is ∙ ap (λ (n : ℕ). frames_text place (take n (e ∷ es))) one ∙ append_none (event_text place e.event))

pub joint_wrote : (k : ℕ) (s : Sender) (text : List ℕ) → IsJoined s.waiting s.written (length s.unanswered) k text
    → NoneLeft text (wrote k s) × ((length text ≤ 65536) ⊎ ((place : ℕ) × (e : Event) × (text ≡ event_text place e)))
joint_wrote k s text j = (
  elim j.all [ inl all ↦ inl (drop_all s.waiting k all) | inr rest ↦ inr (elim rest [ inl full ↦ inl (length-wrote k s ∙ full) | inr long ↦ inr long ]) ],
  elim j.bound [ inl one ↦ inr (alone s.waiting s.written k text one j.within j.is) | inr few ↦ inl few ],
)
