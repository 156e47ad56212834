-- A text that is written.
use Rattle.std.proofs.Common.{◌≡◌, inl, inr, ℕ, ◌+◌, ◌<◌, ◌≤◌, ◌∙◌, false, List, [], ◌∷◌, ◌++◌, length, refl, sym, ap, subst, arith, append_assoc}
use Rattle.std.specs.Prelude.{◌⊎◌, All, None}
use Rattle.std.specs.List.{AllPairs}
use Rattle.std.proofs.lemmas.Bool.{false≢true}
use Rattle.std.proofs.lemmas.List.Elements.{All-tail, All-push, All-weaker, All-get_or}
use Rattle.std.proofs.lemmas.List.Quantifiers.{all_pairs_push}
use Rattle.std.proofs.Math.ListN.{length-append}
use Rattle.event_form.specs.declared.event.Entry.{Entry}
use Rattle.event_form.specs.Event.{IsEvent}
use Rattle.relp_sender.specs.declared.stage.Stage.{Stage}
use Rattle.relp_sender.specs.declared.stage.Stage.TheVariants.{Fresh, Opening, Open, Closed}
use Rattle.relp_sender.specs.Texts.{open_text, event_text, close_text, frames_text}
use Rattle.relp_sender.specs.Marks.{grown, open_from}
use Rattle.relp_sender.specs.Window.{first_open}
use Rattle.relp_sender.specs.Sender.{Sender, Keeps, KeepsAt, HasTold, given, MayWrite}
use Rattle.relp_sender.specs.Sends.{SendsOn, CanHave, HasMarks, Knows, Stands, Said}
use Rattle.relp_sender.proofs.Marking.{grown_one, open_append}
use Rattle.relp_sender.proofs.TextLaws.{frames_then}
use Rattle.relp_sender.proofs.Giving.{no_stop, no_place, same_takes, same_read}
use Rattle.relp_sender.proofs.Knowing.{knows_also}

-- the sender that wrote the frame that opens the session
abbrev pub opened : Sender → List ℕ → Sender
opened s places = record s { stage = Opening; unanswered = places }

pub sends_open : (s : Sender) (text places : List ℕ) → Keeps s → s.stage ≡ Fresh → text ≡ open_text → places ≡ [] → SendsOn s text [] (opened s places)
sends_open s text places k is text_is empty h was =
    let t = opened s places in
    let can : (n : ℕ) → CanHave t n → CanHave s n = λ n c. record { most = c.most; all = c.all } in
    let said : h.out ≡ [] = subst (λ (x : Stage). Said x was.front h.out) is was.said in
    let at : KeepsAt Fresh s = subst (λ (x : Stage). KeepsAt x s) is k.at in
    let same : s.unanswered ≡ places = at.1 ∙ sym empty in (
      [],
      h.progress,
      record {
        front = was.front;
        whole = was.whole;
        count = was.count;
        said = ap (λ (l : List ℕ). l ++ text) said ∙ text_is;
        stands = subst (λ (x : Stage). Stands x h.progress s.written s.unanswered) is was.stands;
        takes = same_takes s t h.progress h.taken can was.takes;
        read = same_read h.fed h.taken h.progress s t s.stop refl can was.read;
        knows = knows_also h.also h.progress (first_open places s.written) s.beyond (subst (λ (l : List ℕ). Knows h.also h.progress (first_open l s.written) s.beyond) same was.knows);
      },
    )

pub keeps_open : (s : Sender) (places : List ℕ) → Keeps s → s.asked ≡ false → s.stop ≡ None → HasTold s → s.stage ≡ Fresh → MayWrite s.stage s → places ≡ [] → Keeps (opened s places)
keeps_open s places k asked goes told is may empty =
    let at : KeepsAt Fresh s = subst (λ (x : Stage). KeepsAt x s) is k.at in
    let some : 0 < length s.waiting = subst (λ (x : Stage). MayWrite x s) is may in
    let same : s.unanswered ≡ places = at.1 ∙ sym empty in
    record {
      few = subst (λ (l : List ℕ). length l ≤ 1024) same k.few;
      below = subst (All (λ (p : ℕ). p < s.written)) same k.below;
      order = subst (AllPairs (λ (a b : ℕ). a < b)) same k.order;
      told = subst (λ (l : List ℕ). s.told ≤ first_open l s.written) same k.told;
      beyond = λ place e. absurd (no_place s.beyond place told.beyond e);
      number = k.number;
      events = k.events;
      at = (at.0, empty, some);
      need = λ e. absurd (false≢true (sym asked ∙ e));
      ended = λ stop e. absurd (no_stop s.stop stop goes e);
    }

-- the sender that wrote an entry's frame
abbrev pub wrote_one : Sender → List Entry → List ℕ → Sender
wrote_one s es places = record s { waiting = es; written = s.written + 1; unanswered = places }

front_same : (u : List ℕ) (w : ℕ) → first_open (u ++ w ∷ []) (w + 1) ≡ first_open u w
front_same [] w = refl
front_same (p ∷ u) w = refl

pub sends_entry : (s : Sender) (text : List ℕ) (e : Entry) (es : List Entry) (places : List ℕ) → s.stage ≡ Open → s.waiting ≡ e ∷ es → text ≡ event_text s.written e.event → places ≡ s.unanswered ++ s.written ∷ [] → SendsOn s text [] (wrote_one s es places)
sends_entry s text e es places is more text_is grew h was =
    let t = wrote_one s es places in
    let as_many : length s.waiting ≡ length es + 1 = ap length more ∙ omega arith in
    let can : (n : ℕ) → CanHave t n → CanHave s n = λ n c. record { most = omega (arith, c.most, as_many); all = λ f. (let a : n ≡ given t = c.all f in omega (arith, a, as_many)) } in
    let said : Said Open was.front h.out = subst (λ (x : Stage). Said x was.front h.out) is was.said in
    let stands : HasMarks h.progress s.written s.unanswered = subst (λ (x : Stage). Stands x h.progress s.written s.unanswered) is was.stands in
    let marks = stands.0 in
    let m = grown s.written marks in
    let one : grown (s.written + 1) marks ≡ m ++ false ∷ [] = grown_one s.written marks stands.2 in
    let length_is : length (m ++ false ∷ []) ≡ s.written + 1 = omega (arith, stands.2, length-append m (false ∷ [])) in
    let at : 0 + length m ≡ s.written = omega (arith, stands.2) in
    let open_is : places ≡ open_from 0 (m ++ false ∷ []) = grew ∙ ap (λ (l : List ℕ). l ++ s.written ∷ []) stands.3 ∙ ap (λ (n : ℕ). open_from 0 m ++ n ∷ []) (sym at) ∙ sym (open_append m (false ∷ []) 0) in
    let front_is : first_open s.unanswered s.written ≡ first_open places (s.written + 1) = sym (front_same s.unanswered s.written) ∙ ap (λ (l : List ℕ). first_open l (s.written + 1)) (sym grew) in
    let texts : h.out ++ text ≡ open_text ++ frames_text 0 (was.front ++ e ∷ []) =
    ap (λ (l : List ℕ). l ++ text) said ∙ append_assoc open_text (frames_text 0 was.front) text ∙ ap (λ (l : List ℕ). open_text ++ (frames_text 0 was.front ++ l)) text_is ∙ ap (λ (l : List ℕ). open_text ++ l) (sym (frames_then was.front e s.written was.count)) in (
      [],
      h.progress,
      record {
        front = was.front ++ e ∷ [];
        whole = was.whole ∙ ap (λ (l : List Entry). was.front ++ l) more ∙ sym (append_assoc was.front (e ∷ []) es);
        count = omega (arith, was.count, length-append was.front (e ∷ []));
        said = subst (λ (x : Stage). Said x (was.front ++ e ∷ []) (h.out ++ text)) (sym is) texts;
        stands = subst (λ (x : Stage). Stands x h.progress (s.written + 1) places) (sym is) (marks, stands.1, ap length one ∙ length_is, open_is ∙ ap (open_from 0) (sym one));
        takes = same_takes s t h.progress h.taken can was.takes;
        read = same_read h.fed h.taken h.progress s t s.stop refl can was.read;
        knows = knows_also h.also h.progress (first_open places (s.written + 1)) s.beyond (subst (λ (n : ℕ). Knows h.also h.progress n s.beyond) front_is was.knows);
      },
    )

pub keeps_entry : (s : Sender) (e : Entry) (es : List Entry) (places : List ℕ) → Keeps s → s.asked ≡ false → s.stop ≡ None → HasTold s → s.stage ≡ Open → s.waiting ≡ e ∷ es → length s.unanswered < 1024 → places ≡ s.unanswered ++ s.written ∷ [] → Keeps (wrote_one s es places)
keeps_entry s e es places k asked goes told is more room grew =
    let as_many : length s.waiting ≡ length es + 1 = ap length more ∙ omega arith in
    let grown_by : length places ≡ length s.unanswered + 1 = ap length grew ∙ length-append s.unanswered (s.written ∷ []) in
    let front_is : first_open places (s.written + 1) ≡ first_open s.unanswered s.written = ap (λ (l : List ℕ). first_open l (s.written + 1)) grew ∙ front_same s.unanswered s.written in
    let below : All (λ (p : ℕ). p < s.written + 1) (s.unanswered ++ s.written ∷ []) = All-push (λ (p : ℕ). p < s.written + 1) s.unanswered s.written (All-weaker (λ (p : ℕ). p < s.written) (λ (p : ℕ). p < s.written + 1) (λ p h. omega (arith, h)) s.unanswered k.below) (omega arith) in
    let order : AllPairs (λ (a b : ℕ). a < b) (s.unanswered ++ s.written ∷ []) = all_pairs_push (λ (a b : ℕ). a < b) s.unanswered s.written k.order (λ i d lt. All-get_or (λ (p : ℕ). p < s.written) s.unanswered i d lt k.below) in
    record {
      few = omega (arith, room, grown_by);
      below = subst (All (λ (p : ℕ). p < s.written + 1)) (sym grew) below;
      order = subst (AllPairs (λ (a b : ℕ). a < b)) (sym grew) order;
      told = omega (arith, k.told, front_is);
      beyond = λ place x. absurd (no_place s.beyond place told.beyond x);
      number = omega (arith, k.number, as_many);
      events = All-tail (λ (x : Entry). IsEvent x.event) e es (subst (All (λ (x : Entry). IsEvent x.event)) more k.events);
      at = subst (λ (x : Stage). KeepsAt x (wrote_one s es places)) (sym is) (let a : 0 < s.written + 1 + length es = omega arith in a);
      need = λ a. absurd (false≢true (sym asked ∙ a));
      ended = λ stop a. absurd (no_stop s.stop stop goes a);
    }

pub sends_close : (s : Sender) (text : List ℕ) → s.stage ≡ Open → text ≡ close_text s.written → SendsOn s text [] (record s { stage = Closed })
sends_close s text is close_is h was =
    let t : Sender = record s { stage = Closed } in
    let can : (n : ℕ) → CanHave t n → CanHave s n = λ n c. record { most = c.most; all = c.all } in
    let said : Said Open was.front h.out = subst (λ (x : Stage). Said x was.front h.out) is was.said in
    let text_is : text ≡ close_text (length was.front) = close_is ∙ ap close_text (sym was.count) in
    let frames = frames_text 0 was.front in (
      [],
      h.progress,
      record {
        front = was.front;
        whole = was.whole;
        count = was.count;
        said = ap (λ (l : List ℕ). l ++ text) said ∙ append_assoc open_text frames text ∙ ap (λ (l : List ℕ). open_text ++ (frames ++ l)) text_is;
        stands = subst (λ (x : Stage). Stands x h.progress s.written s.unanswered) is was.stands;
        takes = same_takes s t h.progress h.taken can was.takes;
        read = same_read h.fed h.taken h.progress s t s.stop refl can was.read;
        knows = knows_also h.also h.progress (first_open s.unanswered s.written) s.beyond was.knows;
      },
    )

-- after the first text a frame may be written only where the session is open
pub may_open : (stage : Stage) (s : Sender) → (stage ≡ Opening) ⊎ (stage ≡ Open) → MayWrite stage s → stage ≡ Open
may_open Fresh s not may = absurd (elim not [ inl e ↦ cc | inr e ↦ cc ])
may_open Opening s not may = absurd may
may_open Open s not may = refl
may_open Closed s not may = absurd may

pub empty_of : {A : Type 0} (xs : List A) → length xs ≡ 0 → xs ≡ []
empty_of {A = A} [] e = refl
empty_of {A = A} (x ∷ xs) e = absurd (omega (arith, e))
