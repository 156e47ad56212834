-- An object is an event, or is refused, in one way.
use Rattle.std.proofs.Common.{◌≡◌, ◌≢◌, ℕ, ◌<◌, List, [], ◌∷◌, ◌++◌, length, get_or, refl, sym, ◌∙◌, ap, subst, arith, length-append}
use Rattle.std.specs.Prelude.{slice_range}
use Rattle.std.specs.List.{All}
use Rattle.std.proofs.Math.Seq.{get_or-append_seam}
use Rattle.std.proofs.lemmas.List.Elements.{All-head, All-tail, All-get_or}
use Rattle.json_span.specs.declared.object.Member.{Member}
use Rattle.json_span.proofs.MembersOnly.{members_only}
use Rattle.hec_body.specs.Events.{whole_of, IsNamedEvent, FirstEventIs, HasEvent, HasNoEvent, IsBlank, IsEventObject, IsRefused}
use Rattle.body_faults.specs.declared.fault.BodyFault.{BodyFault}
use Rattle.body_faults.specs.declared.fault.BodyFault.TheVariants.{NoData, Format, NoEvent, Blank, TooMany, NoMemory}

one_first : (text : List ℕ) (before earlier : List Member) (e f : Member) (after later : List Member) → All (λ m. ¬ IsNamedEvent text m) before → All (λ m. ¬ IsNamedEvent text m) earlier → IsNamedEvent text e → IsNamedEvent text f → before ++ e ∷ after ≡ earlier ++ f ∷ later → e ≡ f
one_first text [] [] e f after later nb ne he hf same = cc
one_first text [] (m ∷ earlier) e f after later nb ne he hf same =
    let is : e ≡ m = cc in
    absurd (All-head (λ (n : Member). ¬ IsNamedEvent text n) m earlier ne (subst (IsNamedEvent text) is he))
one_first text (m ∷ before) [] e f after later nb ne he hf same =
    let is : f ≡ m = cc in
    absurd (All-head (λ (n : Member). ¬ IsNamedEvent text n) m before nb (subst (IsNamedEvent text) is hf))
one_first text (m ∷ before) (n ∷ earlier) e f after later nb ne he hf same =
    let rest : before ++ e ∷ after ≡ earlier ++ f ∷ later = cc in
    one_first text before earlier e f after later (All-tail (λ (k : Member). ¬ IsNamedEvent text k) m before nb) (All-tail (λ (k : Member). ¬ IsNamedEvent text k) n earlier ne) he hf rest

event_once : (text : List ℕ) (ms : List Member) (v w : List ℕ) → FirstEventIs text ms v → FirstEventIs text ms w → v ≡ w
event_once text ms v w a b =
    let same = one_first text a.before b.before a.event b.event a.after b.after a.first b.first a.named b.named (sym a.whole ∙ b.whole) in
    a.is ∙ ap (λ (m : Member). slice_range text m.value.start m.value.end) same ∙ sym b.is

no_event : (text : List ℕ) (ms : List Member) (v : List ℕ) → FirstEventIs text ms v → All (λ m. ¬ IsNamedEvent text m) ms → ⊥
no_event text ms v a none =
    let within : length a.before < length ms = omega (arith, ap length a.whole, length-append a.before (a.event ∷ a.after)) in
    let here : get_or ms (length a.before) a.event ≡ a.event = ap (λ (z : List Member). get_or z (length a.before) a.event) a.whole ∙ get_or-append_seam a.before a.event a.after a.event in
    All-get_or (λ (m : Member). ¬ IsNamedEvent text m) ms (length a.before) a.event within none (subst (IsNamedEvent text) (sym here) a.named)

has_once : (text v w : List ℕ) → HasEvent text v → HasEvent text w → v ≡ w
has_once text v w a b = event_once text b.0 v w (subst (λ (ms : List Member). FirstEventIs text ms v) (members_only text (whole_of text) a.0 b.0 a.1 b.1) a.2) b.2

has_none : (text v : List ℕ) → HasEvent text v → HasNoEvent text → ⊥
has_none text v a b = no_event text b.0 v (subst (λ (ms : List Member). FirstEventIs text ms v) (members_only text (whole_of text) a.0 b.0 a.1 b.1) a.2) b.2

-- no event is refused
pub event_not_refused : (text : List ℕ) (number : ℕ) (f : BodyFault) → f ≢ NoMemory → IsRefused text number f → IsEventObject text → ⊥
event_not_refused text number NoData m r e = r
event_not_refused text number (Format event) m r e = absurd (omega (arith, r.1, e.0))
event_not_refused text number (NoEvent event) m r e = has_none text e.1.0 e.1.1 r.1.1
event_not_refused text number (Blank event) m r e = e.1.2 (subst IsBlank (has_once text r.1.1.0 e.1.0 r.1.1.1 e.1.1) r.1.1.2)
event_not_refused text number TooMany m r e = r
event_not_refused text number NoMemory m r e = m refl

-- an object is refused for one fault
pub refused_once : (text : List ℕ) (number : ℕ) (f g : BodyFault) → f ≢ NoMemory → g ≢ NoMemory → IsRefused text number f → IsRefused text number g → f ≡ g
refused_once text number (Format a) (Format b) m n r s = ap Format (r.0 ∙ sym s.0)
refused_once text number (Format a) (NoEvent b) m n r s = absurd (omega (arith, r.1, s.1.0))
refused_once text number (Format a) (Blank b) m n r s = absurd (omega (arith, r.1, s.1.0))
refused_once text number (NoEvent a) (Format b) m n r s = absurd (omega (arith, s.1, r.1.0))
refused_once text number (NoEvent a) (NoEvent b) m n r s = ap NoEvent (r.0 ∙ sym s.0)
refused_once text number (NoEvent a) (Blank b) m n r s = absurd (has_none text s.1.1.0 s.1.1.1 r.1.1)
refused_once text number (Blank a) (Format b) m n r s = absurd (omega (arith, s.1, r.1.0))
refused_once text number (Blank a) (NoEvent b) m n r s = absurd (has_none text r.1.1.0 r.1.1.1 s.1.1)
refused_once text number (Blank a) (Blank b) m n r s = ap Blank (r.0 ∙ sym s.0)
refused_once text number NoData g m n r s = absurd r
refused_once text number TooMany g m n r s = absurd r
refused_once text number NoMemory g m n r s = absurd (m refl)
refused_once text number f NoData m n r s = absurd s
refused_once text number f TooMany m n r s = absurd s
refused_once text number f NoMemory m n r s = absurd (n refl)
