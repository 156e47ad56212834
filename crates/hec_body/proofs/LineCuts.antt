-- A raw body is cut in one way.
use Rattle.std.proofs.Common.{◌≡◌, ◌≢◌, ℕ, ◌<◌, ◌⊎◌, inl, inr, Result, Ok, Err, List, [], ◌∷◌, ◌++◌, length, get_or, refl, sym, ◌∙◌, ap, subst, arith, length-append}
use Rattle.std.specs.Bool.{⊤}
use Rattle.std.specs.List.{All}
use Rattle.std.proofs.Math.Seq.{get_or-append_seam}
use Rattle.std.proofs.lemmas.Bool.{cases_lt}
use Rattle.std.proofs.lemmas.List.{get_or_append_left}
use Rattle.std.proofs.lemmas.List.Elements.{All-get_or}
use Rattle.hec_body.specs.Limits.{IsShort, IsLong, AreWithinLimits}
use Rattle.hec_body.specs.Lines.{filled_lines, NextLineIs, IsLineFault, IsLineCut}
use Rattle.body_faults.specs.declared.fault.BodyFault.{BodyFault}
use Rattle.body_faults.specs.declared.fault.BodyFault.TheVariants.{NoData, Format, NoEvent, Blank, TooMany, NoMemory}
use Rattle.hec_body.proofs.Cuts.{memory_or_not}

abbrev Texts : Type 0
Texts = List (List ℕ)

-- there is such a line
line_within : (P : List ℕ → Type 0) (texts : Texts) (number : ℕ) → NextLineIs P number texts → number < length texts
line_within P texts number h = omega (arith, ap length h.3, length-append h.0 (h.1 ∷ h.2), h.4)

line_there : (P : List ℕ → Type 0) (texts : Texts) (number : ℕ) (h : NextLineIs P number texts) → get_or texts number h.1 ≡ h.1
line_there P texts number h = ap (λ (z : Texts). get_or z number h.1) h.3 ∙ ap (λ (n : ℕ). get_or (h.0 ++ h.1 ∷ h.2) n h.1) (sym h.4) ∙ get_or-append_seam h.0 h.1 h.2 h.1

-- no long line stands among short ones
long_not_short : (texts : Texts) (number : ℕ) → NextLineIs IsLong number texts → All IsShort texts → ⊥
long_not_short texts number h short =
    let here : IsShort (get_or texts number h.1) = All-get_or IsShort texts number h.1 (line_within IsLong texts number h) short in
    absurd (omega (arith, subst IsShort (line_there IsLong texts number h) here, h.6))

not_before : (P : List ℕ → Type 0) (texts : Texts) (e f : ℕ) → NextLineIs IsLong e texts → NextLineIs P f texts → e < f → ⊥
not_before P texts e f h k earlier =
    let within : e < length k.0 = omega (arith, k.4) in
    let there : get_or k.0 e h.1 ≡ h.1 = sym (ap (λ (z : Texts). get_or z e h.1) k.3 ∙ get_or_append_left k.0 (k.1 ∷ k.2) h.1 e within) ∙ line_there IsLong texts e h in
    let here : IsShort (get_or k.0 e h.1) = All-get_or IsShort k.0 e h.1 within k.5 in
    absurd (omega (arith, subst IsShort there here, h.6))

none_there : (P : List ℕ → Type 0) (texts : Texts) (number : ℕ) → texts ≡ [] → NextLineIs P number texts → ⊥
none_there P texts number none h = absurd (omega (arith, line_within P texts number h, ap length none))

same_place : (texts : Texts) (e f : ℕ) → NextLineIs IsLong e texts → NextLineIs IsLong f texts → e ≡ f
same_place texts e f h k = elim (cases_lt e f) [
  | inl earlier ↦ absurd (not_before IsLong texts e f h k earlier)
  | inr later ↦ elim (cases_lt f e) [
    | inl earlier ↦ absurd (not_before IsLong texts f e k h earlier)
    | inr same ↦ omega (arith, later, same)
  ]
]

fault_once : (texts : Texts) (f g : BodyFault) → f ≢ NoMemory → g ≢ NoMemory → IsLineFault texts f → IsLineFault texts g → f ≡ g
fault_once texts NoData NoData m n h k = refl
fault_once texts NoData (Format e) m n h k = absurd (none_there IsLong texts e h k.1)
fault_once texts NoData TooMany m n h k = absurd (none_there (λ _. ⊤) texts 10000 h k)
fault_once texts (Format e) NoData m n h k = absurd (none_there IsLong texts e k h.1)
fault_once texts (Format e) (Format f) m n h k = ap Format (same_place texts e f h.1 k.1)
fault_once texts (Format e) TooMany m n h k = absurd (not_before (λ _. ⊤) texts e 10000 h.1 k h.0)
fault_once texts TooMany NoData m n h k = absurd (none_there (λ _. ⊤) texts 10000 k h)
fault_once texts TooMany (Format e) m n h k = absurd (not_before (λ _. ⊤) texts e 10000 k.1 h k.0)
fault_once texts TooMany TooMany m n h k = refl
fault_once texts (NoEvent e) g m n h k = absurd h
fault_once texts (Blank e) g m n h k = absurd h
fault_once texts NoMemory g m n h k = absurd (m refl)
fault_once texts f (NoEvent e) m n h k = absurd k
fault_once texts f (Blank e) m n h k = absurd k
fault_once texts f NoMemory m n h k = absurd (n refl)

no_fault : (texts : Texts) (f : BodyFault) → f ≢ NoMemory → IsLineFault texts f → AreWithinLimits texts → ⊥
no_fault texts NoData m h limits = absurd (omega (arith, ap length h, limits.some))
no_fault texts (Format e) m h limits = long_not_short texts e h.1 limits.short
no_fault texts (NoEvent e) m h limits = h
no_fault texts (Blank e) m h limits = h
no_fault texts TooMany m h limits = absurd (omega (arith, line_within (λ _. ⊤) texts 10000 h, limits.few))
no_fault texts NoMemory m h limits = m refl

same_cut : (body : List ℕ) (r s : Result Texts BodyFault) → r ≢ Err NoMemory → s ≢ Err NoMemory → IsLineCut body r → IsLineCut body s → r ≡ s
same_cut body (Ok xs) (Ok ys) m n h k = ap Ok (h.0 ∙ sym k.0)
same_cut body (Ok xs) (Err g) m n h k = absurd (no_fault (filled_lines body) g (λ e. n (ap Err e)) k (subst AreWithinLimits h.0 h.1))
same_cut body (Err f) (Ok ys) m n h k = absurd (no_fault (filled_lines body) f (λ e. m (ap Err e)) h (subst AreWithinLimits k.0 k.1))
same_cut body (Err f) (Err g) m n h k = ap Err (fault_once (filled_lines body) f g (λ e. m (ap Err e)) (λ e. n (ap Err e)) h k)

pub one_line_cut : (body : List ℕ) (r s : Result Texts BodyFault) → IsLineCut body r → IsLineCut body s → (r ≡ Err NoMemory) ⊎ ((s ≡ Err NoMemory) ⊎ (r ≡ s))
one_line_cut body r s h k = elim (memory_or_not r) [
  | inl m ↦ inl m
  | inr m ↦ elim (memory_or_not s) [
    | inl n ↦ inr (inl n)
    | inr n ↦ inr (inr (same_cut body r s m n h k))
  ]
]
