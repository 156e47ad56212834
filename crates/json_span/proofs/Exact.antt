-- What is answered at a place of some bytes is determined by them.
use Rattle.std.proofs.Common.{◌≡◌, ℕ, ◌+◌, ◌≤◌, ◌<◌, List, drop, refl, sym, ap, ◌∙◌, subst, inl, inr, arith}
use Rattle.std.specs.Prelude.{slice_range, Result, Ok, Err, ◌↔◌}
use Rattle.json_span.specs.Json.{Json}
use Rattle.json_span.specs.Spans.{Stretch, Begins, NoValue, IsFirst, IsCut, IsFault, IsFaultPlace, IsNotJson, IsTooDeep, IsAnswer}
use Rattle.json_span.specs.declared.span.Span.{Span}
use Rattle.json_span.specs.declared.span.JsonFault.{JsonFault}
use Rattle.json_span.specs.declared.span.JsonFault.TheVariants.{Cut, NotJson, TooDeep}
use Rattle.json_span.proofs.Fronts.{begins_front}
use Rattle.json_span.proofs.Stretches.{range_split, drop_split}
use Rattle.json_span.proofs.Values.{value_byte, value_start}
use Rattle.json_span.proofs.FaultPlaces.{begun_only}

begins_before : (bytes : List ℕ) (d at a b : ℕ) → at ≤ a → a ≤ b → Begins d (slice_range bytes at b) → Begins d (slice_range bytes at a)
begins_before bytes d at a b h k g = begins_front d (slice_range bytes at a) (slice_range bytes a b) (subst (Begins d) (range_split bytes at a b h k) g)

begins_drop : (bytes : List ℕ) (d at a : ℕ) → at ≤ a → Begins d (drop at bytes) → Begins d (slice_range bytes at a)
begins_drop bytes d at a h g = begins_front d (slice_range bytes at a) (drop a bytes) (subst (Begins d) (drop_split bytes at a h) g)

-- Each answer alone.
pub first_only : (levels : ℕ) (bytes : List ℕ) (at : ℕ) (s t : Span) → IsFirst levels bytes at s → IsFirst levels bytes at t → s ≡ t
first_only levels bytes at s t f g =
    let a : s.start ≡ t.start = value_start bytes at s.start levels t.start t.end f.space (λ _. value_byte bytes levels s.start s.end f.value) g.space g.value in
    let b : t.end ≤ s.end = f.longest levels t.end (subst (λ z. Stretch (Json levels) bytes z t.end) (sym a) g.value) in
    let c : s.end ≤ t.end = g.longest levels s.end (subst (λ z. Stretch (Json levels) bytes z s.end) a f.value) in
    let e : s.end ≡ t.end = omega (arith, b, c) in
    ap (λ z. record { start = z; end = s.end }) a ∙ ap (λ z. record { start = t.start; end = z }) e

fault_only : (levels : ℕ) (bytes : List ℕ) (at a b : ℕ) → IsFault levels bytes at a → IsFault levels bytes at b → a ≡ b
fault_only levels bytes at a b f g =
    let n : a < b → ⊥ = λ h. f.ends levels (begins_before bytes levels at (a + 1) b (omega (arith, f.order)) (omega (arith, h)) g.begins) in
    let m : b < a → ⊥ = λ h. g.ends levels (begins_before bytes levels at (b + 1) a (omega (arith, g.order)) (omega (arith, h)) f.begins) in
    omega (arith, n, m)

deep_only : (levels : ℕ) (bytes : List ℕ) (at a b : ℕ) → IsTooDeep levels bytes at a → IsTooDeep levels bytes at b → a ≡ b
deep_only levels bytes at a b f g =
    let n : a < b → ⊥ = λ h. f.ends (begins_before bytes levels at (a + 1) b (omega (arith, f.order)) (omega (arith, h)) g.begins) in
    let m : b < a → ⊥ = λ h. g.ends (begins_before bytes levels at (b + 1) a (omega (arith, g.order)) (omega (arith, h)) f.begins) in
    omega (arith, n, m)

place_only : (bytes : List ℕ) (at fault p q : ℕ) → IsFaultPlace bytes at fault p → IsFaultPlace bytes at fault q → p ≡ q
place_only bytes at fault p q (inl f) (inl g) = begun_only bytes p q fault f.1 g.1
place_only bytes at fault p q (inl f) (inr g) = absurd (g.1 p f.0 f.1)
place_only bytes at fault p q (inr f) (inl g) = absurd (f.1 q g.0 g.1)
place_only bytes at fault p q (inr f) (inr g) = f.0 ∙ sym g.0

pub not_json_only : (levels : ℕ) (bytes : List ℕ) (at p q : ℕ) → IsNotJson levels bytes at p → IsNotJson levels bytes at q → p ≡ q
not_json_only levels bytes at p q f g =
    let e : f.fault ≡ g.fault = fault_only levels bytes at f.fault g.fault f.first g.first in
    place_only bytes at g.fault p q (subst (λ z. IsFaultPlace bytes at z p) e f.found) g.found

-- No two together.
first_none : (levels : ℕ) (bytes : List ℕ) (at : ℕ) (s : Span) → IsFirst levels bytes at s → NoValue bytes at → ⊥
first_none levels bytes at s f n = n levels s.start s.end f.space f.value

first_deep : (levels : ℕ) (bytes : List ℕ) (at p : ℕ) (s : Span) → IsFirst levels bytes at s → IsTooDeep levels bytes at p → ⊥
first_deep levels bytes at p s f d = d.none s.start s.end f.space f.value

cut_fault : (levels : ℕ) (bytes : List ℕ) (at p : ℕ) → IsCut levels bytes at → IsFault levels bytes at p → ⊥
cut_fault levels bytes at p c f = f.ends levels (begins_drop bytes levels at (p + 1) (omega (arith, f.order)) c.begins)

cut_deep : (levels : ℕ) (bytes : List ℕ) (at p : ℕ) → IsCut levels bytes at → IsTooDeep levels bytes at p → ⊥
cut_deep levels bytes at p c f = f.ends (begins_drop bytes levels at (p + 1) (omega (arith, f.order)) c.begins)

fault_deep : (levels : ℕ) (bytes : List ℕ) (at a b : ℕ) → IsFault levels bytes at a → IsTooDeep levels bytes at b → ⊥
fault_deep levels bytes at a b f g =
    let n : a < b → ⊥ = λ h. f.ends levels (begins_before bytes levels at (a + 1) b (omega (arith, f.order)) (omega (arith, h)) g.begins) in
    let m : b < a → ⊥ = λ h. g.ends (begins_before bytes levels at (b + 1) a (omega (arith, g.order)) (omega (arith, h)) f.begins) in
    let e : b ≡ a = omega (arith, n, m) in
    f.ends (levels + 1) (subst (λ z. Begins (levels + 1) (slice_range bytes at (z + 1))) e g.deeper)

pub answer_only : (levels : ℕ) (bytes : List ℕ) (at : ℕ) (r s : Result Span JsonFault) → IsAnswer levels bytes at r → IsAnswer levels bytes at s → r ≡ s
answer_only levels bytes at (Ok s) (Ok t) f g = ap (λ z. Ok z) (first_only levels bytes at s t f g)
answer_only levels bytes at (Ok s) (Err Cut) f g = absurd (first_none levels bytes at s f g.none)
answer_only levels bytes at (Ok s) (Err (NotJson q)) f g = absurd (first_none levels bytes at s f g.none)
answer_only levels bytes at (Ok s) (Err (TooDeep q)) f g = absurd (first_deep levels bytes at q s f g)
answer_only levels bytes at (Err Cut) (Ok t) f g = absurd (first_none levels bytes at t g f.none)
answer_only levels bytes at (Err Cut) (Err Cut) f g = refl
answer_only levels bytes at (Err Cut) (Err (NotJson q)) f g = absurd (cut_fault levels bytes at g.fault f g.first)
answer_only levels bytes at (Err Cut) (Err (TooDeep q)) f g = absurd (cut_deep levels bytes at q f g)
answer_only levels bytes at (Err (NotJson p)) (Ok t) f g = absurd (first_none levels bytes at t g f.none)
answer_only levels bytes at (Err (NotJson p)) (Err Cut) f g = absurd (cut_fault levels bytes at f.fault g f.first)
answer_only levels bytes at (Err (NotJson p)) (Err (NotJson q)) f g = ap (λ z. Err (NotJson z)) (not_json_only levels bytes at p q f g)
answer_only levels bytes at (Err (NotJson p)) (Err (TooDeep q)) f g = absurd (fault_deep levels bytes at f.fault q f.first g)
answer_only levels bytes at (Err (TooDeep p)) (Ok t) f g = absurd (first_deep levels bytes at p t g f)
answer_only levels bytes at (Err (TooDeep p)) (Err Cut) f g = absurd (cut_deep levels bytes at p g f)
answer_only levels bytes at (Err (TooDeep p)) (Err (NotJson q)) f g = absurd (fault_deep levels bytes at g.fault p g.first f)
answer_only levels bytes at (Err (TooDeep p)) (Err (TooDeep q)) f g = ap (λ z. Err (TooDeep z)) (deep_only levels bytes at p q f g)

-- the answer is one value exactly where that value is right
pub exact : (levels : ℕ) (bytes : List ℕ) (at : ℕ) (r v : Result Span JsonFault) → IsAnswer levels bytes at r → (r ≡ v) ↔ IsAnswer levels bytes at v
exact levels bytes at r v a = (λ q. subst (IsAnswer levels bytes at) q a, λ b. answer_only levels bytes at r v a b)
