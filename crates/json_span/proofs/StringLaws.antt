-- Strings at places of some bytes.
use Rattle.std.proofs.Common.{◌≡◌, ℕ, zero, suc, ◌+◌, ◌<◌, false, List, ◌∷◌, length, get_or, refl, sym, ap, ◌∙◌, subst, inl, inr, arith}
use Rattle.std.specs.Prelude.{slice_range}
use Rattle.json_span.specs.Strings.{IsString}
use Rattle.json_span.specs.Json.{is_space, IsScalar, Json}
use Rattle.json_span.specs.Spans.{Stretch, IsFirst}
use Rattle.json_span.specs.declared.span.Span.{Span}
use Rattle.json_span.proofs.Exact.{first_only}
use Rattle.json_span.proofs.NumberLaws.{string_there, no_quote}
use Rattle.json_span.proofs.Stretches.{space_ends, no_spaces}
use Rattle.json_span.proofs.Values.{range_head, value_some, value_byte}

-- a value that begins with a quotation mark is a string
scalar_string : (x : List ℕ) → IsScalar (34 ∷ x) → IsString (34 ∷ x)
scalar_string x (inl i) = i
scalar_string x (inr (inl i)) = absurd (no_quote x i)
scalar_string x (inr (inr (inl e))) = let q : ◌≡◌ {A = ℕ} 34 116 = cc in absurd (omega (arith, q))
scalar_string x (inr (inr (inr (inl e)))) = let q : ◌≡◌ {A = ℕ} 34 102 = cc in absurd (omega (arith, q))
scalar_string x (inr (inr (inr (inr e)))) = let q : ◌≡◌ {A = ℕ} 34 110 = cc in absurd (omega (arith, q))

json_string : (d : ℕ) (x : List ℕ) → Json d (34 ∷ x) → IsString (34 ∷ x)
json_string zero x i = scalar_string x i
json_string (suc d) x (inl i) = scalar_string x i
json_string (suc d) x (inr (inl i)) = let e = i.1 in let q : ◌≡◌ {A = ℕ} 34 91 = cc in absurd (omega (arith, q))
json_string (suc d) x (inr (inr i)) = let e = i.1 in let q : ◌≡◌ {A = ℕ} 34 123 = cc in absurd (omega (arith, q))

-- the first value from a quotation mark on
pub string_first : (levels : ℕ) (bytes : List ℕ) (at : ℕ) (s : Span) → IsFirst levels bytes at s → at < length bytes → get_or bytes at 0 ≡ 34 → Stretch IsString bytes at s.end
string_first levels bytes at s f inside quote =
    let some : s.start < s.end = value_some bytes levels s.start s.end f.value in
    let space : is_space (get_or bytes at 0) ≡ false = subst (λ (c : ℕ). is_space c ≡ false) (sym quote) refl in
    let here : at ≡ s.start = space_ends bytes at at s.start (no_spaces bytes at (omega (arith, inside))) f.space (λ _. space) (omega (arith, some, f.value.bound)) (value_byte bytes levels s.start s.end f.value) in
    let first : get_or bytes s.start 0 ≡ 34 = subst (λ (n : ℕ). get_or bytes n 0 ≡ 34) here quote in
    let e : slice_range bytes s.start s.end ≡ 34 ∷ slice_range bytes (s.start + 1) s.end = range_head bytes s.start s.end some f.value.bound ∙ ap (λ (c : ℕ). c ∷ slice_range bytes (s.start + 1) s.end) first in
    let text : IsString (slice_range bytes s.start s.end) = subst IsString (sym e) (json_string levels (slice_range bytes (s.start + 1) s.end) (subst (Json levels) e f.value.text)) in
    subst (λ (n : ℕ). Stretch IsString bytes n s.end) (sym here) (record { order = f.value.order; bound = f.value.bound; text = text })

-- strings that begin at one place are one
pub string_only : (bytes : List ℕ) (at a b : ℕ) → Stretch IsString bytes at a → Stretch IsString bytes at b → a ≡ b
string_only bytes at a b s t =
    ap (λ (z : Span). z.end) (first_only 0 bytes at (record { start = at; end = a }) (record { start = at; end = b }) (string_there 0 bytes at a s) (string_there 0 bytes at b t))
