-- Values at places of some bytes: where they begin and end.
use Rattle.std.proofs.Common.{◌≡◌, ℕ, ◌+◌, ◌≤◌, ◌<◌, false, List, [], ◌∷◌, ◌++◌, length, get_or, sym, ap, ◌∙◌, subst, arith}
use Rattle.std.specs.Prelude.{slice_range}
use Rattle.std.proofs.lemmas.List.Edits.{between_more, between_none}
use Rattle.json_span.specs.Json.{is_space, AreSpaces, Json}
use Rattle.json_span.specs.Spans.{Stretch, Begins, IsWithin, IsFirst}
use Rattle.json_span.specs.declared.span.Span.{Span}
use Rattle.json_span.proofs.StepForth.{json_some}
use Rattle.json_span.proofs.Fronts.{value_first, begins_after, begins_spaced, begins_value}
use Rattle.json_span.proofs.Stretches.{range_split, space_ends}

pub range_head : (bytes : List ℕ) (a c : ℕ) → a < c → c ≤ length bytes → slice_range bytes a c ≡ get_or bytes a 0 ∷ slice_range bytes (a + 1) c
range_head bytes a c h k =
    let s : slice_range bytes a c ≡ slice_range bytes a (a + 1) ++ slice_range bytes (a + 1) c = range_split bytes a (a + 1) c (omega arith) (omega (arith, h)) in
    let o : slice_range bytes a (a + 1) ≡ slice_range bytes a a ++ get_or bytes a 0 ∷ [] = between_more bytes a a 0 (omega arith) (omega (arith, h, k)) in
    s ∙ ap (λ z. z ++ slice_range bytes (a + 1) c) (o ∙ ap (λ z. z ++ get_or bytes a 0 ∷ []) (between_none bytes a))

-- a value has a first byte, which is no white space
pub value_some : (bytes : List ℕ) (d start end : ℕ) → Stretch (Json d) bytes start end → start < end
value_some bytes d start end s =
    let n : start ≡ end → ⊥ = λ q. json_some d (subst (Json d) (ap (λ z. slice_range bytes start z) (sym q) ∙ between_none bytes start) s.text) in
    omega (arith, n, s.order)

pub value_byte : (bytes : List ℕ) (d start end : ℕ) → Stretch (Json d) bytes start end → is_space (get_or bytes start 0) ≡ false
value_byte bytes d start end s =
    value_first d (get_or bytes start 0) (slice_range bytes (start + 1) end) (subst (Json d) (range_head bytes start end (value_some bytes d start end s) s.bound) s.text)

-- where the first value's span lies
pub first_within : (levels : ℕ) (bytes : List ℕ) (at : ℕ) (s : Span) → IsFirst levels bytes at s → IsWithin at s (length bytes)
first_within levels bytes at s f = record { after = f.space.order; some = value_some bytes levels s.start s.end f.value; bound = f.value.bound }

-- white space that ends where none stands, or where the bytes end, ends where each value after it begins
pub value_start : (bytes : List ℕ) (at start d from end : ℕ) → Stretch AreSpaces bytes at start → (start < length bytes → is_space (get_or bytes start 0) ≡ false) → Stretch AreSpaces bytes at from → Stretch (Json d) bytes from end → start ≡ from
value_start bytes at start d from end s u t v =
    space_ends bytes at start from s t u (omega (arith, value_some bytes d from end v, v.bound)) (value_byte bytes d from end v)

-- what begins a value after white space
pub begins_at : (bytes : List ℕ) (d at start to : ℕ) → Stretch AreSpaces bytes at start → start ≤ to → Begins d (slice_range bytes start to) → Begins d (slice_range bytes at to)
begins_at bytes d at start to s h b = subst (Begins d) (sym (range_split bytes at start to s.order h)) (begins_spaced d (slice_range bytes at start) (slice_range bytes start to) s.text b)

pub begins_from : (bytes : List ℕ) (d at start to : ℕ) → Stretch AreSpaces bytes at start → start ≤ to → Begins d (slice_range bytes at to) → Begins d (slice_range bytes start to)
begins_from bytes d at start to s h b = begins_after d (slice_range bytes at start) (slice_range bytes start to) s.text (subst (Begins d) (range_split bytes at start to s.order h) b)

-- a value that ends after a place begins by the bytes before it
pub value_front : (bytes : List ℕ) (d start to end : ℕ) → Stretch (Json d) bytes start end → start ≤ to → to ≤ end → Begins d (slice_range bytes start to)
value_front bytes d start to end s h k = begins_value d (slice_range bytes start to) (slice_range bytes to end) (subst (Json d) (range_split bytes start to end h k) s.text)
