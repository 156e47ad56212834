-- The first value by lists: what stands at a place is white space, a value and more.
use Rattle.std.proofs.Common.{◌≡◌, ℕ, ◌+◌, ◌-◌, ◌≤◌, List, ◌++◌, length, length-append, length-drop, take, drop, sym, ap, ◌∙◌, subst, arith}
use Rattle.std.specs.Prelude.{slice_range}
use Rattle.std.proofs.lemmas.List.{drop-drop}
use Rattle.std.proofs.Math.Seq.{take-append_seam, drop-append_seam}
use Rattle.json_span.specs.Numbers.{IsNumber}
use Rattle.json_span.specs.Json.{AreSpaces, Json, JsonObject}
use Rattle.json_span.specs.Spans.{Stretch, IsFirst}
use Rattle.json_span.specs.declared.span.Span.{Span}
use Rattle.json_span.proofs.Stretches.{drop_split}
use Rattle.json_span.proofs.NumberLaws.{first_there, object_there}

-- the first value's text, with what is before and after it
pub first_text : (bytes : List ℕ) (at : ℕ) (s : Span) → IsFirst 127 bytes at s → drop at bytes ≡ slice_range bytes at s.start ++ (slice_range bytes s.start s.end ++ drop s.end bytes)
first_text bytes at s f = drop_split bytes at s.start f.space.order ∙ ap (λ z. slice_range bytes at s.start ++ z) (drop_split bytes s.start s.end f.value.order)

-- what stands first after a place
pub record StandsFirst (bytes : List ℕ) (at : ℕ) (w rest : List ℕ) : Type 0 where
  pub bound : at + length w ≤ length bytes
  pub text : slice_range bytes at (at + length w) ≡ w
  pub after : drop (at + length w) bytes ≡ rest

pub stands_first : (bytes : List ℕ) (at : ℕ) (w rest : List ℕ) → at ≤ length bytes → drop at bytes ≡ w ++ rest → StandsFirst bytes at w rest
stands_first bytes at w rest h e =
    let l : length (drop at bytes) ≡ length bytes - at = length-drop at bytes in
    let m : length (drop at bytes) ≡ length w + length rest = ap length e ∙ length-append w rest in
    let n : at + length w - at ≡ length w = omega arith in
    let o : length w + at ≡ at + length w = omega arith in
    record {
      bound = omega (arith, l, m, h);
      text = ap (λ k. take k (drop at bytes)) n ∙ ap (λ z. take (length w) z) e ∙ take-append_seam w rest;
      after = sym (drop-drop (length w) at bytes ∙ ap (λ k. drop k bytes) (omega arith)) ∙ ap (λ z. drop (length w) z) e ∙ drop-append_seam w rest;
    }

stretch_of : (P : List ℕ → Type 0) (bytes : List ℕ) (at : ℕ) (w rest : List ℕ) → StandsFirst bytes at w rest → P w → Stretch P bytes at (at + length w)
stretch_of P bytes at w rest s p = record { order = omega arith; bound = s.bound; text = subst P (sym s.text) p }

-- White space and a value that is no number: the value is the first one, whatever is after it.
pub first_by_text : (bytes : List ℕ) (at : ℕ) (w x rest : List ℕ) → at ≤ length bytes → drop at bytes ≡ w ++ (x ++ rest) → AreSpaces w → Json 127 x → (IsNumber x → ⊥) → IsFirst 127 bytes at (record { start = at + length w; end = at + length w + length x })
first_by_text bytes at w x rest h e a i n =
    let s = stands_first bytes at w (x ++ rest) h e in
    let t = stands_first bytes (at + length w) x rest s.bound s.after in
    first_there 127 bytes at (at + length w) (at + length w + length x) (stretch_of AreSpaces bytes at w (x ++ rest) s a) (stretch_of (Json 127) bytes (at + length w) x rest t i) (λ k. n (subst IsNumber t.text k))

-- So is an object.
pub object_by_text : (bytes : List ℕ) (at : ℕ) (w x rest : List ℕ) → at ≤ length bytes → drop at bytes ≡ w ++ (x ++ rest) → AreSpaces w → JsonObject 127 x → IsFirst 127 bytes at (record { start = at + length w; end = at + length w + length x })
object_by_text bytes at w x rest h e a i =
    let s = stands_first bytes at w (x ++ rest) h e in
    let t = stands_first bytes (at + length w) x rest s.bound s.after in
    object_there bytes at (at + length w) (at + length w + length x) (stretch_of AreSpaces bytes at w (x ++ rest) s a) (stretch_of (JsonObject 127) bytes (at + length w) x rest t i)
