-- Objects among values, and whole texts that are one.
use Rattle.std.proofs.Common.{◌≡◌, ℕ, ◌+◌, ◌<◌, true, false, List, ◌∷◌, length, get_or, sym, ap, ◌∙◌, suc, zero, subst, arith, inl, inr}
use Rattle.std.specs.Prelude.{slice_range}
use Rattle.json_span.specs.Json.{is_space, AreSpaces, Then, IsScalar, Json, JsonObject}
use Rattle.json_span.specs.Machine.{Space, first}
use Rattle.json_span.specs.Spans.{Stretch, IsFirst}
use Rattle.json_span.specs.Members.{HasObject, IsObjectText}
use Rattle.json_span.specs.declared.span.Span.{Span}
use Rattle.json_span.proofs.TokenLaws.{scalar_forth}
use Rattle.json_span.proofs.Stretches.{range_whole, space_within}
use Rattle.json_span.proofs.Values.{value_some, range_head}
use Rattle.json_span.proofs.Following.{first_followed}
use Rattle.json_span.proofs.Exact.{first_only}
use Rattle.json_span.proofs.Parts.{stretch_map, then_at, then_back, byte_at}

no_scalar : (x : List ℕ) → IsScalar (123 ∷ x) → ⊥
unfolding first
no_scalar x i = let s = scalar_forth 123 x i in let e = s.1 in cc

-- a value that begins by a brace is an object, and an object is a value
pub json_object : (d : ℕ) (x : List ℕ) → Json d (123 ∷ x) → JsonObject d (123 ∷ x)
json_object zero x i = absurd (no_scalar x i)
json_object (suc d) x (inl i) = absurd (no_scalar x i)
json_object (suc d) x (inr (inl i)) = let e = i.1 in let q : ◌≡◌ {A = ℕ} 123 91 = cc in absurd (omega (arith, q))
json_object (suc d) x (inr (inr i)) = i

pub object_json : (d : ℕ) (x : List ℕ) → JsonObject d x → Json d x
object_json zero x i = absurd i
object_json (suc d) x i = inr (inr i)

-- the first value is an object where its first byte is a brace
pub first_object : (bytes : List ℕ) (at : ℕ) (s : Span) → IsFirst 127 bytes at s → get_or bytes s.start 0 ≡ 123 → HasObject bytes s
first_object bytes at s f b = record {
  order = f.value.order;
  bound = f.value.bound;
  text =
      let h = range_head bytes s.start s.end (value_some bytes 127 s.start s.end f.value) f.value.bound in
      let q = h ∙ ap (λ z. z ∷ slice_range bytes (s.start + 1) s.end) b in
      subst (JsonObject 127) (sym q) (json_object 127 (slice_range bytes (s.start + 1) s.end) (subst (Json 127) q f.value.text));
}

-- one object, and nothing but white space round it
pub object_text : (bytes : List ℕ) (s : Span) (to : ℕ) → IsFirst 127 bytes 0 s → get_or bytes s.start 0 ≡ 123 → Stretch AreSpaces bytes s.end to → to ≡ length bytes → IsObjectText bytes
object_text bytes s to f b w e =
    let c : Stretch (JsonObject 127) bytes s.start s.end = first_object bytes 0 s f b in
    let v : Stretch (Then (JsonObject 127) AreSpaces) bytes s.start (length bytes) = then_back (JsonObject 127) AreSpaces bytes s.start s.end (length bytes) c (subst (Stretch AreSpaces bytes s.end) e w) in
    let t : Stretch IsObjectText bytes 0 (length bytes) = then_back AreSpaces (Then (JsonObject 127) AreSpaces) bytes 0 s.start (length bytes) f.space v in
    subst IsObjectText (sym (range_whole bytes 0 (omega arith))) t.text

pub record ObjectFirst (bytes : List ℕ) : Type 0 where
  pub span : Span
  pub first : IsFirst 127 bytes 0 span
  pub brace : get_or bytes span.start 0 ≡ 123
  pub after : Stretch AreSpaces bytes span.end (length bytes)

pub object_first : (bytes : List ℕ) → IsObjectText bytes → ObjectFirst bytes
object_first bytes t =
    let s : Stretch IsObjectText bytes 0 (length bytes) = record { order = omega arith; bound = omega arith; text = subst IsObjectText (range_whole bytes 0 (omega arith)) t } in
    let a = then_at AreSpaces (Then (JsonObject 127) AreSpaces) bytes 0 (length bytes) s in
    let b = then_at (JsonObject 127) AreSpaces bytes a.0 (length bytes) a.2 in
    record {
      span = record { start = a.0; end = b.0 };
      first = first_followed 127 bytes 0 a.0 b.0 a.1 (stretch_map (JsonObject 127) (Json 127) bytes a.0 b.0 (object_json 127) b.1) (λ l. Space (space_within bytes b.0 (length bytes) b.0 b.2 (omega arith) l));
      brace = (byte_at 123 (λ y. Unit) bytes a.0 b.0 (stretch_map (JsonObject 127) (λ x. (y : List ℕ) × (x ≡ 123 ∷ y) × Unit) bytes a.0 b.0 (λ x i. (i.0, i.1, tt)) b.1)).byte;
      after = b.2;
    }

-- the first value is that object
pub object_span : (bytes : List ℕ) (s : Span) → IsFirst 127 bytes 0 s → IsObjectText bytes → get_or bytes s.start 0 ≡ 123
object_span bytes s f t =
    let o = object_first bytes t in
    let e : s ≡ o.span = first_only 127 bytes 0 s o.span f o.first in
    subst (λ z. get_or bytes z.start 0 ≡ 123) (sym e) o.brace

pub object_end : (bytes : List ℕ) (s : Span) (to : ℕ) → IsFirst 127 bytes 0 s → IsObjectText bytes → Stretch AreSpaces bytes s.end to → (to < length bytes → is_space (get_or bytes to 0) ≡ false) → to ≡ length bytes
object_end bytes s to f t w g =
    let o = object_first bytes t in
    let e : s ≡ o.span = first_only 127 bytes 0 s o.span f o.first in
    let b : Stretch AreSpaces bytes s.end (length bytes) = subst (λ z. Stretch AreSpaces bytes z.end (length bytes)) (sym e) o.after in
    let n : to < length bytes → ⊥ = λ l. let p : is_space (get_or bytes to 0) ≡ true = space_within bytes s.end (length bytes) to b w.order l in let q : is_space (get_or bytes to 0) ≡ false = g l in cc in
    omega (arith, n, w.bound)
