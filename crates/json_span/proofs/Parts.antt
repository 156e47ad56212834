-- Texts in parts, by the places of the bytes.
use Rattle.std.proofs.Common.{◌≡◌, ℕ, ◌+◌, ◌≤◌, ◌<◌, List, [], ◌∷◌, ◌++◌, length, get_or, sym, ap, ◌∙◌, subst, arith}
use Rattle.std.specs.Prelude.{slice_range}
use Rattle.json_span.specs.Json.{AreSpaces, Spaced, Byte, Then}
use Rattle.json_span.specs.Machine.{Follows, Space}
use Rattle.json_span.specs.Spans.{Stretch}
use Rattle.json_span.specs.Members.{Separator}
use Rattle.json_span.specs.Walk.{IsFollowed}
use Rattle.json_span.proofs.Stretches.{range_split, range_parts}
use Rattle.json_span.proofs.Values.{range_head}

pub stretch_map : (P Q : List ℕ → Type 0) (bytes : List ℕ) (a b : ℕ) → ((x : List ℕ) → P x → Q x) → Stretch P bytes a b → Stretch Q bytes a b
stretch_map P Q bytes a b f s = record { order = s.order; bound = s.bound; text = f (slice_range bytes a b) s.text }

-- one text and another after it, at some place between
pub then_at : (P Q : List ℕ → Type 0) (bytes : List ℕ) (a c : ℕ) → Stretch (Then P Q) bytes a c → (b : ℕ) × Stretch P bytes a b × Stretch Q bytes b c
then_at P Q bytes a c s =
    let t = s.text in
    let p = range_parts bytes t.0 t.1 a c s.order s.bound t.3 in (
      a + length t.0,
      record { order = omega arith; bound = omega (arith, p.0, s.bound); text = subst P (sym p.1) t.2 },
      record { order = p.0; bound = s.bound; text = subst Q (sym p.2) t.4 },
    )

pub then_back : (P Q : List ℕ → Type 0) (bytes : List ℕ) (a b c : ℕ) → Stretch P bytes a b → Stretch Q bytes b c → Stretch (Then P Q) bytes a c
then_back P Q bytes a b c s t = record {
  order = omega (arith, s.order, t.order);
  bound = t.bound;
  text = (slice_range bytes a b, slice_range bytes b c, s.text, range_split bytes a b c s.order t.order, t.text);
}

-- a byte and a text after it
pub record ByteAt (c : ℕ) (P : List ℕ → Type 0) (bytes : List ℕ) (a b : ℕ) : Type 0 where
  pub order : a < b
  pub byte : get_or bytes a 0 ≡ c
  pub rest : Stretch P bytes (a + 1) b

pub byte_at : (c : ℕ) (P : List ℕ → Type 0) (bytes : List ℕ) (a b : ℕ) → Stretch (Byte c P) bytes a b → ByteAt c P bytes a b
byte_at c P bytes a b s =
    let t = s.text in
    let p = range_parts bytes (c ∷ []) t.0 a b s.order s.bound t.1 in
    let o : a + 1 ≤ b = p.0 in
    let h : slice_range bytes a b ≡ get_or bytes a 0 ∷ slice_range bytes (a + 1) b = range_head bytes a b (omega (arith, o)) s.bound in
    record {
      order = omega (arith, o);
      byte = let q : get_or bytes a 0 ∷ slice_range bytes (a + 1) b ≡ c ∷ t.0 = sym h ∙ t.1 in cc;
      rest = record { order = o; bound = s.bound; text = subst P (sym p.2) t.2 };
    }

pub byte_back : (c : ℕ) (P : List ℕ → Type 0) (bytes : List ℕ) (a b : ℕ) → get_or bytes a 0 ≡ c → Stretch P bytes (a + 1) b → Stretch (Byte c P) bytes a b
byte_back c P bytes a b e s =
    let h : slice_range bytes a b ≡ get_or bytes a 0 ∷ slice_range bytes (a + 1) b = range_head bytes a b (omega (arith, s.order)) s.bound in
    record { order = omega (arith, s.order); bound = s.bound; text = (slice_range bytes (a + 1) b, h ∙ ap (λ z. z ∷ slice_range bytes (a + 1) b) e, s.text) }

pub separator_back : (c : ℕ) (bytes : List ℕ) (a b d : ℕ) → Stretch AreSpaces bytes a b → get_or bytes b 0 ≡ c → Stretch AreSpaces bytes (b + 1) d → Stretch (Separator c) bytes a d
separator_back c bytes a b d s e t = then_back AreSpaces (Byte c AreSpaces) bytes a b d s (byte_back c AreSpaces bytes b d e t)

-- the first byte of white space and a byte after it
pub followed : (c : ℕ) (P : List ℕ → Type 0) (bytes : List ℕ) (a b : ℕ) → Follows c → Stretch (Spaced (Byte c P)) bytes a b → IsFollowed bytes a
followed c P bytes a b f s = λ l. go s.text.0 s.text.2 s.text.3 l
  where
    at : (d : ℕ) (y : List ℕ) → slice_range bytes a b ≡ d ∷ y → a < length bytes → get_or bytes a 0 ≡ d
    at d y e l =
        let p = range_parts bytes (d ∷ []) y a b s.order s.bound e in
        let o : a + 1 ≤ b = p.0 in
        let h : slice_range bytes a b ≡ get_or bytes a 0 ∷ slice_range bytes (a + 1) b = range_head bytes a b (omega (arith, o)) s.bound in
        let q : get_or bytes a 0 ∷ slice_range bytes (a + 1) b ≡ d ∷ y = sym h ∙ e in
        cc

    go : (w : List ℕ) → AreSpaces w → slice_range bytes a b ≡ w ++ s.text.1 → a < length bytes → Follows (get_or bytes a 0)
    go [] h e l = let k = s.text.4 in subst Follows (sym (at c k.0 (e ∙ k.1) l)) f
    go (d ∷ w) h e l = subst Follows (sym (at d (w ++ s.text.1) e l)) (Space h.0)
