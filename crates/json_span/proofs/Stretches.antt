-- Bytes from one place to another, and white space there.
use Rattle.std.proofs.Common.{◌≡◌, ℕ, ◌+◌, ◌-◌, ◌≤◌, ◌<◌, true, false, List, [], ◌∷◌, ◌++◌, length, get_or, take, drop, refl, sym, ap, ◌∙◌, suc, zero, subst, arith}
use Rattle.std.specs.Prelude.{slice_range}
use Rattle.std.proofs.lemmas.List.{drop-drop, take-append-drop}
use Rattle.std.proofs.lemmas.List.Edits.{between_more, between_none, length-between, get_or-between}
use Rattle.std.proofs.Math.Seq.{take-add}
use Rattle.json_span.specs.Json.{is_space, AreSpaces}
use Rattle.json_span.specs.Spans.{Stretch}

-- Two stretches after one another.
pub range_split : (bytes : List ℕ) (a b c : ℕ) → a ≤ b → b ≤ c → slice_range bytes a c ≡ slice_range bytes a b ++ slice_range bytes b c
range_split bytes a b c h k =
    let n : b - a + (c - b) ≡ c - a = omega arith in
    let s : a + (b - a) ≡ b = omega arith in
    ap (λ z. take z (drop a bytes)) (sym n) ∙ take-add (b - a) (c - b) (drop a bytes) ∙ ap (λ z. slice_range bytes a b ++ take (c - b) z) (drop-drop (b - a) a bytes ∙ ap (λ z. drop z bytes) s)

pub drop_split : (bytes : List ℕ) (a b : ℕ) → a ≤ b → drop a bytes ≡ slice_range bytes a b ++ drop b bytes
drop_split bytes a b h =
    let s : a + (b - a) ≡ b = omega arith in
    sym (take-append-drop (b - a) (drop a bytes)) ∙ ap (λ z. slice_range bytes a b ++ z) (drop-drop (b - a) a bytes ∙ ap (λ z. drop z bytes) s)

pub range_whole : (bytes : List ℕ) (a : ℕ) → a ≤ length bytes → drop a bytes ≡ slice_range bytes a (length bytes)
range_whole bytes a h = drop_split bytes a (length bytes) h ∙ ap (λ z. slice_range bytes a (length bytes) ++ z) (none bytes) ∙ append_nil (slice_range bytes a (length bytes))
  where
    none : (xs : List ℕ) → drop (length xs) xs ≡ []
    none [] = refl
    none (x ∷ xs) = none xs

    append_nil : (xs : List ℕ) → xs ++ [] ≡ xs
    append_nil [] = refl
    append_nil (x ∷ xs) = ap (λ z. x ∷ z) (append_nil xs)

-- a range in two parts, and their places
pub range_parts : (bytes y z : List ℕ) (a c : ℕ) → a ≤ c → c ≤ length bytes → slice_range bytes a c ≡ y ++ z → (a + length y ≤ c) × (slice_range bytes a (a + length y) ≡ y) × (slice_range bytes (a + length y) c ≡ z)
range_parts bytes y z a c h k e =
    let l : length (slice_range bytes a c) ≡ c - a = length-between bytes a c k in
    let m : length (y ++ z) ≡ length y + length z = length_both y z in
    let n : c - a ≡ length y + length z = sym l ∙ ap length e ∙ m in
    let o : a + length y ≤ c = omega (arith, n, h) in
    let s : slice_range bytes a c ≡ slice_range bytes a (a + length y) ++ slice_range bytes (a + length y) c = range_split bytes a (a + length y) c (omega arith) o in
    let f : length (slice_range bytes a (a + length y)) ≡ length y = length-between bytes a (a + length y) (omega (arith, o, k)) ∙ (omega arith) in
    let w = parts (slice_range bytes a (a + length y)) y (slice_range bytes (a + length y) c) z f (sym s ∙ e) in
    (o, w.0, w.1)
  where
    length_both : (y z : List ℕ) → length (y ++ z) ≡ length y + length z
    length_both [] z = omega arith
    length_both (b ∷ y) z = let r = length_both y z in omega (arith, r)

    parts : (x y v z : List ℕ) → length x ≡ length y → x ++ v ≡ y ++ z → (x ≡ y) × (v ≡ z)
    parts [] [] v z l e = (refl, e)
    parts [] (c ∷ y) v z l e = absurd (omega (arith, l))
    parts (b ∷ x) [] v z l e = absurd (omega (arith, l))
    parts (b ∷ x) (c ∷ y) v z l e =
        let q : b ≡ c = cc in
        let r : x ++ v ≡ y ++ z = cc in
        let m : length x ≡ length y = omega (arith, l) in
        let w = parts x y v z m r in
        (let t = w.0 in cc, w.1)

-- White space.
pub spaces_join : (x y : List ℕ) → AreSpaces x → AreSpaces y → AreSpaces (x ++ y)
spaces_join [] y a b = b
spaces_join (c ∷ x) y a b = (a.0, spaces_join x y a.1 b)

pub spaces_at : (x : List ℕ) (k : ℕ) → AreSpaces x → k < length x → is_space (get_or x k 0) ≡ true
spaces_at [] k a l = absurd (omega (arith, l))
spaces_at (c ∷ x) zero a l = a.0
spaces_at (c ∷ x) (suc k) a l = spaces_at x k a.1 (omega (arith, l))

pub no_spaces : (bytes : List ℕ) (at : ℕ) → at ≤ length bytes → Stretch AreSpaces bytes at at
no_spaces bytes at h = record { order = omega arith; bound = h; text = subst AreSpaces (sym (between_none bytes at)) tt }

pub spaces_more : (bytes : List ℕ) (at i : ℕ) → Stretch AreSpaces bytes at i → i < length bytes → is_space (get_or bytes i 0) ≡ true → Stretch AreSpaces bytes at (i + 1)
spaces_more bytes at i s l e =
    record {
      order = omega (arith, s.order);
      bound = omega (arith, l);
      text = subst AreSpaces (sym (between_more bytes at i 0 s.order l)) (spaces_join (slice_range bytes at i) (get_or bytes i 0 ∷ []) s.text (e, tt));
    }

pub space_within : (bytes : List ℕ) (at end k : ℕ) → Stretch AreSpaces bytes at end → at ≤ k → k < end → is_space (get_or bytes k 0) ≡ true
space_within bytes at end k s a b =
    let l : length (slice_range bytes at end) ≡ end - at = length-between bytes at end s.bound in
    let q : at + (k - at) ≡ k = omega arith in
    let g : get_or (slice_range bytes at end) (k - at) 0 ≡ get_or bytes k 0 = get_or-between bytes at end (k - at) 0 (omega (arith, b, a)) ∙ ap (λ z. get_or bytes z 0) q in
    subst (λ z. is_space z ≡ true) g (spaces_at (slice_range bytes at end) (k - at) s.text (omega (arith, l, b, a)))

-- white space in front of two bytes that are none ends at one place
pub space_ends : (bytes : List ℕ) (at a b : ℕ) → Stretch AreSpaces bytes at a → Stretch AreSpaces bytes at b → (a < length bytes → is_space (get_or bytes a 0) ≡ false) → b < length bytes → is_space (get_or bytes b 0) ≡ false → a ≡ b
space_ends bytes at a b s t u l v =
    let n : a < b → ⊥ = λ h. let f : is_space (get_or bytes a 0) ≡ true = space_within bytes at b a t s.order h in let g : is_space (get_or bytes a 0) ≡ false = u (omega (arith, h, l)) in cc in
    let m : b < a → ⊥ = λ h. let f : is_space (get_or bytes b 0) ≡ true = space_within bytes at a b s t.order h in cc in
    omega (arith, n, m)
