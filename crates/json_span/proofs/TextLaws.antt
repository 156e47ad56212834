-- Texts after one another: a rule of the grammar with more bytes after it, put together and taken apart.
use Rattle.std.proofs.Common.{◌≡◌, ℕ, true, false, List, [], ◌∷◌, ◌++◌, refl, sym, ap, ◌∙◌, suc, zero, subst, append_assoc, inl, inr, ◌⊎◌}
use Rattle.json_span.specs.Json.{AreSpaces, Byte, Further, IsEmpty, Spaced, Then, is_space}
use Rattle.json_span.specs.Machine.{ClosesThen}

-- The of the stack of brackets.

pub spaced_forth : (P : List ℕ → Type 0) (c : ℕ) (b : List ℕ) → Spaced P (c ∷ b) → P (c ∷ b) ⊎ ((is_space c ≡ true) × Spaced P b)
spaced_forth P c b h = go h.0 h.1 h.2 h.3 h.4
  where
    go : (w y : List ℕ) → AreSpaces w → c ∷ b ≡ w ++ y → P y → P (c ∷ b) ⊎ ((is_space c ≡ true) × Spaced P b)
    go [] y s e p = inl (subst P (sym e) p)
    go (x ∷ w) y s e p = let q : x ≡ c = cc in let r : b ≡ w ++ y = cc in inr (subst (λ z. is_space z ≡ true) q s.0, (w, y, s.1, r, p))

pub spaced_back : (P : List ℕ → Type 0) (c : ℕ) (b : List ℕ) → is_space c ≡ true → Spaced P b → Spaced P (c ∷ b)
spaced_back P c b s h = (c ∷ h.0, h.1, (s, h.2), ap (λ v. c ∷ v) h.3, h.4)

pub spaced_now : (P : List ℕ → Type 0) (b : List ℕ) → P b → Spaced P b
spaced_now P b p = ([], b, tt, refl, p)

pub spaced_nil : (P : List ℕ → Type 0) → Spaced P [] → P []
spaced_nil P h = go h.0 h.1 h.3 h.4
  where
    go : (w y : List ℕ) → [] ≡ w ++ y → P y → P []
    go [] y e p = subst P (sym e) p
    go (x ∷ w) y e p = cc

pub spaced_map : (P Q : List ℕ → Type 0) → ((x : List ℕ) → P x → Q x) → (b : List ℕ) → Spaced P b → Spaced Q b
spaced_map P Q f b h = (h.0, h.1, h.2, h.3, f h.1 h.4)

-- a byte that no white space is begins P
pub spaced_not : (P : List ℕ → Type 0) (c : ℕ) (b : List ℕ) → is_space c ≡ false → Spaced P (c ∷ b) → P (c ∷ b)
spaced_not P c b e h = elim (spaced_forth P c b h) [ inl p ↦ p | inr q ↦ let k : is_space c ≡ true = q.0 in cc ]

-- Followed by more.
pub spaced_join : (P : List ℕ → Type 0) (x y : List ℕ) (K : List ℕ → Type 0) → ((z : List ℕ) → P z → K (z ++ y)) → Spaced P x → Spaced K (x ++ y)
spaced_join P x y K f h = (h.0, h.1 ++ y, h.2, ap (λ v. v ++ y) h.3 ∙ append_assoc h.0 h.1 y, f h.1 h.4)

pub byte_join : (P : List ℕ → Type 0) (c : ℕ) (x y : List ℕ) (K : List ℕ → Type 0) → ((z : List ℕ) → P z → K (z ++ y)) → Byte c P x → Byte c K (x ++ y)
byte_join P c x y K f h = (h.0 ++ y, ap (λ v. v ++ y) h.1, f h.0 h.2)

pub then_join : (Q P : List ℕ → Type 0) (x y : List ℕ) (K : List ℕ → Type 0) → ((z : List ℕ) → P z → K (z ++ y)) → Then Q P x → Then Q K (x ++ y)
then_join Q P x y K f h = (h.0, h.1 ++ y, h.2, ap (λ v. v ++ y) h.3 ∙ append_assoc h.0 h.1 y, f h.1 h.4)

pub closes_join : (I : List ℕ → Type 0) (c n : ℕ) (K : List ℕ → Type 0) (x y : List ℕ) → K y → Further I c n x → ClosesThen I c K n (x ++ y)
closes_join I c zero K x y k h = spaced_join (Byte c IsEmpty) x y (Byte c K) (λ z. byte_join IsEmpty c z y K (λ v e. subst (λ u. K (u ++ y)) (sym e) k)) h
closes_join I c (suc n) K x y k h =
    spaced_join (Byte 44 (Spaced (Then I (Further I c n)))) x y (Byte 44 (Spaced (Then I (ClosesThen I c K n))))
    (λ z. byte_join (Spaced (Then I (Further I c n))) 44 z y (Spaced (Then I (ClosesThen I c K n)))
    (λ v. spaced_join (Then I (Further I c n)) v y (Then I (ClosesThen I c K n))
    (λ u. then_join I (Further I c n) u y (ClosesThen I c K n) (λ t. closes_join I c n K t y k))))
    h

-- And split again.
abbrev Split : (List ℕ → Type 0) → (List ℕ → Type 0) → List ℕ → Type 0
Split P K b = Then P K b

pub spaced_split : (P K Q : List ℕ → Type 0) (b : List ℕ) → ((z : List ℕ) → P z → Then Q K z) → Spaced P b → Then (Spaced Q) K b
spaced_split P K Q b f h = let s = f h.1 h.4 in (h.0 ++ s.0, s.1, (h.0, s.0, h.2, refl, s.2), h.3 ∙ ap (λ v. h.0 ++ v) s.3 ∙ sym (append_assoc h.0 s.0 s.1), s.4)

pub byte_split : (P K Q : List ℕ → Type 0) (c : ℕ) (b : List ℕ) → ((z : List ℕ) → P z → Then Q K z) → Byte c P b → Then (Byte c Q) K b
byte_split P K Q c b f h = let s = f h.0 h.2 in (c ∷ s.0, s.1, (s.0, refl, s.2), h.1 ∙ ap (λ v. c ∷ v) s.3, s.4)

pub then_split : (I P K Q : List ℕ → Type 0) (b : List ℕ) → ((z : List ℕ) → P z → Then Q K z) → Then I P b → Then (Then I Q) K b
then_split I P K Q b f h = let s = f h.1 h.4 in (h.0 ++ s.0, s.1, (h.0, s.0, h.2, refl, s.2), h.3 ∙ ap (λ v. h.0 ++ v) s.3 ∙ sym (append_assoc h.0 s.0 s.1), s.4)

pub closes_split : (I : List ℕ → Type 0) (c n : ℕ) (K : List ℕ → Type 0) (b : List ℕ) → ClosesThen I c K n b → Then (Further I c n) K b
closes_split I c zero K b h = spaced_split (Byte c K) K (Byte c IsEmpty) b (λ z. byte_split K K IsEmpty c z (λ v k. ([], v, refl, refl, k))) h
closes_split I c (suc n) K b h =
    spaced_split (Byte 44 (Spaced (Then I (ClosesThen I c K n)))) K (Byte 44 (Spaced (Then I (Further I c n)))) b
    (λ z. byte_split (Spaced (Then I (ClosesThen I c K n))) K (Spaced (Then I (Further I c n))) 44 z
    (λ v. spaced_split (Then I (ClosesThen I c K n)) K (Then I (Further I c n)) v
    (λ u. then_split I (ClosesThen I c K n) K (Further I c n) u (λ t. closes_split I c n K t))))
    h
