-- Items, groups and members with more bytes after them.
use Rattle.std.proofs.Common.{◌≡◌, ℕ, true, List, [], ◌∷◌, ◌++◌, refl, sym, suc, zero, subst, inl, inr, ◌⊎◌}
use Rattle.json_span.specs.Strings.{IsString}
use Rattle.json_span.specs.Json.{Byte, IsEmpty, IsMember, Items, Spaced, Then, is_space}
use Rattle.json_span.specs.Machine.{ClosesThen, ItemsThen}
use Rattle.json_span.proofs.TextLaws.{byte_join, byte_split, closes_join, closes_split, spaced_back, spaced_forth, spaced_join, spaced_map, spaced_now, spaced_split, then_join, then_split}

-- Items and their closing bracket.
pub items_forth : (I : List ℕ → Type 0) (close : ℕ) (K : List ℕ → Type 0) (c : ℕ) (b : List ℕ) → ItemsThen I close K (c ∷ b) → ((is_space c ≡ true) × ItemsThen I close K b) ⊎ (((c ≡ close) × K b) ⊎ ((c ≡ 44) × Spaced (Then I (ItemsThen I close K)) b))
items_forth I close K c b h = go h.0 h.1
  where
    Out : Type 0
    Out = ((is_space c ≡ true) × ItemsThen I close K b) ⊎ (((c ≡ close) × K b) ⊎ ((c ≡ 44) × Spaced (Then I (ItemsThen I close K)) b))

    go : (n : ℕ) → ClosesThen I close K n (c ∷ b) → ((is_space c ≡ true) × ItemsThen I close K b) ⊎ (((c ≡ close) × K b) ⊎ ((c ≡ 44) × Spaced (Then I (ItemsThen I close K)) b))
    go zero k = elim (spaced_forth (Byte close K) c b k) [
      | inl p ↦ let q : c ≡ close = let e = p.1 in cc in let r : b ≡ p.0 = let e = p.1 in cc in inr (inl (q, subst K (sym r) p.2))
      | inr s ↦ inl (s.0, (zero, s.1))
    ]
    go (suc n) k = elim (spaced_forth (Byte 44 (Spaced (Then I (ClosesThen I close K n)))) c b k) [
      | inl p ↦
          let q : c ≡ 44 = let e = p.1 in cc in
          let r : b ≡ p.0 = let e = p.1 in cc in
          inr (inr (q, subst (Spaced (Then I (ItemsThen I close K))) (sym r) (spaced_map (Then I (ClosesThen I close K n)) (Then I (ItemsThen I close K)) (λ x t. (t.0, t.1, t.2, t.3, (n, t.4))) p.0 p.2)))
      | inr s ↦ inl (s.0, (suc n, s.1))
    ]

pub items_space : (I : List ℕ → Type 0) (close : ℕ) (K : List ℕ → Type 0) (c : ℕ) (b : List ℕ) → is_space c ≡ true → ItemsThen I close K b → ItemsThen I close K (c ∷ b)
items_space I close K c b s h = (h.0, go h.0 h.1)
  where
    go : (n : ℕ) → ClosesThen I close K n b → ClosesThen I close K n (c ∷ b)
    go zero k = spaced_back (Byte close K) c b s k
    go (suc n) k = spaced_back (Byte 44 (Spaced (Then I (ClosesThen I close K n)))) c b s k

pub items_close : (I : List ℕ → Type 0) (close : ℕ) (K : List ℕ → Type 0) (b : List ℕ) → K b → ItemsThen I close K (close ∷ b)
items_close I close K b k = (zero, spaced_now (Byte close K) (close ∷ b) (b, refl, k))

pub items_comma : (I : List ℕ → Type 0) (close : ℕ) (K : List ℕ → Type 0) (b : List ℕ) → Spaced (Then I (ItemsThen I close K)) b → ItemsThen I close K (44 ∷ b)
items_comma I close K b h =
    let t = h.4 in
    (suc t.4.0, spaced_now (Byte 44 (Spaced (Then I (ClosesThen I close K t.4.0)))) (44 ∷ b) (b, refl, (h.0, h.1, h.2, h.3, (t.0, t.1, t.2, t.3, t.4.1))))

-- a group and more after it
pub group_join : (I : List ℕ → Type 0) (close : ℕ) (K : List ℕ → Type 0) (y : List ℕ) → K y → (z : List ℕ) → Byte close IsEmpty z ⊎ Then I (Items I close) z → Byte close K (z ++ y) ⊎ Then I (ItemsThen I close K) (z ++ y)
group_join I close K y k z (inl h) = inl (byte_join IsEmpty close z y K (λ v e. subst (λ u. K (u ++ y)) (sym e) k) h)
group_join I close K y k z (inr h) = inr (then_join I (Items I close) z y (ItemsThen I close K) (λ v i. (i.0, closes_join I close i.0 K v y k i.1)) h)

pub group_split : (I : List ℕ → Type 0) (close : ℕ) (K : List ℕ → Type 0) (z : List ℕ) → Byte close K z ⊎ Then I (ItemsThen I close K) z → Then (λ y. Byte close IsEmpty y ⊎ Then I (Items I close) y) K z
group_split I close K z (inl h) = let s = byte_split K K IsEmpty close z (λ v k. ([], v, refl, refl, k)) h in (s.0, s.1, inl s.2, s.3, s.4)
group_split I close K z (inr h) = let s = then_split I (ItemsThen I close K) K (Items I close) z (λ v i. let t = closes_split I close i.0 K v i.1 in (t.0, t.1, (i.0, t.2), t.3, t.4)) h in (s.0, s.1, inr s.2, s.3, s.4)

-- a member and more after it
pub member_flat : (V K : List ℕ → Type 0) (b : List ℕ) → Then (IsMember V) K b → Then IsString (Spaced (Byte 58 (Spaced (Then V K)))) b
member_flat V K b h =
    subst (Then IsString (Spaced (Byte 58 (Spaced (Then V K))))) (sym h.3)
    (then_join IsString (Spaced (Byte 58 (Spaced V))) h.0 h.1 (Spaced (Byte 58 (Spaced (Then V K))))
    (λ z. spaced_join (Byte 58 (Spaced V)) z h.1 (Byte 58 (Spaced (Then V K)))
    (λ u. byte_join (Spaced V) 58 u h.1 (Spaced (Then V K))
    (λ t. spaced_join V t h.1 (Then V K) (λ v p. (v, h.1, p, refl, h.4)))))
    h.2)

pub member_fold : (V K : List ℕ → Type 0) (b : List ℕ) → Then IsString (Spaced (Byte 58 (Spaced (Then V K)))) b → Then (IsMember V) K b
member_fold V K b h =
    then_split IsString (Spaced (Byte 58 (Spaced (Then V K)))) K (Spaced (Byte 58 (Spaced V))) b
    (λ z. spaced_split (Byte 58 (Spaced (Then V K))) K (Byte 58 (Spaced V)) z
    (λ u. byte_split (Spaced (Then V K)) K (Spaced V) 58 u
    (λ t. spaced_split (Then V K) K V t (λ v p. p))))
    h
