-- A stretch added to stretches that are apart.
use Rattle.std.proofs.Common.{◌≡◌, ◌⊎◌, ◌↔◌, inl, inr, ℕ, ◌+◌, ◌-◌, ◌<◌, ◌≤◌, ltb, cond, List, [], ◌∷◌, length, refl, sym, ◌∙◌, ap, subst, arith, lt-ltb, le-ltb}
use Rattle.std.proofs.lemmas.Bool.{cases_lt, cond-true, cond-false}
use Rattle.known_numbers.specs.declared.stretch.Stretch.{Stretch}
use Rattle.known_numbers.specs.Numbers.{IsWithin, IsInSome, AreApart, EndBy, count_of, both, added}
use Rattle.known_numbers.proofs.Raising.{apart_lower}

pub added_after : (m s : Stretch) (ss : List Stretch) → s.to < m.from → s ∷ added m ss ≡ added m (s ∷ ss)
added_after m s ss h = sym (cond-true (ltb s.to m.from) (s ∷ added m ss) (cond (ltb m.to s.from) (m ∷ s ∷ ss) (added (both s m) ss)) (lt-ltb s.to m.from h))

pub added_before : (m s : Stretch) (ss : List Stretch) → m.from ≤ s.to → m.to < s.from → m ∷ s ∷ ss ≡ added m (s ∷ ss)
added_before m s ss near h =
    sym (cond-false (ltb s.to m.from) (s ∷ added m ss) (cond (ltb m.to s.from) (m ∷ s ∷ ss) (added (both s m) ss)) (le-ltb s.to m.from near) ∙ cond-true (ltb m.to s.from) (m ∷ s ∷ ss) (added (both s m) ss) (lt-ltb m.to s.from h))

pub added_touching : (m s : Stretch) (ss : List Stretch) → m.from ≤ s.to → s.from ≤ m.to → added (both s m) ss ≡ added m (s ∷ ss)
added_touching m s ss near h =
    sym (cond-false (ltb s.to m.from) (s ∷ added m ss) (cond (ltb m.to s.from) (m ∷ s ∷ ss) (added (both s m) ss)) (le-ltb s.to m.from near) ∙ cond-false (ltb m.to s.from) (m ∷ s ∷ ss) (added (both s m) ss) (le-ltb m.to s.from h))

-- what holds in each case holds of the stretches with one more
by_cases : (P : List Stretch → Type 0) (m s : Stretch) (ss : List Stretch) → (s.to < m.from → P (s ∷ added m ss)) → (m.from ≤ s.to → m.to < s.from → P (m ∷ s ∷ ss)) → (m.from ≤ s.to → s.from ≤ m.to → P (added (both s m) ss)) → P (added m (s ∷ ss))
by_cases P m s ss after before touching = elim (cases_lt s.to m.from) [
  | inl h ↦ subst P (added_after m s ss h) (after h)
  | inr near ↦ elim (cases_lt m.to s.from) [
    | inl h ↦ subst P (added_before m s ss near h) (before near h)
    | inr h ↦ subst P (added_touching m s ss near h) (touching near h)
  ]
]

-- the numbers of both, and no others
pub added_knows : (m : Stretch) (ss : List Stretch) (n : ℕ) → IsInSome (added m ss) n ↔ (IsInSome ss n ⊎ IsWithin m n)
added_knows m [] n = (swap, swap) where
  swap : {A B : Type 0} → A ⊎ B → B ⊎ A
  swap (inl a) = inr a
  swap (inr b) = inl b
added_knows m (s ∷ ss) n =
    by_cases (λ x. IsInSome x n ↔ (IsInSome (s ∷ ss) n ⊎ IsWithin m n)) m s ss (λ h. after (added_knows m ss n)) (λ near h. before) (λ near h. touching near h (added_knows (both s m) ss n)) where
      after : (IsInSome (added m ss) n ↔ (IsInSome ss n ⊎ IsWithin m n)) → IsInSome (s ∷ added m ss) n ↔ (IsInSome (s ∷ ss) n ⊎ IsWithin m n)
      after rest = (forth, back) where
        forth : IsInSome (s ∷ added m ss) n → IsInSome (s ∷ ss) n ⊎ IsWithin m n
        forth (inl k) = inl (inl k)
        forth (inr k) = elim (rest.0 k) [ inl old ↦ inl (inr old) | inr new ↦ inr new ]

        back : IsInSome (s ∷ ss) n ⊎ IsWithin m n → IsInSome (s ∷ added m ss) n
        back (inl (inl k)) = inl k
        back (inl (inr k)) = inr (rest.1 (inl k))
        back (inr k) = inr (rest.1 (inr k))

      before : IsInSome (m ∷ s ∷ ss) n ↔ (IsInSome (s ∷ ss) n ⊎ IsWithin m n)
      before = (forth, back) where
        forth : IsInSome (m ∷ s ∷ ss) n → IsInSome (s ∷ ss) n ⊎ IsWithin m n
        forth (inl k) = inr k
        forth (inr k) = inl k

        back : IsInSome (s ∷ ss) n ⊎ IsWithin m n → IsInSome (m ∷ s ∷ ss) n
        back (inl k) = inr k
        back (inr k) = inl k

      touching : m.from ≤ s.to → s.from ≤ m.to → (IsInSome (added (both s m) ss) n ↔ (IsInSome ss n ⊎ IsWithin (both s m) n)) → IsInSome (added (both s m) ss) n ↔ (IsInSome (s ∷ ss) n ⊎ IsWithin m n)
      touching near h rest = (λ k. forth (rest.0 k), λ k. rest.1 (back k)) where
        forth : IsInSome ss n ⊎ IsWithin (both s m) n → IsInSome (s ∷ ss) n ⊎ IsWithin m n
        forth (inl k) = inl (inr k)
        forth (inr k) = elim (cases_lt n s.from) [
          | inl low ↦ inr (omega (arith, k.0), omega arith)
          | inr from ↦ elim (cases_lt n s.to) [ inl to ↦ inl (inl (from, to)) | inr high ↦ inr (omega arith, omega (arith, k.1)) ]
        ]

        back : IsInSome (s ∷ ss) n ⊎ IsWithin m n → IsInSome ss n ⊎ IsWithin (both s m) n
        back (inl (inl k)) = inr (omega (arith, k.0), omega (arith, k.1))
        back (inl (inr k)) = inl k
        back (inr k) = inr (omega (arith, k.0), omega (arith, k.1))

-- they are apart
pub added_apart : (b : ℕ) (m : Stretch) (ss : List Stretch) → b < m.from → m.from < m.to → AreApart b ss → AreApart b (added m ss)
added_apart b m [] low some apart = (low, some, tt)
added_apart b m (s ∷ ss) low some apart =
    by_cases (λ x. AreApart b x) m s ss (λ h. (apart.0, apart.1, added_apart s.to m ss h some apart.2)) (λ near h. (low, some, (h, apart.1, apart.2))) (λ near h. added_apart b (both s m) ss (omega (arith, apart.0)) (omega (arith, apart.1)) (apart_lower b s.to ss (omega (arith, apart.0, apart.1)) apart.2))

pub added_ends : (e : ℕ) (m : Stretch) (ss : List Stretch) → m.to ≤ e → EndBy e ss → EndBy e (added m ss)
added_ends e m [] h end = (h, tt)
added_ends e m (s ∷ ss) h end =
    by_cases (λ x. EndBy e x) m s ss (λ _. (end.0, added_ends e m ss h end.1)) (λ _ _. (h, end)) (λ _ _. added_ends e (both s m) ss (omega (arith, end.0)) end.1)

-- they are one more at most
pub added_few : (m : Stretch) (ss : List Stretch) → length (added m ss) ≤ length ss + 1
added_few m [] = omega arith
added_few m (s ∷ ss) =
    by_cases (λ x. length x ≤ length (s ∷ ss) + 1) m s ss (λ _. let k = added_few m ss in omega (arith, k)) (λ _ _. omega arith) (λ _ _. let k = added_few (both s m) ss in omega (arith, k))

pub same_stretch : (a b : Stretch) → a.from ≡ b.from → a.to ≡ b.to → a ≡ b
same_stretch a b from to = ap (λ (x : ℕ). let y : Stretch = record { from = x; to = a.to } in y) from ∙ ap (λ (x : ℕ). let y : Stretch = record { from = b.from; to = x } in y) to

-- A stretch that reaches over the numbers from f to c, above which the stretches are apart: it adds nothing
-- to these, or there are more numbers.
pub widened : (f c : ℕ) (m : Stretch) (ss : List Stretch) → m.from ≤ f → f < c → c ≤ m.to → AreApart c ss → ((m.from ≡ f) × (m.to ≡ c) × (added m ss ≡ m ∷ ss)) ⊎ (c - f + count_of ss < count_of (added m ss))
widened f c m [] from some to apart = alone m.from m.to from to refl refl where
  alone : (x y : ℕ) → x ≤ f → c ≤ y → m.from ≡ x → m.to ≡ y → ((m.from ≡ f) × (m.to ≡ c) × (added m [] ≡ m ∷ [])) ⊎ (c - f + 0 < m.to - m.from + 0)
  alone x y _ _ _ _ = elim (cases_lt m.from f) [
    | inl h ↦ inr (omega arith)
    | inr h ↦ elim (cases_lt c m.to) [ inl k ↦ inr (omega arith) | inr k ↦ inl (omega arith, omega arith, refl) ]
  ]
widened f c m (s ∷ ss) from some to apart = elim (cases_lt s.to m.from) [
  | inl h ↦ absurd (omega (arith, apart.0, apart.1))
  | inr near ↦ elim (cases_lt m.to s.from) [
    | inl h ↦ let e = sym (added_before m s ss near h) in
        elim (cases_lt m.from f) [
          | inl k ↦ inr (subst (λ (x : List Stretch). c - f + count_of (s ∷ ss) < count_of x) (sym e) (omega arith))
          | inr j ↦ elim (cases_lt c m.to) [
            | inl k ↦ inr (subst (λ (x : List Stretch). c - f + count_of (s ∷ ss) < count_of x) (sym e) (omega arith))
            | inr k ↦ inl (omega arith, omega arith, e)
          ]
        ]
    | inr h ↦ inr (subst (λ (x : List Stretch). c - f + count_of (s ∷ ss) < count_of x) (added_touching m s ss near h) (over (widened f s.to (both s m) ss (omega arith) (omega (arith, apart.0, apart.1)) (omega arith) apart.2)))
  ]
] where
  over : (((both s m).from ≡ f) × ((both s m).to ≡ s.to) × (added (both s m) ss ≡ both s m ∷ ss)) ⊎ (s.to - f + count_of ss < count_of (added (both s m) ss)) → c - f + count_of (s ∷ ss) < count_of (added (both s m) ss)
  over (inl same) = subst (λ (x : List Stretch). c - f + count_of (s ∷ ss) < count_of x) (sym same.2) (omega (arith, same.0, same.1, apart.0, apart.1))
  over (inr more) = omega (arith, more, apart.0, apart.1)

-- they are the same, or they have more numbers
pub added_rises : (b : ℕ) (m : Stretch) (ss : List Stretch) → m.from < m.to → AreApart b ss → (added m ss ≡ ss) ⊎ (count_of ss < count_of (added m ss))
added_rises b m [] some apart = inr (omega arith)
added_rises b m (s ∷ ss) some apart =
    by_cases (λ x. (x ≡ s ∷ ss) ⊎ (count_of (s ∷ ss) < count_of x)) m s ss (λ _. after (added_rises s.to m ss some apart.2)) (λ _ _. inr (omega arith)) (λ near h. touching (widened s.from s.to (both s m) ss (omega arith) apart.1 (omega arith) apart.2)) where
      after : (added m ss ≡ ss) ⊎ (count_of ss < count_of (added m ss)) → (s ∷ added m ss ≡ s ∷ ss) ⊎ (count_of (s ∷ ss) < count_of (s ∷ added m ss))
      after (inl same) = inl (ap (λ (x : List Stretch). s ∷ x) same)
      after (inr more) = inr (omega (arith, more))

      touching : (((both s m).from ≡ s.from) × ((both s m).to ≡ s.to) × (added (both s m) ss ≡ both s m ∷ ss)) ⊎ (s.to - s.from + count_of ss < count_of (added (both s m) ss)) → (added (both s m) ss ≡ s ∷ ss) ⊎ (count_of (s ∷ ss) < count_of (added (both s m) ss))
      touching (inl same) = inl (same.2 ∙ ap (λ (x : Stretch). x ∷ ss) (same_stretch (both s m) s same.0 same.1))
      touching (inr more) = inr more
