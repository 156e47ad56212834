-- How many channels hold ids, as ids come and go.
use Rattle.std.proofs.Common.{◌≡◌, inl, inr, ℕ, ◌+◌, ◌≤◌, Bool, true, false, cond, List, [], ◌∷◌, ◌++◌, map, refl, sym, ◌∙◌, ap, arith, length-append}
use Rattle.std.specs.Prelude.{◌||◌, nat_eq, filter}
use Rattle.std.specs.List.{IsDistinct, AllByRecursion}
use Rattle.std.specs.Set.{is_member, unique_keys, distinct_count}
use Rattle.std.specs.Cmp.{nat_eq_equiv}
use Rattle.std.proofs.lemmas.Bool.{cases_eq, eqb-true, eq-eqb, ne_eqb, or_parts, or_cases, or_left, or_right}
use Rattle.std.proofs.lemmas.List.Folds.{list_any-append}
use Rattle.std.proofs.lemmas.Map.Keys.{IsDistinct-cons}
use Rattle.std.proofs.lemmas.Map.Made.{length-le_from_is_member}
use Rattle.hec_ids.specs.Table.{Held, channel_count}

-- what is kept of each number once
unique_of : (xs : List ℕ) (q : ℕ) → is_member nat_eq (unique_keys nat_eq xs) q ≡ is_member nat_eq xs q
unique_of [] q = refl
unique_of (x ∷ xs) q = by (is_member nat_eq xs x) refl (unique_of xs q)
  where
    by : (b : Bool) → is_member nat_eq xs x ≡ b → is_member nat_eq (unique_keys nat_eq xs) q ≡ is_member nat_eq xs q → is_member nat_eq (cond b (unique_keys nat_eq xs) (x ∷ unique_keys nat_eq xs)) q ≡ (nat_eq q x || is_member nat_eq xs q)
    by true m r = elim (cases_eq q x) [
      | inl same ↦ r ∙ ap (λ k. is_member nat_eq xs k) same ∙ m ∙ sym (or_left (nat_eq q x) (is_member nat_eq xs q) (eq-eqb q x same))
      | inr differ ↦ r ∙ sym (ap (λ b. b || is_member nat_eq xs q) (ne_eqb q x differ))
    ]
    by false m r = ap (λ b. nat_eq q x || b) r

absent : (x : ℕ) (ys : List ℕ) → is_member nat_eq ys x ≡ false → AllByRecursion (λ y. nat_eq x y ≡ false) ys
absent x [] none = tt
absent x (y ∷ ys) none = let parts = or_parts (nat_eq x y) (is_member nat_eq ys x) none in (parts.0, absent x ys parts.1)

unique_distinct : (xs : List ℕ) → IsDistinct nat_eq (unique_keys nat_eq xs)
unfolding IsDistinct
unique_distinct [] = tt
unique_distinct (x ∷ xs) = by (is_member nat_eq xs x) refl (unique_distinct xs)
  where
    by : (b : Bool) → is_member nat_eq xs x ≡ b → IsDistinct nat_eq (unique_keys nat_eq xs) → IsDistinct nat_eq (cond b (unique_keys nat_eq xs) (x ∷ unique_keys nat_eq xs))
    by true m r = r
    by false m r = IsDistinct-cons nat_eq x (unique_keys nat_eq xs) (absent x (unique_keys nat_eq xs) (unique_of xs x ∙ m)) r

-- a list whose numbers are all of another has no more of them
fewer : (xs ys : List ℕ) → ((q : ℕ) → is_member nat_eq xs q ≡ true → is_member nat_eq ys q ≡ true) → distinct_count nat_eq xs ≤ distinct_count nat_eq ys
fewer xs ys within = length-le_from_is_member nat_eq_equiv (unique_keys nat_eq xs) (unique_keys nat_eq ys) (unique_distinct xs) (λ q m. unique_of ys q ∙ within q (sym (unique_of xs q) ∙ m))

member_filter : (p : Held → Bool) (held : List Held) (q : ℕ) → is_member nat_eq (map (λ h. h.channel) (filter p held)) q ≡ true → is_member nat_eq (map (λ h. h.channel) held) q ≡ true
member_filter p [] q m = m
member_filter p (x ∷ held) q m = by (p x) m (member_filter p held q)
  where
    by : (b : Bool) → is_member nat_eq (map (λ h. h.channel) (cond b (x ∷ filter p held) (filter p held))) q ≡ true → (is_member nat_eq (map (λ h. h.channel) (filter p held)) q ≡ true → is_member nat_eq (map (λ h. h.channel) held) q ≡ true) → (nat_eq q x.channel || is_member nat_eq (map (λ h. h.channel) held) q) ≡ true
    by true m r = elim (or_cases (nat_eq q x.channel) (is_member nat_eq (map (λ h. h.channel) (filter p held)) q) m) [
      | inl here ↦ or_left (nat_eq q x.channel) (is_member nat_eq (map (λ h. h.channel) held) q) here
      | inr there ↦ or_right (nat_eq q x.channel) (is_member nat_eq (map (λ h. h.channel) held) q) (r there)
    ]
    by false m r = or_right (nat_eq q x.channel) (is_member nat_eq (map (λ h. h.channel) held) q) (r m)

pub channels_filter : (p : Held → Bool) (held : List Held) → channel_count (filter p held) ≤ channel_count held
channels_filter p held = fewer (map (λ h. h.channel) (filter p held)) (map (λ h. h.channel) held) (member_filter p held)

-- a number that is there already is no number more
pub distinct_again : (xs : List ℕ) (y : ℕ) → is_member nat_eq xs y ≡ true → distinct_count nat_eq (xs ++ y ∷ []) ≤ distinct_count nat_eq xs
distinct_again xs y m = fewer (xs ++ y ∷ []) xs (λ q n. elim (or_cases (is_member nat_eq xs q) (nat_eq q y || false) (sym (list_any-append (nat_eq q) xs (y ∷ [])) ∙ n)) [
  | inl there ↦ there
  | inr last ↦ elim (or_cases (nat_eq q y) false last) [
    | inl same ↦ ap (λ k. is_member nat_eq xs k) (eqb-true q y same) ∙ m
    | inr never ↦ absurd (cc)
  ]
])

-- and one that is not is one at most
pub distinct_push : (xs : List ℕ) (y : ℕ) → distinct_count nat_eq (xs ++ y ∷ []) ≤ distinct_count nat_eq xs + 1
distinct_push xs y =
    let more = length-le_from_is_member nat_eq_equiv (unique_keys nat_eq (xs ++ y ∷ [])) (unique_keys nat_eq xs ++ y ∷ []) (unique_distinct (xs ++ y ∷ []))
    (λ q m. list_any-append (nat_eq q) (unique_keys nat_eq xs) (y ∷ []) ∙ ap (λ b. b || (nat_eq q y || false)) (unique_of xs q) ∙ sym (list_any-append (nat_eq q) xs (y ∷ [])) ∙ sym (unique_of (xs ++ y ∷ []) q) ∙ m) in
    omega (arith, more, length-append (unique_keys nat_eq xs) (y ∷ []))
