-- Whether a text, no longer than an event's text may be, is whole pairs: an answer for every list of numbers.
use Rattle.std.proofs.Common.{◌≡◌, ℕ, zero, suc, ◌+◌, ◌^◌, ◌<◌, ◌≤◌, inl, inr, List, [], ◌∷◌, ◌++◌, length, take, drop, refl, sym, ◌∙◌, ap, subst, arith, length-append, take-append-drop}
use Rattle.std.specs.Int.{w32, to_be_bytes, from_be_bytes}
use Rattle.std.proofs.lemmas.List.{take_at, drop_at, length-take-le}
use Rattle.event_form.specs.Event.{ArePairs}
use Rattle.event_form.specs.Pairs.{BeginsString, BeginsPair, AreUpTo}
use Rattle.event_form.proofs.Numbers.{four_back}
use Rattle.event_form.proofs.Strings.{one_string, up_to_none, up_to_zero, up_to_more, up_to_less, up_to_stuck, pairs_up_to, up_to_pairs}
use Rattle.event_map.proofs.Deciding.{Decided, both, at_most, same_list}
use Rattle.event_map.proofs.OneList.{shorter}

-- a text that is whole pairs, and no longer than an event's text may be
pub record IsPairsText (text : List ℕ) : Type 0 where
  pub short : length text ≤ 131072
  pub pairs : ArePairs text

-- the bytes begin with a key or a value
abbrev SomeString : List ℕ → Type 0
SomeString b = (s : List ℕ) × (rest : List ℕ) × BeginsString s b rest

abbrev SomePair : List ℕ → Type 0
SomePair b = (pair : List ℕ × List ℕ) × (rest : List ℕ) × BeginsPair pair b rest

a_string : (b : List ℕ) → Decided (SomeString b)
a_string b = go (both (at_most (n + 1) (2 ^ 32)) (both (at_most n (length d)) (same_list (take 4 b) (to_be_bytes w32 n))))
  where
    n : ℕ
    n = from_be_bytes w32 (take 4 b)

    d : List ℕ
    d = drop 4 b

    Is : Type 0
    Is = (n + 1 ≤ 2 ^ 32) × ((n ≤ length d) × (take 4 b ≡ to_be_bytes w32 n))

    there : Is → SomeString b
    there h =
        let size : length (take n d) ≡ n = length-take-le n d h.1.0 in (
          take n d,
          drop n d,
          record {
            short = omega (arith, h.0, size);
            whole = sym (take-append-drop 4 b) ∙ ap (λ (f : List ℕ). f ++ d) (h.1.1 ∙ ap (to_be_bytes w32) (sym size)) ∙ ap (λ (r : List ℕ). to_be_bytes w32 (length (take n d)) ++ r) (sym (take-append-drop n d));
          },
        )

    back : SomeString b → Is
    back h =
        let s = h.0 in
        let front : take 4 b ≡ to_be_bytes w32 (length s) = ap (take 4) h.2.whole ∙ take_at (to_be_bytes w32 (length s)) (s ++ h.1) 4 refl in
        let behind : d ≡ s ++ h.1 = ap (drop 4) h.2.whole ∙ drop_at (to_be_bytes w32 (length s)) (s ++ h.1) 4 refl in
        let size : n ≡ length s = ap (from_be_bytes w32) front ∙ four_back (length s) h.2.short in
        (omega (arith, size, h.2.short), (omega (arith, size, ap length behind, length-append s h.1), front ∙ ap (to_be_bytes w32) (sym size)))

    go : Decided Is → Decided (SomeString b)
    go (inl h) = inl (there h)
    go (inr never) = inr (λ h. never (back h))

a_pair : (b : List ℕ) → Decided (SomePair b)
a_pair b = go (a_string b)
  where
    go : Decided (SomeString b) → Decided (SomePair b)
    go (inr never) = inr (λ h. never (h.0.0, h.2.middle, h.2.key))
    go (inl key) = on (a_string key.1)
      where
        on : Decided (SomeString key.1) → Decided (SomePair b)
        on (inl value) = inl ((key.0, value.0), value.1, record { middle = key.1; key = key.2; value = value.2 })
        on (inr never) = inr (λ h. never (h.0.1, h.1, subst (λ (m : List ℕ). BeginsString h.0.1 m h.1) (one_string h.0.0 key.0 b h.2.middle key.1 h.2.key key.2).1 h.2.value))

one_more : (n : ℕ) (b : List ℕ) → length b < 2 ^ 32 → (b ≡ [] → ⊥) → ((rest : List ℕ) → length rest < 2 ^ 32 → Decided (AreUpTo n rest)) → Decided (AreUpTo (suc n) b)
one_more n b short some less = go (a_pair b)
  where
    go : Decided (SomePair b) → Decided (AreUpTo (suc n) b)
    go (inr never) = inr (λ h. up_to_stuck (suc n) b short some (λ p rest begins. never (p, rest, begins)) h)
    go (inl pair) = on (less pair.1 (omega (arith, short, shorter pair.0 b pair.1 pair.2)))
      where
        on : Decided (AreUpTo n pair.1) → Decided (AreUpTo (suc n) b)
        on (inl h) = inl (up_to_more (suc n) n pair.0 b pair.1 (omega arith) pair.2 h)
        on (inr never) = inr (λ h. never (up_to_less (suc n) n pair.0 b pair.1 (omega arith) short pair.2 h))

up_to : (n : ℕ) (b : List ℕ) → length b < 2 ^ 32 → Decided (AreUpTo n b)
up_to n [] short = inl (up_to_none n [] refl)
up_to zero (c ∷ b) short = inr (λ h. let e = up_to_zero zero (c ∷ b) refl h in absurd cc)
up_to (suc n) (c ∷ b) short = one_more n (c ∷ b) short (λ e. absurd cc) (up_to n)

-- a text is whole pairs, or it isn't
pub pairs_or_not : (b : List ℕ) → Decided (IsPairsText b)
pairs_or_not b = go (at_most (length b) 131072)
  where
    go : Decided (length b ≤ 131072) → Decided (IsPairsText b)
    go (inr never) = inr (λ h. never h.short)
    go (inl short) = on (up_to 1024 b (omega (arith, short)))
      where
        on : Decided (AreUpTo 1024 b) → Decided (IsPairsText b)
        on (inl h) = inl (record { short = short; pairs = up_to_pairs b h })
        on (inr never) = inr (λ h. never (pairs_up_to b h.pairs))
