-- Entries with rising numbers.
use Rattle.std.proofs.Common.{◌≡◌, ℕ, ◌+◌, ◌<◌, ◌≤◌, zero, suc, List, [], ◌∷◌, ◌++◌, length, take, refl, ap, arith}
use Rattle.spool_answers.specs.Pend.{AreNumbered}
use Rattle.spool_answers.specs.declared.numbered.Numbered.{Numbered}
use Rattle.forward_core.specs.Calls.{after_last, number_at}

-- from a lower number on, and below a higher one
pub numbered_lower : (a b end : ℕ) (xs : List Numbered) → a ≤ b → AreNumbered b end xs → AreNumbered a end xs
numbered_lower a b end [] le are = tt
numbered_lower a b end (x ∷ xs) le are = (omega (arith, le, are.0), are.1, are.2, are.3)

pub numbered_then : (a b c : ℕ) (xs ys : List Numbered) → a ≤ b → b ≤ c → AreNumbered a b xs → AreNumbered b c ys → AreNumbered a c (xs ++ ys)
numbered_then a b c [] ys low high are more = numbered_lower a b c ys low more
numbered_then a b c (x ∷ xs) ys low high are more = (are.0, omega (arith, are.1, high), are.2, numbered_then (x.number + 1) b c xs ys (omega (arith, are.1)) high are.3 more)

-- the number after the last one is past all that they begin with
pub after_rises : (from end : ℕ) (xs : List Numbered) → AreNumbered from end xs → from + length xs ≤ after_last from xs
after_rises from end [] are = omega arith
after_rises from end (x ∷ xs) are = let rest = after_rises (x.number + 1) end xs are.3 in omega (arith, rest, are.0)

pub after_within : (from end : ℕ) (xs : List Numbered) → from ≤ end → AreNumbered from end xs → after_last from xs ≤ end
after_within from end [] le are = le
after_within from end (x ∷ xs) le are = after_within (x.number + 1) end xs (omega (arith, are.1)) are.3

pub numbered_upto : (from end : ℕ) (xs : List Numbered) → AreNumbered from end xs → AreNumbered from (after_last from xs) xs
numbered_upto from end [] are = tt
numbered_upto from end (x ∷ xs) are =
    let rest = after_rises (x.number + 1) end xs are.3 in
    (are.0, omega (arith, rest), are.2, numbered_upto (x.number + 1) end xs are.3)

pub numbered_take : (n from end : ℕ) (xs : List Numbered) → AreNumbered from end xs → AreNumbered from end (take n xs)
numbered_take zero from end xs are = tt
numbered_take (suc n) from end [] are = tt
numbered_take (suc n) from end (x ∷ xs) are = (are.0, are.1, are.2, numbered_take n (x.number + 1) end xs are.3)

-- a number of the list is from the first on and below the end
pub number_within : (from end : ℕ) (xs : List Numbered) (place : ℕ) → AreNumbered from end xs → place < length xs → (from ≤ number_at xs place) × (number_at xs place < end)
number_within from end [] place are less = absurd (omega arith)
number_within from end (x ∷ xs) zero are less = (are.0, are.1)
number_within from end (x ∷ xs) (suc place) are less =
    let rest = number_within (x.number + 1) end xs place are.3 (omega (arith, less)) in
    (omega (arith, rest.0, are.0), rest.1)

-- where the first ones end: entries after them have numbers from there on, and they have lower ones
pub after_first : (low from end : ℕ) (xs : List Numbered) (told place : ℕ) → low ≤ from → AreNumbered from end xs → told ≤ place → place < length xs → after_last low (take told xs) ≤ number_at xs place
after_first low from end [] told place base are le less = absurd (omega arith)
after_first low from end (x ∷ xs) zero place base are le less = let w = number_within from end (x ∷ xs) place are less in omega (arith, w.0, base)
after_first low from end (x ∷ xs) (suc told) zero base are le less = absurd (omega arith)
after_first low from end (x ∷ xs) (suc told) (suc place) base are le less = after_first (x.number + 1) (x.number + 1) end xs told place (omega arith) are.3 (omega (arith, le)) (omega (arith, less))

pub before_first : (low from end : ℕ) (xs : List Numbered) (told place : ℕ) → AreNumbered from end xs → place < told → place < length xs → number_at xs place < after_last low (take told xs)
before_first low from end [] told place are lt less = absurd (omega arith)
before_first low from end (x ∷ xs) zero place are lt less = absurd (omega arith)
before_first low from end (x ∷ xs) (suc told) zero are lt less = let rise = after_rises (x.number + 1) end (take told xs) (numbered_take told (x.number + 1) end xs are.3) in omega (arith, rise)
before_first low from end (x ∷ xs) (suc told) (suc place) are lt less = before_first (x.number + 1) (x.number + 1) end xs told place are.3 (omega (arith, lt)) (omega (arith, less))

-- where the first ones end is after the last of them
pub after_at : (low : ℕ) (xs : List Numbered) (place : ℕ) → place < length xs → after_last low (take (suc place) xs) ≡ number_at xs place + 1
after_at low [] place less = absurd (omega arith)
after_at low (x ∷ xs) zero less = refl
after_at low (x ∷ xs) (suc place) less = after_at (x.number + 1) xs place (omega (arith, less))

-- more of the first ones end later
pub after_more : (low from end : ℕ) (xs : List Numbered) (few many : ℕ) → low ≤ from → AreNumbered from end xs → few ≤ many → after_last low (take few xs) ≤ after_last low (take many xs)
after_more low from end xs zero zero base are le = omega arith
after_more low from end [] zero (suc many) base are le = omega arith
after_more low from end (x ∷ xs) zero (suc many) base are le =
    let rise = after_rises (x.number + 1) end (take many xs) (numbered_take many (x.number + 1) end xs are.3) in
    omega (arith, rise, are.0, base)
after_more low from end xs (suc few) zero base are le = absurd (omega (arith, le))
after_more low from end [] (suc few) (suc many) base are le = omega arith
after_more low from end (x ∷ xs) (suc few) (suc many) base are le = after_more (x.number + 1) (x.number + 1) end xs few many (omega arith) are.3 (omega (arith, le))

-- they end no earlier where more entries follow
pub after_joined : (low from end : ℕ) (xs ys : List Numbered) (told : ℕ) → low ≤ from → AreNumbered from end (xs ++ ys) → after_last low (take told xs) ≤ after_last low (take told (xs ++ ys))
after_joined low from end xs ys zero base are = omega arith
after_joined low from end [] ys (suc told) base are = after_more low from end ys 0 (suc told) base are (omega arith)
after_joined low from end (x ∷ xs) ys (suc told) base are = after_joined (x.number + 1) (x.number + 1) end xs ys told (omega arith) are.3

-- an entry has one place
pub one_place : (from end : ℕ) (xs : List Numbered) (a b : ℕ) → AreNumbered from end xs → a < length xs → b < length xs → number_at xs a ≡ number_at xs b → a ≡ b
one_place from end [] a b are less less' same = absurd (omega arith)
one_place from end (x ∷ xs) zero zero are less less' same = refl
one_place from end (x ∷ xs) zero (suc b) are less less' same = let w = number_within (x.number + 1) end xs b are.3 (omega (arith, less')) in absurd (omega (arith, same, w.0))
one_place from end (x ∷ xs) (suc a) zero are less less' same = let w = number_within (x.number + 1) end xs a are.3 (omega (arith, less)) in absurd (omega (arith, same, w.0))
one_place from end (x ∷ xs) (suc a) (suc b) are less less' same = ap suc (one_place (x.number + 1) end xs a b are.3 (omega (arith, less)) (omega (arith, less')) same)
