-- The words that skip an entry.
use Rattle.std.specs.Prelude.{◌≡◌, ℕ, ◌<◌, ◌^◌, List, [], ◌∷◌, codes}
use Rattle.std.specs.Str.Parse.{IsNumeral, digits_value}

-- the word writes this number in decimal digits, and it is below 2^64
pub record IsEntryNumber (number : ℕ) (word : List ℕ) : Type 0 where
  pub digits : IsNumeral 10 word
  pub value : number ≡ digits_value 10 word
  pub below : number < 2 ^ 64

-- it writes none
abbrev pub IsNoEntryNumber : List ℕ → Type 0
IsNoEntryNumber word = (number : ℕ) → IsEntryNumber number word → ⊥

-- the words are `skip NUMBER`
pub record IsSkip (number : ℕ) (words : List (List ℕ)) : Type 0 where
  pub word : List ℕ
  pub words_are : words ≡ codes "skip" ∷ word ∷ []
  pub writes : IsEntryNumber number word

-- they aren't
abbrev pub IsNoSkip : List (List ℕ) → Type 0
IsNoSkip words = (number : ℕ) → IsSkip number words → ⊥
