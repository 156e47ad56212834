-- How near names are to a word that is misspelt.
use Rattle.std.specs.Prelude.{◌≡◌, ℕ, ◌<◌, ◌≤◌, List, All, length, nat_eq}
use Rattle.std.specs.Str.{chars}
use Rattle.std.specs.List.{slice_index_or}
use denote.Ref.{Bor}
use Rattle.strsim.specs.Edits.{levenshtein_row}

-- how many edits lead from the one to the other, by Levenshtein: a character is put in, left out or another one
abbrev pub edits : List ℕ → List ℕ → ℕ
edits word name = levenshtein_row nat_eq (chars word) (chars name) (length (chars name))

-- it is one of the names, at most two edits away from the word, and none of them is nearer
pub record IsNearest (word : List ℕ) (names : List (Bor (List ℕ))) (name : Bor (List ℕ)) : Type 0 where
  pub place : ℕ
  pub among : place < length names
  pub is : slice_index_or names place name ≡ name
  pub near : edits word name.now ≤ 2
  pub nearest : All (λ (other : Bor (List ℕ)). edits word name.now ≤ edits word other.now) names
