-- What words ask for that are no command.
use Rattle.std.specs.Prelude.{◌≡◌, ◌≢◌, ◌⊎◌, ℕ, ◌<◌, All, List, String, length, codes, string_bytes}
use Rattle.std.specs.List.{AllWithin, HoldsAt}
use Rattle.cli_parts.specs.declared.help.Question.{Question}
use Rattle.cli_parts.specs.declared.help.Question.TheVariants.{Help, Version}

-- the word that asks for it
abbrev pub asked_by : Question → List ℕ
asked_by Help = codes "--help"
asked_by Version = codes "--version"

-- the word asks for nothing, and what stands behind it may
abbrev pub IsSilent : List ℕ → Type 0
IsSilent word = (word ≢ codes "--") × ((question : Question) → word ≢ asked_by question)

-- this is the first of the words that isn't silent
abbrev pub IsFirst : {W : Type 0} → (W → List ℕ) → List ℕ → List W → Type 0
IsFirst text_of text words = (place : ℕ) × (place < length words) × HoldsAt (λ word. text_of word ≡ text) words place
    × AllWithin (λ word. IsSilent (text_of word)) words 0 place

-- it is asked for by the word in the place of FILE, or by the first of the words that isn't silent
abbrev pub asks : {A : Type 0} → List ℕ → List (String A) → Question → Type 0
asks file words question = (file ≡ asked_by question) ⊎ IsFirst string_bytes (asked_by question) words

-- nothing is asked for: neither by that word, nor by one of the words before the first `--`
abbrev pub asks_nothing : {A : Type 0} → List ℕ → List (String A) → Type 0
asks_nothing file words =
    ((question : Question) → file ≢ asked_by question)
    × (All (λ word. IsSilent (string_bytes word)) words ⊎ IsFirst string_bytes (codes "--") words)
