-- The words that rescue entries into another spool.
use Rattle.std.specs.Prelude.{◌≡◌, ◌≢◌, ◌⊎◌, ◌≤◌, ℕ, List, [], ◌∷◌, ◌++◌, Option, None, Some, codes}
use Rattle.bridge_words.specs.Values.{number}
use Rattle.bridge_rescue.specs.declared.layout.Layout.{Layout}
use Rattle.cli_parts.specs.RescueWords.{IsLayoutWords}
use Rattle.cli_parts.specs.RunOptions.{Text, option_name}
use Rattle.cli_parts.specs.declared.restore_words.RestoreWords.{RestoreWords}

-- an option with its value, as the next word or after `=`
abbrev pub IsOption : Text → List Text → Text → Type 0
IsOption name words value = (words ≡ name ∷ value ∷ []) ⊎ (words ≡ (name ++ codes "=" ++ value) ∷ [])

-- the word is neither option
pub record IsPlace (word : Text) : Type 0 where
  pub no_target : option_name word ≢ codes "--into"
  pub no_tag : option_name word ≢ codes "--tag"

-- What words say one after another: the words that are no option, TARGET and TAG, each of which stands once at most.
pub data Says : List Text → List Text → Option Text → Option Text → Type 0 where
  nothing : Says [] [] None None
  place : {words places : List Text} {to by : Option Text} {word : Text} → Says words places to by → IsPlace word
      → Says (words ++ word ∷ []) (places ++ word ∷ []) to by
  target : {words places own : List Text} {by : Option Text} {value : Text} → Says words places None by → IsOption (codes "--into") own value
      → Says (words ++ own) places (Some value) by
  tag : {words places own : List Text} {to : Option Text} {value : Text} → Says words places to None → IsOption (codes "--tag") own value
      → Says (words ++ own) places to (Some value)

-- SLOTS and SIZE with the numbers of this layout, or neither
abbrev pub IsLayoutIn : Option Layout → List Text → Type 0
IsLayoutIn None places = places ≡ []
IsLayoutIn (Some layout) places = (slots size : Text) × (places ≡ slots ∷ size ∷ []) × IsLayoutWords layout slots size

-- TAG, in 1 to 10 decimal digits
pub record IsTagWord (tag : ℕ) (word : Text) : Type 0 where
  pub is : number word ≡ Some tag
  pub most : tag ≤ 4294967295

-- The words are `rescue` with `--into TARGET` and `--tag TAG`, each once and in any order, and with SLOTS and SIZE of the layout or neither.
pub record IsRestore (restore : RestoreWords) (words : List Text) : Type 0 where
  pub rest : List Text
  pub places : List Text
  pub tag_word : Text
  pub named : words ≡ codes "rescue" ∷ rest
  pub says : Says rest places (Some restore.target.now) (Some tag_word)
  pub layout : IsLayoutIn restore.layout places
  pub tag_is : IsTagWord restore.tag tag_word

-- they aren't
abbrev pub IsNoRestore : List Text → Type 0
IsNoRestore words = (restore : RestoreWords) → IsRestore restore words → ⊥
