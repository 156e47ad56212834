-- How the next of a command's words is read, where it may be an option of a run, and what is taken of all.
use Rattle.std.specs.Prelude.{◌≡◌, ◌≢◌, ◌⊎◌, List, ◌∷◌, ◌++◌, codes, map, string_bytes}
use Rattle.cli_parts.specs.declared.piece.Piece.{Piece}
use Rattle.cli_parts.specs.declared.piece.Piece.TheVariants.{Flag, FlagWith, Idle, IdleWith, Memory, MemoryWith, Proxy, ProxyWith, Other}
use Rattle.cli_parts.specs.declared.run_options.Flag.{Flag as RunFlag}
use Rattle.cli_parts.specs.declared.run_options.RunOptions.{RunOptions}
use Rattle.cli_parts.specs.declared.run_options.Taken.{Taken}
use Rattle.cli_parts.specs.RunOptions.{Text, IsNoOption, IsRead, AreTaken, AreNone, flag_word}

-- what the word is
abbrev pub IsPiece : Piece → Text → Type 0
IsPiece (Flag one) word = word ≡ flag_word one
IsPiece (FlagWith one) word = (value : Text) × (word ≡ flag_word one ++ 61 ∷ value)
IsPiece Idle word = word ≡ codes "--idle"
IsPiece (IdleWith value) word = word ≡ codes "--idle=" ++ value.now
IsPiece Memory word = word ≡ codes "--memory"
IsPiece (MemoryWith value) word = word ≡ codes "--memory=" ++ value.now
IsPiece Proxy word = word ≡ codes "--accept-proxy"
IsPiece (ProxyWith value) word = word ≡ codes "--accept-proxy=" ++ value.now
IsPiece Other word = IsNoOption word

-- the same of a word without `=`
abbrev pub IsPlain : Piece → Text → Type 0
IsPlain (Flag one) word = word ≡ flag_word one
IsPlain Idle word = word ≡ codes "--idle"
IsPlain Memory word = word ≡ codes "--memory"
IsPlain Proxy word = word ≡ codes "--accept-proxy"
IsPlain Other word = ((one : RunFlag) → word ≢ flag_word one) × (word ≢ codes "--idle") × (word ≢ codes "--memory") × (word ≢ codes "--accept-proxy")
IsPlain piece word = ⊥

-- what came of the words that were read: the options, and the words that are kept
pub record SoFar : Type 0 where
  pub options : RunOptions
  pub kept : List Text

abbrev pub so_far_as : RunOptions → List Text → SoFar
so_far_as options kept = record { options = options; kept = kept }

-- some of the words are read, and these are left: whatever was read before, the options and the words that are kept go on with them
pub record IsNext (name : Text) (words left : List Text) (old new : SoFar) : Type 0 where
  pub own : List Text
  pub words_are : words ≡ own ++ left
  pub goes_on : (read : List Text) → IsRead name read old.options old.kept → IsRead name (read ++ own) new.options new.kept

-- so what was taken goes on to what is taken then
abbrev pub TakesNext : Text → List Text → List Text → Taken → Taken → Type 0
TakesNext name words left old new =
    IsNext name words left (so_far_as old.options (map string_bytes old.words.items)) (so_far_as new.options (map string_bytes new.words.items))

-- these are the options of the run among the words, and the other words
abbrev pub IsTaken : List Text → Taken → Type 0
IsTaken words taken = AreTaken words taken.options (map string_bytes taken.words.items) ⊎ AreNone words taken.options (map string_bytes taken.words.items)
