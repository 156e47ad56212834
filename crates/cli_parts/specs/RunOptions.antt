-- The options of a run, which stand among the words of any command and are none of them.
use Rattle.std.specs.Prelude.{◌≡◌, ◌≢◌, ◌⊎◌, ◌==◌, ℕ, List, [], ◌∷◌, ◌++◌, Option, Some, None, IsSome, Bool, true, false, codes, slice_get}
use Rattle.std.specs.List.{before_first}
use Rattle.bridge_words.specs.Values.{number_within}
use Rattle.cli_parts.specs.declared.run_options.RunOptions.{RunOptions}
use Rattle.cli_parts.specs.declared.run_options.Flag.{Flag}
use Rattle.cli_parts.specs.declared.run_options.Flag.TheVariants.{Quiet, Verbose, LogTime}
use Rattle.cli_parts.specs.declared.wrong_option.WrongOption.{WrongOption}
use Rattle.cli_parts.specs.declared.wrong_option.WrongOption.TheVariants.{Twice, Valued, IdleElsewhere, IdleTwice, IdleNoValue, IdleRange, MemoryElsewhere, MemoryTwice, MemoryNoValue, MemoryRange, ProxyElsewhere, ProxyTwice, ProxyNoValue, ProxyNone}
use Rattle.cli_parts.specs.ProxyWords.{AreProxies, AreNoProxies}
use Rattle.edge_net.specs.declared.proxies.Proxies.{Proxies}

-- the bytes of a word
abbrev pub Text : Type 0
Text = List ℕ

-- none is given
abbrev pub no_options : RunOptions
no_options = record { is_quiet = false; is_verbose = false; has_time = false; idle = None; memory = None; proxies = None }

-- the name of an option that has no value
abbrev pub flag_word : Flag → Text
flag_word Quiet = codes "--quiet"
flag_word Verbose = codes "--verbose"
flag_word LogTime = codes "--log-time"

-- whether it is given
abbrev pub is_given : Flag → RunOptions → Bool
is_given Quiet options = options.is_quiet
is_given Verbose options = options.is_verbose
is_given LogTime options = options.has_time

-- these options, and that one
abbrev pub giving : Flag → RunOptions → RunOptions
giving Quiet options = record options { is_quiet = true }
giving Verbose options = record options { is_verbose = true }
giving LogTime options = record options { has_time = true }

-- the name of an option: what stands before its `=`
abbrev pub option_name : Text → Text
option_name word = before_first (λ b. b == 61) word

-- the word is no option of a run
pub record IsNoOption (word : Text) : Type 0 where
  pub no_flag : (flag : Flag) → option_name word ≢ flag_word flag
  pub no_idle : option_name word ≢ codes "--idle"
  pub no_memory : option_name word ≢ codes "--memory"
  pub no_proxies : option_name word ≢ codes "--accept-proxy"

-- `--idle SECONDS` or `--idle=SECONDS`
abbrev pub IsIdle : List Text → Text → Type 0
IsIdle words value = (words ≡ codes "--idle" ∷ value ∷ []) ⊎ (words ≡ (codes "--idle=" ++ value) ∷ [])

-- `--memory BYTES` or `--memory=BYTES`
abbrev pub IsMemory : List Text → Text → Type 0
IsMemory words value = (words ≡ codes "--memory" ∷ value ∷ []) ⊎ (words ≡ (codes "--memory=" ++ value) ∷ [])

-- `--accept-proxy IPS` or `--accept-proxy=IPS`
abbrev pub IsAcceptProxy : List Text → Text → Type 0
IsAcceptProxy words value = (words ≡ codes "--accept-proxy" ∷ value ∷ []) ⊎ (words ≡ (codes "--accept-proxy=" ++ value) ∷ [])

-- a number of bytes
abbrev pub bytes_in : Text → Option ℕ
bytes_in value = number_within 16777216 8589934592 value

-- a number of seconds
abbrev pub seconds_in : Text → Option ℕ
seconds_in value = number_within 1 86400 value

-- The name of a command and words after it, none of which ends the options; the options of the run among them, each of which stands once
-- at most, and `--idle`, `--memory` and `--accept-proxy` with `serve` alone; and the other words, in their order.
pub data IsRead (name : Text) : List Text → RunOptions → List Text → Type 0 where
  named : IsRead name (name ∷ []) no_options (name ∷ [])
  flag : {words kept : List Text} {options : RunOptions} (one : Flag) → IsRead name words options kept → is_given one options ≡ false
      → IsRead name (words ++ flag_word one ∷ []) (giving one options) kept
  idle : {words kept own : List Text} {options : RunOptions} {value : Text} {n : ℕ} → IsRead name words options kept → options.idle ≡ None
      → name ≡ codes "serve" → IsIdle own value → seconds_in value ≡ Some n
      → IsRead name (words ++ own) (record options { idle = Some n }) kept
  memory : {words kept own : List Text} {options : RunOptions} {value : Text} {n : ℕ} → IsRead name words options kept → options.memory ≡ None
      → name ≡ codes "serve" → IsMemory own value → bytes_in value ≡ Some n
      → IsRead name (words ++ own) (record options { memory = Some n }) kept
  proxies : {words kept own : List Text} {options : RunOptions} {value : Text} {through : Proxies} → IsRead name words options kept → options.proxies ≡ None
      → name ≡ codes "serve" → IsAcceptProxy own value → AreProxies value through
      → IsRead name (words ++ own) (record options { proxies = Some through }) kept
  other : {words kept : List Text} {options : RunOptions} {word : Text} → IsRead name words options kept → IsNoOption word
      → IsRead name (words ++ word ∷ []) options (kept ++ word ∷ [])

-- there are no more words, or the next one is `--`, after which none is an option
abbrev pub EndsOptions : List Text → Type 0
EndsOptions words = (words ≡ []) ⊎ (slice_get words 0 ≡ Some (codes "--"))

-- a command's words, the options of the run that stand among them, and what is left without these
pub record AreTaken (words : List Text) (options : RunOptions) (left : List Text) : Type 0 where
  pub name : Text
  pub read : List Text
  pub kept : List Text
  pub after : List Text
  pub words_are : words ≡ read ++ after
  pub left_is : left ≡ kept ++ after
  pub says : IsRead name read options kept
  pub ends : EndsOptions after

-- there are no words
pub record AreNone (words : List Text) (options : RunOptions) (left : List Text) : Type 0 where
  pub none : words ≡ []
  pub options_are : options ≡ no_options
  pub left_is : left ≡ []

-- `--idle` or `--idle=SECONDS` is the first of the words
abbrev pub BeginsIdle : List Text → Type 0
BeginsIdle words = (word : Text) × (more : List Text) × (words ≡ word ∷ more) × (option_name word ≡ codes "--idle")

-- `--memory` or `--memory=BYTES` is the first of the words
abbrev pub BeginsMemory : List Text → Type 0
BeginsMemory words = (word : Text) × (more : List Text) × (words ≡ word ∷ more) × (option_name word ≡ codes "--memory")

-- `--accept-proxy` or `--accept-proxy=IPS` is the first of the words
abbrev pub BeginsAcceptProxy : List Text → Type 0
BeginsAcceptProxy words = (word : Text) × (more : List Text) × (words ≡ word ∷ more) × (option_name word ≡ codes "--accept-proxy")

-- BYTES of `--memory` is taken: it is one of `serve`, the first, and in range
pub record TakesMemory (name value : Text) (old new : RunOptions) : Type 0 where
  pub bytes : ℕ
  pub serves : name ≡ codes "serve"
  pub once : old.memory ≡ None
  pub read : bytes_in value ≡ Some bytes
  pub new_is : new ≡ record old { memory = Some bytes }

-- why BYTES isn't taken, after these options
abbrev pub IsNoBytes : WrongOption → Text → RunOptions → Text → Type 0
IsNoBytes MemoryElsewhere name options value = name ≢ codes "serve"
IsNoBytes MemoryTwice name options value = IsSome options.memory
IsNoBytes MemoryRange name options value = bytes_in value ≡ None
IsNoBytes wrong name options value = ⊥

-- SECONDS of `--idle` is taken: it is one of `serve`, the first, and in range
pub record TakesIdle (name value : Text) (old new : RunOptions) : Type 0 where
  pub seconds : ℕ
  pub serves : name ≡ codes "serve"
  pub once : old.idle ≡ None
  pub read : seconds_in value ≡ Some seconds
  pub new_is : new ≡ record old { idle = Some seconds }

-- why SECONDS isn't taken, after these options
abbrev pub IsNoSeconds : WrongOption → Text → RunOptions → Text → Type 0
IsNoSeconds IdleElsewhere name options value = name ≢ codes "serve"
IsNoSeconds IdleTwice name options value = IsSome options.idle
IsNoSeconds IdleRange name options value = seconds_in value ≡ None
IsNoSeconds wrong name options value = ⊥

-- IPS of `--accept-proxy` is taken: it is one of `serve`, the first, and writes one to eight addresses
pub record TakesProxies (name value : Text) (old new : RunOptions) : Type 0 where
  pub proxies : Proxies
  pub serves : name ≡ codes "serve"
  pub once : old.proxies ≡ None
  pub read : AreProxies value proxies
  pub new_is : new ≡ record old { proxies = Some proxies }

-- why IPS isn't taken, after these options
abbrev pub IsNoAddresses : WrongOption → Text → RunOptions → Text → Type 0
IsNoAddresses ProxyElsewhere name options value = name ≢ codes "serve"
IsNoAddresses ProxyTwice name options value = IsSome options.proxies
IsNoAddresses ProxyNone name options value = AreNoProxies value
IsNoAddresses wrong name options value = ⊥

-- what is wrong with the option that the words begin with, after these options
abbrev pub IsWrongNext : WrongOption → Text → RunOptions → List Text → Type 0
IsWrongNext (Twice one) name options words = (is_given one options ≡ true) × (slice_get words 0 ≡ Some (flag_word one))
IsWrongNext (Valued one) name options words = (value : Text) × (slice_get words 0 ≡ Some (flag_word one ++ 61 ∷ value))
IsWrongNext IdleElsewhere name options words = (name ≢ codes "serve") × BeginsIdle words
IsWrongNext IdleTwice name options words = IsSome options.idle × BeginsIdle words
IsWrongNext IdleNoValue name options words = words ≡ codes "--idle" ∷ []
IsWrongNext IdleRange name options words =
    (own more : List Text) × (value : Text) × (words ≡ own ++ more) × IsIdle own value × (seconds_in value ≡ None)
IsWrongNext MemoryElsewhere name options words = (name ≢ codes "serve") × BeginsMemory words
IsWrongNext MemoryTwice name options words = IsSome options.memory × BeginsMemory words
IsWrongNext MemoryNoValue name options words = words ≡ codes "--memory" ∷ []
IsWrongNext MemoryRange name options words =
    (own more : List Text) × (value : Text) × (words ≡ own ++ more) × IsMemory own value × (bytes_in value ≡ None)
IsWrongNext ProxyElsewhere name options words = (name ≢ codes "serve") × BeginsAcceptProxy words
IsWrongNext ProxyTwice name options words = IsSome options.proxies × BeginsAcceptProxy words
IsWrongNext ProxyNoValue name options words = words ≡ codes "--accept-proxy" ∷ []
IsWrongNext ProxyNone name options words =
    (own more : List Text) × (value : Text) × (words ≡ own ++ more) × IsAcceptProxy own value × AreNoProxies value

-- what is wrong with the first option among the words that is wrong
pub record IsWrong (wrong : WrongOption) (words : List Text) : Type 0 where
  pub name : Text
  pub read : List Text
  pub kept : List Text
  pub next : List Text
  pub options : RunOptions
  pub words_are : words ≡ read ++ next
  pub says : IsRead name read options kept
  pub is : IsWrongNext wrong name options next

-- the text has no end of line
abbrev pub wrong_text : WrongOption → Text
wrong_text (Twice Quiet) = codes "--quiet: given twice"
wrong_text (Twice Verbose) = codes "--verbose: given twice"
wrong_text (Twice LogTime) = codes "--log-time: given twice"
wrong_text (Valued Quiet) = codes "--quiet: takes no value"
wrong_text (Valued Verbose) = codes "--verbose: takes no value"
wrong_text (Valued LogTime) = codes "--log-time: takes no value"
wrong_text IdleElsewhere = codes "--idle: an option of serve alone, 1 to 86400 seconds"
wrong_text IdleTwice = codes "--idle: given twice; once, 1 to 86400 seconds"
wrong_text IdleNoValue = codes "--idle: no value; 1 to 86400 seconds"
wrong_text IdleRange = codes "--idle: 1 to 86400 seconds"
wrong_text MemoryElsewhere = codes "--memory: an option of serve alone, 16777216 to 8589934592 bytes"
wrong_text MemoryTwice = codes "--memory: given twice; once, 16777216 to 8589934592 bytes"
wrong_text MemoryNoValue = codes "--memory: no value; 16777216 to 8589934592 bytes"
wrong_text MemoryRange = codes "--memory: 16777216 to 8589934592 bytes; the largest request needs the least of these"
wrong_text ProxyElsewhere = codes "--accept-proxy: an option of serve alone, addresses of proxies"
wrong_text ProxyTwice = codes "--accept-proxy: given twice; once, with commas between addresses"
wrong_text ProxyNoValue = codes "--accept-proxy: no value; addresses of proxies, with commas between them"
wrong_text ProxyNone = codes "--accept-proxy: 1 to 8 addresses of IP, with commas between them"
