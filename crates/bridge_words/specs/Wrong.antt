-- What is wrong with words that are no command and move nothing.
use Rattle.std.specs.Prelude.{◌≡◌, ◌⊎◌, List, None, Some, Ok, Err, codes}
use Rattle.clap.specs.Walk.{Row, Text}
use Rattle.clap.specs.Kinds.{IsAmong}
use Rattle.clap.specs.declared.error.kind.ErrorKind.{ErrorKind}
use Rattle.clap.specs.declared.error.kind.ErrorKind.TheVariants as kind
use Rattle.desk_access.specs.declared.division.Division.{Division}
use Rattle.bridge_words.specs.declared.command.Command.{Command}
use Rattle.words_faults.specs.declared.fault.WordsFault.{WordsFault}
use Rattle.words_faults.specs.declared.fault.WordsFault.TheVariants as fault
use Rattle.bridge_words.specs.declared.reading.Unread.{Unread}
use Rattle.bridge_words.specs.declared.reading.Unread.TheVariants.{NoMemory, Wrong}
use Rattle.bridge_words.specs.Grammar.{refusals, named}
use Rattle.bridge_words.specs.Values.{slots_in, size_in, proto_in, place_in, number_in, count_in, form_in, token_in, ack_token_in}
use Rattle.bridge_words.specs.Values.{relp_in, lumberjack_in, hec_in, status_in, division_in, workers_in, talks_in, target_in, tag_in}
use Rattle.bridge_words.specs.Tokens.{listed_in}
use Rattle.bridge_words.specs.Words.{name_of, receiver_in, relay_in}

-- what a kind of clap's errors says of the words
abbrev pub fault_for : ErrorKind → WordsFault
fault_for kind.MissingSubcommand = fault.NoCommand
fault_for kind.MissingRequiredArgument = fault.MissingWord
fault_for kind.InvalidValue = fault.MissingValue
fault_for kind.TooManyValues = fault.ExtraValue
fault_for kind.ArgumentConflict = fault.GivenTwice
fault_for _ = fault.UnknownWord

-- the same of an error that may be for want of memory
abbrev pub unread_for : ErrorKind → Unread
unread_for kind.OutOfMemory = NoMemory
unread_for why = Wrong (fault_for why)

-- ---- one of a command's words is wrong

abbrev pub WrongFormat : WordsFault → List Row → Type 0
WrongFormat w rows = (slots_in rows ≡ Err w) ⊎ (size_in rows ≡ Err w)

abbrev pub WrongList : WordsFault → List Row → Type 0
WrongList w rows = form_in rows ≡ Err w

abbrev pub WrongReplay : WordsFault → List Row → Type 0
WrongReplay w rows = (proto_in rows ≡ Err w) ⊎ ((token_in rows ≡ Err w) ⊎ (ack_token_in rows ≡ Err w))

abbrev pub WrongDrain : WordsFault → List Row → Type 0
WrongDrain w rows = (receiver_in rows ≡ Err w) ⊎ (place_in rows ≡ Err w)

abbrev pub WrongLoad : WordsFault → List Row → Type 0
WrongLoad w rows = (proto_in rows ≡ Err w) ⊎ ((number_in rows ≡ Err w) ⊎ (count_in rows ≡ Err w))

-- none of the places at which connections come in is given
pub record HasNoDoor (w : WordsFault) (rows : List Row) : Type 0 where
  pub relp_is : relp_in rows ≡ Ok None
  pub lumberjack_is : lumberjack_in rows ≡ Ok None
  pub hec_is : hec_in rows ≡ Ok None
  pub says : w ≡ fault.NoDoor

abbrev pub WrongDoors : WordsFault → List Row → Type 0
WrongDoors w rows = (relp_in rows ≡ Err w) ⊎ ((lumberjack_in rows ≡ Err w) ⊎ ((hec_in rows ≡ Err w) ⊎ HasNoDoor w rows))

-- how many workers a place has, or how many connections each serves, as one of `--workers` and `--connections` asks for it
abbrev pub WrongCounts : WordsFault → List Row → Type 0
WrongCounts w rows =
    (division : Division) × (division_in rows ≡ Ok division) × ((workers_in division rows ≡ Err w) ⊎ (talks_in division rows ≡ Err w))

abbrev pub WrongTokens : WordsFault → List Row → Type 0
WrongTokens w rows = (token_in rows ≡ Err w) ⊎ ((ack_token_in rows ≡ Err w) ⊎ (listed_in rows ≡ Err w))

abbrev pub WrongServe : WordsFault → List Row → Type 0
WrongServe w rows =
    WrongDoors w rows ⊎ ((division_in rows ≡ Err w) ⊎ (WrongCounts w rows ⊎ (WrongTokens w rows ⊎ ((relay_in rows ≡ Err w) ⊎ (status_in rows ≡ Err w)))))

abbrev pub WrongMove : WordsFault → List Row → Type 0
WrongMove w rows = (target_in rows ≡ Err w) ⊎ (tag_in rows ≡ Err w)

-- there is no command of this name, and it isn't `move`; or what was found of its words is wrong by this
pub data WrongBy (name : Text) (w : WordsFault) (rows : List Row) : Type 0 where
  no_name : ((command : Command) → name_of command ≡ name → ⊥) → (name ≡ codes "move" → ⊥) → w ≡ fault.UnknownWord → WrongBy name w rows
  in_format : name ≡ codes "format" → WrongFormat w rows → WrongBy name w rows
  in_list : name ≡ codes "list" → WrongList w rows → WrongBy name w rows
  in_replay : name ≡ codes "replay" → WrongReplay w rows → WrongBy name w rows
  in_drain : name ≡ codes "drain" → WrongDrain w rows → WrongBy name w rows
  in_load : name ≡ codes "load" → WrongLoad w rows → WrongBy name w rows
  in_serve : name ≡ codes "serve" → WrongServe w rows → WrongBy name w rows
  in_move : name ≡ codes "move" → WrongMove w rows → WrongBy name w rows

-- ---- the words

-- clap refuses the words for a reason that says this, or names no command in them, or what it finds is wrong by this
pub data IsWrong (w : WordsFault) (words : List Text) : Type 0 where
  refused : (why : ErrorKind) → IsAmong why (refusals words) → w ≡ fault_for why → IsWrong w words
  nameless : named words ≡ None → w ≡ fault.NoCommand → IsWrong w words
  found : (name : Text) → (rows : List Row) → named words ≡ Some (name, rows) → WrongBy name w rows → IsWrong w words
