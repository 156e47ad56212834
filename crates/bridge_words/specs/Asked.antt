-- What words ask for: a command over one device at most, or a move between two.
use Rattle.std.specs.Prelude.{◌≡◌, List, codes}
use Rattle.clap.specs.Walk.{Row, Text}
use Rattle.bridge_words.specs.declared.reading.Asked.{Asked}
use Rattle.bridge_words.specs.declared.reading.Asked.TheVariants.{Command, Move}
use Rattle.bridge_words.specs.Words.{IsNamed, IsCommand, IsPair, IsMove}

-- what was found of the words under this name asks for it
abbrev pub IsAskedBy : Text → List Row → Asked → Type 0
IsAskedBy name rows (Command command) = IsNamed name rows command
IsAskedBy name rows (Move pair) = (name ≡ codes "move") × IsPair pair.target pair.tag rows

-- the words ask for it
abbrev pub IsAsked : List Text → Asked → Type 0
IsAsked words (Command command) = IsCommand command words
IsAsked words (Move pair) = IsMove pair.target pair.tag words
