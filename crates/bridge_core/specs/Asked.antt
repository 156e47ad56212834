-- Whether the words ask for a command, and why they ask for none.
use Rattle.std.specs.Prelude.{ℕ, List}
use Rattle.bridge_words.specs.declared.command.Command.{Command}
use Rattle.bridge_words.specs.Words.{IsCommand, IsNoCommand}
use Rattle.bridge_core.specs.declared.asked.Unasked.{Unasked}
use Rattle.bridge_core.specs.declared.asked.Unasked.TheVariants.{NoCommand, NoMemory}

-- they are none, or no memory was found for reading them
abbrev pub IsUnasked : Unasked → List (List ℕ) → Type 0
IsUnasked NoCommand words = IsNoCommand words
IsUnasked NoMemory words = Unit {0}

-- words ask for the command: so its numbers are those that words can name
abbrev pub IsAsked : Command → Type 0
IsAsked command = (words : List (List ℕ)) × IsCommand command words
