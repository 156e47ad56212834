-- The words that the program was called with, as commands have them.
use Rattle.std.specs.Prelude.{List, String, map, string_bytes}
use Rattle.bridge_words.specs.declared.command.Command.{Command}
use Rattle.bridge_core.specs.Leave.{ForWords}

-- so it is for the words of each command
abbrev pub ForTexts : {A : Type 0} → List (String A) → (Command → Type 0) → Type 0
ForTexts words Is = ForWords (map string_bytes words) Is
