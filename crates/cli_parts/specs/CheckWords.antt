-- The word that reads a spool through.
use Rattle.std.specs.Prelude.{◌≡◌, List, [], ◌∷◌, codes}
use Rattle.cli_parts.specs.RunOptions.{Text}

-- the words are `check`, and nothing else
abbrev pub IsCheck : List Text → Type 0
IsCheck words = words ≡ codes "check" ∷ []
