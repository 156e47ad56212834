use Rattle.std.specs.Prelude.{string_bytes}
use Rattle.std.specs.List.{AllWithin}
use Rattle.cli_parts.specs.Help.{IsSilent}
use Rattle.cli_parts.proofs.help.question_in.Given as goal

-- no word before this one asks, and none ends the options
abbrev pub invariant-loop-word : goal.invariant-loop-word
invariant-loop-word l = AllWithin (λ word. IsSilent (string_bytes word)) l.words 0 l.word-index
