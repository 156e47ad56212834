use Rattle.std.proofs.Common.{map, length, string_bytes}
use Rattle.cli_parts.specs.RestoreParts.{ReadsSaid}
use Rattle.cli_parts.proofs.restore_words.Said.of.Given as goal

-- the words before those that are left were read
abbrev pub invariant-loop-left : goal.invariant-loop-left
invariant-loop-left l = ReadsSaid (map string_bytes l.words) (map string_bytes l.left) l.said

abbrev pub decreases-loop-left : goal.decreases-loop-left
decreases-loop-left l = length l.left
