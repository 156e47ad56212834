use Rattle.std.proofs.Common.{map, length, string_bytes}
use Rattle.cli_parts.proofs.Options.{Reading}
use Rattle.cli_parts.proofs.run_options.take_options.Given as goal

-- the words before those that are left were read
abbrev pub invariant-loop-left : goal.invariant-loop-left
invariant-loop-left l = Reading l.name (map string_bytes l.words) (map string_bytes l.left) l.taken.options (map string_bytes l.taken.words.items)

abbrev pub decreases-loop-left : goal.decreases-loop-left
decreases-loop-left l = length l.left
