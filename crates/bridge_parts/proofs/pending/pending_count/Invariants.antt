use Rattle.std.proofs.Common.{◌≡◌, ◌-◌, drop}
use Rattle.known_numbers.specs.Numbers.{count_of}
use Rattle.spool_log.specs.Memory.{cursor_of, end_of}
use Rattle.bridge_parts.proofs.pending.pending_count.Given as goal

-- those that aren't counted off yet are of the stretches to come
abbrev pub invariant-loop-stretch : goal.invariant-loop-stretch
invariant-loop-stretch g l = l.count - count_of (drop l.stretch-index l.known) ≡ end_of l.fn.spool.memory - cursor_of l.fn.spool.memory - count_of l.known
