use Rattle.std.proofs.Common.{take}
use Rattle.spool_answers.specs.Pend.{given_entries}
use Rattle.bridge_restore.specs.Fresh.{IsFresh}
use Rattle.bridge_restore.proofs.fresh.first_tagged.Given as goal

abbrev pub invariant-loop-one : goal.invariant-loop-one
invariant-loop-one l = record { none_before : IsFresh l.tag (given_entries (take l.one-index l.page)) }
