use Rattle.std.proofs.Common.{sym, subst, arith}
use Rattle.hec_ids.specs.Table.{IsSound}
use Rattle.hec_ids.proofs.CallLaws.{opened_is_sound}
use Rattle.spool_turns.proofs.unnamed.unused_ids.Goals as goal

pub returns-clause-sound : goal.returns-clause-sound
returns-clause-sound c = subst IsSound (sym c.new.ensures) (opened_is_sound c.args.run 0 (omega (arith, c.ranges.run)) (omega arith))
