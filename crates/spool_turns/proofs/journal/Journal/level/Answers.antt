use Rattle.spool_turns.proofs.Levels.{level_real}
use Rattle.spool_turns.proofs.journal.Journal.level.Goals as goal

pub returns : goal.returns
returns g c = level_real _ _ _ _ _ _ _ _ _ c.self.invariant.2 c.self.invariant.3
