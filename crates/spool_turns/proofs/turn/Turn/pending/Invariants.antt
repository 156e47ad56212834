use Rattle.desk_access.specs.Call.{pends, listed}
use Rattle.spool_turns.proofs.turn.Turn.pending.Given as goal

abbrev pub ghosts-enter : goal.ghosts-enter
ghosts-enter g a = record { call = pends a.call.now.0 a.call.now.1 (listed a.answer.now) }
