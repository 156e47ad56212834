use Rattle.desk_access.specs.Call.{marks}
use Rattle.spool_turns.proofs.turn.Turn.mark.Given as goal

abbrev pub ghosts-enter : goal.ghosts-enter
ghosts-enter g a = record { call = marks a.call.now.now a.answer.now }
