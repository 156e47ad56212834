use Rattle.desk_access.specs.Call.{takes}
use Rattle.spool_turns.proofs.turn.Turn.answer.Given as goal

abbrev pub ghosts-enter : goal.ghosts-enter
ghosts-enter g a = record { call = takes a.call.now.now a.answer.now }
