use Rattle.desk_access.specs.Call.{counts}
use Rattle.spool_turns.proofs.turn.Turn.known_count.Given as goal

abbrev pub ghosts-enter : goal.ghosts-enter
ghosts-enter g a = record { call = counts a.answer.now }
