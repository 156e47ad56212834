use Rattle.desk_access.specs.Call.{confirms}
use Rattle.spool_turns.proofs.turn.Turn.confirm.Given as goal

abbrev pub ghosts-enter : goal.ghosts-enter
ghosts-enter g a = record { call = confirms a.call.now a.answer.now }
