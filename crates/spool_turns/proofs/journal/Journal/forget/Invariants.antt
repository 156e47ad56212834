use Rattle.desk_access.specs.Call.{forgets}
use Rattle.spool_turns.specs.Stands.{idle_record}
use Rattle.spool_turns.proofs.journal.Journal.forget.Given as goal

abbrev pub ghosts-enter_idle : goal.ghosts-enter_idle
ghosts-enter_idle g a = record { one = idle_record (forgets a.call.now.0 a.call.now.1 a.answer.now) a.twin.now.me.0 }
