use Rattle.desk_access.specs.Call.{issues}
use Rattle.spool_turns.specs.Stands.{idle_record}
use Rattle.spool_turns.proofs.journal.Journal.issue.Given as goal

abbrev pub ghosts-enter_idle : goal.ghosts-enter_idle
ghosts-enter_idle g a = record { one = idle_record (issues a.call.now a.answer.now) a.twin.now.me.0 }
