use Rattle.desk_access.specs.Call.{asks}
use Rattle.spool_turns.specs.Stands.{idle_record}
use Rattle.spool_turns.proofs.journal.Journal.ask.Given as goal

abbrev pub ghosts-enter_idle : goal.ghosts-enter_idle
ghosts-enter_idle g a = record { one = idle_record (asks a.call.now.0 a.call.now.1.now a.answer.now.now) a.twin.now.me.0 }
