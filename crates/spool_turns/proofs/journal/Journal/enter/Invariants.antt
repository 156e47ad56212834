use Rattle.spool_desk.specs.Alone.{alone_at, record_of}
use Rattle.spool_turns.proofs.journal.Journal.enter.Given as goal

abbrev pub ghosts-enter_call : goal.ghosts-enter_call
ghosts-enter_call g a = record { one = record_of g.C.Called.call (alone_at a.alone.now) }
