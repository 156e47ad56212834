use Rattle.std.proofs.Common.{◌+◌}
use Rattle.std.specs.Prelude.{vec_len}
use Rattle.desk_access.specs.Division.{divided}
use Rattle.spool_turns.specs.Named.{table_of, moment_of}
use Rattle.spool_turns.specs.Passes.{begun}
use Rattle.bridge_serve.specs.Opened.{IsOpenedDesk, opened_at}
use Rattle.bridge_serve.proofs.running.run_over.Given as goal

-- the desk began in the state in which the device was opened
abbrev pub ghosts-run_named : goal.ghosts-run_named
ghosts-run_named g a = record {
  table = table_of a.unnamed;
  seats = vec_len a.posts + 1;
  run = divided a.division a.unnamed.run;
  start = IsOpenedDesk g.D.Disk.tells (g.D.Disk.moment a._before.value).reads;
  began = begun (opened_at g.D.Disk.tells (g.D.Disk.moment a._before.value) (moment_of a.unnamed).clock) a.group;
}
