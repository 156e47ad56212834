use Rattle.spool_turns.specs.Joining.{joint_record}
use Rattle.spool_turns.proofs.joining.enter.Given as goal

abbrev pub ghosts-add_record : goal.ghosts-add_record
ghosts-add_record g a = record { one = joint_record a._call.now.0 (g.D.Disk.moment a._desk.now.desk.spool.disk).clock a._call.now.1.now a._call.now.2.now a._answer.now }
