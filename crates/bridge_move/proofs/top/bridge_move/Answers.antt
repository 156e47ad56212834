use Rattle.std.proofs.Common.{map, string_bytes, refl}
use Rattle.bridge_parts.specs.Run.{output_run}
use Rattle.bridge_move.proofs.Words.{run_of_move, run_of_others}
use Rattle.bridge_move.proofs.top.bridge_move.Goals as goal

pub move_over-requires-clause-earned : goal.move_over-requires-clause-earned
move_over-requires-clause-earned g c =
    let move = rw c.in-Ok-Some.field-0-is at c.in-Ok-Some.ensures in
    c.requires.earned move.0 c.in-Ok-Some.tag move.1

pub returns-in-Ok-Some-clause-run : goal.returns-in-Ok-Some-clause-run
returns-in-Ok-Some-clause-run g c =
    let move = rw c.in-Ok-Some.field-0-is at c.in-Ok-Some.ensures in
    let done = c.move_over.ensures in
    run_of_move g.D.Disk.tells g.E.Disk.tells g.D.Disk.moment g.E.Disk.moment (map string_bytes c.args.words.now) c.args.source c.move_over.result.source
    c.args.target c.move_over.result.target (output_run g.K.Sink.taken g.K.Sink.write_faults c.args.output.now c.move_over.new.output) c.move_over.result.note
    move.0 c.in-Ok-Some.tag move.1 done.known done.disks done.writes done.moved

pub returns-in-Ok-None-clause-run : goal.returns-in-Ok-None-clause-run
returns-in-Ok-None-clause-run g c =
    let none = rw c.in-Ok-None.field-0-is at c.in-Ok-None.ensures in
    run_of_others g.D.Disk.tells g.E.Disk.tells g.D.Disk.moment g.E.Disk.moment (map string_bytes c.args.words.now) c.args.source c.of.result.source
    c.args.target c.of.result.target (output_run g.K.Sink.taken g.K.Sink.write_faults c.args.output.now c.args.output.now) c.of.result.note
    none c.of.ensures.note c.of.ensures.source c.of.ensures.target (record { same = refl; taken = refl; faults = refl })
