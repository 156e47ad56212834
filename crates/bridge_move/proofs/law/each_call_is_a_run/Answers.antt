use Rattle.bridge_parts.specs.Run.{output_run}
use Rattle.bridge_move.proofs.Running.{each_is_run}
use Rattle.bridge_move.proofs.law.each_call_is_a_run.Goals as goal

pub returns : goal.returns
returns g c =
    each_is_run g.D.Disk.tells g.E.Disk.tells g.D.Disk.moment g.E.Disk.moment c.args._source.now c.args._source_after.now c.args._target.now c.args._target_after.now
    (output_run g.K.Sink.taken g.K.Sink.write_faults c.args._output.now c.args._output_after.now)
