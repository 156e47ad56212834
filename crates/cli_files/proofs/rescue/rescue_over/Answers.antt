use Rattle.std.proofs.Common.{sym, subst}
use Rattle.bridge_parts.specs.Run.{disk_run, output_run}
use Rattle.bridge_rescue.specs.RescueRun.{IsRescueRun}
use Rattle.bridge_rescue.proofs.Over.{of_any_value}
use Rattle.cli_files.proofs.rescue.rescue_over.Goals as goal

-- what was done with the disk that is watched was done with the disk
pub returns : goal.returns
returns g c =
    let tells = g.D.Disk.tells in
    let moment = g.D.Disk.moment in
    let done = c.bridge_rescue-status in
    let output = output_run g.K.Sink.taken g.K.Sink.write_faults c.args.output.now done.new.output in
    let run = of_any_value c.args.given tells (moment c.new-disk.result.disk) (moment done.result.disk.disk) _ _ output done.result.report done.result.note done.ensures.run in
    record {
      run = subst (λ d. IsRescueRun c.args.given (disk_run tells moment d c.into_disk.result) output done.result.report done.result.note) c.new-disk.ensures
          (subst (λ d. IsRescueRun c.args.given (disk_run tells moment c.new-disk.result.disk d) output done.result.report done.result.note) (sym c.into_disk.ensures) run);
    }
