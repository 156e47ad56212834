use Rattle.std.proofs.Common.{sym, subst}
use Rattle.bridge_parts.specs.Run.{disk_run, output_run}
use Rattle.bridge_skip.specs.SkipRun.{IsSkipRun}
use Rattle.cli_files.proofs.Skipping.{of_any_value}
use Rattle.cli_files.proofs.skip.skip_over.Goals as goal

-- what was printed of an entry of the disk that is watched is so of the disk
pub bridge_skip-status-requires-clause-earned : goal.bridge_skip-status-requires-clause-earned
bridge_skip-status-requires-clause-earned g c = rw c.new-disk.ensures c.requires.earned

-- what was done with the disk that is watched was done with the disk
pub returns : goal.returns
returns g c =
    let tells = g.D.Disk.tells in
    let moment = g.D.Disk.moment in
    let done = c.bridge_skip-status in
    let output = output_run g.K.Sink.taken g.K.Sink.write_faults c.args.output.now done.new.output in
    let run = of_any_value c.args.number tells (moment c.new-disk.result.disk) (moment done.result.disk.disk) _ _ output done.result.note done.ensures.run in
    record {
      run = subst (λ d. IsSkipRun c.args.number (disk_run tells moment d c.into_disk.result) output done.result.note) c.new-disk.ensures
          (subst (λ d. IsSkipRun c.args.number (disk_run tells moment c.new-disk.result.disk d) output done.result.note) (sym c.into_disk.ensures) run);
    }
