use Rattle.std.proofs.Common.{sym}
use Rattle.cli_files.proofs.pair.move_over.Goals as goal

-- what the target keeps that is watched is kept by the target
pub bridge_move-status-requires-clause-earned : goal.bridge_move-status-requires-clause-earned
bridge_move-status-requires-clause-earned g c target tag is from onto number safe = c.requires.earned target tag is from.disk onto.disk number safe

pub returns : goal.returns
returns g c =
    let done = c.bridge_move-status in
    record {
      run = ((c.new-source.result, c.new-target.result), (done.result.source, done.result.target), c.new-source.ensures, sym c.into_disk.ensures, c.new-target.ensures, sym c.into_disk-2.ensures, done.ensures.run);
    }
