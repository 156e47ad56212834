use Rattle.std.proofs.Common.{sym, subst}
use Rattle.bridge_parts.specs.Run.{disk_run}
use Rattle.bridge_restore.specs.RestoreRun.{IsRestoreRun}
use Rattle.cli_files.proofs.Restoring.{restores_held}
use Rattle.cli_files.proofs.restore.restore_over.Goals as goal

-- what was done with the disks that are watched was done with the disks
pub returns : goal.returns
returns g c =
    let D = g.D.Disk in
    let E = g.E.Disk in
    let given = c.args.given in
    let tag = c.args.tag in
    let done = c.bridge_restore-status in
    let report = done.result.report in
    let stored = done.result.stored in
    let note = done.result.note in
    let disk = c.new-disk.result in
    let target = c.new-target.result in
    let run = restores_held D.tells E.tells D.moment E.moment (λ w. w.disk) (λ w. w.disk) disk done.result.disk target done.result.target given tag report stored note done.ensures.run in
    let first = subst (λ d. IsRestoreRun given tag (disk_run D.tells D.moment d done.result.disk.disk) (disk_run E.tells E.moment target.disk done.result.target.disk) report stored note)
    c.new-disk.ensures run in
    let second = subst (λ d. IsRestoreRun given tag (disk_run D.tells D.moment c.args.disk done.result.disk.disk) (disk_run E.tells E.moment d done.result.target.disk) report stored note)
    c.new-target.ensures first in
    let third = subst (λ d. IsRestoreRun given tag (disk_run D.tells D.moment c.args.disk d) (disk_run E.tells E.moment c.args.target done.result.target.disk) report stored note)
    (sym c.into_disk.ensures) second in
    record {
      run = subst (λ d. IsRestoreRun given tag (disk_run D.tells D.moment c.args.disk c.into_disk.result) (disk_run E.tells E.moment c.args.target d) report stored note)
          (sym c.into_disk-2.ensures) third;
    }
