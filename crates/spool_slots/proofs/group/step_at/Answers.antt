use Rattle.std.proofs.Common.{◌+◌, ◌-◌, length, subst}
use Rattle.spool_state.specs.Broken.{BeginsGroup}
use Rattle.spool_slots.proofs.Found.{group_wider}
use Rattle.spool_slots.proofs.group.step_at.Goals as goal

pub returns-in-Some-clause-seen : goal.returns-in-Some-clause-seen
returns-in-Some-clause-seen g c = λ tells.
    let here = c.in-Some.ensures in
    let reads = (g.D.Disk.moment c.args.disk.now).reads in
    let p = c.args.at + c.args.gate in
    let seen = c.seen.result.now in
    let is = c.seen.ensures.value c.args.at reads (c.requires.window tells) in
    (here.group, group_wider p (length seen) (c.args.size - c.args.gate) here.group reads c.seen.ensures.few (subst (BeginsGroup here.group) is here.begins), here.size_is, here.count_is)
