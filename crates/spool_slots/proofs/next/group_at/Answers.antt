use Rattle.std.proofs.Common.{◌+◌, ◌≤◌, length, sym, subst, arith}
use Rattle.spool_slots.specs.Fault.{IsPartFault}
use Rattle.spool_slots.proofs.Marks.{at_gate, group_is, group_at}
use Rattle.spool_slots.proofs.Peeks.{no_group_at}
use Rattle.spool_slots.proofs.next.group_at.Goals as goal

pub returns-in-None-clause-broken : goal.returns-in-None-clause-broken
returns-in-None-clause-broken g c = λ tells.
    let reads = (g.D.Disk.moment c.args.disk.now).reads in
    let none = rw c.in-None.is at (c.in_ok-head.ensures.found tells) in
    subst (IsPartFault (c.args.at + c.args.size) reads) (sym c.missing_at.ensures) (no_group_at c.args.at c.args.size c.args.mark.at reads none)

pub returns-in-Some-clause-group : goal.returns-in-Some-clause-group
returns-in-Some-clause-group g c = λ segment tells holds sound mark zero lt.
    let lawful = g.met.D.Disk.lawful c.args.disk.now tells in
    let reads = (g.D.Disk.moment c.args.disk.now).reads in
    let room : c.args.at + c.args.size ≤ length reads = omega (arith, c.requires.place, lawful.reads_size) in
    let has = rw c.in-Some.is at (c.in_ok-head.ensures.found tells) in
    let inside = rw c.in-Some.is at c.in_ok-head.ensures.inside in
    group_is c.args.at c.args.size segment reads room holds c.args.mark sound (at_gate segment c.args.mark zero mark) lt c.in-Some.head (omega (arith, inside.1)) (omega (arith, c.requires.small)) has

pub returns-in-None-clause-group : goal.returns-in-None-clause-group
returns-in-None-clause-group g c = λ segment tells holds sound mark zero lt.
    let lawful = g.met.D.Disk.lawful c.args.disk.now tells in
    let reads = (g.D.Disk.moment c.args.disk.now).reads in
    let room : c.args.at + c.args.size ≤ length reads = omega (arith, c.requires.place, lawful.reads_size) in
    let none = rw c.in-None.is at (c.in_ok-head.ensures.found tells) in
    let found = group_at c.args.at c.args.size segment reads room holds c.args.mark sound (at_gate segment c.args.mark zero mark) lt in
    absurd (none found.0 found.3)
