use Rattle.std.proofs.Common.{ℕ, ◌+◌, refl, sym, ap, subst, arith}
use Rattle.spool_slots.specs.Fault.{IsPartFault}
use Rattle.spool_slots.proofs.Marks.{first_left, entry_here, goes_on}
use Rattle.spool_slots.proofs.Peeks.{no_entry_at}
use Rattle.spool_slots.proofs.pass.pass_entry.Goals as goal

pub returns-in-None-clause-broken : goal.returns-in-None-clause-broken
returns-in-None-clause-broken g c = λ tells.
    let reads = (g.D.Disk.moment c.args.disk.now).reads in
    let none = rw c.in-None.is at (c.in_ok-length.ensures.found tells) in
    subst (IsPartFault (c.args.at + c.args.size) reads) (sym c.missing_at.ensures) (no_entry_at c.args.at c.args.size c.args.mark.at reads none)

pub returns-in-Some-clause-passed : goal.returns-in-Some-clause-passed
returns-in-Some-clause-passed g c = λ segment tells holds sound here.
    let lawful = g.met.D.Disk.lawful c.args.disk.now tells in
    let reads = (g.D.Disk.moment c.args.disk.now).reads in
    let has = rw c.in-Some.is at (c.in_ok-length.ensures.found tells) in
    let left = first_left here.left here.some in
    let there = entry_here c.args.at c.args.size segment reads (omega (arith, c.requires.place, lawful.reads_size)) holds c.args.mark sound here left.0 left.1 left.2 in
    goes_on segment c.args.mark _ here left.0 left.1 left.2 refl (ap (λ (n : ℕ). c.args.mark.at + n) (has left.0 there.0 there.1)) refl

pub returns-in-None-clause-passed : goal.returns-in-None-clause-passed
returns-in-None-clause-passed g c = λ segment tells holds sound here.
    let lawful = g.met.D.Disk.lawful c.args.disk.now tells in
    let reads = (g.D.Disk.moment c.args.disk.now).reads in
    let none = rw c.in-None.is at (c.in_ok-length.ensures.found tells) in
    let left = first_left here.left here.some in
    let there = entry_here c.args.at c.args.size segment reads (omega (arith, c.requires.place, lawful.reads_size)) holds c.args.mark sound here left.0 left.1 left.2 in
    absurd (none left.0 there.0 there.1)
