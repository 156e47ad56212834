use Rattle.std.proofs.Common.{◌+◌, ◌-◌, ℕ, List, refl, sym, subst, arith}
use Rattle.foundation.specs.Bytes.{part}
use Rattle.event_form.specs.Reading.{Begins}
use Rattle.edge_disk.proofs.Moments.{untouched_then}
use Rattle.spool_slots.proofs.Faults.{handed}
use Rattle.spool_slots.proofs.Marks.{first_left, entry_here, next_as, next_is}
use Rattle.spool_slots.proofs.next.next_entry.Goals as goal

pub returns-clause-told : goal.returns-clause-told
returns-clause-told g c = λ tells. untouched_then _ _ _ (g.met.D.Disk.lawful c.args.disk.now tells) (c.enter.ensures.told tells) (c.read_from.ensures.told tells)

pub returns-in_err-entry-clause-next : goal.returns-in_err-entry-clause-next
returns-in_err-entry-clause-next g c = λ segment tells holds sound mark lt.
    let lawful = g.met.D.Disk.lawful c.args.disk.now tells in
    let reads = (g.D.Disk.moment c.args.disk.now).reads in
    let here = c.in_ok-entered.ensures.entered segment tells holds sound mark lt in
    let entered = c.in_ok-entered.entered in
    let left = first_left here.0.left here.0.some in
    let there = entry_here c.args.at c.args.size segment reads (omega (arith, c.requires.place, lawful.reads_size)) holds entered sound here.0 left.0 left.1 left.2 in
    let begins = subst (λ (l : List ℕ). Begins left.0 (part (c.args.at + entered.at) (c.args.size - entered.at) l) there.0) (sym (c.enter.ensures.told tells).same) there.1 in
    handed _ _ _ _ c.from_residual-in_err-entry.ensures.1 (c.in_err-entry.ensures.read left.0 there.0 tells begins)

pub returns-clause-next : goal.returns-clause-next
returns-clause-next g c = λ segment tells holds sound mark lt.
    let lawful = g.met.D.Disk.lawful c.args.disk.now tells in
    let reads = (g.D.Disk.moment c.args.disk.now).reads in
    let here = c.in_ok-entered.ensures.entered segment tells holds sound mark lt in
    let entered = c.in_ok-entered.entered in
    let left = first_left here.0.left here.0.some in
    let there = entry_here c.args.at c.args.size segment reads (omega (arith, c.requires.place, lawful.reads_size)) holds entered sound here.0 left.0 left.1 left.2 in
    let begins = subst (λ (l : List ℕ). Begins left.0 (part (c.args.at + entered.at) (c.args.size - entered.at) l) there.0) (sym (c.enter.ensures.told tells).same) there.1 in
    let read = c.in_ok-entry.ensures.read left.0 there.0 tells begins in
    next_as segment entered c.args.mark _ c.in_ok-entry.field-0.entry left.0 here.1 read.0
    (next_is segment entered _ here.0 left.0 left.1 left.2 (omega (arith, here.1)) (omega (arith, read.1)) refl)
