use Rattle.std.proofs.Common.{◌≡◌, ◌^◌, ◌<◌, false, true, [], ◌∷◌, sym, ◌∙◌, ap, subst, arith}
use Rattle.std.proofs.Math.Logic.{∥∥₁_map}
use Rattle.spool_state.specs.Image.{slot_at}
use Rattle.spool_state.specs.Change.{registered}
use Rattle.spool_state.proofs.Registered.{with_marked}
use Rattle.edge_disk.specs.Disk.{Moment, IsSettled, LeavesOnly}
use Rattle.disk_cell.specs.Fault.{IsWornAt}
use Rattle.disk_cell.specs.declared.fault.SetFault.TheVariants.{Worn, DiskFault as Failed}
use Rattle.spool_log.specs.declared.memory.Memory.{Memory}
use Rattle.spool_log.specs.Knows.{IsStored}
use Rattle.spool_answers.specs.Stages.{StandsForOne}
use Rattle.spool_log.specs.State.{KnowsDevice, view, LeavesStages}
use Rattle.spool_log.proofs.Stored.{stored_of, in_stored, in_doubt, leaves_same}
use Rattle.spool_log.proofs.Changes.Marking.{marked_as, marked_rises_as, state_as, all_follow, done, failed, worn}
use Rattle.spool_log.proofs.spool.Spool.write_known.Goals as goal

pub invariant_of-self-clause-long : goal.invariant_of-self-clause-long
invariant_of-self-clause-long g c = c.write_register.ensures.calls.size ∙ c.args.self.now.long ∙ (λ i. slot_at (sym c.write_register.ensures.same_device.0 i) (sym c.write_register.ensures.same_device.1 i))

pub invariant_of-self-clause-stored : goal.invariant_of-self-clause-stored
invariant_of-self-clause-stored g c = λ is tells.
    let numbers = c.args.self.now.numbers in
    ∥∥₁_map (c.args.self.now.stored c.requires.sure tells) (λ p. (registered p.0 c.run-run.result numbers.cursor numbers.stretches, c.in-Ok.ensures.stored p.0 tells p.1))

pub invariant_of-self-in-Err-Worn : goal.invariant_of-self-in-Err-Worn
invariant_of-self-in-Err-Worn g c =
    let last : IsWornAt c.args.self.now.memory.register.ordinal (Worn c.in-Err-Worn.ordinal) = subst (IsWornAt c.args.self.now.memory.register.ordinal) c.in-Err-Worn.field-0-is c.in-Err-Worn.ensures.worn in
    let same = c.write_register.ensures.unchanged last.0 in
    let known = c.in-Err-Worn.ensures.err in
    record {
      lets = c.args.self.now.lets;
      long = c.write_register.ensures.calls.size ∙ c.args.self.now.long ∙ (λ i. slot_at (sym c.write_register.ensures.same_device.0 i) (sym c.write_register.ensures.same_device.1 i));
      whole = c.args.self.now.whole;
      settled = λ is tells. subst (λ (m : Moment). IsSettled m) (sym (ap g.D.Disk.moment same)) (c.args.self.now.settled c.requires.sure tells);
      stored = λ is tells. subst (λ (m : Moment). KnowsDevice c.write_register.new.self m.reads) (sym (ap g.D.Disk.moment same)) (subst (λ (k : Memory). KnowsDevice k (g.D.Disk.moment c.args.self.now.disk).reads) (sym known) (c.args.self.now.stored c.requires.sure tells));
    }

pub returns-in-Ok-clause-marked : goal.returns-in-Ok-clause-marked
returns-in-Ok-clause-marked g c = λ s more tells held ends is.
    let memory = c.args.self.now.memory in
    let old = g.D.Disk.moment c.args.self.now.disk in
    let new = g.D.Disk.moment c.write_register.new.disk in
    let numbers = c.args.self.now.numbers in
    let stored = stored_of s memory c.args.self.now.doubt old held (g.met.D.Disk.lawful c.args.self.now.disk tells) (c.args.self.now.stored c.requires.sure tells) in
    let same = marked_as s memory numbers more held.knows is in
    let rises = marked_rises_as s memory numbers more held.knows is c.requires.new in
    let run : c.run-run.result ≡ s.run = c.run-run.ensures ∙ held.knows.run in
    let fits : s.ordinal < 2 ^ 63 = omega (arith, c.in-Ok.ensures.worn, held.knows.ordinal) in
    done s more held.sound rises (view memory c.args.self.now.doubt old) (view c.write_register.new.self false new) fits
    (in_stored (with_marked s more) c.write_register.new.self new (c.in-Ok.ensures.durable tells) (state_as s more numbers c.run-run.result (λ t. IsStored t c.write_register.new.self new.reads) run same (c.in-Ok.ensures.stored s tells stored)))
    (state_as s more numbers c.run-run.result (λ t. LeavesOnly (StandsForOne s (t ∷ [])) old new) run same (c.write_register.ensures.any_moment s tells stored))

pub returns-in-Err-DiskFault-clause-marked : goal.returns-in-Err-DiskFault-clause-marked
returns-in-Err-DiskFault-clause-marked g c = λ s more tells held ends is.
    let memory = c.args.self.now.memory in
    let old = g.D.Disk.moment c.args.self.now.disk in
    let new = g.D.Disk.moment c.write_register.new.disk in
    let numbers = c.args.self.now.numbers in
    let stored = stored_of s memory c.args.self.now.doubt old held (g.met.D.Disk.lawful c.args.self.now.disk tells) (c.args.self.now.stored c.requires.sure tells) in
    let same = marked_as s memory numbers more held.knows is in
    let rises = marked_rises_as s memory numbers more held.knows is c.requires.new in
    let run : c.run-run.result ≡ s.run = c.run-run.ensures ∙ held.knows.run in
    let left : IsWornAt memory.register.ordinal Failed = subst (IsWornAt memory.register.ordinal) c.in-Err-DiskFault.field-0-is c.in-Err-DiskFault.ensures.worn in
    let fits : s.ordinal < 2 ^ 63 = omega (arith, left, held.knows.ordinal) in
    let leaves = state_as s more numbers c.run-run.result (λ t. LeavesOnly (StandsForOne s (t ∷ [])) old new) run same (c.write_register.ensures.any_moment s tells stored) in
    failed s more held.sound rises (view memory c.args.self.now.doubt old) (view c.write_register.new.self true new) fits
    (in_doubt s (with_marked s more ∷ []) memory c.write_register.new.self old new stored c.in-Err-DiskFault.ensures.err leaves (all_follow s more held.sound rises) (omega arith))
    leaves

pub returns-in-Err-Worn-clause-marked : goal.returns-in-Err-Worn-clause-marked
returns-in-Err-Worn-clause-marked g c = λ s more tells held ends is.
    let memory = c.args.self.now.memory in
    let old = g.D.Disk.moment c.args.self.now.disk in
    let new = g.D.Disk.moment c.write_register.new.disk in
    let lawful = g.met.D.Disk.lawful c.args.self.now.disk tells in
    let settled = c.args.self.now.settled c.requires.sure tells in
    let stored = stored_of s memory c.args.self.now.doubt old held lawful (c.args.self.now.stored c.requires.sure tells) in
    let rises = marked_rises_as s memory c.args.self.now.numbers more held.knows is c.requires.new in
    let last : IsWornAt memory.register.ordinal (Worn c.in-Err-Worn.ordinal) = subst (IsWornAt memory.register.ordinal) c.in-Err-Worn.field-0-is c.in-Err-Worn.ensures.worn in
    let same = ap g.D.Disk.moment (c.write_register.ensures.unchanged last.0) in
    let kept : IsStored s c.write_register.new.self new.reads = subst (λ (m : Moment). IsStored s c.write_register.new.self m.reads) (sym same) (subst (λ (k : Memory). IsStored s k old.reads) (sym c.in-Err-Worn.ensures.err) stored) in
    worn s more held.sound rises c.in-Err-Worn.ordinal (view memory c.args.self.now.doubt old) (view c.write_register.new.self false new)
    (last.1 ∙ held.knows.ordinal) (sym held.knows.ordinal ∙ last.0)
    (in_stored s c.write_register.new.self new (subst (λ (m : Moment). IsSettled m) (sym same) settled) kept)
    (subst (λ (m : Moment). LeavesStages s [] old m) (sym same) (leaves_same s old lawful))
