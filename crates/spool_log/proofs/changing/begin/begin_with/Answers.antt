use Rattle.std.proofs.Common.{◌+◌, ◌-◌, ◌++◌, ◌≤◌, [], ◌∷◌, ℕ, List, length, subst, sym, arith}
use Rattle.std.proofs.Math.Logic.{∥∥₁_map}
use Rattle.spool_state.specs.Segment.{IsGroup, empty_segment, group_text, need_of}
use Rattle.spool_state.specs.SpoolState.{end}
use Rattle.spool_state.specs.Change.{begun}
use Rattle.spool_state.specs.Keeping.{KeepsSpool}
use Rattle.spool_state.proofs.Begun.{end-begun}
use Rattle.edge_disk.specs.Gate.{GoesBehind}
use Rattle.edge_disk.proofs.Leaving.{lets_as}
use Rattle.spool_slots.specs.Slot.{GoesBegun}
use Rattle.spool_slots.specs.Slot as Slots
use Rattle.spool_log.proofs.Changes.Beginning.{begin_alone, begin_knows, begin_stands, images, both_moments, both_stand, both_known, both_outside}
use Rattle.spool_log.proofs.Changes.Added.{closed_here}
use Rattle.spool_log.proofs.Changes.Leaving.{adding_keeps, begun_keeps}
use Rattle.spool_log.proofs.changing.begin.begin_with.Goals as goal

pub returns-in_err-slot-clause-any_moment : goal.returns-in_err-slot-clause-any_moment
returns-in_err-slot-clause-any_moment g c = λ s place tells stands next fits.
    begin_alone s place _ next _ (c.requires.settled tells) stands _ (c.begin.ensures.any_moment tells) c.args.entries.now

pub append_entries-requires-clause-closed : goal.append_entries-requires-clause-closed
append_entries-requires-clause-closed g c = λ tells d image.
    let slot = c.in_ok-slot.slot in
    let lawful = g.met.D.Disk.lawful c.begin.new.disk tells in
    let is = c.in_ok-slot.ensures.slot in
    closed_here slot (empty_segment c.args.head.ordinal c.args.head.first) _ (c.in_ok-slot.ensures.durable tells) (omega (arith, lawful.reads_size, c.begin.ensures.calls.size, c.requires.place, is.at_is, is.size_is)) (c.in_ok-slot.ensures.known tells) d image

pub returns-in-Ok-clause-outside : goal.returns-in-Ok-clause-outside
returns-in-Ok-clause-outside g c = λ tells.
    let slot = c.in_ok-slot.slot in
    let segment = empty_segment c.args.head.ordinal c.args.head.first in
    let durable = c.in_ok-slot.ensures.durable tells in
    let here = λ (d : List ℕ) (image : (g.D.Disk.moment c.begin.new.disk).image d). subst (Slots.Knows slot segment) (sym (durable.only d image)) (c.in_ok-slot.ensures.known tells) in
    both_outside _ _ _ _ _ _ _ (c.requires.settled tells) (c.begin.ensures.any_moment tells) (g.met.D.Disk.lawful c.begin.new.disk tells) durable (g.met.D.Disk.lawful c.append_entries.new.disk tells) slot c.in_ok-slot.ensures.slot c.args.entries.now (c.append_entries.ensures.any_moment segment tells here)

pub returns-in-Ok-clause-stands : goal.returns-in-Ok-clause-stands
returns-in-Ok-clause-stands g c = λ s place tells stands next fits.
    let slot = c.in_ok-slot.slot in
    let lawful = g.met.D.Disk.lawful c.begin.new.disk tells in
    let durable = c.in_ok-slot.ensures.durable tells in
    let sound : IsGroup c.args.entries.now = record { some = c.requires.some; entries = c.requires.limits } in
    let here = images s place _ next _ _ (c.requires.settled tells) stands (c.begin.ensures.any_moment tells) lawful durable slot c.in_ok-slot.ensures.slot (c.in_ok-slot.ensures.known tells) c.args.entries.now sound fits in
    let run = c.append_entries.ensures.any_moment _ tells here in
    let last = g.met.D.Disk.lawful c.append_entries.new.disk tells in (
      both_stand s place _ next _ _ (c.requires.settled tells) stands (c.begin.ensures.any_moment tells) lawful durable slot c.in_ok-slot.ensures.slot (c.in_ok-slot.ensures.known tells) c.args.entries.now sound fits _ run last c.append_entries.new.self c.in-Ok.ensures.slot (c.in-Ok.ensures.known _ tells here),
      both_known s place _ next _ _ (c.requires.settled tells) stands (c.begin.ensures.any_moment tells) lawful durable slot c.in_ok-slot.ensures.slot (c.in_ok-slot.ensures.known tells) c.args.entries.now sound fits _ run last c.append_entries.new.self c.in-Ok.ensures.slot (c.in-Ok.ensures.known _ tells here),
    )

pub returns-in-Ok-clause-any_moment : goal.returns-in-Ok-clause-any_moment
returns-in-Ok-clause-any_moment g c = λ s place tells stands next fits.
    let slot = c.in_ok-slot.slot in
    let lawful = g.met.D.Disk.lawful c.begin.new.disk tells in
    let durable = c.in_ok-slot.ensures.durable tells in
    let sound : IsGroup c.args.entries.now = record { some = c.requires.some; entries = c.requires.limits } in
    let here = images s place _ next _ _ (c.requires.settled tells) stands (c.begin.ensures.any_moment tells) lawful durable slot c.in_ok-slot.ensures.slot (c.in_ok-slot.ensures.known tells) c.args.entries.now sound fits in
    both_moments s place _ next _ _ (c.requires.settled tells) stands (c.begin.ensures.any_moment tells) lawful durable slot c.in_ok-slot.ensures.slot (c.in_ok-slot.ensures.known tells) c.args.entries.now sound fits _ (c.append_entries.ensures.any_moment _ tells here)

pub returns-in-Err-clause-any_moment : goal.returns-in-Err-clause-any_moment
returns-in-Err-clause-any_moment g c = λ s place tells stands next fits.
    let slot = c.in_ok-slot.slot in
    let lawful = g.met.D.Disk.lawful c.begin.new.disk tells in
    let durable = c.in_ok-slot.ensures.durable tells in
    let sound : IsGroup c.args.entries.now = record { some = c.requires.some; entries = c.requires.limits } in
    let here = images s place _ next _ _ (c.requires.settled tells) stands (c.begin.ensures.any_moment tells) lawful durable slot c.in_ok-slot.ensures.slot (c.in_ok-slot.ensures.known tells) c.args.entries.now sound fits in
    both_moments s place _ next _ _ (c.requires.settled tells) stands (c.begin.ensures.any_moment tells) lawful durable slot c.in_ok-slot.ensures.slot (c.in_ok-slot.ensures.known tells) c.args.entries.now sound fits _ (c.append_entries.ensures.any_moment _ tells here)

pub begin-requires-clause-leave : goal.begin-requires-clause-leave
begin-requires-clause-leave g c =
    let head = c.args.head in
    let m = g.D.Disk.moment c.args.disk.now in
    let released = g.D.Disk.may_release in
    lets_as g.D.Disk.tells g.D.Disk.moment g.D.Disk.may_tear (GoesBegun m head.at head.size (empty_segment head.ordinal head.first)) (KeepsSpool released) (λ t now torn goes.
    ∥∥₁_map (c.requires.next t) (λ p. begun_keeps released p.0 m (c.requires.settled t) p.2 p.1 head p.3 now torn goes)) c.requires.leave

pub append_entries-requires-clause-leave : goal.append_entries-requires-clause-leave
append_entries-requires-clause-leave g c =
    let head = c.args.head in
    let slot = c.in_ok-slot.slot in
    let group = c.args.entries.now in
    let m = g.D.Disk.moment c.args.disk.now in
    let mid = g.D.Disk.moment c.begin.new.disk in
    let released = g.D.Disk.may_release in
    let is = c.in_ok-slot.ensures.slot in
    let sound : IsGroup group = record { some = c.requires.some; entries = c.requires.limits } in
    let le : need_of group ≤ slot.size - slot.gate - 1 = omega (arith, c.requires.room, is.size_is, is.gate_is) in
    lets_as g.D.Disk.tells g.D.Disk.moment g.D.Disk.may_tear (GoesBehind mid (slot.at + slot.gate) (group_text group ++ 0 ∷ [])) (KeepsSpool released) (λ t now torn goes.
    let lawful = g.met.D.Disk.lawful c.begin.new.disk t in
    let durable = c.in_ok-slot.ensures.durable t in
    ∥∥₁_map (c.requires.next t) (λ p.
    let s = p.0 in
    let place = p.1 in
    let known = begin_knows s place head p.3 m (c.requires.settled t) p.2 mid (c.begin.ensures.any_moment t) lawful slot is in
    let stood = begin_stands s place head p.3 m (c.requires.settled t) p.2 mid (c.begin.ensures.any_moment t) lawful slot is (c.in_ok-slot.ensures.known t) in
    adding_keeps released (begun s place) mid durable stood slot known group sound (omega (arith, end-begun s place, p.4)) le now torn goes)) c.requires.leave
