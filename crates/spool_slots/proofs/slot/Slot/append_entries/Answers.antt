use Rattle.std.proofs.Common.{◌+◌, ◌-◌, ◌≤◌, ◌++◌, ◌∷◌, [], length, ◌∙◌, ap, arith, length-append}
use Rattle.std.proofs.lemmas.List.Elements.{All-push}
use Rattle.edge_disk.proofs.Moments.{untouched}
use Rattle.spool_state.specs.Segment.{IsGroup, entries_of, group_text, need_of}
use Rattle.spool_state.proofs.Once.{count_below}
use Rattle.spool_state.proofs.Texts.{length-group_text, length-need, length-segment_text-with_group, entries_of-with_group}
use Rattle.edge_disk.proofs.GateSteps.{piece_written, gate_opened}
use Rattle.edge_disk.proofs.Leaving.{tears_gate}
use Rattle.spool_slots.proofs.Steps.{append_run, append_holds, closed_after, body_from, lets_filling}
use Rattle.spool_slots.proofs.slot.Slot.append_entries.Goals as goal

pub invariant_of-self : goal.invariant_of-self
invariant_of-self g c = record {
  inside = omega (arith, c.if-need-room.false, c.room-room.ensures);
  small = omega arith;
  counted = omega (arith, c.group_need-need.ensures, count_below c.args.entries.now);
}

pub returns-in_err-write_group-clause-any_moment : goal.returns-in_err-write_group-clause-any_moment
returns-in_err-write_group-clause-any_moment g c = λ segment tells known.
    let lawful = g.met.D.Disk.lawful c.args.disk.now tells in
    let slot = c.args.self.now in
    let entries = c.args.entries.now in
    let fits : need_of entries ≤ slot.size - slot.gate - 1 = omega (arith, c.if-need-room.false, c.room-room.ensures, c.group_need-need.ensures) in
    let one = body_from (slot.at + slot.gate) entries _ _ (c.write_group.ensures.any_moment tells) in
    append_run slot segment entries _ _ lawful c.requires.place fits known (piece_written (slot.at + slot.gate) (group_text entries ++ 0 ∷ []) _ _ (c.requires.closed tells) one)

pub returns-in_err-sync-clause-any_moment : goal.returns-in_err-sync-clause-any_moment
returns-in_err-sync-clause-any_moment g c = λ segment tells known.
    let lawful = g.met.D.Disk.lawful c.args.disk.now tells in
    let slot = c.args.self.now in
    let entries = c.args.entries.now in
    let fits : need_of entries ≤ slot.size - slot.gate - 1 = omega (arith, c.if-need-room.false, c.room-room.ensures, c.group_need-need.ensures) in
    let two = untouched _ _ _ _ (body_from (slot.at + slot.gate) entries _ _ (c.write_group.ensures.any_moment tells)) (c.sync.ensures.told tells) in
    append_run slot segment entries _ _ lawful c.requires.place fits known (piece_written (slot.at + slot.gate) (group_text entries ++ 0 ∷ []) _ _ (c.requires.closed tells) two)

pub returns-in_err-open_gate-clause-any_moment : goal.returns-in_err-open_gate-clause-any_moment
returns-in_err-open_gate-clause-any_moment g c = λ segment tells known.
    let lawful = g.met.D.Disk.lawful c.args.disk.now tells in
    let slot = c.args.self.now in
    let entries = c.args.entries.now in
    let fits : need_of entries ≤ slot.size - slot.gate - 1 = omega (arith, c.if-need-room.false, c.room-room.ensures, c.group_need-need.ensures) in
    let two = untouched _ _ _ _ (body_from (slot.at + slot.gate) entries _ _ (c.write_group.ensures.any_moment tells)) (c.sync.ensures.told tells) in
    let is = (c.sync.ensures.told tells).same ∙ c.in_ok-write_group.ensures.written tells in
    append_run slot segment entries _ _ lawful c.requires.place fits known
    (gate_opened (slot.at + slot.gate) (group_text entries ++ 0 ∷ []) _ _ _ lawful (omega (arith, c.requires.place, fits, slot.inside, length-need entries)) (c.requires.closed tells) two is (c.open_gate.ensures.any_moment tells))

pub returns-clause-any_moment : goal.returns-clause-any_moment
returns-clause-any_moment g c = λ segment tells known.
    let lawful = g.met.D.Disk.lawful c.args.disk.now tells in
    let slot = c.args.self.now in
    let entries = c.args.entries.now in
    let fits : need_of entries ≤ slot.size - slot.gate - 1 = omega (arith, c.if-need-room.false, c.room-room.ensures, c.group_need-need.ensures) in
    let two = untouched _ _ _ _ (body_from (slot.at + slot.gate) entries _ _ (c.write_group.ensures.any_moment tells)) (c.sync.ensures.told tells) in
    let is = (c.sync.ensures.told tells).same ∙ c.in_ok-write_group.ensures.written tells in
    append_run slot segment entries _ _ lawful c.requires.place fits known
    (gate_opened (slot.at + slot.gate) (group_text entries ++ 0 ∷ []) _ _ _ lawful (omega (arith, c.requires.place, fits, slot.inside, length-need entries)) (c.requires.closed tells) two is (c.open_gate.ensures.any_moment tells))

pub returns-clause-known : goal.returns-clause-known
returns-clause-known g c = λ segment tells known.
    let lawful = g.met.D.Disk.lawful c.args.disk.now tells in
    let slot = c.args.self.now in
    let entries = c.args.entries.now in
    let fits : need_of entries ≤ slot.size - slot.gate - 1 = omega (arith, c.if-need-room.false, c.room-room.ensures, c.group_need-need.ensures) in
    let knows = known _ lawful.reads_image in
    record {
      holds = append_holds slot segment entries _ _ _ (omega (arith, c.requires.place, lawful.reads_size)) fits knows ((c.sync.ensures.told tells).same ∙ c.in_ok-write_group.ensures.written tells) (c.in_ok-open_gate.ensures.written tells);
      sound = All-push IsGroup segment.groups entries knows.sound (record { some = c.requires.some; entries = c.requires.limits });
      ordinal = knows.ordinal;
      first = knows.first;
      gate = omega (arith, knows.gate, c.group_need-need.ensures, length-segment_text-with_group segment entries);
      count = omega (arith, knows.count, ap length (entries_of-with_group segment entries), length-append (entries_of segment) entries);
    }

pub returns-clause-closed_after : goal.returns-clause-closed_after
returns-clause-closed_after g c = λ tells b image.
    let lawful = g.met.D.Disk.lawful c.args.disk.now tells in
    let slot = c.args.self.now in
    let entries = c.args.entries.now in
    let long = length-need entries in
    closed_after (slot.at + slot.gate) _ (group_text entries) (g.D.Disk.moment c.args.disk.now).reads _ _ b
    (omega (arith, c.requires.place, lawful.reads_size, c.if-need-room.false, c.room-room.ensures, c.group_need-need.ensures, length-group_text entries, slot.inside))
    ((c.sync.ensures.told tells).same ∙ c.in_ok-write_group.ensures.written tells) (c.in_ok-open_gate.ensures.written tells) ((c.in_ok-open_gate.ensures.durable tells).only b image)
    (omega (arith, c.group_need-need.ensures, length-group_text entries))

pub write_group-requires-clause-leave : goal.write_group-requires-clause-leave
write_group-requires-clause-leave g c =
    lets_filling g.D.Disk.tells g.D.Disk.moment g.D.Disk.may_tear (c.args.self.now.at + c.args.self.now.gate) c.args.entries.now _ c.requires.closed c.requires.leave

pub open_gate-requires-clause-leave : goal.open_gate-requires-clause-leave
open_gate-requires-clause-leave g c =
    let slot = c.args.self.now in
    let entries = c.args.entries.now in
    let fits : need_of entries ≤ slot.size - slot.gate - 1 = omega (arith, c.if-need-room.false, c.room-room.ensures, c.group_need-need.ensures) in
    c.requires.leave c.sync.new.self (slot.at + slot.gate) 1 (λ tells.
    let is = (c.sync.ensures.told tells).same ∙ c.in_ok-write_group.ensures.written tells in
    tears_gate (slot.at + slot.gate) (group_text entries ++ 0 ∷ []) _ _ (g.met.D.Disk.lawful c.args.disk.now tells) (omega (arith, c.requires.place, fits, slot.inside, length-need entries)) (c.requires.closed tells) (c.in_ok-sync.ensures.durable tells) is)
