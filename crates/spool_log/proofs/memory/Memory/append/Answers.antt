use Rattle.std.proofs.Common.{inr, ◌+◌, ◌++◌, ◌≤◌, [], ◌∷◌, length, arith, sym, ◌∙◌, subst}
use Rattle.std.proofs.Math.Logic.{∥∥₁_map}
use Rattle.spool_state.specs.Segment.{IsGroup, group_text}
use Rattle.spool_state.specs.Keeping.{KeepsSpool}
use Rattle.edge_disk.specs.Gate.{GoesBehind}
use Rattle.edge_disk.proofs.Leaving.{lets_as}
use Rattle.spool_state.specs.SpoolState.{end}
use Rattle.spool_state.proofs.Adding.{end_later}
use Rattle.disk_cell.proofs.Frames.{knows_stays}
use Rattle.spool_log.proofs.Numbers.{no_proof, end_known}
use Rattle.spool_log.specs.Device.{GoOn}
use Rattle.spool_log.specs.Memory.{end_of}
use Rattle.spool_log.proofs.Changes.Grown.{grown}
use Rattle.spool_log.proofs.Changes.Added.{closed_here, holds_read, holds_images, add_moments, add_outside, add_knows, add_stands}
use Rattle.spool_log.proofs.Changes.Leaving.{adding_keeps}
use Rattle.spool_log.proofs.Scans.Marked.{marked_group}
use Rattle.spool_log.proofs.memory.Memory.append.Goals as goal

pub append_entries-requires-clause-closed : goal.append_entries-requires-clause-closed
append_entries-requires-clause-closed g c = λ tells d image one.
    let m = g.D.Disk.moment c.args.disk.now in
    let slot = c.args.self.now.active in
    let settled = c.requires.settled tells in
    let lies = c.args.self.now.active_lies in
    no_proof (c.requires.stored tells) (λ p. closed_here slot p.0.active.segment m settled (omega (arith, lies.inside, lies.wide, c.requires.long, (g.met.D.Disk.lawful c.args.disk.now tells).reads_size)) (holds_read p.0 slot m settled p.1.stands p.1.knows.active) d image one)

pub returns-in-Ok-clause-stored : goal.returns-in-Ok-clause-stored
returns-in-Ok-clause-stored g c = λ s tells stored.
    let m = g.D.Disk.moment c.args.disk.now in
    let slot = c.args.self.now.active in
    let group = c.args.entries.now in
    let settled = c.requires.settled tells in
    let knows = stored.knows in
    let sound : IsGroup group = record { some = c.requires.some; entries = c.requires.limits } in
    let fits : end s + length group ≤ 9223372036854775808 = omega (arith, c.requires.numbers, end_known s slot stored.stands.sound knows.active) in
    let here = holds_images s slot m settled stored.stands knows.active in
    let run = c.append_entries.ensures.any_moment _ tells here in
    let lawful = g.met.D.Disk.lawful c.append_entries.new.disk tells in
    let outside = add_outside s slot m settled stored.stands knows.active group sound fits _ run lawful in
    record {
      stands = add_stands s slot m settled stored.stands knows.active group sound fits _ run lawful _ c.in-Ok.ensures.slot (c.in-Ok.ensures.known _ tells here);
      knows = record {
        size = knows.size;
        slots = knows.slots;
        run = knows.run;
        cursor = knows.cursor;
        known = knows.known;
        ordinal = knows.ordinal;
        older = knows.older;
        active = add_knows s slot m settled stored.stands knows.active group sound fits _ run lawful _ c.in-Ok.ensures.slot;
        bookmark = marked_group s.older s.active group _ knows.bookmark;
      };
      register = knows_stays c.args.self.now.register _ _ m.reads _ outside (inr (omega arith)) (omega (arith, stored.stands.long)) stored.register;
    }

pub returns-in-Ok-clause-any_moment : goal.returns-in-Ok-clause-any_moment
returns-in-Ok-clause-any_moment g c = λ s tells stored.
    let slot = c.args.self.now.active in
    let group = c.args.entries.now in
    let settled = c.requires.settled tells in
    let sound : IsGroup group = record { some = c.requires.some; entries = c.requires.limits } in
    let here = holds_images s slot _ settled stored.stands stored.knows.active in
    add_moments s slot _ settled stored.stands stored.knows.active group sound (omega (arith, c.requires.numbers, end_known s slot stored.stands.sound stored.knows.active)) _ (c.append_entries.ensures.any_moment _ tells here)

pub returns-in-Err-clause-any_moment : goal.returns-in-Err-clause-any_moment
returns-in-Err-clause-any_moment g c = λ s tells stored.
    let slot = c.args.self.now.active in
    let group = c.args.entries.now in
    let settled = c.requires.settled tells in
    let sound : IsGroup group = record { some = c.requires.some; entries = c.requires.limits } in
    let here = holds_images s slot _ settled stored.stands stored.knows.active in
    add_moments s slot _ settled stored.stands stored.knows.active group sound (omega (arith, c.requires.numbers, end_known s slot stored.stands.sound stored.knows.active)) _ (c.append_entries.ensures.any_moment _ tells here)

pub invariant_of-self : goal.invariant_of-self
invariant_of-self g c =
    let self = c.args.self.now in
    let slot = c.append_entries.new.self in
    let more = grown c.append_entries.result self.active _ (length c.args.entries.now) slot c.append_entries.ensures.slot c.append_entries.ensures.err in
    let known = self.register.content.known.items in
    record {
      large = self.large;
      small = self.small;
      some = self.some;
      few = self.few;
      spare = self.spare;
      older_lie = self.older_lie;
      active_lies = record {
        wide = more.size_is ∙ self.active_lies.wide;
        inside = omega (arith, more.at_is, self.active_lies.inside);
        ends = omega (arith, more.first_is, more.most, c.requires.numbers);
      };
      go_on = subst (GoOn self.older.items) (sym more.first_is) self.go_on;
      early = omega (arith, more.ordinal_is, more.first_is, more.least, self.early);
      apart = self.apart;
      cursor_upto = omega (arith, more.first_is, more.least, self.cursor_upto);
      known_upto = end_later (end_of self) (slot.first + slot.count) known (omega (arith, more.first_is, more.least)) self.known_upto;
    }

pub append_entries-requires-clause-leave : goal.append_entries-requires-clause-leave
append_entries-requires-clause-leave g c =
    let m = g.D.Disk.moment c.args.disk.now in
    let slot = c.args.self.now.active in
    let group = c.args.entries.now in
    let released = g.D.Disk.may_release in
    let sound : IsGroup group = record { some = c.requires.some; entries = c.requires.limits } in
    lets_as g.D.Disk.tells g.D.Disk.moment g.D.Disk.may_tear (GoesBehind m (slot.at + slot.gate) (group_text group ++ 0 ∷ [])) (KeepsSpool released) (λ t now torn goes.
    ∥∥₁_map (c.requires.stored t) (λ p.
    let s = p.0 in
    let fits : end s + length group ≤ 9223372036854775808 = omega (arith, c.requires.numbers, end_known s slot p.1.stands.sound p.1.knows.active) in
    adding_keeps released s m (c.requires.settled t) p.1.stands slot p.1.knows.active group sound fits c.requires.room now torn goes)) c.requires.leave
