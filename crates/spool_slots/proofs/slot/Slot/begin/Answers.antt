use Rattle.std.proofs.Common.{◌≡◌, ◌≢◌, ℕ, ◌+◌, ◌≤◌, List, get_or, length, sym, subst, arith}
use Rattle.std.proofs.lemmas.List.Elements.{All-nil}
use Rattle.spool_state.specs.Segment.{empty_segment, IsGroup}
use Rattle.spool_state.specs.Image.{HoldsSegment}
use Rattle.spool_state.proofs.Segments.{empty_length}
use Rattle.spool_slots.proofs.Steps.{begin_run, head_put, closed_known, lets_head}
use Rattle.spool_slots.proofs.slot.Slot.begin.Goals as goal

pub returns-in_err-write_behind-clause-any_moment : goal.returns-in_err-write_behind-clause-any_moment
returns-in_err-write_behind-clause-any_moment g c = λ tells.
    begin_run c.args.at c.args.size c.args.ordinal c.args.first c.head.result _ _ (g.met.D.Disk.lawful c.args.disk.now tells) c.requires.place (omega (arith, c.requires.large)) c.head.ensures (c.write_behind.ensures.any_moment tells)

pub returns-clause-any_moment : goal.returns-clause-any_moment
returns-clause-any_moment g c = λ tells.
    begin_run c.args.at c.args.size c.args.ordinal c.args.first c.head.result _ _ (g.met.D.Disk.lawful c.args.disk.now tells) c.requires.place (omega (arith, c.requires.large)) c.head.ensures (c.write_behind.ensures.any_moment tells)

pub returns-clause-known : goal.returns-clause-known
returns-clause-known g c = λ tells.
    let room : c.args.at + c.args.size ≤ length (g.D.Disk.moment c.args.disk.now).reads = omega (arith, c.requires.place, (g.met.D.Disk.lawful c.args.disk.now tells).reads_size) in
    record {
      holds = subst (HoldsSegment c.args.at c.args.size (empty_segment c.args.ordinal c.args.first)) (sym (c.in_ok-write_behind.ensures.written tells)) (head_put c.args.at c.args.size c.args.ordinal c.args.first c.head.result _ room (omega (arith, c.requires.large)) c.head.ensures);
      sound = All-nil IsGroup;
      ordinal = omega arith;
      first = omega arith;
      gate = sym (empty_length c.args.ordinal c.args.first);
      count = omega arith;
    }

pub returns-clause-closed : goal.returns-clause-closed
returns-clause-closed g c = λ tells b image.
    let is : b ≡ (g.D.Disk.moment c.write_behind.new.disk).reads = (c.in_ok-write_behind.ensures.durable tells).only b image in
    subst (λ (l : List ℕ). get_or l (c.args.at + 17) 0 ≢ 1) (sym is) (closed_known _ _ _ (omega (arith, c.requires.place, c.write_behind.ensures.calls.size, (g.met.D.Disk.lawful c.write_behind.new.disk tells).reads_size)) (returns-clause-known g c tells))

pub write_behind-requires-clause-leave : goal.write_behind-requires-clause-leave
write_behind-requires-clause-leave g c =
    lets_head g.D.Disk.tells g.D.Disk.moment g.D.Disk.may_tear c.args.at c.args.size c.args.ordinal c.args.first c.head.result _ (λ tells. g.met.D.Disk.lawful c.args.disk.now tells) c.requires.place (omega (arith, c.requires.large)) c.head.ensures c.requires.leave
