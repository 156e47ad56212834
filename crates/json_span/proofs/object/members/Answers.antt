use Rattle.std.proofs.Common.{◌-◌, ◌<◌, length, arith, sym, subst}
use Rattle.json_span.proofs.MemberLaws.{string_byte, left_inside}
use Rattle.json_span.proofs.WalkLaws.{Walk, inside, walk_begins, walk_goes, walk_member, walk_ends}
use Rattle.json_span.proofs.object.members.Goals as goal

pub after_space-at-requires : goal.after_space-at-requires
after_space-at-requires c = let i = inside c.args.bytes.now c.args.object c.requires in omega (arith, i.order, c.requires.bound)

pub loop-at-init : goal.loop-at-init
loop-at-init c = subst (Walk c.args.bytes.now c.args.object c.after_space-at.result) (sym c.new-members.ensures.items) (walk_begins c.args.bytes.now c.args.object c.after_space-at.result c.requires c.after_space-at.ensures.spaces c.after_space-at.ensures.stops)

pub member_at-member-requires : goal.member_at-member-requires
member_at-member-requires c = let l = c.loop-at in (c.args.object.end, walk_member c.args.bytes.now c.args.object l.at l.members.items l.invariant c.loop-at-test.true)

pub after_member-at-requires : goal.after_member-at-requires
after_member-at-requires c =
    let l = c.loop-at in
    let p = c.member_at-member.ensures c.args.object.end (walk_member c.args.bytes.now c.args.object l.at l.members.items l.invariant c.loop-at-test.true) in
    (c.args.object.end, p.2)

pub loop-at-smaller : goal.loop-at-smaller
loop-at-smaller c =
    let l = c.loop-at in
    let b = c.args.bytes.now in
    let m = c.member_at-member.result in
    let p = c.member_at-member.ensures c.args.object.end (walk_member b c.args.object l.at l.members.items l.invariant c.loop-at-test.true) in
    let i : l.at < length b = left_inside b l.at c.args.object.end l.invariant.left in
    let s = string_byte b m.name.start m.name.end p.1.name in
    let e : length b - c.after_member-at.result < length b - l.at = omega (arith, i, s.0, p.0, p.1.colon.order, p.1.value.order, c.after_member-at.ensures.order) in
    e

pub loop-at-preserved : goal.loop-at-preserved
loop-at-preserved c =
    let l = c.loop-at in
    let b = c.args.bytes.now in
    let o = c.args.object in
    let m = c.member_at-member.result in
    let n = c.after_member-at in
    let p = c.member_at-member.ensures o.end (walk_member b o l.at l.members.items l.invariant c.loop-at-test.true) in
    subst (Walk b o n.result) (sym c.in_ok-push.ensures.items) (walk_goes b o l.at n.result l.members.items m l.invariant p.0 p.1 (n.ensures.left o.end p.2) (n.ensures.ahead o.end p.2))

pub returns : goal.returns
returns c = let l = c.loop-at in walk_ends c.args.bytes.now c.args.object l.at l.members.items l.invariant c.loop-at-test.false
