use Rattle.std.proofs.Common.{◌≡◌, ◌+◌, ◌-◌, ℕ, take, drop, subst, arith}
use Rattle.spool_slots.specs.declared.group.GroupHead.{GroupHead}
use Rattle.spool_slots.specs.Groups.{AreEntries, HasHead}
use Rattle.spool_slots.proofs.Found.{group_here}
use Rattle.spool_slots.proofs.seen.group_in.Goals as goal

pub returns : goal.returns
returns c =
    let bytes = c.args.bytes.now in
    let head : GroupHead = record { size = c.u32_at.result; count = c.u32_at-2.result } in
    let has : HasHead bytes head = record {
      opens = c.if-bytes-ne1.false;
      size_is = c.u32_at.ensures.bytes;
      count_is = c.u32_at-2.ensures.bytes;
      some = omega (arith, c.if-head-eq0.false);
      fits = omega arith;
      room = omega (arith, c.if-end-bytes.false);
    } in
    let same : 9 + head.size - 9 ≡ head.size = omega arith in
    let are = subst (λ (n : ℕ). AreEntries head.count (take n (drop 9 bytes))) same (c.are_whole.ensures.0 c.if-not-are_whole.false) in
    group_here bytes head (omega (arith, c.requires)) has are
