use Rattle.std.proofs.Common.{◌≡◌, ◌+◌, List, ℕ, ◌∙◌, subst, arith, vec_len}
use Rattle.edge_io.specs.MemDoor.{IsBoundAs}
use Rattle.edge_io.proofs.Places.{taken_more, left_more}
use Rattle.edge_io.proofs.mem_place.MemPlace.first.Goals as goal

pub doors-preserved : goal.doors-preserved
doors-preserved c =
    let old = c.args.doors.now in
    let now = c.doors in
    let long : vec_len c.push.new.self ≡ vec_len now.bound + 1 = c.in_ok-push.ensures.len in
    let made : IsBoundAs c.args.name.now c.remove.result c.bound_at.result = subst (λ (n : List ℕ). IsBoundAs n c.remove.result c.bound_at.result) c.in_ok-place.ensures.ok c.bound_at.ensures in
    let more = taken_more c.args.name.now old.items now.doors.items now.bound.items (vec_len now.bound) c.remove.result c.bound_at.result
    (omega (arith, old.ok.0)) now.invariant.left c.remove.ensures.value made now.invariant.bound in record {
      few = omega arith;
      left = rw long (c.remove.ensures.items ∙ left_more old.items now.doors.items (vec_len now.bound) now.invariant.left);
      long = omega (arith, c.remove.ensures.len);
      bound = rw (long, c.in_ok-push.ensures.items) more;
    }
