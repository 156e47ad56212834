use Rattle.std.proofs.Common.{◌≡◌, ◌≤◌, length, map, vec_len}
use Rattle.std.specs.Vec.{vec_capacity}
use Rattle.bridge_serve.proofs.binding.Posts.into_doors.Given as goal

abbrev pub invariant-loop-post : goal.invariant-loop-post
invariant-loop-post g l = record {
  doors : l.doors.items ≡ map (λ post. post.door) l.yielded;
  many : vec_len l.doors ≡ length l.yielded;
  room : vec_len l.fn.self.posts ≤ vec_capacity l.doors;
}
