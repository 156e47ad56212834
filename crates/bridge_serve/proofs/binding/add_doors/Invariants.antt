use Rattle.std.proofs.Common.{◌≡◌, ◌+◌, ◌++◌, length, map, vec_len}
use Rattle.std.specs.Vec.{vec_capacity}
use Rattle.bridge_serve.proofs.binding.add_doors.Given as goal

abbrev pub invariant-loop-door : goal.invariant-loop-door
invariant-loop-door g l = record {
  doors : map (λ post. post.door) l.posts.items ≡ map (λ post. post.door) l.initial.posts.items ++ l.yielded;
  rules : map (λ post. post.rules) l.posts.items ≡ map (λ post. post.rules) l.initial.posts.items ++ map (λ door. l.rules) l.yielded;
  many : vec_len l.posts ≡ vec_len l.initial.posts + length l.yielded;
  room : vec_capacity l.posts ≡ vec_capacity l.initial.posts;
}
