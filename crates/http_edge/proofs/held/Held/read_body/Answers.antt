-- Without memory for the bytes and the piece, a window holds what it held.
use Rattle.std.proofs.Common.{refl}
use Rattle.std.proofs.Math.Nat.{le_refl}
use Rattle.std.specs.Vec.{vec_capacity}
use Rattle.http_edge.proofs.HeldLaws.{kept_feed}
use Rattle.http_edge.proofs.held.Held.read_body.Goals as goal

pub returns-in_default : goal.returns-in_default
returns-in_default c =
    let h = c.args.self.now in
    let f = c.requires.fills in
    kept_feed h _ h.unread.items c.args.more.now f c.requires.begun.0 (record { queue_is = refl; heads_is = refl; beside_is = refl; bytes_are = refl; space = le_refl (vec_capacity h.bytes); from_is = refl; whole_is = refl; at_is = refl; begun_is = refl; size_is = refl; stage_is = refl; read_is = refl; unread_is = refl; unread_space = f.unread_space; part_is = refl; fault_is = refl })
