use Rattle.std.proofs.Common.{◌∷◌, [], List, ℕ, subst, arith}
use Rattle.std.proofs.lemmas.List.Elements.{All-append, All-cons}
use Rattle.edge_io.specs.Door.{IsNewDoor}
use Rattle.edge_net.specs.TcpDoor.{state_of}
use Rattle.edge_net.proofs.doors.doors_over.Goals as goal

pub doors-preserved : goal.doors-preserved
doors-preserved g c =
    let New = λ (d : _). IsNewDoor c.args.place.now (state_of d) in
    let one : New c.at.result = subst (λ (name : List ℕ). IsNewDoor name (state_of c.at.result)) c.in_ok-name.ensures.ok c.at.ensures in record {
      few = omega (arith, c.push_reserved.ensures.len);
      room = omega (arith, c.push_reserved.ensures.capacity);
      fresh = rw c.push_reserved.ensures.items (All-append New c.doors.made.items (c.at.result ∷ []) c.doors.invariant.fresh (All-cons New c.at.result [] one (λ k d less. absurd (omega arith))));
    }
