use Rattle.std.proofs.Common.{arith}
use Rattle.bridge_tests.proofs.held_net.doors_at.Goals as goal

pub doors-preserved : goal.doors-preserved
doors-preserved c = record {
  few = omega (arith, c.push_reserved.ensures.len);
  room = omega (arith, c.push_reserved.ensures.capacity);
}

-- a door that tells no place, no count of accepts and no talks is new, whatever else it tells
pub returns-clause-fresh : goal.returns-clause-fresh
returns-clause-fresh c = λ k d less. record { place = tt; accepted = tt; talks = tt }
