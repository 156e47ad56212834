use Rattle.std.proofs.Common.{◌≡◌, ℕ, take}
use Rattle.std.specs.List.{list_any}
use Rattle.std.specs.Prelude.{◌==◌}
use Rattle.std.specs.BTreeSet.{contains}
use Rattle.std.specs.Ordering.{nat_cmp}
use Rattle.hec_body.specs.Acks.{distinct}
use Rattle.hec_body.proofs.acks.first_of_each.Given as goal

abbrev pub invariant-loop-number : goal.invariant-loop-number
invariant-loop-number l = record {
  ids : l.ids.items ≡ distinct (take l.number-index l.asked);
  seen : (n : ℕ) → contains nat_cmp l.seen n ≡ list_any (λ m. m == n) (take l.number-index l.asked);
}
