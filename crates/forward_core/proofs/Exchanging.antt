-- A link that was just dialed.
use Rattle.std.proofs.Common.{◌≡◌, ℕ, List, [], refl, sym, subst}
use Rattle.std.specs.Prelude.{Option, Some, None}
use Rattle.edge_io.specs.Net.{HungUp}
use Rattle.edge_io.specs.Told.{IsToldAs, IsFresh, IsDialed}
use Rattle.forward_core.specs.Exchanged.{IsNewAt}

told_as : {A : Type 0} (told : Option A) (x : A) → told ≡ Some x → IsToldAs told x
told_as told x is = subst (λ o. IsToldAs o x) (sym is) refl

-- it is new at its place, whatever the net tells of its links
pub is_new : (hung : Option (List HungUp)) (place : List ℕ) (dialed given taken left : Option (List ℕ))
    → IsDialed hung dialed place → IsFresh hung given taken left → IsNewAt place dialed given taken
is_new None place dialed given taken left there fresh = record { dialed_there = there; none_given = fresh.0; none_taken = fresh.1 }
is_new (Some list) place dialed given taken left there fresh = record {
  dialed_there = told_as dialed place there;
  none_given = told_as given [] fresh.0;
  none_taken = told_as taken [] fresh.1;
}
