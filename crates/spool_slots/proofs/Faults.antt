-- A fault that is handed on, and calls of which none failed.
use Rattle.std.proofs.Common.{◌≡◌, inl, sym, subst}
use Rattle.std.specs.Prelude.{Result, Ok, Err, MatchResult}
use Rattle.std.specs.Result.{IsErrAnd}
use Rattle.edge_disk.specs.Disk.{Moment}
use Rattle.edge_disk.specs.Calls.{Calls}
use Rattle.edge_disk.proofs.Calls.{calls_then}

pub handed : {T E : Type 0} (r : Result T E) (f : E) (P : T → Type 0) (Q : E → Type 0) → IsErrAnd r (λ x. x ≡ f) → Q f → MatchResult r P Q
handed (Ok x) f P Q is q = absurd is
handed (Err x) f P Q is q = subst Q (sym is) q

-- one call more that passed
pub calls_passed : (fault : Type 0) (old mid new : Moment) → Calls ⊥ old mid → Calls fault mid new → (fault → ⊥) → Calls ⊥ old new
calls_passed fault old mid new before call passed = calls_then ⊥ fault ⊥ old mid new before call (λ f. inl f) (λ none. (none, passed))
