-- Results of a `?`.
use Rattle.std.proofs.Common.{◌≡◌, Ok, Err, ap, subst, sym}
use Rattle.std.specs.Prelude.{Result, IsErrAnd, MatchResult}

pub is_err : {T E : Type 0} (r : Result T E) (e : E) → IsErrAnd r (λ x. x ≡ e) → r ≡ Err e
is_err (Ok x) e is = absurd is
is_err (Err x) e is = ap Err is

pub match_err : {T E : Type 0} (r : Result T E) (e : E) (P : T → Type 0) (Q : E → Type 0) → IsErrAnd r (λ x. x ≡ e) → Q e → MatchResult r P Q
match_err (Ok x) e P Q is q = absurd is
match_err (Err x) e P Q is q = subst Q (sym is) q
