-- Checks one after another.
use Rattle.std.proofs.Common.{◌≡◌, Result, Ok, Err, sym, ap, subst}
use Rattle.std.specs.Result.{IsErrAnd}
use Rattle.hec_session.specs.declared.code.HecCode.{HecCode}
use Rattle.hec_session.specs.declared.stop.Stop.{Stop}
use Rattle.hec_session.specs.declared.stop.Stop.TheVariants.{Answer}
use Rattle.hec_session.specs.Checks.{and_then}
use Rattle.hec_session.specs.Acts.{Finds}

-- the first check answers
pub answered : {A B : Type 0} (check : Result A HecCode) (next : A → Result B HecCode) (r : Result B Stop) (code : HecCode) → check ≡ Err code → IsErrAnd r (λ stop. stop ≡ Answer code) → Finds (and_then check next) r
answered check next (Ok value) code e h = absurd h
answered check next (Err stop) code e h = subst (λ s. Finds (and_then check next) (Err s)) (sym h) (ap (λ c. and_then c next) e)
