use Rattle.std.proofs.Common.{ℕ, ◌<◌, ◌≢◌, get_or}
use Rattle.hec_session.specs.declared.code.HecCode.TheVariants.{Success}
use Rattle.hec_session.specs.declared.code.TheConstants.{CODES}
use Rattle.hec_session.specs.Codes.{number_of}
use Rattle.hec_session.proofs.code.HecCode.with.Given as goal

abbrev pub invariant-loop-code : goal.invariant-loop-code
invariant-loop-code l = (k : ℕ) → k < l.code-index → number_of (get_or CODES k Success) ≢ l.number
