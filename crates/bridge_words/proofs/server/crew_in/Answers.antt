use Rattle.std.proofs.Common.{◌∙◌, inl, inr, sym, ap}
use Rattle.std.specs.Prelude.{Err}
use Rattle.bridge_words.proofs.Together.{same_error}
use Rattle.bridge_words.proofs.server.crew_in.Goals as goal

pub returns-in_err-workers-clause-wrong : goal.returns-in_err-workers-clause-wrong
returns-in_err-workers-clause-wrong c = λ fault is.
    let same = same_error _ _ fault c.from_residual-in_err-workers.ensures is in
    inr (c.in_ok-division.division, sym c.in_ok-division.ensures, inl (sym c.in_err-workers.ensures.number ∙ ap Err same))

pub returns-in_err-talks-clause-wrong : goal.returns-in_err-talks-clause-wrong
returns-in_err-talks-clause-wrong c = λ fault is.
    let same = same_error _ _ fault c.from_residual-in_err-talks.ensures is in
    inr (c.in_ok-division.division, sym c.in_ok-division.ensures, inr (sym c.in_err-talks.ensures.number ∙ ap Err same))
