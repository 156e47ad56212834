use Rattle.std.proofs.Common.{inl, inr, ap}
use Rattle.std.specs.Prelude.{Err}
use Rattle.bridge_words.specs.declared.reading.Unread.TheVariants.{Wrong}
use Rattle.bridge_words.proofs.Together.{same_error, told_as}
use Rattle.bridge_words.proofs.server.serve_in.Goals as goal

pub returns-in_err-crew-clause-wrong : goal.returns-in_err-crew-clause-wrong
returns-in_err-crew-clause-wrong c = λ fault is.
    let same = told_as _ _ fault c.from_residual-in_err-crew.ensures is in
    elim (c.in_err-crew.ensures.wrong fault (ap Err same)) [ inl h ↦ inr (inl h) | inr h ↦ inr (inr (inl h)) ]

pub returns-in_err-status-clause-wrong : goal.returns-in_err-status-clause-wrong
returns-in_err-status-clause-wrong c = λ fault is.
    let same = same_error _ _ (Wrong fault) c.from_residual-in_err-status.ensures is in
    inr (inr (inr (inr (inr (c.in_err-status.ensures.wrong fault (ap Err same))))))
