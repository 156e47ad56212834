use Rattle.std.proofs.Common.{inl, inr, ap}
use Rattle.std.specs.Prelude.{Err}
use Rattle.bridge_words.specs.declared.reading.Unread.TheVariants.{Wrong}
use Rattle.bridge_words.proofs.Together.{same_error}
use Rattle.bridge_words.proofs.server.doors_in.Goals as goal

pub returns-in_err-place_for-clause-wrong : goal.returns-in_err-place_for-clause-wrong
returns-in_err-place_for-clause-wrong c = λ fault is.
    let same = same_error _ _ (Wrong fault) c.from_residual.ensures is in
    inl (c.in_err-place_for.ensures.wrong fault (ap Err same))

pub returns-in_err-place_for-2-clause-wrong : goal.returns-in_err-place_for-2-clause-wrong
returns-in_err-place_for-2-clause-wrong c = λ fault is.
    let same = same_error _ _ (Wrong fault) c.from_residual-in_err-place_for-2.ensures is in
    inr (inl (c.in_err-place_for-2.ensures.wrong fault (ap Err same)))

pub returns-in_err-place_for-3-clause-wrong : goal.returns-in_err-place_for-3-clause-wrong
returns-in_err-place_for-3-clause-wrong c = λ fault is.
    let same = same_error _ _ (Wrong fault) c.from_residual-in_err-place_for-3.ensures is in
    inr (inr (inl (c.in_err-place_for-3.ensures.wrong fault (ap Err same))))
