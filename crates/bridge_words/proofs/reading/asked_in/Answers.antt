use Rattle.std.proofs.Common.{ap}
use Rattle.std.specs.Prelude.{Err}
use Rattle.bridge_words.specs.declared.reading.Unread.TheVariants.{Wrong}
use Rattle.bridge_words.proofs.Together.{same_error}
use Rattle.bridge_words.proofs.reading.asked_in.Goals as goal

pub returns-in_err-command-clause-wrong : goal.returns-in_err-command-clause-wrong
returns-in_err-command-clause-wrong c = λ fault is.
    let same = same_error _ _ (Wrong fault) c.from_residual-in_err-command.ensures is in
    c.in_err-command.ensures.wrong fault (ap Err same)
