use Rattle.std.proofs.lemmas.Result.{IfOk-weaker}
use Rattle.bridge_words.proofs.Apps.{adds_command}
use Rattle.bridge_words.proofs.grammar.with_command.Goals as goal

pub returns : goal.returns
returns c = λ app added is added_is.
    let own = rw c.in_ok-bridge.was at is in
    let other = rw c.in_ok-command.was at added_is in
    IfOk-weaker c.subcommand.result _ _ (λ r adds. adds_command app added _ _ r own other adds) c.subcommand.ensures
