use Rattle.commands.proofs.Releasing.{received_as}
use Rattle.commands.proofs.draining.send_both.Goals as goal

pub send-requires-clause-free : goal.send-requires-clause-free
send-requires-clause-free g c = λ link text. c.requires.prints link.sink.now text

pub send-requires-clause-releases : goal.send-requires-clause-releases
send-requires-clause-releases g c = λ disk n received. c.requires.releases disk n (received_as c.args.outward.now _ _ _ n
    (λ bytes text over. (
      (over.now.source.now, over.goes_on.0.1, over.gave),
      (over.now.sink.now, over.goes_on.1.1, over.took),
    )) received)
