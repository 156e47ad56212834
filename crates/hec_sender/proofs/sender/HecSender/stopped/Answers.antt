use Rattle.std.proofs.Common.{sym, subst}
use Rattle.event_form.specs.declared.turn.Turn.{Turn}
use Rattle.hec_sender.specs.Turns.{Acts}
use Rattle.hec_sender.proofs.Writing.{act_stopped}
use Rattle.hec_sender.proofs.sender.HecSender.stopped.Goals as goal

pub returns : goal.returns
returns c =
    let s = c.args.self.now in
    subst (λ (turn : Turn). Acts s turn s) (sym c.turn.ensures) (act_stopped s c.args.stop c.settle.ensures c.requires)
