-- An `open` asks for what its offer says.
use Rattle.std.proofs.Common.{rules, ◌≡◌, sym, subst}
use Rattle.std.specs.Prelude.{codes}
use Rattle.relp_frame.specs.Machine.{frame}
use Rattle.relp_session.specs.Request.{Asks}
use Rattle.relp_session.proofs.request.request_in.Goals as goal

pub returns-then-eq-2 : goal.returns-then-eq-2
returns-then-eq-2 c = λ txnr.
    let word : c.args.command.now ≡ codes "open" = search rules in
    subst (λ w. Asks (frame txnr w c.args.body.now) c.opening.result) (sym word) (c.opening.ensures txnr)
