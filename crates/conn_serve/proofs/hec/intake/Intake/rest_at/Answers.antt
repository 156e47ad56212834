-- Where the unfinished request begins.
use Rattle.std.proofs.Common.{subst, sym, refl, ap, Some, ◌∙◌}
use Rattle.std.specs.Prelude.{Option}
use Rattle.conn_serve.specs.declared.hec.intake.Refused.{Refused}
use Rattle.conn_serve.specs.HecReading.{TellsRest}
use Rattle.conn_serve.proofs.hec.intake.Intake.rest_at.Goals as goal

pub returns-in-None : goal.returns-in-None
returns-in-None c = subst (λ (x : Option Refused). TellsRest c.args.self.now.window x c.rest_at.result) (sym c.in-None.is) (c.rest_at.ensures.none, c.rest_at.ensures.some)

pub returns-in-Some : goal.returns-in-Some
returns-in-Some c = subst (λ (x : Option Refused). TellsRest c.args.self.now.window x (Some c.at.result)) (sym c.in-Some.is) (ap Some c.at.ensures)
