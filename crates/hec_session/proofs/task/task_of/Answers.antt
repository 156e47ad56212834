use Rattle.std.proofs.Common.{sym}
use Rattle.hec_session.proofs.CheckLaws.{answered}
use Rattle.hec_session.proofs.task.task_of.Goals as goal

pub returns-in_err-endpoint : goal.returns-in_err-endpoint
returns-in_err-endpoint c = answered _ _ c.from_residual.result c.in_err-endpoint.field-0.0 (sym c.in_err-endpoint.ensures) c.from_residual.ensures.1
