use Rattle.std.proofs.Common.{◌∙◌}
use Rattle.bridge_parts.proofs.Writing.{stopped_as}
use Rattle.forward_core.proofs.Free.{may_follow}
use Rattle.bridge_serve.proofs.telling.print_summary.Goals as goal

pub write_whole-requires : goal.write_whole-requires
write_whole-requires g c = record { permitted = may_follow (g.K.Sink.permits c.args.output.now) (g.K.Sink.taken c.args.output.now) c.as_bytes.result.now (c.requires.prints c.args.output.now) }

pub returns-clause-line : goal.returns-clause-line
returns-clause-line g c = stopped_as _ c.as_bytes.result.now c.in-Err.field-0.sent _ _ (c.as_bytes.ensures.value ∙ c.in-Ok.ensures) c.in-Err.ensures.part.0 c.in-Err.ensures.part.1
