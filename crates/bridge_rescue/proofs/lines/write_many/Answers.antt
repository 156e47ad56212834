use Rattle.edge_io.specs.declared.whole.Stopped.{Stopped}
use Rattle.conn_serve.proofs.Acting.{err_is}
use Rattle.bridge_parts.specs.Written.{IsCut}
use Rattle.bridge_parts.proofs.Writing.{stopped_as}
use Rattle.bridge_rescue.proofs.Gathering.{may_follow}
use Rattle.bridge_rescue.proofs.lines.write_many.Goals as goal

pub write_whole-requires : goal.write_whole-requires
write_whole-requires g c = record { permitted = may_follow (g.K.Sink.permits c.args.output.now) (g.K.Sink.taken c.args.output.now) c.deref.result.now (c.requires.prints c.args.output.now) }

pub returns-in_err-write_whole-clause-part : goal.returns-in_err-write_whole-clause-part
returns-in_err-write_whole-clause-part g c =
    let old = g.K.Sink.taken c.args.output.now in
    let new = g.K.Sink.taken c.write_whole.new.sink in
    let lines = c.args.lines.now.items in
    err_is c.from_residual.result _ (λ (stopped : Stopped). IsCut lines old new) c.from_residual.ensures.1
    (stopped_as lines c.deref.result.now c.in_err-write_whole.field-0.0.sent old new c.deref.ensures.value c.in_err-write_whole.ensures.part.0 c.in_err-write_whole.ensures.part.1)
