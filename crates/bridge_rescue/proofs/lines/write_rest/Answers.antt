use Rattle.std.proofs.Common.{refl}
use Rattle.bridge_parts.proofs.Writing.{stopped_as}
use Rattle.bridge_rescue.proofs.Gathering.{may_follow, gathered_all, gathered_cut}
use Rattle.bridge_rescue.proofs.lines.write_rest.Goals as goal

pub write_whole-requires : goal.write_whole-requires
write_whole-requires g c = record { permitted = may_follow (g.K.Sink.permits c.args.output.now) (g.K.Sink.taken c.args.output.now) c.args.lines.now (c.requires.prints c.args.output.now) }

pub returns-in-Ok-clause-printed : goal.returns-in-Ok-clause-printed
returns-in-Ok-clause-printed g c = λ entries start held. gathered_all entries start _ _ c.args.lines.now c.in-Ok.ensures.whole held

pub returns-in-Err-clause-printed : goal.returns-in-Err-clause-printed
returns-in-Err-clause-printed g c = λ entries start held.
    gathered_cut entries start _ _ c.args.lines.now
    (stopped_as c.args.lines.now c.args.lines.now c.in-Err.field-0.sent _ _ refl c.in-Err.ensures.part.0 c.in-Err.ensures.part.1) held
