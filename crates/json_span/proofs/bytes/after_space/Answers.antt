use Rattle.std.proofs.Common.{sym, ◌∙◌}
use Rattle.json_span.proofs.Stretches.{spaces_more}
use Rattle.json_span.proofs.bytes.after_space.Goals as goal

pub loop-i-preserved : goal.loop-i-preserved
loop-i-preserved c = spaces_more c.args.bytes.now c.args.at c.loop-i.i c.loop-i.invariant c.loop-i-test.true (sym c.space.ensures ∙ c.if-not-space.false)
