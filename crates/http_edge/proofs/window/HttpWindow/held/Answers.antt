-- What is held is what contracts see.
use Rattle.std.proofs.Common.{◌∙◌, ap, subst}
use Rattle.http_edge.specs.Window.{CountsHeads, held_of}
use Rattle.http_edge.proofs.GiveLaws.{counted_is, counts}
use Rattle.http_edge.proofs.window.HttpWindow.held.Goals as goal

pub returns-clause-count : goal.returns-clause-count
returns-clause-count c = c.count.ensures.count ∙ counted_is c.self.inside.held c.self.invariant ∙ ap held_of c.self.view_is

pub returns-clause-heads : goal.returns-clause-heads
returns-clause-heads c = subst CountsHeads c.self.view_is (counts c.self.inside.held c.self.invariant)
