use Rattle.std.proofs.Common.{refl}
use Rattle.forward_core.proofs.Standing.{stands_over}
use Rattle.forward_core.proofs.refill.close.Goals as goal

pub returns-clause-stands : goal.returns-clause-stands
returns-clause-stands g c = λ total. stands_over (g.S.Outgoing.has_sent c.args.sender.now) (g.S.Outgoing.has_sent c.finish.new.self) total c.args.course.now _ refl refl refl refl refl refl c.finish.ensures.sent
