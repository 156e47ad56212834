use Rattle.std.proofs.Common.{Err, [], sym, subst}
use Rattle.spool_log.specs.State.{view}
use Rattle.spool_move.specs.declared.fault.MoveFault.{MoveFault}
use Rattle.spool_move.specs.Walking.{GivesUp}
use Rattle.spool_move.proofs.Giving.{gives_ok, gives_err}
use Rattle.spool_move.proofs.walking.giving.give_up.Goals as goal

pub returns-in-Ok-clause-given : goal.returns-in-Ok-clause-given
returns-in-Ok-clause-given g c = λ s tells held. gives_ok s c.args.upto _ _ held (c.in-Ok.ensures.confirmed s [] tells held)

pub returns-in-Err-clause-given : goal.returns-in-Err-clause-given
returns-in-Err-clause-given g c = λ s tells held.
    let old = view c.args.source.now.memory c.args.source.now.doubt (g.D.Disk.moment c.args.source.now.disk) in
    let new = view c.confirm.new.self.memory c.confirm.new.self.doubt (g.D.Disk.moment c.confirm.new.self.disk) in
    subst (λ (f : MoveFault). GivesUp s c.args.upto (Err f) old new) (sym c.of_confirm.ensures)
    (gives_err s c.args.upto old new held c.in-Err.fault (c.in-Err.ensures.confirmed s [] tells held))
