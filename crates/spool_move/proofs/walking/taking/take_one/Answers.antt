use Rattle.std.proofs.Common.{[], Ok, Err, arith, subst}
use Rattle.event_form.specs.declared.event.Entry.{Entry}
use Rattle.spool_log.specs.State.{view}
use Rattle.spool_move.specs.Walking.{TakesOne}
use Rattle.spool_move.proofs.Taking.{takes_ok, takes_refused}
use Rattle.spool_move.proofs.walking.taking.take_one.Goals as goal

pub returns-in-Ok-clause-taken : goal.returns-in-Ok-clause-taken
returns-in-Ok-clause-taken g c = λ t tells held.
    let old = view c.args.target.now.memory c.args.target.now.doubt (g.E.Disk.moment c.args.target.now.disk) in
    let new = view c.take.new.self.memory c.take.new.self.doubt (g.E.Disk.moment c.take.new.self.disk) in
    subst (λ (e : Entry). TakesOne t e (Ok tt) old new) c.moved_entry.ensures
    (takes_ok t c.moved_entry.result old new held c.in-Ok.field-0 (c.in-Ok.ensures.taken t [] tells (omega arith) held))

pub returns-clause-taken : goal.returns-clause-taken
returns-clause-taken g c = λ t tells held.
    let old = view c.args.target.now.memory c.args.target.now.doubt (g.E.Disk.moment c.args.target.now.disk) in
    let new = view c.take.new.self.memory c.take.new.self.doubt (g.E.Disk.moment c.take.new.self.disk) in
    subst (λ (e : Entry). TakesOne t e (Err c.in-Err.fault) old new) c.moved_entry.ensures
    (takes_refused t c.moved_entry.result old new held c.in-Err.fault (c.in-Err.ensures.taken t [] tells (omega arith) held))
