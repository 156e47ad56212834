-- The request that was read past is given.
use Rattle.std.proofs.Common.{None, refl, sym, subst}
use Rattle.conn_serve.specs.HecReading.{IsOpen}
use Rattle.conn_serve.proofs.HecIntake.{gives_ended, extent_ended, waits_ended, open_past, reply_of}
use Rattle.conn_serve.proofs.hec.intake.Intake.next_ended.Goals as goal

pub returns-in_default-clause-none : goal.returns-in_default-clause-none
returns-in_default-clause-none c = (refl, subst (IsOpen c.args.self.now.window) (sym c.in_default.is) tt)

pub returns-then-not-refused-clause-none : goal.returns-then-not-refused-clause-none
returns-then-not-refused-clause-none c =
    let now = c.args.self.now in
    (refl, open_past c.args.core.now now.window now.refused c.in-Some.refused c.in-Some.is c.if-not-refused.true c.requires)

pub returns-clause-gives : goal.returns-clause-gives
returns-clause-gives c =
    let now = c.args.self.now in
    gives_ended c.args.core.now now (record now { refused = None }) c.in-Some.refused c.in-Some.is c.if-not-refused.false c.requires refl refl

pub returns-clause-sound : goal.returns-clause-sound
returns-clause-sound c =
    let now = c.args.self.now in
    reply_of c.args.core.now now.window now.refused c.in-Some.refused c.in-Some.is c.requires

pub returns-clause-extent : goal.returns-clause-extent
returns-clause-extent c =
    let now = c.args.self.now in
    extent_ended now (record now { refused = None }) c.in-Some.refused c.in-Some.is c.if-not-refused.false refl refl

pub returns-clause-less : goal.returns-clause-less
returns-clause-less c =
    let now = c.args.self.now in
    waits_ended now (record now { refused = None }) c.in-Some.refused c.in-Some.is c.if-not-refused.false refl refl
