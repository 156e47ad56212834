-- How the unfinished request is judged.
use Rattle.std.proofs.Common.{◌≡◌, ◌∙◌, None, Some, true, false, refl, sym, ap, subst}
use Rattle.std.specs.Prelude.{is_some, Option, IfSome}
use Rattle.hec_session.specs.Acts.{IsRefusal}
use Rattle.hec_session.specs.Codes.{IsReply}
use Rattle.hec_session.specs.declared.say.HecSay.{HecSay}
use Rattle.conn_serve.specs.declared.hec.intake.Intake.{Intake}
use Rattle.conn_serve.specs.declared.hec.intake.Refused.{Refused}
use Rattle.conn_serve.specs.HecReading.{WasRead}
use Rattle.conn_serve.proofs.HecIntake.{extent_left, judges, left_open, left_past, none_of, stays_read}
use Rattle.conn_serve.proofs.hec.intake.Intake.judge.Goals as goal

pub returns-then-self-clause-gives : goal.returns-then-self-clause-gives
returns-then-self-clause-gives c = stays_read c.args.core.now c.args.self.now c.args.self.now c.requires.sound refl refl

pub returns-then-self-clause-left : goal.returns-then-self-clause-left
returns-then-self-clause-left c = left_open c.args.self.now c.requires.waiting c.requires.space c.requires.going

pub returns-then-is_some-clause-gives : goal.returns-then-is_some-clause-gives
returns-then-is_some-clause-gives c = stays_read c.args.core.now c.args.self.now c.args.self.now c.requires.sound refl refl

pub returns-then-is_some-clause-left : goal.returns-then-is_some-clause-left
returns-then-is_some-clause-left c = left_open c.args.self.now c.requires.waiting c.requires.space c.requires.going

pub returns-in_default-clause-gives : goal.returns-in_default-clause-gives
returns-in_default-clause-gives c = stays_read c.args.core.now c.args.self.now c.args.self.now c.requires.sound refl refl

pub returns-in_default-clause-left : goal.returns-in_default-clause-left
returns-in_default-clause-left c = left_open c.args.self.now c.requires.waiting c.requires.space c.requires.going

-- ---- it leaves the window

pub leave-requires : goal.leave-requires
leave-requires c =
    let now = c.args.self.now in
    let none : now.refused ≡ None = none_of now.refused (sym c.is_some.ensures ∙ c.if-is_some.false) in
    record {
      waiting = c.requires.waiting;
      begun = ap is_some c.in-Some.ensures.0;
      fault = c.in-Some.ensures.1;
      reached = subst (λ (r : Option Refused). WasRead now.window r) none c.requires.read;
    }

pub returns-clause-gives : goal.returns-clause-gives
returns-clause-gives c =
    let now = c.args.self.now in
    let head = c.in-Some.head.now in
    let none : now.refused ≡ None = none_of now.refused (sym c.is_some.ensures ∙ c.if-is_some.false) in
    let refusal = subst (λ (r : Option HecSay). IfSome r (IsRefusal c.args.core.now head)) c.in-Some-2.is c.in_ok-reply.ensures.refused in
    let reply = subst (λ (r : Option HecSay). IfSome r IsReply) c.in-Some-2.is c.in_ok-reply.ensures.reply in
    let x : Refused = record { past = c.in_ok-past.past; reply = c.in-Some-2.reply; closing = c.closes-closing.result; ended = false } in
    let new : Intake = record now { window = c.leave.new.self; refused = Some x } in
    judges c.args.core.now now new x head none c.in-Some.ensures.0 c.in_ok-past.ensures.becomes refusal reply c.closes-closing.ensures refl c.in_ok-past.ensures.emptied refl

pub returns-clause-left : goal.returns-clause-left
returns-clause-left c =
    let now = c.args.self.now in
    let x : Refused = record { past = c.in_ok-past.past; reply = c.in-Some-2.reply; closing = c.closes-closing.result; ended = false } in
    let new : Intake = record now { window = c.leave.new.self; refused = Some x } in
    left_past new x now.window.reading.at c.in_ok-past.ensures.emptied refl refl

pub returns-clause-extent : goal.returns-clause-extent
returns-clause-extent c =
    let now = c.args.self.now in
    let none : now.refused ≡ None = none_of now.refused (sym c.is_some.ensures ∙ c.if-is_some.false) in
    let x : Refused = record { past = c.in_ok-past.past; reply = c.in-Some-2.reply; closing = c.closes-closing.result; ended = false } in
    let new : Intake = record now { window = c.leave.new.self; refused = Some x } in
    extent_left now new x none c.in_ok-past.ensures.becomes refl refl

-- ---- it may be wanted

pub returns-in_default-2-clause-gives : goal.returns-in_default-2-clause-gives
returns-in_default-2-clause-gives c = stays_read c.args.core.now c.args.self.now (record c.args.self.now { wanted = true }) c.requires.sound refl refl

pub returns-in_default-2-clause-left : goal.returns-in_default-2-clause-left
returns-in_default-2-clause-left c = left_open (record c.args.self.now { wanted = true }) c.requires.waiting c.requires.space c.requires.going
