-- What the next item asks for.
use Rattle.std.proofs.Common.{rules, ◌≡◌, ◌<◌, None, Some, Ok, false, refl, sym, ap, subst, arith}
use Rattle.std.specs.Prelude.{IfOk, Option, Result}
use Rattle.event_form.specs.declared.talk.Talk.{Talk}
use Rattle.conn_serve.specs.declared.hec.asked.Asked.{Asked}
use Rattle.conn_serve.specs.declared.hec.intake.Intake.{Intake}
use Rattle.conn_serve.specs.HecReading.{IsSound, WasRead, extent_of}
use Rattle.conn_serve.specs.HecServing.{GivesAsked}
use Rattle.conn_serve.proofs.HecIntake.{at_judge, given_next, gives_from}
use Rattle.conn_serve.proofs.hec.intake.Intake.next_asked.Goals as goal

-- ---- an item of the window

pub returns-in-Ok-Some-clause-gives : goal.returns-in-Ok-Some-clause-gives
returns-in-Ok-Some-clause-gives c =
    let mid = c.next_ended.new.self in
    let w = c.next_held.new.window in
    let is : c.next_held.result ≡ Ok (Some c.in-Ok-Some.asked) = search rules in
    let g = subst (λ (r : Result (Option Asked) Talk). IfOk r (λ asked. GivesAsked c.args.core.now mid.window asked w)) is c.next_held.ensures.gives in
    (given_next c.args.core.now c.args.self.now mid w false c.in-Ok-Some.asked c.in_default.ensures.none g).0

pub returns-in-Ok-Some-clause-extent : goal.returns-in-Ok-Some-clause-extent
returns-in-Ok-Some-clause-extent c =
    let mid = c.next_ended.new.self in
    let w = c.next_held.new.window in
    let is : c.next_held.result ≡ Ok (Some c.in-Ok-Some.asked) = search rules in
    let g = subst (λ (r : Result (Option Asked) Talk). IfOk r (λ asked. GivesAsked c.args.core.now mid.window asked w)) is c.next_held.ensures.gives in
    (given_next c.args.core.now c.args.self.now mid w false c.in-Ok-Some.asked c.in_default.ensures.none g).1

pub returns-in-Ok-Some-clause-less : goal.returns-in-Ok-Some-clause-less
returns-in-Ok-Some-clause-less c =
    let mid = c.next_ended.new.self in
    let w = c.next_held.new.window in
    let is : c.next_held.result ≡ Ok (Some c.in-Ok-Some.asked) = search rules in
    let g = subst (λ (r : Result (Option Asked) Talk). IfOk r (λ asked. GivesAsked c.args.core.now mid.window asked w)) is c.next_held.ensures.gives in
    (given_next c.args.core.now c.args.self.now mid w false c.in-Ok-Some.asked c.in_default.ensures.none g).2

-- ---- the unfinished request

pub judge-requires : goal.judge-requires
judge-requires c =
    let mid = c.next_ended.new.self in
    let w = c.next_held.new.window in
    let is : c.next_held.result ≡ Ok None = search rules in
    let g = subst (λ (r : Result (Option Asked) Talk). IfOk r (λ asked. GivesAsked c.args.core.now mid.window asked w)) is c.next_held.ensures.gives in
    let at = at_judge c.args.core.now c.args.self.now mid w c.in_default.ensures.none g in
    record {
      waiting = at.1;
      space = at.2;
      sound = subst (λ (y : Intake). IsSound c.args.core.now y.window y.refused) (sym at.0) c.requires.sound;
      going = at.3;
      read = subst (λ (y : Intake). WasRead y.window y.refused) (sym at.0) c.requires.read;
    }

pub returns-in-Ok-clause-gives : goal.returns-in-Ok-clause-gives
returns-in-Ok-clause-gives c =
    let mid = c.next_ended.new.self in
    let w = c.next_held.new.window in
    let is : c.next_held.result ≡ Ok None = search rules in
    let g = subst (λ (r : Result (Option Asked) Talk). IfOk r (λ asked. GivesAsked c.args.core.now mid.window asked w)) is c.next_held.ensures.gives in
    let at = at_judge c.args.core.now c.args.self.now mid w c.in_default.ensures.none g in
    gives_from c.args.core.now c.args.self.now (record mid { window = w }) c.judge.new.self None at.0 c.in-Ok.ensures.gives

pub returns-in-Ok-clause-extent : goal.returns-in-Ok-clause-extent
returns-in-Ok-clause-extent c =
    let mid = c.next_ended.new.self in
    let w = c.next_held.new.window in
    let is : c.next_held.result ≡ Ok None = search rules in
    let g = subst (λ (r : Result (Option Asked) Talk). IfOk r (λ asked. GivesAsked c.args.core.now mid.window asked w)) is c.next_held.ensures.gives in
    let at = at_judge c.args.core.now c.args.self.now mid w c.in_default.ensures.none g in
    omega (arith, c.in-Ok.ensures.extent, ap extent_of at.0)
