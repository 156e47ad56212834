use Rattle.std.proofs.Common.{◌≡◌, ◌∙◌, false, ap, subst, sym, arith}
use Rattle.std.specs.Prelude.{Some, slice_index}
use Rattle.relp_frame.specs.Reading.{Reader}
use Rattle.relp_sender.specs.declared.hearing.Heard.TheVariants.{Ignored, Opens, Acknowledged, Stopped}
use Rattle.relp_sender.specs.contracts.sender.RelpSender.{the_view}
use Rattle.relp_sender.specs.Sender.{HasRoom}
use Rattle.relp_sender.specs.Window.{beyond_of}
use Rattle.relp_sender.proofs.Frames.{sends_heard, sends_acknowledged, keeps_acknowledged}
use Rattle.relp_sender.proofs.Taking.{took}
use Rattle.relp_sender.proofs.sender.RelpSender.take_frame.Goals as goal

pub returns-in-Ignored-clause-sends : goal.returns-in-Ignored-clause-sends
returns-in-Ignored-clause-sends c = λ _ h was.
    let s = the_view c.self.inside in
    let p = c.in-Some-take_placed._placed in
    let t = took c.args.goes_on s c.args.self.now c.in-Some.heard Ignored p c.take_placed.new.self.waiting c.self.view_is c.in-Ignored.is c.in-Some.ensures.some c.in-Some-take_placed.ensures.gives in
    sends_heard Ignored s c.take_placed.new.self p.at p.frame c.self.invariant.0 t.goes t.alone t.may t.is c.in-Some-take_placed.ensures.reads h (rw (← c.self.view_is) at was)

pub returns-in-Opens-clause-sends : goal.returns-in-Opens-clause-sends
returns-in-Opens-clause-sends c = λ _ h was.
    let s = the_view c.self.inside in
    let p = c.in-Some-take_placed._placed in
    let t = took c.args.goes_on s c.args.self.now c.in-Some.heard Opens p c.take_placed.new.self.waiting c.self.view_is c.in-Opens.is c.in-Some.ensures.some c.in-Some-take_placed.ensures.gives in
    sends_heard Opens s c.take_placed.new.self p.at p.frame c.self.invariant.0 t.goes t.alone t.may t.is c.in-Some-take_placed.ensures.reads h (rw (← c.self.view_is) at was)

pub returns-clause-sends : goal.returns-clause-sends
returns-clause-sends c = λ _ h was.
    let s = the_view c.self.inside in
    let p = c.in-Some-take_placed._placed in
    let t = took c.args.goes_on s c.args.self.now c.in-Some.heard (Stopped c.in-Stopped.stop) p c.take_placed.new.self.waiting c.self.view_is c.in-Stopped.is c.in-Some.ensures.some c.in-Some-take_placed.ensures.gives in
    sends_heard (Stopped c.in-Stopped.stop) s c.take_placed.new.self p.at p.frame c.self.invariant.0 t.goes t.alone t.may t.is c.in-Some-take_placed.ensures.reads h (rw (← c.self.view_is) at was)

pub returns-in-Acknowledged-clause-sends : goal.returns-in-Acknowledged-clause-sends
returns-in-Acknowledged-clause-sends c = λ _ h was.
    let s = the_view c.self.inside in
    let p = c.in-Some-take_placed._placed in
    let index = c.in-Acknowledged.index in
    let t = took c.args.goes_on s c.args.self.now c.in-Some.heard (Acknowledged index) p c.take_placed.new.self.waiting c.self.view_is c.in-Acknowledged.is c.in-Some.ensures.some c.in-Some-take_placed.ensures.gives in
    let there : Some c.in-Some-remove.place ≡ Some (slice_index s.unanswered index) = c.in-Some-remove.ensures.succeeds 0 (omega (arith, t.is.2.inside, c.self.inside.unanswered.ok.0)) in
    let place : c.in-Some-remove.place ≡ slice_index s.unanswered index = cc in
    let after = c.beyond-self-inside.ensures ∙ ap (beyond_of index) place in
    sends_acknowledged index s c.take_placed.new.self p.at p.frame c.remove.new.self.items c.beyond-self-inside.result c.self.invariant.0 t.goes t.alone t.is c.in-Some-take_placed.ensures.reads c.in-Some-remove.ensures.items after h (rw (← c.self.view_is) at was)

pub invariant_of-self-in-Acknowledged : goal.invariant_of-self-in-Acknowledged
invariant_of-self-in-Acknowledged c =
    let s = the_view c.self.inside in
    let p = c.in-Some-take_placed._placed in
    let index = c.in-Acknowledged.index in
    let t = took c.args.goes_on s c.args.self.now c.in-Some.heard (Acknowledged index) p c.take_placed.new.self.waiting c.self.view_is c.in-Acknowledged.is c.in-Some.ensures.some c.in-Some-take_placed.ensures.gives in
    let there : Some c.in-Some-remove.place ≡ Some (slice_index s.unanswered index) = c.in-Some-remove.ensures.succeeds 0 (omega (arith, t.is.2.inside, c.self.inside.unanswered.ok.0)) in
    let place : c.in-Some-remove.place ≡ slice_index s.unanswered index = cc in
    let after = c.beyond-self-inside.ensures ∙ ap (beyond_of index) place in
    let asked : s.asked ≡ false = rw (← c.self.view_is) at c.requires.asked in (
      keeps_acknowledged index s c.take_placed.new.self p.at p.frame c.remove.new.self.items c.beyond-self-inside.result c.self.invariant.0 asked t.goes t.alone t.is c.in-Some-remove.ensures.items after,
      c.self.invariant.1 ∙ sym (ap (λ (r : Reader). r.fault) c.in-Some-take_placed.ensures.same),
      subst (HasRoom s.stage) (sym c.in-Some-remove.ensures.capacity) c.self.invariant.2,
    )
