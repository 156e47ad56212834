use Rattle.std.proofs.Common.{◌≡◌, ◌≤◌, ◌∙◌, List, length, sym, subst}
use Rattle.std.specs.Prelude.{take}
use Rattle.event_form.specs.declared.event.Entry.{Entry}
use Rattle.desk_access.specs.Call.{takes}
use Rattle.desk_access.specs.Batch.{MayTake, MayUse}
use Rattle.desk_access.specs.Legal.{IsNext, IsUnused}
use Rattle.desk_seats.specs.Passes.{Known, Calls}
use Rattle.spool_turns.specs.Passes.{known_of, pass_in}
use Rattle.spool_turns.proofs.Outward.{is_claim, number_out, claimed_is, entries_out, front_out}
use Rattle.spool_turns.proofs.shared.Shared.exchange.Goals as goal

pub send-letter-requires : goal.send-letter-requires
send-letter-requires g c =
    let i = c.pass.invariant in
    let may = subst (λ (k : Known). MayTake (IsNext g.J.Naming.run k.number k.own) c.args.entries.items × MayUse (IsUnused k.own) c.args.entries.items) (sym c.pass.view_is) (c.requires.next, c.requires.units) in
    record {
      tables = (i.0 ∙ sym c.args.self.now.table_is, c.args.self.now.table_is, c.args.self.now.words);
      pass = (i.1, i.5);
      number = (i.3, i.4);
      some = c.requires.some;
      few = c.requires.few;
      limits = c.requires.limits;
      next = subst (λ n. MayTake (IsNext g.J.Naming.run n (pass_in c.pass.inside.seat.me.0).own) c.args.entries.items) i.3 may.0;
      units = may.1;
      plain = c.requires.plain;
    }

pub collect-front-requires : goal.collect-front-requires
collect-front-requires g c =
    let i = c.pass.invariant in
    let s = c.send-letter.ensures in
    record {
      tables = (s.table ∙ i.0 ∙ sym c.args.self.now.table_is, c.args.self.now.table_is, c.args.self.now.words);
      claim = is_claim _ (pass_in c.pass.inside.seat.me.0) _ _ _ s.claim i.3;
      number = c.answer_for-answer.ensures ∙ sym (number_out _ (pass_in c.pass.inside.seat.me.0) _ _ _ s.claim i.3);
    }

pub invariant_of-pass : goal.invariant_of-pass
invariant_of-pass g c =
    let i = c.pass.invariant in
    let s = c.send-letter.ensures in
    let k = c.collect-front.ensures in
    (k.table ∙ s.table ∙ i.0, k.pass.0, k.pass.1, k.pass.2 ∙ number_out _ (pass_in c.pass.inside.seat.me.0) _ _ _ s.claim i.3, i.4, k.pass.3)

pub returns-clause-call : goal.returns-clause-call
returns-clause-call g c =
    let i = c.pass.invariant in
    let s = c.send-letter.ensures in
    let k = c.collect-front.ensures in
    subst (λ (x : Known × List Entry). Calls g.J.Naming.start g.J.Naming.run g.J.Naming.seats x.0 (takes (take c.collect-front.result.count x.1) c.collect-front.result.answer) (known_of (pass_in c.collect-front.new.seat.me.0)))
    (λ j. ((claimed_is _ (pass_in c.pass.inside.seat.me.0) _ _ _ s.claim i.3 ∙ c.pass.view_is) j, entries_out _ (pass_in c.pass.inside.seat.me.0) _ _ _ s.claim i.3 j)) k.call

pub returns-clause-same : goal.returns-clause-same
returns-clause-same g c = c.collect-front.ensures.same ∙ entries_out _ (pass_in c.pass.inside.seat.me.0) _ _ _ c.send-letter.ensures.claim c.pass.invariant.3

pub returns-clause-front : goal.returns-clause-front
returns-clause-front g c =
    let k = c.collect-front.ensures in
    (k.front.0, subst (λ (e : List Entry). c.collect-front.result.count ≤ length e) (entries_out _ (pass_in c.pass.inside.seat.me.0) _ _ _ c.send-letter.ensures.claim c.pass.invariant.3) k.front.1)

pub returns-clause-whole : goal.returns-clause-whole
returns-clause-whole g c =
    let i = c.pass.invariant.3 in
    let claim = c.send-letter.ensures.claim in
    λ whole. subst (λ (e : List Entry). c.collect-front.result.count ≡ length e) (entries_out _ (pass_in c.pass.inside.seat.me.0) _ _ _ claim i) (c.collect-front.ensures.whole (front_out _ (pass_in c.pass.inside.seat.me.0) _ _ _ claim i ∙ whole))

pub returns-clause-alone : goal.returns-clause-alone
returns-clause-alone g c = λ front. c.collect-front.ensures.alone (front_out _ (pass_in c.pass.inside.seat.me.0) _ _ _ c.send-letter.ensures.claim c.pass.invariant.3 ∙ front)
