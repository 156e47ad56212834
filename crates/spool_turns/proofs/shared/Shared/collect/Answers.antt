use Rattle.std.proofs.Common.{◌∙◌, List, sym, ap, subst, arith}
use Rattle.std.proofs.lemmas.List.{take_all}
use Rattle.event_form.specs.declared.event.Entry.{Entry}
use Rattle.desk_access.specs.Call.{takes}
use Rattle.desk_seats.specs.Passes.{Known, Calls}
use Rattle.spool_turns.specs.Passes.{known_of, pass_in}
use Rattle.spool_turns.specs.Sent.{Sent}
use Rattle.spool_turns.proofs.shared.Shared.collect.Goals as goal

pub answer_for-answer-requires : goal.answer_for-answer-requires
answer_for-answer-requires g c = record { group = c.away.invariant.5; number = c.away.invariant.3 }

pub collect-front-requires : goal.collect-front-requires
collect-front-requires g c =
    let i = c.away.invariant in
    record {
      tables = (i.0 ∙ sym c.args.self.now.table_is, c.args.self.now.table_is, c.args.self.now.words);
      claim = i.1;
      number = c.answer_for-answer.ensures ∙ sym i.2;
    }

pub returns-clause-call : goal.returns-clause-call
returns-clause-call g c =
    let i = c.away.invariant in
    let k = c.collect-front.ensures in
    let whole = take_all c.collect-front.result.count _ (omega (arith, k.whole i.4)) in
    subst (λ (x : Known × List Entry). Calls g.J.Naming.start g.J.Naming.run g.J.Naming.seats x.0 (takes x.1 c.collect-front.result.answer) (known_of (pass_in c.collect-front.new.seat.me.0)))
    (λ j. ((c.away.view_is j).pass, (whole ∙ ap (λ (s : Sent). s.entries) c.away.view_is) j)) k.call
