use Rattle.event_form.specs.Turn.{text_of}
use Rattle.lumber_sender.specs.Sender.{given}
use Rattle.lumber_sender.specs.Sends.{SendsOn}
use Rattle.lumber_sender.specs.Turns.{IsSpent, IsTold, IsTurn, spent}
use Rattle.forward_core.proofs.Ends.{if_ok, if_both, if_three}
use Rattle.forward_core.proofs.LumberEnding.{Facts, facts_of, sent_also, tells_first, also_one, unfinished, ends_of, not_closed, waits_of, halts_of, cuts_of, spends, bound_of}
use Rattle.forward_core.proofs.lumber.LumberSenderOutgoing.turn.Goals as goal

pub returns-clause-sent : goal.returns-clause-sent
returns-clause-sent c =
    let old = c.args.self.now in
    let new = c.turn.new.self in
    if_both (λ turn. IsTurn turn new) (λ turn. SendsOn old (text_of turn) new) _ c.turn.result (λ turn is on. sent_also old new turn new.first is on) c.turn.ensures.turn c.turn.ensures.sends

pub returns-clause-told : goal.returns-clause-told
returns-clause-told c =
    let new = c.turn.new.self in
    let old = c.args.self.now in
    if_both (λ turn. IsTurn turn new) (λ turn. IsTold turn old.told new.told) _ c.turn.result (λ turn is on. tells_first turn new old.told is on) c.turn.ensures.turn c.turn.ensures.told

pub returns-clause-also : goal.returns-clause-also
returns-clause-also c = let new = c.turn.new.self in if_ok (λ turn. IsTurn turn new) _ c.turn.result (λ turn is. also_one turn new is) c.turn.ensures.turn

pub returns-clause-unfinished : goal.returns-clause-unfinished
returns-clause-unfinished c = let new = c.turn.new.self in if_ok (λ turn. IsTurn turn new) _ c.turn.result (λ turn is. unfinished turn new is) c.turn.ensures.turn

pub returns-clause-ends : goal.returns-clause-ends
returns-clause-ends c =
    let e = c.turn.ensures in
    let new = c.turn.new.self in
    if_ok (λ turn. Facts turn new) _ c.turn.result (λ turn f. ends_of turn new f) (facts_of c.turn.result new e.side e.turn e.known e.all e.done e.left)

pub returns-clause-hints : goal.returns-clause-hints
returns-clause-hints c = let new = c.turn.new.self in if_ok (λ turn. IsTurn turn new) _ c.turn.result (λ turn is closed entries fed out also was. not_closed turn new is closed) c.turn.ensures.turn

pub returns-clause-waits : goal.returns-clause-waits
returns-clause-waits c =
    let e = c.turn.ensures in
    let new = c.turn.new.self in
    if_ok (λ turn. Facts turn new) _ c.turn.result (λ turn f. waits_of turn new f) (facts_of c.turn.result new e.side e.turn e.known e.all e.done e.left)

pub returns-clause-halts : goal.returns-clause-halts
returns-clause-halts c = let e = c.turn.ensures in halts_of c.turn.new.self e.side e.begins e.most e.sent

pub returns-clause-cuts : goal.returns-clause-cuts
returns-clause-cuts c =
    let e = c.turn.ensures in
    let old = c.args.self.now in
    let new = c.turn.new.self in
    if_three (λ turn. Facts turn new) (λ turn. SendsOn old (text_of turn) new) (λ turn. IsTold turn old.told new.told) _ c.turn.result
    (λ turn f on told. cuts_of turn old new f on (record { given_is = e.given; finished = e.finished; sent = e.sent_before }) told e.begins) (facts_of c.turn.result new e.side e.turn e.known e.all e.done e.left) e.sends e.told

pub returns-clause-spent : goal.returns-clause-spent
returns-clause-spent c =
    let e = c.turn.ensures in
    let old = c.args.self.now in
    let new = c.turn.new.self in
    if_both (λ turn. IsTurn turn new) (λ turn. IsSpent turn (spent old) (spent new)) _ c.turn.result (λ turn is on. spends turn new (spent old) (spent new) is on) e.turn e.spent

pub returns-clause-bound : goal.returns-clause-bound
returns-clause-bound c = let new = c.turn.new.self in bound_of (given new) (spent new) c.turn.ensures.bound
