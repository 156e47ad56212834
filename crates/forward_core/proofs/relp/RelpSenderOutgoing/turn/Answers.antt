use Rattle.std.proofs.Common.{◌≡◌, ◌∙◌, ◌++◌, ℕ, List, sym, ap, subst}
use Rattle.event_form.specs.Turn.{text_of}
use Rattle.relp_sender.specs.Sender.{given}
use Rattle.relp_sender.specs.Sends.{SendsOn}
use Rattle.relp_sender.specs.Spending.{IsSpent, spent}
use Rattle.relp_sender.specs.Turns as turns
use Rattle.relp_sender.specs.Turns.{IsToldOn, IsTurn}
use Rattle.forward_core.specs.Relp.{HasSent}
use Rattle.forward_core.specs.Turning.{also_of}
use Rattle.forward_core.proofs.Ends.{if_ok, if_both, if_three}
use Rattle.forward_core.proofs.RelpEnding.{Facts, facts_of, sent_on, same_also, tells_first, also_one, unfinished, ends_of, hints_of, waits_of, halts_of, cuts_of, spends, bound_of}
use Rattle.forward_core.proofs.relp.RelpSenderOutgoing.turn.Goals as goal

pub returns-clause-sent : goal.returns-clause-sent
returns-clause-sent c =
    let old = c.args.self.now in
    let new = c.turn.new.self in
    let first = c.turn.ensures.stays.first in
    if_ok (λ turn. SendsOn old (text_of turn) (turns.also_of old.first turn) new) _ c.turn.result (λ turn on entries fed out also was.
    let e : turns.also_of old.first turn ≡ also_of new.first turn = ap (λ (n : ℕ). turns.also_of n turn) (sym first) ∙ same_also new.first turn in
    subst (λ (l : List ℕ). HasSent new entries fed (out ++ text_of turn) (also ++ l)) e (sent_on old new (text_of turn) (turns.also_of old.first turn) on entries fed out also was)) c.turn.ensures.sends

pub returns-clause-told : goal.returns-clause-told
returns-clause-told c =
    let new = c.turn.new.self in
    let old = c.args.self.now in
    if_both (λ turn. IsTurn turn new) (λ turn. IsToldOn turn old.told new.told) _ c.turn.result (λ turn is on. tells_first turn new old.told is on) c.turn.ensures.turn c.turn.ensures.told

pub returns-clause-also : goal.returns-clause-also
returns-clause-also c = let new = c.turn.new.self in if_ok (λ turn. IsTurn turn new) _ c.turn.result (λ turn is. also_one turn new is) c.turn.ensures.turn

pub returns-clause-unfinished : goal.returns-clause-unfinished
returns-clause-unfinished c = let new = c.turn.new.self in if_ok (λ turn. IsTurn turn new) _ c.turn.result (λ turn is. unfinished turn new is) c.turn.ensures.turn

pub returns-clause-ends : goal.returns-clause-ends
returns-clause-ends c =
    let e = c.turn.ensures in
    let new = c.turn.new.self in
    if_ok (λ turn. Facts turn new) _ c.turn.result (λ turn f. ends_of turn new f) (facts_of c.turn.result new e.turn e.known e.all e.done e.left)

pub returns-clause-hints : goal.returns-clause-hints
returns-clause-hints c = let new = c.turn.new.self in if_ok (λ turn. IsTurn turn new) _ c.turn.result (λ turn is. hints_of turn new is) c.turn.ensures.turn

pub returns-clause-waits : goal.returns-clause-waits
returns-clause-waits c =
    let e = c.turn.ensures in
    let new = c.turn.new.self in
    if_ok (λ turn. Facts turn new) _ c.turn.result (λ turn f. waits_of turn new f) (facts_of c.turn.result new e.turn e.known e.all e.done e.left)

pub returns-clause-halts : goal.returns-clause-halts
returns-clause-halts c = halts_of c.turn.new.self c.turn.ensures.begins c.turn.ensures.most c.turn.ensures.sent

pub returns-clause-cuts : goal.returns-clause-cuts
returns-clause-cuts c =
    let e = c.turn.ensures in
    let old = c.args.self.now in
    let new = c.turn.new.self in
    if_three (λ turn. Facts turn new) (λ turn. SendsOn old (text_of turn) (turns.also_of old.first turn) new) (λ turn. IsToldOn turn old.told new.told) _ c.turn.result
    (λ turn f on told. cuts_of turn old new f on told e.sent_before e.begins) (facts_of c.turn.result new e.turn e.known e.all e.done e.left) e.sends e.told

pub returns-clause-spent : goal.returns-clause-spent
returns-clause-spent c =
    let e = c.turn.ensures in
    let old = c.args.self.now in
    let new = c.turn.new.self in
    if_both (λ turn. IsTurn turn new) (λ turn. IsSpent turn (spent old) (spent new)) _ c.turn.result (λ turn is on. spends turn new (spent old) (spent new) is on) e.turn e.spent

pub returns-clause-bound : goal.returns-clause-bound
returns-clause-bound c = let new = c.turn.new.self in bound_of (given new) (spent new) c.turn.ensures.bound
