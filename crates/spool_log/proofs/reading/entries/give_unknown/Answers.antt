use Rattle.std.proofs.Common.{◌≡◌, ℕ, ◌+◌, ◌++◌, ◌∷◌, [], List, length, sym, ◌∙◌, ap, subst, arith, append_assoc, length-append, map-id}
use Rattle.std.proofs.lemmas.Iterator.Adapters.{YieldsList-from_vec}
use Rattle.std.proofs.lemmas.Iterator.Consumers.{YieldsList-turn, YieldsList-end}
use Rattle.event_form.specs.declared.event.Entry.{Entry}
use Rattle.event_form.specs.Entry.{IsEntry}
use Rattle.spool_state.specs.Left.{NumberedEntry, numbered, unknown}
use Rattle.spool_answers.specs.Pend.{given_entries, AreNumbered}
use Rattle.spool_log.proofs.Scans.Known.{unknown_more}
use Rattle.spool_log.proofs.reading.entries.give_unknown.Goals as goal

pub loop-entry-preserved : goal.loop-entry-preserved
loop-entry-preserved c =
    let inv = c.loop-entry.invariant in
    let numbers = c.args.numbers.now in
    let entries = c.args.entries.items in
    let yielded = c.loop-entry.yielded in
    let old = given_entries c.args.given.now.items in
    let turn = YieldsList-turn (YieldsList-from_vec entries c.into_iter-entry-iterator.ensures.into_iter_gives.0 (omega (arith, c.into_iter-entry-iterator.ensures.into_iter_gives.1))) yielded c.loop-entry.entry-iterator c.loop-entry.yielded_by c.next.result c.next.new.self c.in-Some.entry c.in-Some.is c.next.ensures.steps in
    record {
      counted = omega (arith, inv.counted, length-append yielded (c.in-Some.entry ∷ []));
      few = omega (arith, c.in_ok-give_one.ensures.few, inv.few, length-append yielded (c.in-Some.entry ∷ []));
      rising = λ from ge all before. c.in_ok-give_one.ensures.numbered from (omega (arith, ge, inv.counted)) (subst IsEntry (sym turn.1) (all (length yielded) c.in-Some.entry turn.0)) (inv.rising from ge all before);
      given = c.in_ok-give_one.ensures.given
          ∙ ap (λ (l : List NumberedEntry). l ++ unknown numbers (numbered c.loop-entry.number (c.in-Some.entry ∷ []))) inv.given
          ∙ append_assoc old (unknown numbers (numbered c.args.first yielded)) (unknown numbers (numbered c.loop-entry.number (c.in-Some.entry ∷ [])))
          ∙ ap (λ (l : List NumberedEntry). old ++ l) (sym (unknown_more numbers c.args.first c.loop-entry.number yielded c.in-Some.entry inv.counted));
    }

pub returns-clause-few : goal.returns-clause-few
returns-clause-few c =
    let end = YieldsList-end (YieldsList-from_vec c.args.entries.items c.into_iter-entry-iterator.ensures.into_iter_gives.0 (omega (arith, c.into_iter-entry-iterator.ensures.into_iter_gives.1))) c.loop-entry.yielded c.loop-entry.entry-iterator c.loop-entry.yielded_by c.next.result c.next.new.self c.in-None.is c.next.ensures.steps in
    omega (arith, c.loop-entry.invariant.few, end.1)

pub returns-clause-numbered : goal.returns-clause-numbered
returns-clause-numbered c = λ from ge all before.
    let end = YieldsList-end (YieldsList-from_vec c.args.entries.items c.into_iter-entry-iterator.ensures.into_iter_gives.0 (omega (arith, c.into_iter-entry-iterator.ensures.into_iter_gives.1))) c.loop-entry.yielded c.loop-entry.entry-iterator c.loop-entry.yielded_by c.next.result c.next.new.self c.in-None.is c.next.ensures.steps in
    let upto : c.loop-entry.number ≡ c.args.first + length c.args.entries.items = omega (arith, c.loop-entry.invariant.counted, end.1) in
    subst (λ (n : ℕ). AreNumbered from n c.loop-entry.given.items) upto (c.loop-entry.invariant.rising from ge all before)

pub returns-clause-given : goal.returns-clause-given
returns-clause-given c =
    let end = YieldsList-end (YieldsList-from_vec c.args.entries.items c.into_iter-entry-iterator.ensures.into_iter_gives.0 (omega (arith, c.into_iter-entry-iterator.ensures.into_iter_gives.1))) c.loop-entry.yielded c.loop-entry.entry-iterator c.loop-entry.yielded_by c.next.result c.next.new.self c.in-None.is c.next.ensures.steps in
    let all : c.loop-entry.yielded ≡ c.args.entries.items = sym (map-id c.loop-entry.yielded) ∙ end.0 in
    c.loop-entry.invariant.given ∙ ap (λ (l : List Entry). given_entries c.args.given.now.items ++ unknown c.args.numbers.now (numbered c.args.first l)) all
