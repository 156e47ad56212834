use Rattle.std.proofs.Common.{ℕ, ◌<◌, ◌+◌, inl, inr, List, length, sym, ◌∙◌, subst, Option}
use Rattle.std.proofs.lemmas.Bool.{false≢true}
use Rattle.known_numbers.specs.declared.stretch.Stretch.{Stretch}
use Rattle.known_numbers.specs.Numbers.{AreApart, EndBy}
use Rattle.spool_log.specs.Device.{numbers_in}
use Rattle.spool_log.specs.Reading.Judging.{IsOrderOf}
use Rattle.spool_log.proofs.Scans.Orders.{some_items, judged_cursor, judged_known, judged_well}
use Rattle.spool_log.proofs.reading.judge.fault_place.Goals as goal
use Rattle.spool_log.proofs.reading.judge.fault_place.Goals.{then-content-oldest-via-then-content-oldest, then-content-oldest-via-else-content-oldest+then-content-end}

pub returns-then-content-oldest-clause-judged : goal.returns-then-content-oldest-clause-judged
returns-then-content-oldest-clause-judged c = λ size slots knows.
    let some : 0 < length c.args.opened.now = some_items c.args.opened.now (sym c.is_empty.ensures ∙ c.if-is_empty.false) in
    let order = subst (λ (r : Option ℕ). IsOrderOf size slots c.index-opened-0.result.ordinal c.index-opened-0.result.first r) c.in_default.is (c.first_at_fault.ensures.order size slots knows) in
    judged_cursor size slots c.args.opened.now (numbers_in c.args.content.now) c.args.cell knows c.index-opened-0.result some c.index-opened-0.is order c.index-opened-opened.result c.index-opened-opened.is
    (elim c.then-content-oldest.branch [
      | then-content-oldest-via-then-content-oldest w ↦ inl w.if-content-oldest.true
      | then-content-oldest-via-else-content-oldest+then-content-end w ↦ inr w.if-content-end.true
    ])

pub returns-then-not-are_among-clause-judged : goal.returns-then-not-are_among-clause-judged
returns-then-not-are_among-clause-judged c = λ size slots knows.
    let some : 0 < length c.args.opened.now = some_items c.args.opened.now (sym c.is_empty.ensures ∙ c.if-is_empty.false) in
    let order = subst (λ (r : Option ℕ). IsOrderOf size slots c.index-opened-0.result.ordinal c.index-opened-0.result.first r) c.in_default.is (c.first_at_fault.ensures.order size slots knows) in
    judged_known size slots c.args.opened.now (numbers_in c.args.content.now) c.args.cell knows c.index-opened-0.result some c.index-opened-0.is order c.index-opened-opened.result c.index-opened-opened.is
    (λ apart. false≢true (sym c.if-not-are_among.true ∙ c.are_among.ensures.1 (subst (λ (l : List Stretch). AreApart c.args.content.now.cursor l × EndBy (c.index-opened-opened.result.first + c.index-opened-opened.result.count) l) (sym c.deref.ensures.value) apart)))

pub returns-clause-judged : goal.returns-clause-judged
returns-clause-judged c = λ size slots knows.
    let some : 0 < length c.args.opened.now = some_items c.args.opened.now (sym c.is_empty.ensures ∙ c.if-is_empty.false) in
    let order = subst (λ (r : Option ℕ). IsOrderOf size slots c.index-opened-0.result.ordinal c.index-opened-0.result.first r) c.in_default.is (c.first_at_fault.ensures.order size slots knows) in
    judged_well size slots c.args.opened.now (numbers_in c.args.content.now) c.args.cell knows c.index-opened-0.result some c.index-opened-0.is order c.index-opened-opened.result c.index-opened-opened.is c.if-content-oldest.false c.if-content-end.false
    (subst (λ (l : List Stretch). AreApart c.args.content.now.cursor l × EndBy (c.index-opened-opened.result.first + c.index-opened-opened.result.count) l) c.deref.ensures.value (c.are_among.ensures.0 c.if-not-are_among.false))
