use Rattle.std.proofs.Common.{ℕ, ◌+◌, List, length, sym, ap, ◌∙◌, subst, arith}
use Rattle.std.specs.Prelude.{take, drop}
use Rattle.std.specs.Vec.Iter.{into_iter_items}
use Rattle.std.proofs.lemmas.List.{nil_from_length, length-take-le}
use Rattle.spool_turns.specs.Rules.{PassView}
use Rattle.spool_turns.specs.Passes.{facts_in}
use Rattle.spool_turns.proofs.EnteringAll.{IsEntering, locked_again, entering_first, entering_last, stands, leads_there, entering_next}
use Rattle.spool_turns.proofs.joint.enter_all.Goals as goal

pub loop-letter-init : goal.loop-letter-init
loop-letter-init g c =
    let n = g.J.Naming in
    let r = c.requires in
    let all = IsEntering n.start n.run n.seats c.args.stored c.args.before (g.D.Disk.moment c.args.alone.now.desk.spool.disk).clock c.args.group.now (facts_in c.args.locked.now.me.0) c.args.letters.items in (
      r.tables.0,
      subst (λ (k : List PassView × List PassView). all 0 c.args.locked.now.me k.0 k.1) (λ i. (sym c.into_iter-left.ensures.rest i, sym r.room.0 i))
          (entering_first _ _ _ _ _ _ _ _ _ _ r.view r.met r.group r.leads),
      omega (arith, c.into_iter-left.ensures.len, r.room.1, c.args.entered.now.ok.0, ap (λ (l : List PassView). length l) r.room.0),
    )

pub overflow_add-from : goal.overflow_add-from
overflow_add-from g c =
    let n = g.J.Naming in
    let i = c.loop-letter.invariant in
    let left = into_iter_items c.next.new.self in
    let all = IsEntering n.start n.run n.seats c.args.stored c.args.before (g.D.Disk.moment c.args.alone.now.desk.spool.disk).clock c.args.group.now (facts_in c.args.locked.now.me.0) c.args.letters.items in
    let h = subst (λ (l : List PassView). all c.loop-letter.from c.loop-letter.locked.me l c.loop-letter.entered.items) c.in-Some.ensures.items i.1 in
    let next = stands _ _ _ _ _ _ _ _ _ c.loop-letter.from c.loop-letter.locked.me c.in-Some.letter left c.loop-letter.entered.items h in
    omega (arith, next.fits, c.count-count.ensures.0, c.requires.numbers)

pub slice_bounds-first-end : goal.slice_bounds-first-end
slice_bounds-first-end g c = sym (length-take-le c.loop-letter.from c.args.group.now c.loop-letter.invariant.1.bound)

pub part_at-part-requires : goal.part_at-part-requires
part_at-part-requires g c =
    let n = g.J.Naming in
    let i = c.loop-letter.invariant in
    let left = into_iter_items c.next.new.self in
    let all = IsEntering n.start n.run n.seats c.args.stored c.args.before (g.D.Disk.moment c.args.alone.now.desk.spool.disk).clock c.args.group.now (facts_in c.args.locked.now.me.0) c.args.letters.items in
    let h = subst (λ (l : List PassView). all c.loop-letter.from c.loop-letter.locked.me l c.loop-letter.entered.items) c.in-Some.ensures.items i.1 in
    let next = stands _ _ _ _ _ _ _ _ _ c.loop-letter.from c.loop-letter.locked.me c.in-Some.letter left c.loop-letter.entered.items h in
    omega (arith, next.fits, c.count-count.ensures.0)

pub answer_of-answer-requires : goal.answer_of-answer-requires
answer_of-answer-requires g c =
    let n = g.J.Naming in
    let i = c.loop-letter.invariant in
    let left = into_iter_items c.next.new.self in
    let all = IsEntering n.start n.run n.seats c.args.stored c.args.before (g.D.Disk.moment c.args.alone.now.desk.spool.disk).clock c.args.group.now (facts_in c.args.locked.now.me.0) c.args.letters.items in
    let h = subst (λ (l : List PassView). all c.loop-letter.from c.loop-letter.locked.me l c.loop-letter.entered.items) c.in-Some.ensures.items i.1 in
    let next = stands _ _ _ _ _ _ _ _ _ c.loop-letter.from c.loop-letter.locked.me c.in-Some.letter left c.loop-letter.entered.items h in
    omega (arith, next.fits, c.count-count.ensures.0, c.requires.numbers, c.part_at-part.ensures.count, length-take-le c.loop-letter.from c.args.group.now i.1.bound)

pub enter-one-requires-clause-tables : goal.enter-one-requires-clause-tables
enter-one-requires-clause-tables g c = (c.loop-letter.invariant.0, c.requires.tables.1, c.requires.tables.2)

pub enter-one-requires-clause-view : goal.enter-one-requires-clause-view
enter-one-requires-clause-view g c = locked_again _ _ c.loop-letter.invariant.1.locked

pub enter-one-requires-clause-met : goal.enter-one-requires-clause-met
enter-one-requires-clause-met g c = c.loop-letter.invariant.1.met

pub enter-one-requires-clause-part : goal.enter-one-requires-clause-part
enter-one-requires-clause-part g c =
    let n = g.J.Naming in
    let i = c.loop-letter.invariant in
    let left = into_iter_items c.next.new.self in
    let all = IsEntering n.start n.run n.seats c.args.stored c.args.before (g.D.Disk.moment c.args.alone.now.desk.spool.disk).clock c.args.group.now (facts_in c.args.locked.now.me.0) c.args.letters.items in
    let h = subst (λ (l : List PassView). all c.loop-letter.from c.loop-letter.locked.me l c.loop-letter.entered.items) c.in-Some.ensures.items i.1 in
    let next = stands _ _ _ _ _ _ _ _ _ c.loop-letter.from c.loop-letter.locked.me c.in-Some.letter left c.loop-letter.entered.items h in
    let part = c.part_at-part.ensures.part ∙ ap (λ k. take k (drop c.loop-letter.from c.args.group.now)) c.count-count.ensures.0 ∙ next.here in
    part

pub enter-one-requires-clause-leads : goal.enter-one-requires-clause-leads
enter-one-requires-clause-leads g c =
    let n = g.J.Naming in
    let i = c.loop-letter.invariant in
    let left = into_iter_items c.next.new.self in
    let all = IsEntering n.start n.run n.seats c.args.stored c.args.before (g.D.Disk.moment c.args.alone.now.desk.spool.disk).clock c.args.group.now (facts_in c.args.locked.now.me.0) c.args.letters.items in
    let h = subst (λ (l : List PassView). all c.loop-letter.from c.loop-letter.locked.me l c.loop-letter.entered.items) c.in-Some.ensures.items i.1 in
    let next = stands _ _ _ _ _ _ _ _ _ c.loop-letter.from c.loop-letter.locked.me c.in-Some.letter left c.loop-letter.entered.items h in
    let part = c.part_at-part.ensures.part ∙ ap (λ k. take k (drop c.loop-letter.from c.args.group.now)) c.count-count.ensures.0 ∙ next.here in
    leads_there _ _ _ _ _ _ _ _ _ c.loop-letter.from c.loop-letter.locked.me c.in-Some.letter left c.loop-letter.entered.items h _ _ part c.answer_of-answer.ensures.is

pub push_reserved-requires : goal.push_reserved-requires
push_reserved-requires g c = omega (arith, c.loop-letter.invariant.2, c.in-Some.ensures.cases.1)

pub loop-letter-smaller : goal.loop-letter-smaller
loop-letter-smaller g c = omega (arith, c.in-Some.ensures.cases.1)

pub loop-letter-preserved : goal.loop-letter-preserved
loop-letter-preserved g c =
    let n = g.J.Naming in
    let i = c.loop-letter.invariant in
    let left = into_iter_items c.next.new.self in
    let all = IsEntering n.start n.run n.seats c.args.stored c.args.before (g.D.Disk.moment c.args.alone.now.desk.spool.disk).clock c.args.group.now (facts_in c.args.locked.now.me.0) c.args.letters.items in
    let h = subst (λ (l : List PassView). all c.loop-letter.from c.loop-letter.locked.me l c.loop-letter.entered.items) c.in-Some.ensures.items i.1 in
    let next = stands _ _ _ _ _ _ _ _ _ c.loop-letter.from c.loop-letter.locked.me c.in-Some.letter left c.loop-letter.entered.items h in
    let part = c.part_at-part.ensures.part ∙ ap (λ k. take k (drop c.loop-letter.from c.args.group.now)) c.count-count.ensures.0 ∙ next.here in
    let e = c.enter-one.ensures in
    let p = c.push_reserved.ensures in
    let there = entering_next _ _ _ _ _ _ _ _ _ c.loop-letter.from c.loop-letter.locked.me c.in-Some.letter left c.loop-letter.entered.items h _ _ c.enter-one.new.locked.me c.enter-one.result part c.answer_of-answer.ensures.is e.locked e.pass e.met in (
      e.table,
      subst (λ (k : ℕ × List PassView). all k.0 c.enter-one.new.locked.me left k.1) (λ j. (c.loop-letter.from + sym c.count-count.ensures.0 j, sym p.items j)) there,
      omega (arith, p.len, p.capacity, i.2, c.in-Some.ensures.cases.1),
    )

pub returns-clause-table : goal.returns-clause-table
returns-clause-table g c = c.loop-letter.invariant.0

pub returns-clause-locked : goal.returns-clause-locked
returns-clause-locked g c =
    let none = nil_from_length (into_iter_items c.loop-letter.left) (omega (arith, c.in_default.ensures.cases.0, c.loop-letter.left.rest.ok.0)) in
    (entering_last _ _ _ _ _ _ _ _ _ _ _ _ _ none c.loop-letter.invariant.1).0

pub returns-clause-met : goal.returns-clause-met
returns-clause-met g c = c.loop-letter.invariant.1.met

pub returns-clause-parts : goal.returns-clause-parts
returns-clause-parts g c =
    let none = nil_from_length (into_iter_items c.loop-letter.left) (omega (arith, c.in_default.ensures.cases.0, c.loop-letter.left.rest.ok.0)) in
    (entering_last _ _ _ _ _ _ _ _ _ _ _ _ _ none c.loop-letter.invariant.1).1

pub returns-clause-behind : goal.returns-clause-behind
returns-clause-behind g c = c.loop-letter.invariant.1.behind
