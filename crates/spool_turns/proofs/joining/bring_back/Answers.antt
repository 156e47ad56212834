use Rattle.std.proofs.Common.{List, [], ◌∷◌, ◌++◌, length, refl, sym, ap, ◌∙◌, arith, length-append, append_assoc}
use Rattle.std.specs.Vec.Iter.{into_iter_items}
use Rattle.event_form.specs.declared.event.Entry.{Entry}
use Rattle.spool_turns.proofs.joining.bring_back.Goals as goal

pub loop-group-init : goal.loop-group-init
loop-group-init c = (ap (λ (l : List Entry). l ++ into_iter_items c.args.group.now) (sym c.requires.none), omega (arith, ap (λ (l : List Entry). length l) c.requires.none), refl)

pub unreachable-requires : goal.unreachable-requires
unreachable-requires c =
    let i = c.loop-group.invariant in
    omega (
      arith,
      c.requires.some,
      ap (λ (l : List Entry). length l) i.0,
      length-append c.loop-group.place.items (into_iter_items c.loop-group.group),
      c.loop-group-test.true,
      c.len.ensures,
      c.loop-group.place.ok.0,
      c.loop-group.group.rest.ok.0,
      c.in_default.ensures.cases.0,
    )

pub push_reserved-requires : goal.push_reserved-requires
push_reserved-requires c = omega (arith, c.loop-group-test.true, c.len.ensures, c.loop-group.invariant.2, c.requires.room)

pub loop-group-smaller : goal.loop-group-smaller
loop-group-smaller c = omega (arith, c.loop-group-test.true, c.len.ensures, c.push_reserved.ensures.len)

pub loop-group-preserved : goal.loop-group-preserved
loop-group-preserved c =
    let i = c.loop-group.invariant in
    let p = c.push_reserved.ensures in
    let rest = into_iter_items c.next.new.self in (
      i.0 ∙ ap (λ (l : List Entry). c.loop-group.place.items ++ l) c.in-Some.ensures.items
          ∙ sym (append_assoc c.loop-group.place.items (c.in-Some.entry ∷ []) rest) ∙ ap (λ (l : List Entry). l ++ rest) (sym p.items),
      omega (arith, p.len, c.push_reserved.new.self.ok.0, c.loop-group-test.true, c.len.ensures),
      p.capacity ∙ i.2,
    )

pub returns-clause-items : goal.returns-clause-items
returns-clause-items c = c.loop-group.invariant.0

pub returns-clause-count : goal.returns-clause-count
returns-clause-count c = omega (arith, c.loop-group.invariant.1, c.loop-group-test.false, c.len.ensures, c.loop-group.place.ok.0)
