use Rattle.std.proofs.Common.{rules, ◌≡◌, ◌++◌, ◌∷◌, [], ◌+◌, ◌-◌, sym, ap, ◌∙◌, subst, arith}
use Rattle.spool_log.specs.State.{view}
use Rattle.spool_desk.specs.Alone.{alone_view, alone_at}
use Rattle.spool_turns.specs.Rules.{facts, one_pass_more, new_pass}
use Rattle.desk_seats.specs.Passes.{known, fresh}
use Rattle.spool_turns.specs.Passes.{known_of, pass_in, facts_in, locked_of, pass_of}
use Rattle.spool_turns.proofs.Kept.{kept_first}
use Rattle.spool_turns.proofs.Levels.{level_beside}
use Rattle.spool_turns.proofs.NewPass.{new_pass_is}
use Rattle.spool_turns.proofs.Called.{fresh-more}
use Rattle.spool_turns.proofs.unnamed.Unnamed.named.Goals as goal

pub loop-i-preserved : goal.loop-i-preserved
loop-i-preserved g c =
    let i = c.loop-i.invariant in
    let d = c.make_pass-seat.ensures in
    let p = c.push_reserved.ensures in
    let a = c.args.self.alone in
    let new = ap (λ m. known_of (pass_in m.0)) (d.pass ∙ ap (λ m. pass_of (new_pass (facts_in m.0))) i.1) in
    let zero-sum : 0 + c.loop-i.i ≡ c.loop-i.i = omega arith in (
      d.tables.0 ∙ i.0,
      d.locked ∙ ap (λ m. locked_of (one_pass_more (facts_in m.0))) i.1,
      p.items ∙ (λ k. i.2 k ++ new k ∷ []) ∙ sym (fresh-more 0 c.loop-i.i a.end_told a.cursor_told ∙ ap (λ j. fresh 0 c.loop-i.i a.end_told a.cursor_told ++ known j [] [] a.end_told a.cursor_told ∷ []) zero-sum),
      search (rules, p.len, i.3),
      search (rules, p.capacity, i.4),
    )

pub invariant_of-journal : goal.invariant_of-journal
invariant_of-journal g c =
    let i = c.loop-i.invariant in
    let n = g.J.Naming in
    let u = c.args.self in
    let name = c.requires.name in
    let t = c.split-alone.ensures in
    let made : c.loop-i.i ≡ n.seats = omega (arith, c.requires.seats, c.loop-i-test.false, c.loop-i.auto.i-end) in (
      i.0 ∙ u.seated ∙ ap (λ k. k.seats) name.table_is,
      c.apart-other.ensures.tables.0 ∙ u.twin_seated ∙ ap (λ k. k.twins) name.table_is,
      kept_first g.D.Disk n.start n.run n.seats n.began c.split-alone.result.1 c.unused_ids.result _ _ u.alone c.split-alone.result.0 c.apart-other.ensures.journal
          (λ j. alone_view (view (t.same.0 j).memory (t.same.0 j).doubt (g.D.Disk.moment (t.same.0 j).disk)) (t.ids.1 j) (t.same.1 j) (t.same.2 j) (t.same.3 j)) t.ids.1 t.ids.0
          (i.1 ∙ ap (λ k. locked_of (facts k [] u.alone.end_told u.alone.cursor_told)) made)
          u.told c.unused_ids.ensures.sound (c.unused_ids.ensures.run ∙ sym u.ids_of_run) (g.met.D.Disk.lawful u.alone.desk.spool.disk) name.began_is
          (λ x s. let at = name.start_is x s in record { told = at.0; rules = at.1.rules; of_run = sym at.1.spool.knows.run ∙ sym u.run_is ∙ name.run_is; none_held = ap (λ t. t.held) at.1.ids ∙ u.none_held })
          (λ x s. (name.start_is x s).1),
      level_beside _ _ _ c.apart-other.ensures.journal c.of-level.ensures,
    )

pub invariant_of-shared-clause-run_of_start : goal.invariant_of-shared-clause-run_of_start
invariant_of-shared-clause-run_of_start g c = λ x s. c.args.self.run_is ∙ (c.requires.name.start_is x s).1.spool.knows.run

pub invariant_of-shared-clause-table_is : goal.invariant_of-shared-clause-table_is
invariant_of-shared-clause-table_is g c = ap (λ k. k.seats) c.requires.name.table_is

pub invariant_of-shared-clause-twins_are : goal.invariant_of-shared-clause-twins_are
invariant_of-shared-clause-twins_are g c = ap (λ k. k.twins) c.requires.name.table_is

pub invariant_of-turn-clause-twin_table : goal.invariant_of-turn-clause-twin_table
invariant_of-turn-clause-twin_table g c = c.apart-other.ensures.tables.1 ∙ c.args.self.twin_seated ∙ ap (λ k. k.twins) c.requires.name.table_is

pub invariant_of-turn-clause-twin_is : goal.invariant_of-turn-clause-twin_is
invariant_of-turn-clause-twin_is g c = c.apart-other.ensures.spool

pub apart-other-requires-clause-view : goal.apart-other-requires-clause-view
apart-other-requires-clause-view g c = (c.args.self.alone, c.args.self.alone, c.args.self.both)

pub invariant_of-push_reserved : goal.invariant_of-push_reserved
invariant_of-push_reserved g c =
    let i = c.loop-i.invariant in
    let u = c.args.self in
    let name = c.requires.name in
    let d = c.make_pass-seat.ensures in
    let it = new_pass_is g.D.Disk.tells g.J.Naming.start c.loop-i.i g.J.Naming.seats (alone_at u.alone) c.make_pass-seat.result.me (d.pass ∙ ap (λ m. pass_of (new_pass (facts_in m.0))) i.1)
    (omega (arith, c.loop-i-test.true, c.requires.seats)) u.told name.start_is in
    (d.tables.1 ∙ i.0 ∙ u.seated ∙ ap (λ k. k.seats) name.table_is, it.0, it.1, it.2, it.3, it.4)

pub returns-clause-passes : goal.returns-clause-passes
returns-clause-passes g c =
    let made : c.loop-i.i ≡ c.args.seats = omega (arith, c.loop-i-test.false, c.loop-i.auto.i-end) in
    c.loop-i.invariant.2 ∙ ap (λ k. fresh 0 k c.args.self.alone.end_told c.args.self.alone.cursor_told) made
