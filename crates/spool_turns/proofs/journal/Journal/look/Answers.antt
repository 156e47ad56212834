use Rattle.std.proofs.Common.{sym, ap, ◌∙◌, subst, arith}
use Rattle.spool_turns.specs.Twins.{of_journal}
use Rattle.spool_turns.specs.Stands.{IsKept}
use Rattle.spool_turns.proofs.Levels.{level_beside, level_known}
use Rattle.spool_turns.proofs.journal.Journal.look.Goals as goal

pub meet-requires-clause-tables : goal.meet-requires-clause-tables
meet-requires-clause-tables g c = (c.self.invariant.1 ∙ sym c.requires.tables.2, c.requires.seats.1 ∙ sym c.requires.tables.2, c.requires.tables.3)

pub meet-requires-clause-views : goal.meet-requires-clause-views
meet-requires-clause-views g c = ((c.self.invariant.2.desk, c.self.invariant.2.twin_is), (c.args.alone.now, c.requires.twin))

pub learn-requires-clause-tables : goal.learn-requires-clause-tables
learn-requires-clause-tables g c = (c.self.invariant.0 ∙ sym c.requires.tables.0, c.requires.seats.0 ∙ sym c.requires.tables.0, c.requires.tables.1)

pub learn-requires-clause-views : goal.learn-requires-clause-views
learn-requires-clause-views g c = (c.self.invariant.2.turn.locked, c.requires.pass)

pub apart-requires-clause-table : goal.apart-requires-clause-table
apart-requires-clause-table g c = (c.meet.ensures.table ∙ c.self.invariant.1 ∙ sym c.requires.tables.2, c.requires.tables.3)

pub apart-requires-clause-view : goal.apart-requires-clause-view
apart-requires-clause-view g c =
    let k = c.self.invariant.2 in
    (c.args.alone.now, k.desk, (c.meet.ensures.same c.args.alone.now k.desk k.twin_is c.requires.twin).1)

pub invariant_of-self : goal.invariant_of-self
invariant_of-self g c =
    let n = g.J.Naming in
    let k = c.self.invariant.2 in
    let l = c.learn.ensures in
    let same = (c.meet.ensures.same c.args.alone.now k.desk k.twin_is c.requires.twin).0 in
    let seat = c.apart.ensures.journal ∙ ap (λ a. of_journal a) same in (
      l.same.0 ∙ c.self.invariant.0,
      c.apart.ensures.tables.0 ∙ c.meet.ensures.table ∙ c.self.invariant.1,
      subst (λ m. IsKept g.D.Disk n.start n.run n.seats n.began c.self.inside.ids m c.apart.new.both.me) (sym l.same.1)
          (record { desk = k.desk; twin_is = seat; turn = k.turn; replays = k.replays; met = k.met; told = k.told; unused = k.unused }),
      level_beside _ _ _ seat (level_known _ _ _ k.twin_is c.self.invariant.3),
    )

pub returns-clause-seats : goal.returns-clause-seats
returns-clause-seats g c = (c.learn.ensures.pass.0 ∙ c.requires.seats.0, c.apart.ensures.tables.1 ∙ c.meet.ensures.table ∙ c.self.invariant.1)

pub returns-clause-twin : goal.returns-clause-twin
returns-clause-twin g c = c.apart.ensures.spool

pub returns-clause-pass : goal.returns-clause-pass
returns-clause-pass g c = c.learn.ensures.pass.1

pub returns-clause-end : goal.returns-clause-end
returns-clause-end g c =
    let k = c.self.invariant.2 in
    let same = (c.meet.ensures.same c.args.alone.now k.desk k.twin_is c.requires.twin).0 in
    omega (arith, c.learn.ensures.knew.end_known, k.turn.end, ap (λ a. a.end_told) same)
