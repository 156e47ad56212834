use Rattle.std.proofs.Common.{◌≡◌, sym, ap, ◌∙◌, subst}
use Rattle.hec_ids.specs.Table.{Table}
use Rattle.hec_ids.specs.Table as Ids
use Rattle.spool_turns.proofs.Stored.{stored_all}
use Rattle.spool_turns.proofs.Levels.{level_beside}
use Rattle.spool_turns.proofs.journal.Journal.answer_group.Goals as goal

pub meet-requires-clause-tables : goal.meet-requires-clause-tables
meet-requires-clause-tables g c = (c.self.invariant.1 ∙ sym c.requires.tables.2, c.requires.seat ∙ sym c.requires.tables.2, c.requires.tables.3)

pub meet-requires-clause-views : goal.meet-requires-clause-views
meet-requires-clause-views g c = ((c.self.invariant.2.desk, c.self.invariant.2.twin_is), (c.requires.made.from, c.requires.made.twin_is))

pub enter_group-requires-clause-tables : goal.enter_group-requires-clause-tables
enter_group-requires-clause-tables g c = (c.self.invariant.0, c.requires.tables.0, c.requires.tables.1)

pub enter_group-requires-clause-stored : goal.enter_group-requires-clause-stored
enter_group-requires-clause-stored g c =
    let k = c.self.invariant.2 in
    let done = c.requires.made in
    stored_all _ _ _ _ _ _ _ _ _ _ _ _ _ k done (c.meet.ensures.same done.from k.desk k.twin_is done.twin_is).0

pub apart-requires-clause-table : goal.apart-requires-clause-table
apart-requires-clause-table g c = (c.meet.ensures.table ∙ c.self.invariant.1 ∙ sym c.requires.tables.2, c.requires.tables.3)

pub apart-requires-clause-view : goal.apart-requires-clause-view
apart-requires-clause-view g c =
    let k = c.self.invariant.2 in
    let done = c.requires.made in
    (done.from, k.desk, (c.meet.ensures.same done.from k.desk k.twin_is done.twin_is).1)

pub invariant_of-self : goal.invariant_of-self
invariant_of-self g c =
    let k = c.self.invariant.2 in
    let done = c.requires.made in
    let e = c.enter_group.ensures in
    let same = (c.meet.ensures.same done.from k.desk k.twin_is done.twin_is).0 in (
      e.table,
      c.apart.ensures.tables.0 ∙ c.meet.ensures.table ∙ c.self.invariant.1,
      record {
        desk = c.enter_group.new.alone;
        twin_is = c.apart.ensures.journal;
        turn = e.turn;
        replays = e.replays;
        met = e.met;
        told = e.told;
        unused = subst (λ (t : Table). Ids.IsSound t × (t.run ≡ c.self.inside.ids.run)) (sym (e.ids ∙ done.same_ids ∙ ap (λ a. a.desk.ids) same)) k.unused;
      },
      level_beside _ _ _ c.apart.ensures.journal c.of-self-inside.ensures,
    )

pub returns-clause-seat : goal.returns-clause-seat
returns-clause-seat g c = c.apart.ensures.tables.1 ∙ c.meet.ensures.table ∙ c.self.invariant.1

pub returns-clause-twin : goal.returns-clause-twin
returns-clause-twin g c = c.apart.ensures.spool

pub enter_group-requires-clause-numbers : goal.enter_group-requires-clause-numbers
enter_group-requires-clause-numbers g c = c.requires.numbers
