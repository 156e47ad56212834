use Rattle.std.proofs.Common.{sym, ap, ◌∙◌, arith}
use Rattle.spool_turns.proofs.Kept.{made_kept, made_pass, made_calls, made_real}
use Rattle.spool_turns.proofs.Levels.{level_beside}
use Rattle.spool_turns.proofs.journal.Journal.enter.Goals as goal

pub meet-requires-clause-tables : goal.meet-requires-clause-tables
meet-requires-clause-tables g c = (c.self.invariant.1 ∙ sym c.requires.tables.2, c.requires.seats.1 ∙ sym c.requires.tables.2, c.requires.tables.3)

pub meet-requires-clause-views : goal.meet-requires-clause-views
meet-requires-clause-views g c = ((c.self.invariant.2.desk, c.self.invariant.2.twin_is), (c.requires.made.before, c.requires.made.twin_is))

pub enter_call-requires-clause-tables : goal.enter_call-requires-clause-tables
enter_call-requires-clause-tables g c = (c.self.invariant.0 ∙ sym c.requires.tables.0, c.requires.seats.0 ∙ sym c.requires.tables.0, c.requires.tables.1)

pub enter_call-requires-clause-views : goal.enter_call-requires-clause-views
enter_call-requires-clause-views g c = (c.self.invariant.2.turn.locked, c.requires.pass)

pub enter_call-requires-clause-words : goal.enter_call-requires-clause-words
enter_call-requires-clause-words g c =
    let k = c.self.invariant.2 in
    let done = c.requires.made in
    let same = (c.meet.ensures.same done.before k.desk k.twin_is done.twin_is).0 in
    (omega (arith, k.turn.end, ap (λ a. a.end_told) same, done.makes.end_rises), omega (arith, k.turn.cursor, ap (λ a. a.cursor_told) same, done.makes.cursor_rises))

pub apart-requires-clause-table : goal.apart-requires-clause-table
apart-requires-clause-table g c = (c.meet.ensures.table ∙ c.self.invariant.1 ∙ sym c.requires.tables.2, c.requires.tables.3)

pub apart-requires-clause-view : goal.apart-requires-clause-view
apart-requires-clause-view g c =
    let k = c.self.invariant.2 in
    let done = c.requires.made in
    (done.before, k.desk, (c.meet.ensures.same done.before k.desk k.twin_is done.twin_is).1)

pub invariant_of-self : goal.invariant_of-self
invariant_of-self g c =
    let k = c.self.invariant.2 in
    let done = c.requires.made in
    let e = c.enter_call.ensures in
    let same = (c.meet.ensures.same done.before k.desk k.twin_is done.twin_is).0 in (
      e.tables.0 ∙ c.self.invariant.0,
      c.apart.ensures.tables.0 ∙ c.meet.ensures.table ∙ c.self.invariant.1,
      made_kept _ _ _ _ _ _ _ _ _ _ _ _ c.enter_call.new.alone k done same c.requires.may e.knew e.run (e.kept _) e.told e.ids _ _ e.locked c.apart.ensures.journal,
      level_beside _ _ _ c.apart.ensures.journal c.of-self-inside.ensures,
    )

pub returns-clause-seats : goal.returns-clause-seats
returns-clause-seats g c = (c.enter_call.ensures.tables.1 ∙ c.requires.seats.0, c.apart.ensures.tables.1 ∙ c.meet.ensures.table ∙ c.self.invariant.1)

pub returns-clause-twin : goal.returns-clause-twin
returns-clause-twin g c = c.apart.ensures.spool

pub returns-clause-pass : goal.returns-clause-pass
returns-clause-pass g c =
    let k = c.self.invariant.2 in
    let done = c.requires.made in
    let e = c.enter_call.ensures in
    let same = (c.meet.ensures.same done.before k.desk k.twin_is done.twin_is).0 in
    made_pass _ _ _ _ _ _ _ _ _ _ _ _ c.enter_call.new.alone k done same c.requires.may e.knew e.run (e.kept _) e.told e.ids _ e.pass

pub returns-clause-call : goal.returns-clause-call
returns-clause-call g c =
    let k = c.self.invariant.2 in
    let done = c.requires.made in
    let e = c.enter_call.ensures in
    let same = (c.meet.ensures.same done.before k.desk k.twin_is done.twin_is).0 in
    made_calls _ _ _ _ _ _ _ _ _ _ _ _ c.enter_call.new.alone k done same c.requires.may e.knew e.run (e.kept _) e.told e.ids _ e.pass

pub returns-clause-real : goal.returns-clause-real
returns-clause-real g c =
    let k = c.self.invariant.2 in
    let done = c.requires.made in
    let e = c.enter_call.ensures in
    let same = (c.meet.ensures.same done.before k.desk k.twin_is done.twin_is).0 in
    made_real _ _ _ _ _ _ _ _ _ _ _ _ c.enter_call.new.alone k done same c.requires.may e.knew e.run (e.kept _) e.told e.ids _ e.pass
