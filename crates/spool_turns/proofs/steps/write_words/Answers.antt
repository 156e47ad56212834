use Rattle.std.specs.Prelude.{false}
use Rattle.std.proofs.Common.{[], ap, ◌∙◌, arith}
use Rattle.spool_desk.specs.Standing.{standing_in}
use Rattle.spool_desk.specs.Runs.{runs_then}
use Rattle.spool_turns.specs.Rules.{with_end}
use Rattle.spool_turns.proofs.KeepsRule.{writes_end_as, writes_cursor_as}
use Rattle.spool_turns.proofs.steps.write_words.Goals as goal

pub store-requires : goal.store-requires
store-requires g c =
    let e = c.end-end.ensures in
    (c.requires.tables.0, omega (arith, c.requires.tables.1), writes_end_as _ _ _ _ _ _ (omega (arith, c.requires.words.0, e.runs.end_rises, e.known)) e.limit c.requires.view)

pub store-requires-2 : goal.store-requires-2
store-requires-2 g c =
    let s = c.store.ensures in
    let e = c.end-end.ensures in
    let k = c.cursor-cursor.ensures in
    let now = s.2 ∙ (λ i. (with_end c.end-end.result (c.requires.view i).0, (c.requires.view i).1)) in
    (s.0 ∙ c.requires.tables.0, omega (arith, c.requires.tables.1), writes_cursor_as _ _ _ _ _ _ (omega (arith, c.requires.words.1, e.runs.cursor_rises, k.runs.cursor_rises, k.known)) now)

pub returns-clause-run : goal.returns-clause-run
returns-clause-run g c = runs_then g.D.Disk.tells _ _ _ [] [] c.end-end.ensures.runs c.cursor-cursor.ensures.runs

pub returns-clause-kept : goal.returns-clause-kept
returns-clause-kept g c =
    let d = c.cursor-cursor.ensures.same.0 ∙ c.end-end.ensures.same.0 in
    let m = c.cursor-cursor.ensures.same.1 ∙ c.end-end.ensures.same.1 in
    λ call i. record { by = 0; call = call; joins = false; met = m i; after = standing_in (d i).spool.memory; clock = (g.D.Disk.moment (d i).spool.disk).clock }

pub returns-clause-told : goal.returns-clause-told
returns-clause-told g c =
    let e = c.end-end.ensures in
    let k = c.cursor-cursor.ensures in
    (omega (arith, e.least, e.known, k.same.2, ap (λ d. (standing_in d.spool.memory).end) k.same.0), omega (arith, k.least, k.known))

pub returns-clause-ids : goal.returns-clause-ids
returns-clause-ids g c = ap (λ d. d.ids) (c.cursor-cursor.ensures.same.0 ∙ c.end-end.ensures.same.0)
