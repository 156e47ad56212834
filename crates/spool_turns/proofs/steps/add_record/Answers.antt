use Rattle.std.proofs.Common.{[], ap, ◌∙◌, arith}
use Rattle.spool_turns.specs.Rules.{recorded, released, caller_of}
use Rattle.spool_turns.proofs.KeepsRule.{records_as, releases_as}
use Rattle.spool_turns.proofs.steps.add_record.Goals as goal

pub load-requires : goal.load-requires
load-requires g c = (c.requires.tables.0, omega (arith, c.requires.tables.1), records_as _ _ _ _ g.C.Recorded.one _ c.requires.view)

pub split_seat-requires : goal.split_seat-requires
split_seat-requires g c =
    let l = c.load.ensures in
    let view = c.requires.view in
    let now = l.2 ∙ (λ i. (recorded g.C.Recorded.one (view i).0, (view i).1)) in
    (l.0 ∙ c.requires.tables.0, omega (arith, c.requires.tables.1), releases_as _ _ _ _ (ap (λ m. m.0) now))

pub returns-clause-tables : goal.returns-clause-tables
returns-clause-tables g c = (c.split_seat.ensures.0 ∙ c.load.ensures.0, c.split_seat.ensures.3 ∙ c.load.ensures.0)

pub returns-clause-locked : goal.returns-clause-locked
returns-clause-locked g c =
    let now = c.load.ensures.2 ∙ ap (λ x. (recorded g.C.Recorded.one x.0, x.1)) c.requires.view in
    c.split_seat.ensures.2 ∙ ap (λ x. (released x.0, x.1)) now

pub returns-clause-pass : goal.returns-clause-pass
returns-clause-pass g c =
    let now = c.load.ensures.2 ∙ ap (λ x. (recorded g.C.Recorded.one x.0, x.1)) c.requires.view in
    c.split_seat.ensures.4 ∙ ap (λ x. (caller_of x.0, [])) now
