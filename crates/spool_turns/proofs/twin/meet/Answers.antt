use Rattle.std.proofs.Common.{ap, ◌∙◌, subst}
use Rattle.spool_turns.specs.Twins.{meeting, KnewOne}
use Rattle.spool_turns.proofs.KeepsTwins.{hands_over_as, meets_as, matches_as}
use Rattle.spool_turns.proofs.twin.meet.Goals as goal

pub split_seat-here-requires : goal.split_seat-here-requires
split_seat-here-requires g c = (c.requires.tables.1, c.requires.tables.2, hands_over_as _ _ _ (ap (λ m. m.0) c.requires.views.1.1))

pub join_seat-requires : goal.join_seat-requires
join_seat-requires g c =
    let v = c.requires.views in
    let t = c.requires.tables in
    let s = c.split_seat-here.ensures in
    (t.0, s.3 ∙ t.1, ap (λ m. m.1) s.4, t.2, meets_as _ _ _ _ _ _ (ap (λ m. m.0) v.0.1) (ap (λ m. m.0) s.4 ∙ ap (λ m. m.0) v.1.1))

pub load-requires : goal.load-requires
load-requires g c =
    let v = c.requires.views in
    let t = c.requires.tables in
    let s = c.split_seat-here.ensures in
    let j = c.join_seat.ensures in
    let here = ap (λ m. m.0) s.4 ∙ ap (λ m. m.0) v.1.1 in
    let now = j.2 ∙ (λ i. (meeting (ap (λ m. m.0) v.0.1 i) (here i), ap (λ m. m.1) v.0.1 i)) in
    (j.0 ∙ t.0, t.2, matches_as _ _ _ _ _ now)

pub returns-clause-table : goal.returns-clause-table
returns-clause-table g c = c.load.ensures.0 ∙ c.join_seat.ensures.0

pub returns-clause-same : goal.returns-clause-same
returns-clause-same g c = λ a b of_b of_a.
    let s = c.split_seat-here.ensures in
    let here = ap (λ m. m.0) s.4 ∙ ap (λ m. m.0) of_a in
    let now = c.join_seat.ensures.2 ∙ (λ i. (meeting (ap (λ m. m.0) of_b i) (here i), ap (λ m. m.1) of_b i)) in
    (subst (λ m. KnewOne m.0) now c.load.ensures.2.1, c.load.ensures.2.0 ∙ now)
