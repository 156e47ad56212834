use Rattle.std.proofs.Common.{ap, ◌∙◌, subst, arith}
use Rattle.spool_turns.specs.Rules.{admitted, Learned}
use Rattle.spool_turns.proofs.KeepsRule.{hands_over_as, admits_as, learns_as}
use Rattle.spool_turns.proofs.steps.admit.Goals as goal

pub split_seat-whole-requires : goal.split_seat-whole-requires
split_seat-whole-requires c = (c.requires.tables.1, omega (arith, c.requires.tables.2), hands_over_as _ _ _ (ap (λ m. m.0) c.requires.views.1))

pub join_seat-requires : goal.join_seat-requires
join_seat-requires c =
    let v = c.requires.views in
    let t = c.requires.tables in
    let s = c.split_seat-whole.ensures in
    (t.0, s.3 ∙ t.1, ap (λ m. m.1) s.4, omega (arith, t.2), admits_as _ _ _ _ _ _ (ap (λ m. m.0) v.0) (ap (λ m. m.0) s.4 ∙ ap (λ m. m.0) v.1))

pub load-requires : goal.load-requires
load-requires c =
    let v = c.requires.views in
    let t = c.requires.tables in
    let s = c.split_seat-whole.ensures in
    let j = c.join_seat.ensures in
    let whole = ap (λ m. m.0) s.4 ∙ ap (λ m. m.0) v.1 in
    let now = j.2 ∙ (λ i. (admitted (ap (λ m. m.0) v.0 i) (whole i), ap (λ m. m.1) v.0 i)) in
    (j.0 ∙ t.0, omega (arith, t.2), learns_as _ _ _ _ _ now)

pub returns-clause-tables : goal.returns-clause-tables
returns-clause-tables c = (c.load.ensures.0 ∙ c.join_seat.ensures.0, c.split_seat-whole.ensures.0)

pub returns-clause-locked : goal.returns-clause-locked
returns-clause-locked c =
    let v = c.requires.views in
    let s = c.split_seat-whole.ensures in
    let whole = ap (λ m. m.0) s.4 ∙ ap (λ m. m.0) v.1 in
    let now = c.join_seat.ensures.2 ∙ (λ i. (admitted (ap (λ m. m.0) v.0 i) (whole i), ap (λ m. m.1) v.0 i)) in
    c.load.ensures.2.0 ∙ now

pub returns-clause-knew : goal.returns-clause-knew
returns-clause-knew c =
    let v = c.requires.views in
    let s = c.split_seat-whole.ensures in
    let whole = ap (λ m. m.0) s.4 ∙ ap (λ m. m.0) v.1 in
    let now = c.join_seat.ensures.2 ∙ (λ i. (admitted (ap (λ m. m.0) v.0 i) (whole i), ap (λ m. m.1) v.0 i)) in
    (subst (λ m. Learned m.0) now c.load.ensures.2.1).0
