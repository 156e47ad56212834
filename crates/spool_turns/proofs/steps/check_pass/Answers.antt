use Rattle.std.proofs.Common.{ap, ◌∙◌, arith}
use Rattle.spool_turns.specs.Rules.{admitted}
use Rattle.spool_turns.proofs.KeepsRule.{admits_as, releases_as, learns_as}
use Rattle.spool_turns.proofs.steps.check_pass.Goals as goal

pub join_seat-requires : goal.join_seat-requires
join_seat-requires c =
    let v = c.requires.views in
    let t = c.requires.tables in
    (t.0, t.1, ap (λ m. m.1) v.1, omega (arith, t.2), admits_as _ _ _ _ _ _ (ap (λ m. m.0) v.0) (ap (λ m. m.0) v.1))

pub load-requires : goal.load-requires
load-requires c =
    let v = c.requires.views in
    let t = c.requires.tables in
    let j = c.join_seat.ensures in
    let now = j.2 ∙ (λ i. (admitted (ap (λ m. m.0) v.0 i) (ap (λ m. m.0) v.1 i), ap (λ m. m.1) v.0 i)) in
    (j.0 ∙ t.0, omega (arith, t.2), learns_as _ _ _ _ _ now)

pub split_seat-seat-requires : goal.split_seat-seat-requires
split_seat-seat-requires c =
    let v = c.requires.views in
    let t = c.requires.tables in
    let j = c.join_seat.ensures in
    let now = j.2 ∙ (λ i. (admitted (ap (λ m. m.0) v.0 i) (ap (λ m. m.0) v.1 i), ap (λ m. m.1) v.0 i)) in
    let l = c.load.ensures in
    (l.0 ∙ j.0 ∙ t.0, omega (arith, t.2), releases_as _ _ _ _ (ap (λ m. m.0) (l.2.0 ∙ now)))
