use Rattle.std.proofs.Common.{ap, ◌∙◌, arith}
use Rattle.spool_turns.specs.Rules.{copy_of, merging}
use Rattle.spool_turns.proofs.KeepsRule.{copies_as, merges_as, compares_as}
use Rattle.spool_turns.proofs.steps.merge.Goals as goal

pub split_seat-copy-requires : goal.split_seat-copy-requires
split_seat-copy-requires c = (c.requires.tables.1, omega (arith, c.requires.tables.2), copies_as _ _ _ (ap (λ m. m.0) c.requires.views.1))

pub join_seat-requires : goal.join_seat-requires
join_seat-requires c =
    let v = c.requires.views in
    let t = c.requires.tables in
    let s = c.split_seat-copy.ensures in
    (t.0, s.3 ∙ t.1, ap (λ m. m.1) s.4, omega (arith, t.2), merges_as _ _ _ _ _ _ (ap (λ m. m.0) v.0) (ap (λ m. m.0) s.4 ∙ ap (λ m. copy_of m.0) v.1))

pub load-requires : goal.load-requires
load-requires c =
    let v = c.requires.views in
    let t = c.requires.tables in
    let s = c.split_seat-copy.ensures in
    let j = c.join_seat.ensures in
    let copy = ap (λ m. m.0) s.4 ∙ ap (λ m. copy_of m.0) v.1 in
    let now = j.2 ∙ (λ i. (merging (ap (λ m. m.0) v.0 i) (copy i), ap (λ m. m.1) v.0 i)) in
    (j.0 ∙ t.0, omega (arith, t.2), compares_as _ _ _ _ now)
