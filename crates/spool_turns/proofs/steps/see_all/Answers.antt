use Rattle.std.proofs.Common.{ap, ◌∙◌, arith}
use Rattle.spool_turns.specs.Rules.{all_seen}
use Rattle.spool_turns.proofs.KeepsRule.{sees_all_as, releases_as}
use Rattle.spool_turns.proofs.steps.see_all.Goals as goal

pub load-requires : goal.load-requires
load-requires c =
    let a = c.admit.ensures in
    (a.tables.0 ∙ c.requires.tables.0, omega (arith, c.requires.tables.2), sees_all_as _ _ _ _ _ a.locked)

pub split_seat-requires : goal.split_seat-requires
split_seat-requires c =
    let a = c.admit.ensures in
    let l = c.load.ensures in
    let now = l.2 ∙ (λ i. (all_seen (a.locked i).0, (a.locked i).1)) in
    (l.0 ∙ a.tables.0 ∙ c.requires.tables.0, omega (arith, c.requires.tables.2), releases_as _ _ _ _ (ap (λ m. m.0) now))
