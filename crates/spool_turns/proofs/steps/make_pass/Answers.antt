use Rattle.std.proofs.Common.{ap, ◌∙◌, arith}
use Rattle.spool_turns.specs.Rules.{with_pass}
use Rattle.spool_turns.proofs.KeepsRule.{makes_pass_as, releases_as}
use Rattle.spool_turns.proofs.steps.make_pass.Goals as goal

pub store-requires : goal.store-requires
store-requires c = (c.requires.tables.0, omega (arith, c.requires.tables.1), makes_pass_as _ _ _ _ _ (omega (arith, c.requires.number.0)) c.requires.view)

pub split_seat-requires : goal.split_seat-requires
split_seat-requires c =
    let s = c.store.ensures in
    let view = c.requires.view in
    let now = s.2 ∙ (λ i. (with_pass (view i).0, (view i).1)) in
    (s.0 ∙ c.requires.tables.0, omega (arith, c.requires.tables.1), releases_as _ _ _ _ (ap (λ m. m.0) now))
