-- A run over frames ends with the first.
use Rattle.std.proofs.Common.{subst, arith}
use Rattle.lumber_frame.specs.Places.{IsUnfinished}
use Rattle.lumber_frame.specs.Running.{Ended, Breaks}
use Rattle.lumber_frame.proofs.RunningLaws.{all_of, finds_ends, finds_rest, finds_bad}
use Rattle.lumber_frame.proofs.run.find.Goals as goal

pub returns-in-Ends : goal.returns-in-Ends
returns-in-Ends c =
    let b = c.args.bytes.now in
    let x = c.in-Ends in
    finds_ends c.args.side b x.whole x.n (λ i. omega (arith, c.type_inv.bytes i)) (subst (λ v. Ended c.args.side v x.whole x.n) (all_of b) x.ensures)

pub returns-in-Rest : goal.returns-in-Rest
returns-in-Rest c =
    let b = c.args.bytes.now in
    finds_rest c.args.side b c.in-Rest.field-0 c.requires.spelled.0 c.requires.spelled.1 (subst (λ v. IsUnfinished c.args.side v c.in-Rest.field-0) (all_of b) c.in-Rest.ensures)

pub returns-in-Bad : goal.returns-in-Bad
returns-in-Bad c =
    let b = c.args.bytes.now in
    finds_bad c.args.side b c.in-Bad.field-0 c.in-Bad.field-1 c.requires.spelled.0 c.requires.spelled.1 (subst (λ v. Breaks c.args.side v c.in-Bad.field-1 c.in-Bad.field-0) (all_of b) c.in-Bad.ensures)
