use Rattle.std.proofs.Common.{inl, inr, refl, arith}
use Rattle.bridge_skip.proofs.Known.{in_one, in_more}
use Rattle.bridge_skip.proofs.releasing.is_in_some.Goals as goal
use Rattle.bridge_skip.proofs.releasing.is_in_some.Goals.{else-stretch-number-via-then-stretch-number+else-number-stretch, else-stretch-number-via-else-stretch-number}

pub returns-then-number-stretch : goal.returns-then-number-stretch
returns-then-number-stretch c = (
  λ _. in_one c.args.stretches.now c.loop-stretch.stretch-index c.args.number (record { from = 0; to = 0 }) c.loop-stretch-test.true (c.if-stretch-number.true, c.if-number-stretch.true),
  λ _. refl,
)

pub loop-stretch-preserved : goal.loop-stretch-preserved
loop-stretch-preserved c = λ is.
    elim (in_more c.args.stretches.now c.loop-stretch.stretch-index c.args.number (record { from = 0; to = 0 }) c.loop-stretch-test.true is) [
      | inl before ↦ c.loop-stretch.invariant before
      | inr here ↦
          let low = here.0 in
          let high = here.1 in
          elim c.else-stretch-number.branch [
            | else-stretch-number-via-then-stretch-number+else-number-stretch w ↦ omega (arith, low, high)
            | else-stretch-number-via-else-stretch-number w ↦ omega (arith, low, high)
          ]
    ]
