-- The number lies in the second list.
use Rattle.std.proofs.Common.{◌≡◌, ◌+◌, ◌-◌, ◌∙◌, length, take, drop, ap, w32, arith}
use Rattle.std.specs.Int.{from_be_bytes}
use Rattle.foundation.proofs.Joined.{range_back}
use Rattle.lumber_frame.proofs.joined.number_at.Goals as goal

pub returns-then-at-front : goal.returns-then-at-front
returns-then-at-front c =
    let a = c.args.front.now in
    let b = c.args.back.now in
    let at = c.args.at in
    let n = length a in
    let e : at - n + 4 - (at - n) ≡ at + 4 - n - (at - n) = omega (arith, c.if-at-front.true) in
    c.number.ensures ∙ ap (from_be_bytes w32) (ap (λ k. take k (drop (at - n) b)) e ∙ range_back a b at (at + 4) (omega (arith, c.if-at-front.true)) (omega arith))
