use Rattle.std.proofs.Common.{◌+◌, ◌-◌, ◌*◌, get_or, arith}
use Rattle.proxy_head.proofs.WordLaws.{no_digit, one_more, too_large}
use Rattle.proxy_head.proofs.words.number.Goals as goal

pub returns-then-not-is_ascii_digit : goal.returns-then-not-is_ascii_digit
returns-then-not-is_ascii_digit c = no_digit c.args.text.now c.loop-byte.byte-index (omega arith) (λ r. omega (arith, r, c.if-not-is_ascii_digit.ensures.cases))

pub returns-then-value-gt65535 : goal.returns-then-value-gt65535
returns-then-value-gt65535 c =
    let value = c.loop-byte.value in
    too_large c.args.text.now c.loop-byte.byte-index value (value * 10 + (get_or c.args.text.now c.loop-byte.byte-index 0 - 48)) (omega arith) c.if-not-is_ascii_digit.ensures.cases c.loop-byte.invariant.2 c.loop-byte.invariant.0 (omega arith) (omega arith)

pub loop-byte-preserved : goal.loop-byte-preserved
loop-byte-preserved c =
    let value = c.loop-byte.value in
    let m = one_more c.args.text.now c.loop-byte.byte-index value (value * 10 + (get_or c.args.text.now c.loop-byte.byte-index 0 - 48)) (omega arith) c.if-not-is_ascii_digit.ensures.cases c.loop-byte.invariant.2 c.loop-byte.invariant.0 (omega arith) in
    (omega (arith, m.0), omega arith, m.1)
