use Rattle.std.proofs.Common.{arith}
use Rattle.proxy_head.specs.declared.limits.TheConstants.{LINE, SIGNATURE}
use Rattle.proxy_head.proofs.SignLaws.{whole_sign, too_few, no_head}
use Rattle.proxy_head.proofs.reader.read.Goals as goal

pub read_line-requires : goal.read_line-requires
read_line-requires c = whole_sign c.args.bytes.now LINE c.agreed-line.result c.agreed-line.ensures (omega arith)

pub read_block-requires : goal.read_block-requires
read_block-requires c = whole_sign c.args.bytes.now SIGNATURE c.agreed-block.result c.agreed-block.ensures (omega arith)

pub returns-then-at-bytes : goal.returns-then-at-bytes
returns-then-at-bytes c = too_few c.args.bytes.now c.agreed-line.result c.agreed-block.result c.max-at.result c.agreed-line.ensures c.agreed-block.ensures (omega arith) (λ l. omega (arith, l)) (omega arith)

pub returns : goal.returns
returns c = no_head c.args.bytes.now c.agreed-line.result c.agreed-block.result c.max-at.result c.agreed-line.ensures c.agreed-block.ensures (omega arith) (omega arith) (λ l. omega (arith, l)) (omega arith) (omega arith) (omega arith)
