use Rattle.std.proofs.Common.{arith}
use Rattle.proxy_head.proofs.BlockLaws.{part_begins, too_short}
use Rattle.proxy_head.proofs.block.sized.Goals as goal

pub returns-then-block-least_of : goal.returns-then-block-least_of
returns-then-block-least_of c = too_short c.args.bytes.now c.args.kind c.requires.starts (omega arith) c.requires.kind_is c.requires.few (omega arith)

pub returns-then-bytes-len : goal.returns-then-bytes-len
returns-then-bytes-len c = part_begins c.args.bytes.now c.args.kind c.requires.starts c.requires.inside c.requires.kind_is (omega arith) (omega arith) (omega arith)
