use Rattle.std.proofs.Common.{arith}
use Rattle.proxy_head.proofs.BlockLaws.{family_begins, length_begins, too_many}
use Rattle.proxy_head.proofs.block.kinded.Goals as goal

pub returns-then-bytes-lt15 : goal.returns-then-bytes-lt15
returns-then-bytes-lt15 c = family_begins c.args.bytes.now c.args.kind c.requires.starts (omega arith) c.requires.kind_is

pub returns-then-bytes-gt15 : goal.returns-then-bytes-gt15
returns-then-bytes-gt15 c = too_many c.args.bytes.now c.args.kind c.requires.starts (omega arith) c.requires.kind_is (omega arith)

pub returns-then-bytes-lt16 : goal.returns-then-bytes-lt16
returns-then-bytes-lt16 c = length_begins c.args.bytes.now c.args.kind c.requires.starts (omega arith) c.requires.kind_is (omega arith)
