use Rattle.std.proofs.Common.{arith}
use Rattle.proxy_head.proofs.LineLaws.{line_begins, line_begins_cr, no_cr_in_time, no_lf_in_time}
use Rattle.proxy_head.proofs.line.unended.Goals as goal

pub returns-then-bytes-le-LAST_CR : goal.returns-then-bytes-le-LAST_CR
returns-then-bytes-le-LAST_CR c = line_begins c.args.bytes.now c.requires.starts c.requires.none (omega arith)

pub returns-then-bytes-ne13 : goal.returns-then-bytes-ne13
returns-then-bytes-ne13 c = no_cr_in_time c.args.bytes.now c.requires.starts c.requires.none (omega arith) (λ e. omega (arith, e))

pub returns-then-bytes-le-LAST_LF : goal.returns-then-bytes-le-LAST_LF
returns-then-bytes-le-LAST_LF c = line_begins_cr c.args.bytes.now c.requires.starts c.requires.none (omega arith) (omega arith)

pub returns : goal.returns
returns c = no_lf_in_time c.args.bytes.now c.requires.starts c.requires.none (omega arith) (omega arith)
