use Rattle.std.proofs.Common.{ℕ, List, length, get_or, sym, ◌∙◌, ap, arith}
use Rattle.foundation.proofs.Bytes.{get_or-part, length-part}
use Rattle.spool_slots.proofs.Scans.{head_read}
use Rattle.spool_slots.proofs.scan.read_head.Goals as goal

pub returns-then-head-ne1-clause-found : goal.returns-then-head-ne1-clause-found
returns-then-head-ne1-clause-found g c = λ tells one.
    let reads = (g.D.Disk.moment c.args.disk.now).reads in
    c.if-head-ne1.true (ap (λ (l : List ℕ). get_or l 0 0) (c.in_ok-read_at.ensures.read tells) ∙ get_or-part c.args.at 17 reads 0 c.args.at (omega arith) (omega arith) ∙ one)

pub returns-clause-found : goal.returns-clause-found
returns-clause-found g c = λ tells.
    let lawful = g.met.D.Disk.lawful c.args.disk.now tells in
    let reads = (g.D.Disk.moment c.args.disk.now).reads in
    let is = c.in_ok-read_at.ensures.read tells in
    let long = ap length is ∙ length-part c.args.at 17 reads (omega (arith, c.requires, lawful.reads_size)) in
    sym is ∙ head_read c.u64_at.result c.u64_at-2.result _ long c.if-head-ne1.false c.u64_at.ensures.bytes c.u64_at-2.ensures.bytes
