use Rattle.std.proofs.Common.{◌+◌, ◌-◌, ◌^◌, ◌<◌, ◌≤◌, length, ◌∙◌, ap, arith}
use Rattle.std.proofs.lemmas.List.{length-take}
use Rattle.std.proofs.Common.{drop}
use Rattle.foundation.specs.Bytes.{part}
use Rattle.spool_slots.proofs.Found.{none_short, head_found, gate_closed, count_none, size_large}
use Rattle.spool_slots.proofs.group.head_at.Goals as goal
use Rattle.spool_slots.proofs.group.head_at.Goals.{then-size-via-then-size, then-size-via-else-size+then-gate-size, then-text-ne1-via-then-text-ne1, then-text-ne1-via-else-text-ne1+then-head-eq0, then-text-ne1-via-else-text-ne1+else-head-eq0+then-from-size}

pub returns-then-size-clause-found : goal.returns-then-size-clause-found
returns-then-size-clause-found g c = λ tells.
    let reads = (g.D.Disk.moment c.args.disk.now).reads in
    let p = c.args.at + c.args.gate in
    let k = c.args.size - c.args.gate in
    let short = length-take k (drop p reads) in
    elim c.then-size.branch [
      | then-size-via-then-size w ↦ none_short (part p k reads) (omega (arith, short, w.if-size.true))
      | then-size-via-else-size+then-gate-size w ↦ none_short (part p k reads) (omega (arith, short, w.if-gate-size.true))
    ]

pub returns-then-text-ne1-clause-found : goal.returns-then-text-ne1-clause-found
returns-then-text-ne1-clause-found g c = λ tells.
    let lawful = g.met.D.Disk.lawful c.args.disk.now tells in
    let reads = (g.D.Disk.moment c.args.disk.now).reads in
    let p = c.args.at + c.args.gate in
    let k = c.args.size - c.args.gate in
    let room : p + k ≤ length reads = omega (arith, c.requires.place, c.if-gate-size.false, lawful.reads_size) in
    let is = c.bytes-text.ensures.value c.args.at _ (c.in_ok-cover.ensures.window tells) ∙ ap (part p 9) (c.cover.ensures.told tells).same in
    let fits : 9 ≤ k = omega (arith, c.if-gate-size.false, c.if-size.false) in
    let short : k < 2 ^ 32 = omega (arith, c.requires.small) in
    elim c.then-text-ne1.branch [
      | then-text-ne1-via-then-text-ne1 w ↦ gate_closed p k _ reads is room fits short w.if-text-ne1.true
      | then-text-ne1-via-else-text-ne1+then-head-eq0 w ↦ count_none p k _ reads is room fits short _ c.u32_at-2.ensures.bytes w.if-head-eq0.true
      | then-text-ne1-via-else-text-ne1+else-head-eq0+then-from-size w ↦ size_large p k _ reads is room fits short _ (omega arith) c.u32_at.ensures.bytes (omega (arith, w.if-from-size.true, w.from.ensures))
    ]

pub returns-clause-found : goal.returns-clause-found
returns-clause-found g c = λ tells.
    let lawful = g.met.D.Disk.lawful c.args.disk.now tells in
    let reads = (g.D.Disk.moment c.args.disk.now).reads in
    let p = c.args.at + c.args.gate in
    let k = c.args.size - c.args.gate in
    let room : p + k ≤ length reads = omega (arith, c.requires.place, c.if-gate-size.false, lawful.reads_size) in
    let is = c.bytes-text.ensures.value c.args.at _ (c.in_ok-cover.ensures.window tells) ∙ ap (part p 9) (c.cover.ensures.told tells).same in
    let fits : 9 ≤ k = omega (arith, c.if-gate-size.false, c.if-size.false) in
    let short : k < 2 ^ 32 = omega (arith, c.requires.small) in
    head_found p k _ reads is room fits short _ c.if-text-ne1.false c.u32_at.ensures.bytes c.u32_at-2.ensures.bytes (omega (arith, c.if-head-eq0.false)) (omega arith) (omega (arith, c.if-from-size.false, c.from.ensures))
