use Rattle.std.proofs.Common.{◌+◌, ◌-◌, ◌∙◌, ap, arith}
use Rattle.foundation.specs.Bytes.{part}
use Rattle.spool_slots.proofs.Peeks.{short_none, head_none, long_none, size_told}
use Rattle.spool_slots.proofs.entry.length_at.Goals as goal

pub returns-then-rest-clause-found : goal.returns-then-rest-clause-found
returns-then-rest-clause-found g c = λ tells. short_none (c.args.at + c.args.from) (c.args.end - c.args.from) (g.D.Disk.moment c.args.disk.now).reads (omega (arith, c.if-rest.true, c.saturating_sub-rest.ensures))

pub returns-in_default-clause-found : goal.returns-in_default-clause-found
returns-in_default-clause-found g c = λ tells.
    let p = c.args.at + c.args.from in
    let is = c.bytes.ensures.value c.args.at _ (c.in_ok-cover.ensures.window tells) ∙ ap (part p 29) (c.cover.ensures.told tells).same in
    head_none p (c.args.end - c.args.from) _ (g.D.Disk.moment c.args.disk.now).reads is (omega (arith, c.if-rest.false, c.saturating_sub-rest.ensures)) (rw c.in_default.is at c.entry_length.ensures.none)

pub returns-then-length-rest-clause-found : goal.returns-then-length-rest-clause-found
returns-then-length-rest-clause-found g c = λ tells.
    let p = c.args.at + c.args.from in
    let is = c.bytes.ensures.value c.args.at _ (c.in_ok-cover.ensures.window tells) ∙ ap (part p 29) (c.cover.ensures.told tells).same in
    long_none p (c.args.end - c.args.from) _ (g.D.Disk.moment c.args.disk.now).reads is (omega (arith, c.if-rest.false, c.saturating_sub-rest.ensures)) _ c.in-Some.ensures.some (omega (arith, c.if-length-rest.true, c.saturating_sub-rest.ensures))

pub returns-clause-found : goal.returns-clause-found
returns-clause-found g c = λ tells.
    let p = c.args.at + c.args.from in
    let is = c.bytes.ensures.value c.args.at _ (c.in_ok-cover.ensures.window tells) ∙ ap (part p 29) (c.cover.ensures.told tells).same in
    size_told p (c.args.end - c.args.from) _ (g.D.Disk.moment c.args.disk.now).reads is (omega (arith, c.if-rest.false, c.saturating_sub-rest.ensures)) _ c.in-Some.ensures.some
