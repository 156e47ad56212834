use Rattle.std.proofs.Common.{◌∙◌, sym, arith}
use Rattle.std.proofs.lemmas.Bool.{false≢true}
use Rattle.bridge_rescue.proofs.Headers.{too_short, not_named, out_of_range, layout_there}
use Rattle.bridge_rescue.proofs.layout.Layout.read.Goals as goal

pub returns-then-len-lt20-clause-broken : goal.returns-then-len-lt20-clause-broken
returns-then-len-lt20-clause-broken g c = λ tells. too_short (g.D.Disk.moment c.args.disk.now) (g.met.D.Disk.lawful c.args.disk.now tells) (omega (arith, c.len.ensures))

pub returns-then-not-is_named-clause-broken : goal.returns-then-not-is_named-clause-broken
returns-then-not-is_named-clause-broken g c = λ tells.
    not_named (g.D.Disk.moment c.args.disk.now) (g.met.D.Disk.lawful c.args.disk.now tells) (omega (arith, c.len.ensures)) c.read_at.new.buf (c.in-Ok.ensures.read tells)
    (λ name. false≢true (sym c.if-not-is_named.true ∙ c.is_named.ensures.1 name))

pub returns-in-Some-clause-found : goal.returns-in-Some-clause-found
returns-in-Some-clause-found g c = λ tells.
    layout_there (g.D.Disk.moment c.args.disk.now) (g.met.D.Disk.lawful c.args.disk.now tells) (omega (arith, c.len.ensures)) c.read_at.new.buf (c.in-Ok.ensures.read tells)
    (c.is_named.ensures.0 c.if-not-is_named.false) c.from.result c.u64_at.result (c.from.ensures ∙ c.u32_at.ensures.value) c.u64_at.ensures.value
    c.in-Some.layout c.in-Some.ensures.0 c.in-Some.ensures.1

pub returns-in-None-clause-broken : goal.returns-in-None-clause-broken
returns-in-None-clause-broken g c = λ tells.
    out_of_range (g.D.Disk.moment c.args.disk.now) (g.met.D.Disk.lawful c.args.disk.now tells) (omega (arith, c.len.ensures)) c.read_at.new.buf (c.in-Ok.ensures.read tells)
    (c.is_named.ensures.0 c.if-not-is_named.false) c.from.result c.u64_at.result (c.from.ensures ∙ c.u32_at.ensures.value) c.u64_at.ensures.value c.in-None.ensures
