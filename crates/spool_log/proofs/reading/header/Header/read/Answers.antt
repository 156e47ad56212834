use Rattle.std.proofs.Common.{◌∙◌, sym, subst, arith}
use Rattle.std.proofs.lemmas.Bool.{false≢true}
use Rattle.spool_state.specs.Rules.{IsLayout}
use Rattle.spool_log.proofs.Scans.Headers.{too_short, not_named, not_measured, header_there}
use Rattle.spool_log.proofs.reading.header.Header.read.Goals as goal

pub returns-then-len-lt-FIRST_SLOT-clause-broken : goal.returns-then-len-lt-FIRST_SLOT-clause-broken
returns-then-len-lt-FIRST_SLOT-clause-broken g c = λ tells. too_short (g.D.Disk.moment c.args.disk.now) (g.met.D.Disk.lawful c.args.disk.now tells) (omega (arith, c.len-len.ensures))

pub returns-then-not-is_named-clause-broken : goal.returns-then-not-is_named-clause-broken
returns-then-not-is_named-clause-broken g c = λ tells.
    not_named (g.D.Disk.moment c.args.disk.now) (g.met.D.Disk.lawful c.args.disk.now tells) (omega (arith, c.len-len.ensures)) c.read_at.new.buf (c.in_ok-read_at.ensures.read tells) (λ name. false≢true (sym c.if-not-is_named.true ∙ c.is_named.ensures.1 name))

pub returns-then-not-fits-clause-broken : goal.returns-then-not-fits-clause-broken
returns-then-not-fits-clause-broken g c = λ tells.
    not_measured (g.D.Disk.moment c.args.disk.now) (g.met.D.Disk.lawful c.args.disk.now tells) (omega (arith, c.len-len.ensures)) c.read_at.new.buf (c.in_ok-read_at.ensures.read tells) (c.is_named.ensures.0 c.if-not-is_named.false)
    c.of-header.result c.of-header.ensures.slots c.of-header.ensures.size (λ layout. false≢true (sym c.if-not-fits.true ∙ c.fits.ensures.1 (subst (IsLayout c.of-header.result.slots c.of-header.result.size) (sym c.len-len.ensures) layout)))

pub returns-clause-known : goal.returns-clause-known
returns-clause-known g c = λ tells.
    header_there (g.D.Disk.moment c.args.disk.now) (g.met.D.Disk.lawful c.args.disk.now tells) (omega (arith, c.len-len.ensures)) c.read_at.new.buf (c.in_ok-read_at.ensures.read tells) (c.is_named.ensures.0 c.if-not-is_named.false)
    c.of-header.result c.of-header.ensures.slots c.of-header.ensures.size (c.of-header.ensures.text (c.is_named.ensures.0 c.if-not-is_named.false))
