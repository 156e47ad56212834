use Rattle.std.proofs.Common.{rules, ◌≡◌}
use Rattle.std.specs.Int.{from_be_bytes}
use mir.Syntax.{w32}
use Rattle.foundation.specs.Bytes.{part}
use Rattle.spool_log.proofs.Scans.Headers.{text_of_header}
use Rattle.spool_log.proofs.reading.header.Header.of.Goals as goal

pub returns-clause-text : goal.returns-clause-text
returns-clause-text c = λ name.
    let slots : c.from_be_bytes.result ≡ from_be_bytes w32 (part 8 4 c.args.text.now) = search rules in
    text_of_header c.args.text.now c.from_be_bytes.result c.u64_at.result c.told-text c.fits-text slots c.u64_at.ensures.value name
