-- For what a reader holds, and for bytes.
use Rattle.std.proofs.Common.{◌≡◌, []}
use Rattle.reply_laws.proofs.Reading.{bytes_read, parts_read, reads_first}
use Rattle.reply_laws.proofs.Spelling.{written_spells}
use Rattle.reply_laws.proofs.laws.written_is_read.Goals as goal

pub returns : goal.returns
returns c = record { spells = written_spells; reader = parts_read; bytes = bytes_read (λ rest held. held ≡ []); first = reads_first }
