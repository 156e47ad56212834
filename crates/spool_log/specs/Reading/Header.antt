-- The header of a device, as it is read.
use Rattle.std.specs.Prelude.{◌≡◌, ℕ, List}
use Rattle.foundation.specs.Bytes.{part}
use Rattle.spool_state.specs.Image.{header_text}
use Rattle.spool_state.specs.Rules.{slots_told, size_told}
use Rattle.spool_log.specs.declared.reading.header.Header.{Header}

-- the device begins with the text of this header, and so tells its numbers
pub record HasHeader (header : Header) (c : List ℕ) : Type 0 where
  pub text : part 0 20 c ≡ header_text header.slots header.size
  pub slots : slots_told c ≡ header.slots
  pub size : size_told c ≡ header.size
