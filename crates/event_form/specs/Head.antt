-- What an entry's head tells.
use Rattle.std.specs.Prelude.{◌≡◌, ℕ, ◌≤◌, List, length, take, drop, slice_index}
use Rattle.std.specs.Int.{from_be_bytes}
use mir.Syntax.{w64}
use Rattle.event_form.specs.declared.limits.TheConstants.{HEAD_BYTES, MOST_TEXT}
use Rattle.event_form.specs.declared.event.Entry.{Entry}
use Rattle.event_form.specs.declared.reading.Head.{Head}
use Rattle.event_form.specs.Entry.{origin_code}
use Rattle.event_form.specs.Reading.{told_length}

-- what a head tells is what stands in the bytes, and the text isn't too long
pub record Tells (bytes : List ℕ) (head : Head) : Type 0 where
  pub there : HEAD_BYTES ≤ length bytes
  pub origin : slice_index bytes 0 ≡ origin_code head.origin
  pub conn : head.conn ≡ from_be_bytes w64 (take 8 (drop 1 bytes))
  pub index : head.index ≡ from_be_bytes w64 (take 8 (drop 9 bytes))
  pub unit : head.unit ≡ from_be_bytes w64 (take 8 (drop 17 bytes))
  pub length : head.length ≡ told_length bytes
  pub short : head.length ≤ MOST_TEXT

-- the entry of that head and text
abbrev pub entry_of : Head → List ℕ → Entry
entry_of head text = record { conn = head.conn; index = head.index; unit = head.unit; event = record { origin = head.origin; text = text } }
