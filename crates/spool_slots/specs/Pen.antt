-- A text that is written by way of a buffer.
use Rattle.std.specs.Prelude.{◌≡◌, ℕ, ◌+◌, ◌≤◌, List, ◌++◌, length, take}
use Rattle.foundation.specs.Bytes.{put, SameBut}
use Rattle.edge_disk.specs.Disk.{Moment}

-- From `start` on the disk has the text, but for its last bytes, which wait in the buffer to be written at `at`.
pub record HasWritten (start : ℕ) (base text : List ℕ) (at filled : ℕ) (buffer reads : List ℕ) : Type 0 where
  pub written : List ℕ
  pub whole : text ≡ written ++ take filled buffer
  pub here : at ≡ start + length written
  pub fits : start + length written ≤ length base
  pub on_disk : reads ≡ put start written base

-- Bytes of a disk, and bytes that come after them while n bytes from an offset on are written in pieces: no other byte of an image of m changed.
pub record GoesFilling (m : Moment) (at n : ℕ) (now torn : List ℕ) : Type 0 where
  pub from : List ℕ
  pub was : m.image from
  pub before : SameBut at n from now
  pub after : SameBut at n now torn
