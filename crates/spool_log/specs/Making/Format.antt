-- What the making of an empty spool leaves of a device.
use Rattle.std.specs.Prelude.{◌≡◌, ◌≢◌, ◌⊎◌, ℕ, ◌<◌, List, length, slice_index}
use Rattle.foundation.specs.Bytes.{part, put}
use Rattle.edge_disk.specs.Disk.{Moment}
use Rattle.spool_state.specs.Image.{magic, StandsFor}
use Rattle.spool_state.specs.Empty.{empty_state}
use Rattle.spool_log.specs.declared.making.formatting.FormatFault.{FormatFault}
use Rattle.spool_log.specs.declared.making.formatting.FormatFault.TheVariants.{WrongLength, DiskFault}

-- it doesn't begin with the magic
abbrev pub HasNoName : List ℕ → Type 0
HasNoName c = part 0 8 c ≢ magic

-- A crash leaves what it could leave before, or no spool, or the empty one.
abbrev pub IsFormatStep : ℕ → ℕ → Moment → List ℕ → Type 0
IsFormatStep slots size before c = before.image c ⊎ HasNoName c ⊎ StandsFor (empty_state slots size) c

-- as long, and with the same first n bytes
pub record KeepsFront (n : ℕ) (old c : List ℕ) : Type 0 where
  pub len : length c ≡ length old
  pub front : (i : ℕ) → i < n → slice_index c i ≡ slice_index old i

-- while the magic is erased: as it was, or without it
abbrev pub IsEraseStep : List ℕ → List ℕ → Type 0
IsEraseStep old c = (c ≡ old) ⊎ HasNoName c

-- while the magic is written: still without it, or whole and all else as it was
abbrev pub IsNameStep : List ℕ → List ℕ → Type 0
IsNameStep old c = HasNoName c ⊎ (c ≡ put 0 magic old)

-- The length is wrong exactly where the device's isn't the wanted one. Both are told.
abbrev pub CameOf : ℕ → ℕ → FormatFault → Type 0
CameOf have want (WrongLength h w) = (h ≡ have) × (w ≡ want) × (have ≢ want)
CameOf have want DiskFault = have ≡ want
