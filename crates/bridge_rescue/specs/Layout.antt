-- How many slots a device has, and how long each is.
use Rattle.std.specs.Prelude.{◌≡◌, ◌⊎◌, ℕ, ◌≤◌, List, length}
use Rattle.foundation.specs.Bytes.{part}
use Rattle.spool_state.specs.Layout.{header_length, most_slots, least_size, most_size}
use Rattle.spool_state.specs.Image.{magic}
use Rattle.spool_state.specs.Rules.{slots_told, size_told}
use Rattle.notes.specs.declared.note.Note.{Note}
use Rattle.notes.specs.declared.note.Note.TheVariants.{NotSpool, DiskFault}

-- A device may have so many slots of this size.
pub record IsInRange (slots size : ℕ) : Type 0 where
  pub some : 1 ≤ slots
  pub few : slots ≤ most_slots
  pub large : least_size ≤ size
  pub small : size ≤ most_size

-- The device has room for a header, and begins with the magic.
pub record IsNamed (c : List ℕ) : Type 0 where
  pub room : header_length ≤ length c
  pub name : part 0 8 c ≡ magic

-- Its header tells so many slots of this size, which there may be. Nothing is said of the device's length.
pub record TellsLayout (slots size : ℕ) (c : List ℕ) : Type 0 where
  pub named : IsNamed c
  pub slots_are : slots_told c ≡ slots
  pub size_is : size_told c ≡ size
  pub ranges : IsInRange slots size

-- the header tells none, and this is the place of what is wrong
abbrev pub TellsNone : ℕ → List ℕ → Type 0
TellsNone at c = ((at ≡ 0) × (IsNamed c → ⊥)) ⊎ ((at ≡ 8) × IsNamed c × (IsInRange (slots_told c) (size_told c) → ⊥))

-- why no header is read: it tells no layout, or the disk failed
abbrev pub IsHeaderNote : Note → Type 0
IsHeaderNote (NotSpool at) = Unit {0}
IsHeaderNote DiskFault = Unit {0}
IsHeaderNote note = ⊥

abbrev pub IsUntold : Note → List ℕ → Type 0
IsUntold (NotSpool at) c = TellsNone at c
IsUntold DiskFault c = Unit {0}
IsUntold note c = ⊥
