-- What the fields of a cell say.
use Rattle.std.specs.Prelude.{◌≡◌, ◌≢◌, ◌⊎◌, ℕ, ◌+◌, ◌*◌, ◌^◌, ◌<◌, ◌≤◌, Bool, List, ◌++◌, length}
use Rattle.std.specs.Int.{to_be_bytes}
use mir.Syntax.{w16}
use Rattle.known_numbers.specs.declared.stretch.TheConstants.{MOST_STRETCHES}
use Rattle.spool_state.specs.Layout.{content_length_1, content_length, stretch_length, most_run, most_number}
use Rattle.spool_state.specs.Cells.{fields_text}
use Rattle.disk_cell.specs.Cell.{place_of}
use Rattle.disk_cell.specs.declared.cell.Cell.{Cell}
use Rattle.disk_cell.specs.declared.fault.LoadFault.{LoadFault}
use Rattle.disk_cell.specs.declared.fault.LoadFault.TheVariants.{NotSpool, NoMemory, DiskFault}
use Rattle.disk_cell.specs.declared.fields.Fields.{Fields}
use Rattle.disk_cell.specs.declared.register.Register.{Register}

-- the bytes that have these fields
abbrev pub bytes_of : Fields → List ℕ
bytes_of f = fields_text f.gate f.ordinal f.len f.version f.run f.cursor ++ to_be_bytes w16 f.count

-- each fits its width
pub record AreInRange (f : Fields) : Type 0 where
  pub ordinal : f.ordinal < 2 ^ 64
  pub len : f.len < 2 ^ 32
  pub run : f.run < 2 ^ 64
  pub count : f.count < 2 ^ 16

-- the cell of these fields is open, and the other one is closed or has a smaller ordinal
pub record Outranks (f other : Fields) : Type 0 where
  pub is_open : f.gate ≡ 1
  pub other_less : (other.gate ≢ 1) ⊎ (other.ordinal < f.ordinal)

-- The content is of version 1 and as long as that is, with no stretch, or of version 2, with few enough
-- stretches, and as long as these make it.
abbrev pub HasForm : Fields → ℕ → Type 0
HasForm f n =
    ((f.version ≡ 1) × (f.len ≡ content_length_1) × (n ≡ 0))
    ⊎ ((f.version ≡ 2) × (f.count ≤ MOST_STRETCHES) × (f.len ≡ content_length + stretch_length * f.count) × (n ≡ f.count))

-- the fields are good, and say that there are so many stretches
pub record AreGood (f : Fields) (n : ℕ) : Type 0 where
  pub form : HasForm f n
  pub run : f.run ≤ most_run
  pub ordinal : f.ordinal ≤ most_number

-- one of the fields isn't as it must be
abbrev pub AreBad : Fields → Type 0
AreBad f = ((n : ℕ) → HasForm f n → ⊥) ⊎ (most_run < f.run) ⊎ (most_number < f.ordinal)

-- where it is no spool, that is at the cell, and its fields are bad
abbrev pub IsBadAt : Cell → Fields → LoadFault → Type 0
IsBadAt cell f (NotSpool at) = (at ≡ place_of cell) × AreBad f
IsBadAt cell f NoMemory = ⊥
IsBadAt cell f DiskFault = Unit {0}

-- a register that has what these good fields say
pub record IsRegisterOf (cell : Cell) (other_is_open : Bool) (f : Fields) (r : Register) : Type 0 where
  pub counting : r.counting ≡ cell
  pub other : r.other_is_open ≡ other_is_open
  pub good : AreGood f (length r.content.known.items)
  pub version : r.content.version ≡ f.version
  pub ordinal : r.ordinal ≡ f.ordinal
  pub run : r.content.run ≡ f.run
  pub cursor : r.content.cursor ≡ f.cursor
