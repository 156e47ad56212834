-- Where the two cells lie.
use Rattle.std.specs.Prelude.{ℕ}
use Rattle.spool_state.specs.Layout.{first_cell, second_cell}
use Rattle.disk_cell.specs.declared.cell.Cell.{Cell}
use Rattle.disk_cell.specs.declared.cell.Cell.TheVariants.{First, Second}

abbrev pub place_of : Cell → ℕ
place_of First = first_cell
place_of Second = second_cell

abbrev pub other_of : Cell → Cell
other_of First = Second
other_of Second = First
