-- A register in memory, and the two cells on the disk that it speaks of.
use Rattle.std.specs.Prelude.{◌≡◌, ◌⊎◌, ℕ, ◌+◌, ◌*◌, List, IsTrue, ◌↔◌}
use Rattle.foundation.specs.Bytes.{SameBut}
use Rattle.edge_disk.specs.Disk.{Moment}
use Rattle.known_numbers.specs.declared.stretch.Stretch.{Stretch}
use Rattle.spool_state.specs.Layout.{first_cell, cell_length}
use Rattle.spool_state.specs.Cells.{content_text, IsOpen, Counts, RegisterHolds}
use Rattle.disk_cell.specs.Cell.{place_of, other_of}
use Rattle.disk_cell.specs.Content.{text_of}
use Rattle.disk_cell.specs.declared.content.Content.{Content}
use Rattle.disk_cell.specs.declared.register.Register.{Register}

-- The bytes have the cells as the register in memory knows them: which one counts, with its ordinal and its
-- content, and whether the other one is open.
pub record Knows (r : Register) (c : List ℕ) : Type 0 where
  pub counts : Counts (place_of r.counting) (place_of (other_of r.counting)) r.ordinal (text_of r.content) c
  pub other_open : IsTrue r.other_is_open ↔ IsOpen (place_of (other_of r.counting)) c

-- Outside the two cells nothing changed, and the register holds what it held, or the new content in version 2.
pub record IsSetStep (r : Register) (run cursor : ℕ) (known : List Stretch) (old c : List ℕ) : Type 0 where
  pub outside : SameBut first_cell (2 * cell_length) old c
  pub inside : RegisterHolds r.ordinal (text_of r.content) c ⊎ RegisterHolds (r.ordinal + 1) (content_text run cursor known) c

-- Outside the two cells nothing changed, and the cell that counted counts.
pub record IsClosingStep (r : Register) (old c : List ℕ) : Type 0 where
  pub outside : SameBut first_cell (2 * cell_length) old c
  pub counts : Counts (place_of r.counting) (place_of (other_of r.counting)) r.ordinal (text_of r.content) c

-- Bytes of a disk on which the cell that counted counts, and bytes that come after them while the register is changed: both come from
-- one image of m.
pub record GoesSet (m : Moment) (r : Register) (run cursor : ℕ) (known : List Stretch) (now torn : List ℕ) : Type 0 where
  pub from : List ℕ
  pub was : m.image from
  pub before : IsClosingStep r from now
  pub after : IsSetStep r run cursor known from torn

-- the content is of version 2, with this run, this cursor and these stretches
pub record IsContent (run cursor : ℕ) (known : List Stretch) (content : Content) : Type 0 where
  pub version : content.version ≡ 2
  pub run_is : content.run ≡ run
  pub cursor_is : content.cursor ≡ cursor
  pub known_is : content.known.items ≡ known
