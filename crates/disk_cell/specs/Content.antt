-- What a register holds, and the text of it in a cell.
use Rattle.std.specs.Prelude.{◌≡◌, ℕ, ◌^◌, ◌<◌, ◌≤◌, ◌==◌, if◌then◌else◌, List, length}
use Rattle.known_numbers.specs.declared.stretch.Stretch.{Stretch}
use Rattle.spool_state.specs.Cells.{content_text, content_text_1}
use Rattle.disk_cell.specs.declared.content.Content.{Content}

-- the content as it stands in a cell, by its version
abbrev pub text_of : Content → List ℕ
text_of content = if content.version == 1 then content_text_1 content.run content.cursor else content_text content.run content.cursor content.known.items

-- it is of version 1 and has no stretch, or of version 2
abbrev pub HasVersion : Content → Type 0
HasVersion content = (1 ≤ content.version) × (content.version ≤ 2) × (content.version ≡ 1 → length content.known.items ≡ 0)

-- its numbers fit in the bytes that a cell has for them
abbrev pub HasRoomInCell : Stretch → Type 0
HasRoomInCell stretch = (stretch.from < 2 ^ 64) × (stretch.to < 2 ^ 64)
