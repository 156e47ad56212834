-- A register of two cells, of which the open one with the greater ordinal counts.
use Rattle.std.specs.Prelude.{◌≡◌, ◌≢◌, ◌⊎◌, ℕ, zero, suc, ◌+◌, ◌*◌, ◌<◌, ◌≤◌, ◌==◌, if◌then◌else◌, List, [], ◌∷◌, ◌++◌, length, slice_index}
use Rattle.std.specs.List.{flat_map}
use Rattle.std.specs.Int.{to_be_bytes, from_be_bytes}
use mir.Syntax.{w16, w32, w64}
use Rattle.foundation.specs.Bytes.{part}
use Rattle.known_numbers.specs.declared.stretch.TheConstants.{MOST_STRETCHES}
use Rattle.known_numbers.specs.declared.stretch.Stretch.{Stretch}
use Rattle.spool_state.specs.Layout.{first_cell, second_cell, cell_head, content_length_1, content_length, stretch_length, most_run, most_number}

-- ---- what is written

-- the two numbers of a stretch
abbrev pub stretch_text : Stretch → List ℕ
stretch_text stretch = to_be_bytes w64 stretch.from ++ to_be_bytes w64 stretch.to

abbrev pub stretches_text : List Stretch → List ℕ
stretches_text known = flat_map stretch_text known

-- how many stretches there are, and the stretches
unfoldable pub known_text : List Stretch → List ℕ
known_text known = to_be_bytes w16 (length known) ++ stretches_text known

-- The content of version 2: the version, the run, the cursor and the stretches above it.
unfoldable pub content_text : ℕ → ℕ → List Stretch → List ℕ
content_text run cursor known = 2 ∷ to_be_bytes w64 run ++ to_be_bytes w64 cursor ++ known_text known

-- The content of version 1, which is read and never written: the version, the run and the cursor.
unfoldable pub content_text_1 : ℕ → ℕ → List ℕ
content_text_1 run cursor = 1 ∷ to_be_bytes w64 run ++ to_be_bytes w64 cursor

-- The text is a content with these numbers, of either version. Version 1 has no stretch.
abbrev pub IsContentOf : ℕ → ℕ → List Stretch → List ℕ → Type 0
IsContentOf run cursor known text = (text ≡ content_text run cursor known) ⊎ ((text ≡ content_text_1 run cursor) × (known ≡ []))

-- what stands after a cell's gate: the ordinal, the length of the content, and the content
unfoldable pub body_text : ℕ → List ℕ → List ℕ
body_text ordinal content = to_be_bytes w64 ordinal ++ to_be_bytes w32 (length content) ++ content

abbrev pub cell_text : ℕ → List ℕ → List ℕ
cell_text ordinal content = 1 ∷ body_text ordinal content

-- the first bytes of a cell of either version, with any gate, ordinal, length, version, run and cursor
unfoldable pub fields_text : ℕ → ℕ → ℕ → ℕ → ℕ → ℕ → List ℕ
fields_text gate ordinal len version run cursor =
    gate ∷ to_be_bytes w64 ordinal ++ to_be_bytes w32 len ++ version ∷ to_be_bytes w64 run ++ to_be_bytes w64 cursor

-- ---- what a cell says, whatever its bytes are

-- the cell there is open
abbrev pub IsOpen : ℕ → List ℕ → Type 0
IsOpen cell c = slice_index c cell ≡ 1

-- the number of eight bytes that stands there
abbrev pub number_at : ℕ → List ℕ → ℕ
number_at at c = from_be_bytes w64 (part at 8 c)

-- the ordinal in the cell there, the length of its content, its version, its run and its cursor
abbrev pub ordinal_at : ℕ → List ℕ → ℕ
ordinal_at cell c = number_at (cell + 1) c

abbrev pub length_at : ℕ → List ℕ → ℕ
length_at cell c = from_be_bytes w32 (part (cell + 9) 4 c)

abbrev pub version_at : ℕ → List ℕ → ℕ
version_at cell c = slice_index c (cell + 13)

abbrev pub run_at : ℕ → List ℕ → ℕ
run_at cell c = number_at (cell + 14) c

abbrev pub cursor_at : ℕ → List ℕ → ℕ
cursor_at cell c = number_at (cell + 22) c

-- how many stretches there are, in version 2
abbrev pub count_at : ℕ → List ℕ → ℕ
count_at cell c = from_be_bytes w16 (part (cell + 30) 2 c)

-- so many stretches, of which the first one stands there
abbrev pub stretches_at : ℕ → ℕ → List ℕ → List Stretch
stretches_at zero at c = []
stretches_at (suc n) at c = record { from = number_at at c; to = number_at (at + 8) c } ∷ stretches_at n (at + 16) c

-- the stretches in the cell there: none in version 1
abbrev pub known_at : ℕ → List ℕ → List Stretch
known_at cell c = if version_at cell c == 1 then [] else stretches_at (count_at cell c) (cell + 32) c

-- ---- which cell counts

-- The cell there is open with this ordinal and content, and the other one is closed or has a smaller ordinal.
pub record Counts (here other ordinal : ℕ) (content c : List ℕ) : Type 0 where
  pub holds : part here (cell_head + length content) c ≡ cell_text ordinal content
  pub other_less : (slice_index c other ≢ 1) ⊎ (ordinal_at other c < ordinal)

-- one of the two cells counts
abbrev pub RegisterHolds : ℕ → List ℕ → List ℕ → Type 0
RegisterHolds ordinal content c = Counts first_cell second_cell ordinal content c ⊎ Counts second_cell first_cell ordinal content c

-- and its content, of either version, has these numbers
abbrev pub RegisterHas : ℕ → ℕ → ℕ → List Stretch → List ℕ → Type 0
RegisterHas ordinal run cursor known c = (content : List ℕ) × IsContentOf run cursor known content × RegisterHolds ordinal content c

-- no cell is open, or both are with one ordinal
abbrev pub NoCellCounts : List ℕ → Type 0
NoCellCounts c =
    ((slice_index c first_cell ≢ 1) × (slice_index c second_cell ≢ 1))
    ⊎ (IsOpen first_cell c × IsOpen second_cell c × (ordinal_at first_cell c ≡ ordinal_at second_cell c))

-- The cell there is the one that counts, whatever its content is.
pub record IsCounting (here other : ℕ) (c : List ℕ) : Type 0 where
  pub is_open : IsOpen here c
  pub other_less : (slice_index c other ≢ 1) ⊎ (ordinal_at other c < ordinal_at here c)

-- ---- the rules

-- The content there is of version 1 and as long as that is, or of version 2, with few enough stretches, and as long
-- as these make it.
abbrev pub HasForm : ℕ → List ℕ → Type 0
HasForm cell c =
    ((version_at cell c ≡ 1) × (length_at cell c ≡ content_length_1))
    ⊎ ((version_at cell c ≡ 2) × (count_at cell c ≤ MOST_STRETCHES) × (length_at cell c ≡ content_length + stretch_length * count_at cell c))

-- its content has no such form, or its run or its ordinal is too great
abbrev pub HasBadContent : ℕ → List ℕ → Type 0
HasBadContent cell c = (HasForm cell c → ⊥) ⊎ (most_run < run_at cell c) ⊎ (most_number < ordinal_at cell c)

-- A rule of the cells is broken, and this is the place of the first one that is: no cell counts, or the
-- counting one is bad. What stands in a cell that doesn't count is of no account.
abbrev pub CellsBreak : ℕ → List ℕ → Type 0
CellsBreak at c =
    ((at ≡ first_cell) × NoCellCounts c)
    ⊎ ((at ≡ first_cell) × IsCounting first_cell second_cell c × HasBadContent first_cell c)
    ⊎ ((at ≡ second_cell) × IsCounting second_cell first_cell c × HasBadContent second_cell c)
