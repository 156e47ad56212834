-- The lines that bridge prints. Numbers are decimal, and each line ends with LF.
use Rattle.std.specs.Prelude.{ℕ, ◌+◌, List, [], ◌∷◌, ◌++◌, length, codes}
use Rattle.std.specs.Fmt.{decimal}
use Rattle.event_form.specs.declared.event.Origin.{Origin}
use Rattle.event_form.specs.declared.event.Origin.TheVariants.{Relp, LumberData, LumberJson, HecEvent, HecRaw}
use Rattle.event_form.specs.declared.event.Entry.{Entry}

-- what is printed of a spool that was made
abbrev pub spool_line : ℕ → ℕ → List ℕ
spool_line slots size = decimal slots ++ (codes " slots of " ++ (decimal size ++ (codes " bytes" ++ 10 ∷ [])))

-- what is printed of entries that were forwarded to a place: how many were confirmed, and how many are left
abbrev pub drain_line : ℕ → ℕ → List ℕ
drain_line confirmed left = decimal confirmed ++ (codes " confirmed, " ++ (decimal left ++ (codes " left" ++ 10 ∷ [])))

-- what is printed of entries that were moved into another spool: how many were, and how many are left
abbrev pub move_line : ℕ → ℕ → List ℕ
move_line moved left = decimal moved ++ (codes " moved, " ++ (decimal left ++ (codes " left" ++ 10 ∷ [])))

-- what is printed of a server that ended: how many connections were served to their end, how many entries were taken, how
-- many were confirmed, and how many are left
abbrev pub serve_line : ℕ → ℕ → ℕ → ℕ → List ℕ
serve_line talks taken confirmed left = decimal talks ++ (codes " talks, " ++ (decimal taken ++ (codes " taken, " ++ drain_line confirmed left)))

abbrev pub origin_word : Origin → List ℕ
origin_word Relp = codes "relp"
origin_word LumberData = codes "pairs"
origin_word LumberJson = codes "json"
origin_word HecEvent = codes "event"
origin_word HecRaw = codes "raw"

-- what is printed of an entry: its number, connection, index, unit and origin, and the length of its text
abbrev pub entry_line : ℕ → Entry → List ℕ
entry_line number e =
    decimal number ++ 32 ∷ (decimal e.conn ++ 32 ∷ (decimal e.index ++ 32 ∷ (decimal e.unit ++ 32 ∷ (origin_word e.event.origin ++ 32 ∷ (decimal (length e.event.text) ++ 10 ∷ [])))))

-- the lines of such entries, of which the first has that number
abbrev pub entry_lines : ℕ → List Entry → List ℕ
entry_lines number [] = []
entry_lines number (e ∷ es) = entry_line number e ++ entry_lines (number + 1) es
