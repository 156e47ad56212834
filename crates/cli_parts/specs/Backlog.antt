-- Lines that wait to be written.
use Rattle.std.specs.Prelude.{◌≡◌, ℕ, List, ◌+◌, ◌-◌, ◌^◌, ◌<◌, ◌≤◌, ◌++◌, ◌∷◌, [], map, min, string_bytes, vec_len}
use Rattle.cli_parts.specs.declared.backlog.Backlog.{Backlog}

-- a line of so many bytes has room: none was left out since lines were taken, fewer than 1,000 wait, and with it they have 65,536 bytes at most
abbrev pub HasRoom : ℕ → Backlog → Type 0
HasRoom len backlog = (backlog.dropped ≡ 0) × (vec_len backlog.lines < 1000) × (backlog.bytes + len ≤ 65536)

-- the texts of the lines that wait
abbrev pub texts : Backlog → List (List ℕ)
texts backlog = map string_bytes backlog.lines.items

-- a line of this text waits after the others
abbrev pub Kept : List ℕ → Backlog → Backlog → Type 0
Kept text old new = (texts new ≡ texts old ++ text ∷ []) × (new.dropped ≡ old.dropped)

-- a line is counted as left out, and those that wait stay; the count stands still at the end of its range
abbrev pub LeftOut : Backlog → Backlog → Type 0
LeftOut old new = (texts new ≡ texts old) × (new.dropped ≡ min (old.dropped + 1) (2 ^ 64 - 1))
