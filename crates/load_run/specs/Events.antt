-- The events of a load: numbers that follow from one another, and the texts that have them.
use Rattle.std.specs.Prelude.{ℕ, zero, suc, ◌+◌, ◌*◌, ◌%◌, List, [], ◌∷◌, ◌++◌, codes}
use Rattle.std.specs.Fmt.{decimal}

-- the number after a number: (x * 1103515245 + 12345) mod 2^31
abbrev pub next_number : ℕ → ℕ
next_number x = (x * 1103515245 + 12345) % 2147483648

-- the text of the event at a place, which has a number: load I X
abbrev pub load_text : ℕ → ℕ → List ℕ
load_text place x = codes "load " ++ (decimal place ++ (codes " " ++ decimal x))

-- the texts of so many events, of which the first stands at a place and has the number after this one
abbrev pub load_texts : ℕ → ℕ → ℕ → List (List ℕ)
load_texts place x zero = []
load_texts place x (suc n) = load_text place (next_number x) ∷ load_texts (place + 1) (next_number x) n
