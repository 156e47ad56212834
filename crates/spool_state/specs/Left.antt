-- The entries of a spool that aren't known as confirmed yet, with their numbers.
use Rattle.std.specs.Prelude.{◌≡◌, ℕ, ◌+◌, ◌-◌, ◌≤◌, ◌&&◌, ◌||◌, not, nat_lt, nat_le, Bool, false, List, [], ◌∷◌, ◌++◌, length, take}
use Rattle.std.specs.List.{filter}
use Rattle.known_numbers.specs.declared.stretch.Stretch.{Stretch}
use Rattle.known_numbers.specs.Numbers.{Numbers}
use Rattle.event_form.specs.declared.event.Entry.{Entry}
use Rattle.spool_state.specs.SpoolState.{SpoolState, list, base, numbers_of}

-- an entry and its number
pub record NumberedEntry : Type 0 where
  pub number : ℕ
  pub entry : Entry

-- entries with consecutive numbers from this one on
abbrev pub numbered : ℕ → List Entry → List NumberedEntry
numbered first [] = []
numbered first (entry ∷ entries) = record { number = first; entry = entry } ∷ numbered (first + 1) entries

-- whether the number is in one of the stretches
abbrev pub is_in_some : List Stretch → ℕ → Bool
is_in_some [] number = false
is_in_some (stretch ∷ stretches) number = (nat_le stretch.from number && nat_lt number stretch.to) || is_in_some stretches number

-- whether it is known
abbrev pub is_known : Numbers → ℕ → Bool
is_known numbers number = nat_lt number numbers.cursor || is_in_some numbers.stretches number

-- those of them whose numbers aren't known
abbrev pub unknown : Numbers → List NumberedEntry → List NumberedEntry
unknown numbers entries = filter (λ e. not (is_known numbers e.number)) entries

-- The entries of the spool whose numbers aren't known, in order.
abbrev pub left : SpoolState → List NumberedEntry
left s = unknown (numbers_of s) (numbered (base s) (list s))

-- those of them with numbers from this one on
abbrev pub left_from : SpoolState → ℕ → List NumberedEntry
left_from s from = filter (λ e. nat_le from e.number) (left s)

-- Of the entries that aren't known, with numbers from one number on, the first so many are looked for. Up to another
-- number these are found: what is found, and the first of what isn't known from there on, are what is looked for.
pub record HasFound (s : SpoolState) (from most number : ℕ) (found : List NumberedEntry) : Type 0 where
  pub few : length found ≤ most
  pub rest : found ++ take (most - length found) (left_from s number) ≡ take most (left_from s from)
