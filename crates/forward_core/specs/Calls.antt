-- The calls of a session on the desk: it reads entries, and marks those that the peer acknowledged.
use Rattle.std.specs.Prelude.{◌≡◌, ◌⊎◌, ℕ, ◌+◌, ◌-◌, ◌<◌, ◌&&◌, Bool, true, false, nat_lt, nat_le, min, if◌then◌else◌, List, [], ◌∷◌, ◌++◌, length, map, filter, slice_index, Ok, Err}
use Rattle.known_numbers.specs.Numbers.{IsInSome}
use Rattle.event_form.specs.declared.event.Entry.{Entry}
use Rattle.spool_answers.specs.declared.numbered.Numbered.{Numbered}
use Rattle.desk_access.specs.Call.{Call, pends, marks}

-- the number is at least the one and below the other
abbrev pub is_within : ℕ → ℕ → ℕ → Bool
is_within next end n = nat_le next n && nat_lt n end

-- those of the entries that a reading was to give: with numbers from this one on and below the end
abbrev pub within : ℕ → ℕ → List Numbered → List Numbered
within next end given = filter (λ one. is_within next end one.number) given

-- their entries, and their numbers
abbrev pub entries_of : List Numbered → List Entry
entries_of given = map (λ one. one.entry) given

abbrev pub numbers_of : List Numbered → List ℕ
numbers_of given = map (λ one. one.number) given

-- the number of the entry at a place
abbrev pub number_at : List Numbered → ℕ → ℕ
number_at all place = slice_index (numbers_of all) place

-- the number after the last of them, or where there is none the one given
abbrev pub after_last : ℕ → List Numbered → ℕ
after_last next [] = next
after_last next (one ∷ given) = after_last (one.number + 1) given

-- at most how many entries a reading asks for that begins at a number
abbrev pub asked_from : ℕ → ℕ → ℕ
asked_from end next = min (end - next) 128

-- Where the next reading begins, after one that gave these: after the last of them, or at the end, where fewer came
-- than were asked for.
abbrev pub next_after : ℕ → ℕ → List Numbered → ℕ
next_after end next given = if nat_lt (length (within next end given)) (asked_from end next) then end else after_last next (within next end given)

-- the entries that the calls read
abbrev pub read_of : ℕ → List Call → List Numbered
read_of end [] = []
read_of end (pends from most (Ok given) ∷ calls) = within from end given ++ read_of end calls
read_of end (call ∷ calls) = read_of end calls

-- where the next reading begins
abbrev pub next_of : ℕ → ℕ → List Call → ℕ
next_of end next [] = next
next_of end next (pends from most (Ok given) ∷ calls) = next_of end (next_after end next given) calls
next_of end next (call ∷ calls) = next_of end next calls

-- Each reading begins where the one before says, below the end, and asks for as many as it may. One that is refused is
-- the last call. All other calls are marks, of which one that is refused is the last call too.
abbrev pub AreOfSession : ℕ → ℕ → List Call → Type 0
AreOfSession end next [] = Unit {0}
AreOfSession end next (pends from most (Ok given) ∷ calls) = (from ≡ next) × (next < end) × (most ≡ asked_from end next) × AreOfSession end (next_after end next given) calls
AreOfSession end next (pends from most (Err fault) ∷ calls) = (from ≡ next) × (next < end) × (most ≡ asked_from end next) × (calls ≡ [])
AreOfSession end next (marks stretches (Ok done) ∷ calls) = AreOfSession end next calls
AreOfSession end next (marks stretches (Err fault) ∷ calls) = calls ≡ []
AreOfSession end next (call ∷ calls) = ⊥

-- each reading comes directly after a mark; the test says whether one was made just before
abbrev pub MarksFirst : Bool → List Call → Type 0
MarksFirst marked [] = Unit {0}
MarksFirst marked (pends from most result ∷ calls) = (marked ≡ true) × MarksFirst false calls
MarksFirst marked (marks stretches result ∷ calls) = MarksFirst true calls
MarksFirst marked (call ∷ calls) = MarksFirst false calls

-- none of them was refused, so that more may follow
abbrev pub AreGranted : List Call → Type 0
AreGranted [] = Unit {0}
AreGranted (pends from most (Ok given) ∷ calls) = AreGranted calls
AreGranted (marks stretches (Ok done) ∷ calls) = AreGranted calls
AreGranted (call ∷ calls) = ⊥

-- the number is one that the calls marked, or were refused to mark
abbrev pub IsMarked : List Call → ℕ → Type 0
IsMarked [] n = ⊥
IsMarked (marks stretches result ∷ calls) n = IsInSome stretches n ⊎ IsMarked calls n
IsMarked (call ∷ calls) n = IsMarked calls n

-- Each mark, also one that is refused, is of numbers below the one after the last entry that was read by then. That one is given
-- as it is before these calls: 0 where none was read, so that a mark before the first reading marks no number.
abbrev pub MarksBelowRead : ℕ → ℕ → List Call → Type 0
MarksBelowRead end past [] = Unit {0}
MarksBelowRead end past (pends from most (Ok given) ∷ calls) = MarksBelowRead end (after_last past (within from end given)) calls
MarksBelowRead end past (marks stretches result ∷ calls) = ((n : ℕ) → IsInSome stretches n → n < past) × MarksBelowRead end past calls
MarksBelowRead end past (call ∷ calls) = MarksBelowRead end past calls

-- A mark that was answered Ok begins with all numbers below that one, as one stretch.
abbrev pub MarksAllBelow : ℕ → List Call → Type 0
MarksAllBelow n [] = ⊥
MarksAllBelow n (marks (stretch ∷ more) (Ok done) ∷ calls) = (stretch ≡ record { from = 0; to = n }) ⊎ MarksAllBelow n calls
MarksAllBelow n (call ∷ calls) = MarksAllBelow n calls
