-- The stages of a change, and a doubt: stages of a change that failed on the way.
use Rattle.std.specs.Prelude.{◌≡◌, ◌⊎◌, ℕ, ◌+◌, if◌then◌else◌, nat_le, List, [], ◌∷◌, Option, None, Some, All}
use Rattle.known_numbers.specs.declared.stretch.Stretch.{Stretch}
use Rattle.known_numbers.specs.Numbers.{Numbers, count_of, marked}
use Rattle.event_form.specs.declared.event.Entry.{Entry}
use Rattle.spool_state.specs.Segment.{need_of}
use Rattle.spool_state.specs.SpoolState.{OpenSlot, SpoolState, room, numbers_of, Follows}
use Rattle.spool_state.specs.Change.{added, begun, shut, registered}
use Rattle.spool_state.specs.Free.{is_confirmed, lowest_closed}
use Rattle.spool_state.specs.Image.{StandsFor}

-- ---- of a group that is added

-- a segment begun in the closed slot there, and the group added to it
abbrev pub begin_stages : SpoolState → ℕ → List Entry → List SpoolState
begin_stages s place group = begun s place ∷ added (begun s place) group ∷ []

-- the first slot shut, a segment begun in it, and the group added to that; no stage where there is no older slot
abbrev pub replace_stages : SpoolState → List OpenSlot → List Entry → List SpoolState
replace_stages s [] group = []
replace_stages s (slot ∷ rest) group = shut s rest ∷ begin_stages (shut s rest) slot.place group

-- the first slot is one of which all entries are below the cursor, or nothing is done
abbrev pub first_stages : SpoolState → List OpenSlot → List Entry → List SpoolState
first_stages s [] group = []
first_stages s (slot ∷ rest) group = if is_confirmed s slot then replace_stages s (slot ∷ rest) group else []

-- in the closed slot of lowest place, else in the first one
abbrev pub closed_stages : Option ℕ → SpoolState → List Entry → List SpoolState
closed_stages (Some place) s group = begin_stages s place group
closed_stages None s group = first_stages s s.older group

-- The stages by which a group is added: in the active slot where it has room, else in a new segment in a free slot.
-- No stage where no slot is free.
abbrev pub group_stages : SpoolState → List Entry → List SpoolState
group_stages s group = if nat_le (need_of group) (room s) then added s group ∷ [] else closed_stages (lowest_closed s s.slots) s group

-- ---- of numbers that become known

-- how many numbers are known
abbrev pub total_of : Numbers → ℕ
total_of numbers = numbers.cursor + count_of numbers.stretches

-- the register written with these known numbers, if they are more
abbrev pub register_stages : SpoolState → Numbers → List SpoolState
register_stages s numbers = if nat_le (total_of numbers) (total_of (numbers_of s)) then [] else registered s s.run numbers.cursor numbers.stretches ∷ []

-- The stage by which the numbers of these stretches become known, if one of them is new. What is known stays known,
-- so one is new exactly where more numbers are known.
abbrev pub known_stages : SpoolState → List Stretch → List SpoolState
known_stages s more = register_stages s (marked (numbers_of s) more)

-- ---- of any change

-- the last stage, or the state where there is none
abbrev pub last_of : SpoolState → List SpoolState → SpoolState
last_of s [] = s
last_of s (stage ∷ stages) = last_of stage stages

-- the state, or one of the later stages
abbrev pub IsOneOf : SpoolState → List SpoolState → SpoolState → Type 0
IsOneOf s [] m = m ≡ s
IsOneOf s (stage ∷ stages) m = (m ≡ s) ⊎ IsOneOf stage stages m

-- the device stands for the state, or for one of the later stages
abbrev pub StandsForOne : SpoolState → List SpoolState → List ℕ → Type 0
StandsForOne s [] c = StandsFor s c
StandsForOne s (stage ∷ stages) c = StandsFor s c ⊎ StandsForOne stage stages c

-- What is left of the device while a change with these stages is made: it stands for the state, or for one of the
-- stages. Without a stage nothing is changed, and so nothing is left.
abbrev pub IsMidway : SpoolState → List SpoolState → List ℕ → Type 0
IsMidway s [] c = ⊥
IsMidway s (stage ∷ stages) c = StandsForOne s (stage ∷ stages) c

-- each of the stages follows the state
abbrev pub AllFollow : SpoolState → List SpoolState → Type 0
AllFollow s stages = All (λ stage. Follows s stage) stages
