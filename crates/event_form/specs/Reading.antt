-- Bytes that begin with an entry's text, and bytes that don't.
use Rattle.std.specs.Prelude.{◌≡◌, ℕ, ◌+◌, ◌≤◌, List, ◌++◌, length, take, drop, slice_index, Bool, IsTrue, ◌&&◌, not, nat_lt, if◌then◌else◌, Result, Ok, Err}
use Rattle.std.specs.Int.{from_be_bytes}
use mir.Syntax.{w32}
use Rattle.event_form.specs.declared.limits.TheConstants.{HEAD_BYTES, MOST_TEXT}
use Rattle.event_form.specs.declared.event.Entry.{Entry}
use Rattle.event_form.specs.declared.reading.Took.{Took}
use Rattle.event_form.specs.declared.reading.EntryFault.{EntryFault}
use Rattle.event_form.specs.declared.reading.EntryFault.TheVariants.{BadEntry, NoMemory}
use Rattle.event_form.specs.Entry.{IsEntry, entry_text, size_of}

-- the bytes are the entry's text, and then the rest
pub record Begins (e : Entry) (bytes rest : List ℕ) : Type 0 where
  pub limits : IsEntry e
  pub whole : bytes ≡ entry_text e ++ rest

-- no entry's text begins the bytes
abbrev pub BeginsNoEntry : List ℕ → Type 0
BeginsNoEntry bytes = (e : Entry) (rest : List ℕ) → Begins e bytes rest → ⊥

-- a byte that stands for an origin: 1 to 5
abbrev pub is_origin : ℕ → Bool
is_origin byte = nat_lt 0 byte && nat_lt byte 6

-- the length that a head tells of its text
abbrev pub told_length : List ℕ → ℕ
told_length bytes = from_be_bytes w32 (take 4 (drop 25 bytes))

-- a head of so many bytes begins with an origin and tells an allowed length, and the entry has this size whose text begins with it
pub record HasLength (head : List ℕ) (size : ℕ) : Type 0 where
  pub origin : IsTrue (is_origin (slice_index head 0))
  pub short : told_length head ≤ MOST_TEXT
  pub told : size ≡ HEAD_BYTES + told_length head
  pub only : (e : Entry) (bytes rest : List ℕ) → take HEAD_BYTES bytes ≡ head → Begins e bytes rest → size ≡ size_of e

-- no entry's text begins with the head
abbrev pub BeginsNone : List ℕ → Type 0
BeginsNone head = (bytes : List ℕ) → take HEAD_BYTES bytes ≡ head → BeginsNoEntry bytes

-- Of bytes with which no entry begins: the place of the first rule that they break, each rule as soon as its bytes are there.
-- The last case is a text that is there whole: its pairs are at fault.
unfoldable pub bad_place : List ℕ → ℕ
bad_place bytes =
    if not (is_origin (slice_index bytes 0)) then 0
    else if nat_lt (length bytes) HEAD_BYTES then length bytes
    else if nat_lt MOST_TEXT (told_length bytes) then 25
    else if nat_lt (length bytes) (HEAD_BYTES + told_length bytes) then length bytes
    else HEAD_BYTES

-- no entry begins the bytes, and this is the place of their fault
pub record IsBadAt (bytes : List ℕ) (at : ℕ) : Type 0 where
  pub none : BeginsNoEntry bytes
  pub place : at ≡ bad_place bytes

-- what a fault says of the bytes: no entry begins them, or one does for which no memory was found
abbrev pub IsFault : List ℕ → EntryFault → Type 0
IsFault bytes (BadEntry at) = IsBadAt bytes at
IsFault bytes NoMemory = (e : Entry) × (rest : List ℕ) × Begins e bytes rest

-- the entry was read, all its bytes, unless no memory was found
abbrev pub IsRead : Entry → Result Took EntryFault → Type 0
IsRead e (Ok took) = (took.entry ≡ e) × (took.used ≡ size_of e)
IsRead e (Err (BadEntry at)) = ⊥
IsRead e (Err NoMemory) = Unit {0}
