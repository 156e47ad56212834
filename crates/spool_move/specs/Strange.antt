-- Entries of a target that have the tag of a source, and aren't the source's.
use Rattle.std.specs.Prelude.{◌≡◌, ◌≢◌, ◌⊎◌, ℕ, ◌<◌, ◌≤◌, List, ◌∷◌, ◌++◌, All}
use Rattle.std.specs.List.{Contains}
use Rattle.event_form.specs.declared.event.Entry.{Entry}
use Rattle.spool_state.specs.SpoolState.{SpoolState, end}
use Rattle.spool_state.specs.Left.{NumberedEntry, left}
use Rattle.spool_move.specs.Moved.{connection_of}

-- The entry has the tag, and its index is at or above the source's end, or that of an entry which is left there and has another
-- origin or text.
abbrev pub IsStrange : ℕ → SpoolState → Entry → Type 0
IsStrange tag source e =
    (e.conn ≡ connection_of tag)
    × ((end source ≤ e.index) ⊎ ((one : NumberedEntry) × Contains (left source) one × (one.number ≡ e.index) × (one.entry.event ≢ e.event)))

-- Where the entry has the tag, it is the source's: its index is below the source's end, and where the entry of that index is left there,
-- it has the same origin and text.
abbrev pub IsPlain : ℕ → SpoolState → Entry → Type 0
IsPlain tag source e =
    e.conn ≡ connection_of tag → (e.index < end source) × ((one : NumberedEntry) → Contains (left source) one → one.number ≡ e.index → one.entry.event ≡ e.event)

-- none of these is strange
abbrev pub NoneIsStrange : ℕ → SpoolState → List NumberedEntry → Type 0
NoneIsStrange tag source there = All (λ one. IsPlain tag source one.entry) there

-- The first of these that is strange has this index.
pub record IsFirstStrange (tag : ℕ) (source : SpoolState) (there : List NumberedEntry) (number : ℕ) : Type 0 where
  pub before : List NumberedEntry
  pub one : NumberedEntry
  pub behind : List NumberedEntry
  pub whole : there ≡ before ++ one ∷ behind
  pub none_before : NoneIsStrange tag source before
  pub strange : IsStrange tag source one.entry
  pub number_is : number ≡ one.entry.index
