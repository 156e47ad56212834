-- What the changes of a spool keep of it.
use Rattle.std.specs.Prelude.{◌≡◌, ℕ, ◌≤◌, List, ◌∷◌}
use Rattle.known_numbers.specs.declared.stretch.Stretch.{Stretch}
use Rattle.event_form.specs.declared.event.Entry.{Entry}
use Rattle.spool_state.specs.SpoolState.{OpenSlot, SpoolState, IsKnownIn, Follows, IsSound}
use Rattle.spool_state.specs.Left.{left}
use Rattle.spool_state.specs.Free.{end_of}
use Rattle.spool_state.specs.Change.{added, begun, shut, registered}

-- What follows a state that follows another one follows that one.
abbrev pub FollowsOn : Type 0
FollowsOn = (a b c : SpoolState) → Follows a b → Follows b c → Follows a c

-- A group is added in the active slot.
abbrev pub AddingFollows : Type 0
AddingFollows = (s : SpoolState) (group : List Entry) → IsSound s → Follows s (added s group)

-- A segment is begun in some slot: what isn't known stays what it was.
abbrev pub BeginningFollows : Type 0
BeginningFollows = (s : SpoolState) (place : ℕ) → IsSound s → Follows s (begun s place) × (left (begun s place) ≡ left s)

-- The first slot is shut, of which all entries are below the cursor: what isn't known stays what it was, and all rules are kept.
abbrev pub ShuttingFollows : Type 0
ShuttingFollows =
    (s : SpoolState) (slot : OpenSlot) (rest : List OpenSlot) → IsSound s → s.older ≡ slot ∷ rest → end_of slot ≤ s.cursor
    → Follows s (shut s rest) × (left (shut s rest) ≡ left s) × IsSound (shut s rest)

-- The register is written, with no lower run or cursor, and all that was known.
abbrev pub RegisteringFollows : Type 0
RegisteringFollows =
    (s : SpoolState) (run cursor : ℕ) (known : List Stretch) → IsSound s → s.run ≤ run → s.cursor ≤ cursor
    → ((n : ℕ) → IsKnownIn s n → IsKnownIn (registered s run cursor known) n) → Follows s (registered s run cursor known)
