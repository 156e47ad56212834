-- What follows from the definitions.
use Rattle.std.specs.Prelude.{◌≡◌, ℕ, ◌<◌, Bool, true, false, List, [], ◌∷◌, ◌++◌, length, get_or, Option}
use Rattle.event_form.specs.declared.event.Entry.{Entry}
use Rattle.spool_state.specs.SpoolState.{SpoolState}
use Rattle.spool_answers.specs.Stages.{IsOneOf}
use Rattle.desk_access.specs.declared.standing.Standing.{Standing}
use Rattle.desk_access.specs.declared.division.Division.{Division}
use Rattle.desk_access.specs.Division.{divided}
use Rattle.desk_access.specs.Call.{Record, asks, own_of, calls_of}
use Rattle.desk_access.specs.Desk.{DeskState, Goes, Stood}
use Rattle.desk_access.specs.History.{IsLater, IsDesk, AllKept, Grows, Was}
use Rattle.desk_access.specs.Legal.{Met, IsStored, AddsGroups, IsLegal}

-- The state after a journal is a function of the state at its beginning and of the journal.
abbrev pub OneState : Type 0
OneState = (x y z : DeskState) (journal : List Record) → IsDesk x → Goes x journal y → Goes x journal z → y ≡ z

-- A journal keeps the rules of a desk. Each state after it, its doubt's too, is later than the one at its beginning, has
-- each group that was taken, and has a list that grew by what the calls added.
abbrev pub JournalLasts : Type 0
JournalLasts = (x y : DeskState) (journal : List Record) (t : SpoolState) → IsDesk x → Goes x journal y → IsOneOf y.spool y.doubt t → IsDesk y × IsLater x.spool t × AllKept t (calls_of journal) × Grows x (calls_of journal) t

-- What stood on the way of a journal was a later state, with what the first of its calls had added.
abbrev pub StoodWas : Type 0
StoodWas = (x : DeskState) (journal : List Record) (c : List ℕ) → IsDesk x → Stood x journal c → Was x (calls_of journal) c

-- What a journal adds is legal, where each caller makes the calls that it may make.
abbrev pub LegalJournal : Type 0
LegalJournal = (x y : DeskState) (journal : List Record) (division : Division) (confirming : ℕ) (groups : List (List Entry)) → IsDesk x → Goes x journal y → Met (divided division x.spool.run) confirming [] journal → AddsGroups (calls_of journal) groups → IsLegal x.spool.run groups

-- An id that an answer tells true is one whose group was taken before: by the caller that settled it.
abbrev pub ToldWasTaken : Type 0
ToldWasTaken = (x y : DeskState) (journal : List Record) (division : Division) (confirming number channel : ℕ) (ids : List ℕ) (known : List Bool) (joins : Bool) (met : Option Standing) (after : Standing) (clock : ℕ) (k : ℕ)
    → IsDesk x → x.ids.held ≡ [] → Goes x (journal ++ record { by = number; call = asks channel ids known; joins = joins; met = met; after = after; clock = clock } ∷ []) y → Met (divided division x.spool.run) confirming [] journal → k < length ids → get_or known k false ≡ true
    → (caller : ℕ) × IsStored (own_of caller journal) (get_or ids k 0)
