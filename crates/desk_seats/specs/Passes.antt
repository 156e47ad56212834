-- What a caller of a desk knows that has others, and what a call of it says of that.
use Rattle.std.specs.Prelude.{◌≡◌, ℕ, zero, suc, ◌-◌, ◌≤◌, ◌==◌, if◌then◌else◌, true, List, [], ◌∷◌, ◌++◌}
use mathlib.Core.List.{IsPrefix}
use Rattle.spool_state.specs.SpoolState.{end}
use Rattle.desk_access.specs.Division.{DividedRun}
use Rattle.desk_access.specs.Call.{Call, takes, Record, own_of}
use Rattle.desk_access.specs.Desk.{DeskState, Goes}
use Rattle.desk_access.specs.Legal.{Met}

-- A pass as its caller sees it: its number, the journal that it has seen, its own calls, and the greatest end and cursor
-- that it loaded.
pub record Known : Type 0 where
  pub number : ℕ
  pub seen : List Record
  pub own : List Call
  pub end_known : ℕ
  pub cursor_known : ℕ

abbrev pub known : ℕ → List Record → List Call → ℕ → ℕ → Known
known number seen own end_known cursor_known = record { number = number; seen = seen; own = own; end_known = end_known; cursor_known = cursor_known }

-- the journal leads from that state to one whose end and cursor are at most these
abbrev pub LeadsBelow : DeskState → List Record → ℕ → ℕ → Type 0
LeadsBelow x log most_end most_cursor = (y : DeskState) × Goes x log y × (end y.spool ≤ most_end) × (y.spool.cursor ≤ most_cursor)

-- the journal leads from that state to one whose end and cursor are at least these
abbrev pub LeadsAbove : DeskState → List Record → ℕ → ℕ → Type 0
LeadsAbove x log least_end least_cursor = (y : DeskState) × Goes x log y × (least_end ≤ end y.spool) × (least_cursor ≤ y.spool.cursor)

-- the records up to the first of that caller
abbrev pub upto_first : ℕ → List Record → List Record
upto_first number [] = []
upto_first number (one ∷ records) = if one.by == number then one ∷ [] else one ∷ upto_first number records

abbrev pub IsTake : Call → Type 0
IsTake (takes group result) = Unit {0}
IsTake _ = ⊥

-- each of the records is a take that was stored as one group with the take of the record before it
abbrev pub AllJoin : List Record → Type 0
AllJoin [] = Unit {0}
AllJoin (one ∷ records) = (one.joins ≡ true) × IsTake one.call × AllJoin records

-- What the caller has seen behind the record of its call: behind a take the takes that were stored as one group with it, and
-- behind any other call nothing.
abbrev pub MayFollow : Call → List Record → Type 0
MayFollow (takes group result) behind = AllJoin behind
MayFollow _ behind = behind ≡ []

-- The journal after a call begins with all that the caller had seen, and its last record is the call's own, but for takes of
-- others that were stored as one group with it. It is lawful, each of its calls is one that its caller might make, the caller's own
-- calls are all that it has of its number, and the end and the cursor after it are no less than what the caller had loaded.
pub record Calls (start : DeskState → Type 0) (run : DividedRun) (seats : ℕ) (v : Known) (call : Call) (w : Known) : Type 0 where
  pub between : List Record
  pub others : own_of v.number between ≡ []
  pub one : Record
  pub by : one.by ≡ v.number
  pub of_call : one.call ≡ call
  pub behind : List Record
  pub follow : MayFollow call behind
  pub others_behind : own_of v.number behind ≡ []
  pub seen : w.seen ≡ ((v.seen ++ between) ++ one ∷ []) ++ behind
  pub own : w.own ≡ v.own ++ call ∷ []
  pub number : w.number ≡ v.number
  pub all : own_of w.number w.seen ≡ w.own
  pub met : Met run (seats - 1) [] w.seen
  pub end_known : v.end_known ≤ w.end_known
  pub cursor_known : v.cursor_known ≤ w.cursor_known
  pub lawful : (x : DeskState) → start x → LeadsAbove x w.seen v.end_known v.cursor_known
  pub own_lawful : (x : DeskState) → start x → LeadsAbove x ((v.seen ++ between) ++ one ∷ []) v.end_known v.cursor_known

-- so many passes that have seen nothing, from a number on
abbrev pub fresh : ℕ → ℕ → ℕ → ℕ → List Known
fresh number zero end_known cursor_known = []
fresh number (suc count) end_known cursor_known = known number [] [] end_known cursor_known ∷ fresh (suc number) count end_known cursor_known

-- the journal begins with what the pass has seen, and the pass's own calls are all that it has of its number
abbrev pub Stands : List Record → Known → Type 0
Stands log m = IsPrefix m.seen log × (own_of m.number log ≡ m.own)
