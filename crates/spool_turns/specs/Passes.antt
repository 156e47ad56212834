-- What the seats of a shared desk hold, and what is true of them.
use Rattle.std.specs.Prelude.{◌≡◌, ℕ, Bool, false, List, [], ◌∷◌, ◌++◌, map, Option, None, Some}
use Rattle.atomic_table.specs.Table.{Me}
use Rattle.atomic_table.specs.Seated.{TableId}
use Rattle.edge_disk.specs.Disk.{Moment}
use Rattle.hec_ids.specs.Table.{holds_settled}
use Rattle.desk_access.specs.declared.division.Division.TheVariants.{Workers}
use Rattle.desk_access.specs.Division.{DividedRun, divided}
use Rattle.desk_access.specs.Call.{Record, own_of}
use Rattle.desk_access.specs.Desk.{DeskState, Goes}
use Rattle.desk_seats.specs.Passes.{Known, known, LeadsBelow}
use Rattle.spool_desk.specs.Alone.{AloneView}
use Rattle.spool_turns.specs.Rules.{View, Locked, Pass, Claim, Handed, Facts, facts, PassView, pass_view}

-- How a desk was given: the moment of its disk then, and whether takes of several callers may be stored as one group.
pub record Beginning : Type 1 where
  pub moment : Moment
  pub grouped : Bool

abbrev pub begun : Moment → Bool → Beginning
begun moment grouped = record { moment = moment; grouped = grouped }

-- the tables of a desk: that of the seats that know the journal, and that of the two seats that know where the spool is
pub record Tables : Type 0 where
  pub seats : TableId
  pub twins : TableId

-- the name of no table, no run, a moment of no disk, and a desk that was given at none
abbrev no_id : TableId
no_id = record { words = 0; slots = 0; views_name = 0; atom = 0; block = 0; offset = 0; slot_names = [] }

abbrev pub no_table : Tables
no_table = record { seats = no_id; twins = no_id }

abbrev pub no_run : DividedRun
no_run = divided Workers 0

abbrev pub no_moment : Moment
no_moment = record { size = 0; reads = []; image = λ c. ⊥; clock = 0; image_since = λ t c. ⊥; faults = 0 }

abbrev pub no_beginning : Beginning
no_beginning = begun no_moment false

-- what a view holds
abbrev pub no_pass : PassView
no_pass = pass_view 0 [] [] [] 0 0 None

abbrev pub pass_in : View → PassView
pass_in (Pass m) = m
pass_in _ = no_pass

abbrev pub facts_in : View → Facts
facts_in (Locked f caller) = f
facts_in _ = facts 0 [] 0 0

abbrev pub pass_or : Option PassView → PassView
pass_or None = no_pass
pass_or (Some m) = m

abbrev pub hosted_in : View → Option PassView
hosted_in (Locked f caller) = caller
hosted_in _ = None

abbrev pub caller_in : View → PassView
caller_in (Locked f caller) = pass_or caller
caller_in _ = no_pass

-- the seat under the lock between calls and during one, and the seat of a pass
abbrev pub locked_of : Facts → Me ℕ View
locked_of f = (Locked f None, [])

abbrev pub hosting_of : Facts → Option PassView → Me ℕ View
hosting_of f caller = (Locked f caller, [])

abbrev pub calling_of : Facts → PassView → Me ℕ View
calling_of f m = (Locked f (Some m), [])

abbrev pub pass_of : PassView → Me ℕ View
pass_of m = (Pass m, [])

abbrev pub IsPass : Me ℕ View → Type 0
IsPass me = me ≡ pass_of (pass_in me.0)

abbrev pub IsLocked : Me ℕ View → Type 0
IsLocked me = me ≡ locked_of (facts_in me.0)

-- it is the seat under the lock, between calls or during one
abbrev pub IsHosting : Me ℕ View → Type 0
IsHosting me = me ≡ hosting_of (facts_in me.0) (hosted_in me.0)

-- the seat of a pass that is out: the claim to it
abbrev pub claim_at : ℕ → Handed → Me ℕ View
claim_at number h = (Claim number h, [])

abbrev pub number_in : View → ℕ
number_in (Claim number h) = number
number_in _ = 0

abbrev pub no_handed : Handed
no_handed = record { seen = []; own = []; end_known = 0; cursor_known = 0; entries = []; front = false }

abbrev pub handed_in : View → Handed
handed_in (Claim number h) = h
handed_in _ = no_handed

abbrev pub IsClaim : Me ℕ View → Type 0
IsClaim me = me ≡ claim_at (number_in me.0) (handed_in me.0)

abbrev pub IsCalling : Me ℕ View → Type 0
IsCalling me = me ≡ calling_of (facts_in me.0) (caller_in me.0)

-- what the caller of a pass knows by it
abbrev pub known_of : PassView → Known
known_of m = known m.number m.seen m.own m.end_known m.cursor_known

-- what is true of each pass of a desk that was given in such a state
pub record Sound (start : DeskState → Type 0) (m : PassView) : Type 0 where
  pub also : m.also ≡ []
  pub own : own_of m.number m.seen ≡ m.own
  pub lawful : (x : DeskState) → start x → LeadsBelow x m.seen m.end_known m.cursor_known

-- Before its last record the journal led to a desk at which the channel held just those of the ids settled that the answer says.
pub record IsAsked (x : DeskState) (channel : ℕ) (ids : List ℕ) (answer : List Bool) (log : List Record) : Type 0 where
  pub before : List Record
  pub one : Record
  pub seen : log ≡ before ++ one ∷ []
  pub at : DeskState
  pub goes : Goes x before at
  pub held : answer ≡ map (λ id. holds_settled channel id at.ids.held) ids

-- what the type of the locked value keeps of its seat: all passes were made, and the words are those that the desk answered
pub record IsTurn (seats : ℕ) (me : Me ℕ View) (v : AloneView) : Type 0 where
  pub locked : IsLocked me
  pub made : (facts_in me.0).made ≡ seats
  pub end : (facts_in me.0).end ≡ v.end_known
  pub cursor : (facts_in me.0).cursor ≡ v.cursor_known
