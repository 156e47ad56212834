-- A target that takes the entries that were found.
use Rattle.std.specs.Prelude.{◌≡◌, ℕ, List, [], ◌∷◌, ◌++◌, Result, Err, MatchResult}
use Rattle.event_form.specs.declared.event.Entry.{Entry}
use Rattle.edge_disk.specs.Disk.{LeavesOnly}
use Rattle.spool_state.specs.SpoolState.{SpoolState}
use Rattle.spool_state.specs.Image.{StandsFor}
use Rattle.spool_faults.specs.declared.fault.TakeFault.{TakeFault}
use Rattle.spool_answers.specs.Take.{Takes}
use Rattle.spool_slots.specs.Fault.{IsNotBroken}
use Rattle.spool_log.specs.State.{View, IsIn}
use Rattle.spool_move.specs.Stands.{HasTaken}
use Rattle.spool_move.specs.Walking.{AfterRefusal}
use Rattle.bridge_restore.specs.declared.fault.StoreFault.{StoreFault}
use Rattle.bridge_restore.specs.declared.fault.StoreFault.TheVariants.{Strange, Unseen, Unread, Untaken}

-- Behind all that it had, the target has taken a front of these entries: the first of them, in order, or none or all.
pub record HasFront (u : SpoolState) (entries : List Entry) (t : SpoolState) : Type 0 where
  pub front : List Entry
  pub rest : List Entry
  pub parts : entries ≡ front ++ rest
  pub taken : HasTaken u front t

-- what a crash leaves of the target meanwhile
abbrev pub IsStoring : SpoolState → List Entry → List ℕ → Type 0
IsStoring u entries d = (t : SpoolState) × StandsFor t d × HasFront u entries t

-- All of these entries were taken: each is there, and durable. Whenever a crash came meanwhile, it left a front of them.
pub record HasStored (u : SpoolState) (entries : List Entry) (old new : View) : Type 0 where
  pub t : SpoolState
  pub reached : IsIn t [] new
  pub taken : HasTaken u entries t
  pub any_moment : LeavesOnly (IsStoring u entries) old.moment new.moment

-- where it stops: an entry of the rest wasn't read again, or the target refused the next one
abbrev pub StopsAt : SpoolState → List Entry → StoreFault → View → Type 0
StopsAt t rest (Strange number) new = ⊥
StopsAt t rest (Unseen fault) new = ⊥
StopsAt t rest (Unread fault) new = IsNotBroken fault × IsIn t [] new
StopsAt t rest (Untaken fault) new = (one : Entry) × (more : List Entry) × (rest ≡ one ∷ more) × Takes t (one ∷ []) (Err fault) × AfterRefusal t fault new

-- The first of these entries were taken, and this ended it.
pub record StopsStoring (u : SpoolState) (entries : List Entry) (fault : StoreFault) (old new : View) : Type 0 where
  pub front : List Entry
  pub rest : List Entry
  pub t : SpoolState
  pub parts : entries ≡ front ++ rest
  pub taken : HasTaken u front t
  pub stops : StopsAt t rest fault new
  pub any_moment : LeavesOnly (IsStoring u entries) old.moment new.moment

-- A target in this state took these entries, one by one and in order, with this result.
abbrev pub Stores : SpoolState → List Entry → Result Unit StoreFault → View → View → Type 0
Stores u entries result old new = MatchResult result (λ _. HasStored u entries old new) (λ fault. StopsStoring u entries fault old new)

-- the same of entries that are all in memory
abbrev pub TakesEach : SpoolState → List Entry → Result Unit TakeFault → View → View → Type 0
TakesEach u entries result old new = MatchResult result (λ _. HasStored u entries old new) (λ fault. StopsStoring u entries (Untaken fault) old new)

-- why not all were stored
abbrev pub IsOfStoring : StoreFault → Type 0
IsOfStoring (Strange number) = ⊥
IsOfStoring (Unseen fault) = ⊥
IsOfStoring (Unread fault) = Unit {0}
IsOfStoring (Untaken fault) = Unit {0}
