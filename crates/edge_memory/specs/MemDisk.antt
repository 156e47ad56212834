-- A disk in memory, as its callers see it.
use Rattle.std.specs.Prelude.{◌≡◌, ◌⊎◌, ℕ, Bool, true, false, IsTrue, Option, None, List, [], Result, MatchResult}
use Rattle.edge_disk.specs.Disk.{Moment, IsSettled}
use Rattle.edge_memory.specs.Held.{Held, new_held, moment_of}
use Rattle.edge_memory.specs.CallPlan.{CallPlan, one_more, next_fails}
use Rattle.edge_memory.specs.declared.memory.MemDisk.{MemDisk}

-- what it holds
abbrev pub held_of : MemDisk → Held
held_of d = d.store

-- which of its calls fail
abbrev pub plan_of : MemDisk → CallPlan
plan_of d = d.plan

-- how many calls failed, as far as a `u64` counts
abbrev pub faults_of : MemDisk → ℕ
faults_of d = d.faults

-- how many of these found no memory for the record
abbrev pub starved_of : MemDisk → ℕ
starved_of d = d.starved

-- what it tells
abbrev pub mem_moment : MemDisk → Moment
mem_moment d = moment_of (held_of d) (faults_of d)

-- one that was just made: these bytes, all durable, no call so far
pub record IsNew (recorded : Bool) (bytes failing : List ℕ) (stop : Option ℕ) (d : MemDisk) : Type 0 where
  pub held : held_of d ≡ new_held recorded bytes
  pub settled : IsSettled (mem_moment d)
  pub plan : plan_of d ≡ record { failing = failing; stop = stop; calls = 0 }
  pub faults : faults_of d ≡ 0
  pub starved : starved_of d ≡ 0

-- a disk of which no call fails: it keeps no record, and its plan lists no call and has no stop
pub record NeverFails (d : MemDisk) : Type 0 where
  pub plain : (held_of d).recorded ≡ false
  pub listed : (plan_of d).failing ≡ []
  pub stop : (plan_of d).stop ≡ None

-- a call that its plan lets pass, and after which the disk holds this
pub record Passes (left : Held) (old new : MemDisk) : Type 0 where
  pub planned : next_fails (plan_of old) ≡ false
  pub held : held_of new ≡ left
  pub faults : faults_of new ≡ faults_of old
  pub starved : starved_of new ≡ starved_of old

-- a call that fails by its plan, and after which the disk holds this
pub record FailsAsPlanned (left : Held) (old new : MemDisk) : Type 0 where
  pub planned : next_fails (plan_of old) ≡ true
  pub held : held_of new ≡ left
  pub faults : faults_of new ≡ one_more (faults_of old)
  pub starved : starved_of new ≡ starved_of old

-- a call of a disk with a record that finds no memory for it, and so changes nothing but the counts
pub record Starves (old new : MemDisk) : Type 0 where
  pub recorded : IsTrue (held_of old).recorded
  pub held : held_of new ≡ held_of old
  pub faults : faults_of new ≡ one_more (faults_of old)
  pub starved : starved_of new ≡ one_more (starved_of old)

-- How a read ends: it passes, or it fails by its plan. The disk holds what it held.
abbrev pub EndsRead : {T E : Type 0} → Result T E → MemDisk → MemDisk → Type 0
EndsRead result old new = MatchResult result (λ _. Passes (held_of old) old new) (λ _. FailsAsPlanned (held_of old) old new)

-- How a write or a sync ends: it passes and leaves `passed`, or it fails by its plan and leaves `failed`, or it starves.
abbrev pub Ends : {T E : Type 0} → Result T E → Held → Held → MemDisk → MemDisk → Type 0
Ends result passed failed old new = MatchResult result (λ _. Passes passed old new) (λ _. FailsAsPlanned failed old new ⊎ Starves old new)
