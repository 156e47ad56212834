-- Groups that calls took are durable where the disk keeps what the calls took.
use Rattle.std.proofs.Common.{ℕ, ◌==◌, Bool, true, false, cond, List, [], ◌∷◌, ◌++◌}
use Rattle.std.specs.Prelude.{Ok, Err}
use Rattle.std.specs.List.{All, Contains}
use Rattle.std.proofs.lemmas.List.Elements.{All-nil, All-cons, All-head, All-tail, All-contains}
use Rattle.edge_disk.specs.Disk.{Moment}
use Rattle.spool_state.specs.SpoolState.{SpoolState}
use Rattle.desk_access.specs.Call.{Call, takes, Record, own_of, calls_of}
use Rattle.desk_access.specs.Durable.{IsGroupKept, AreDurable, KeepsCalls}
use Rattle.desk_access.specs.Groups.{Group, groups_of}
use Rattle.desk_access.specs.History.{AllKept}

-- each group that was taken is kept
pub groups_kept : (s : SpoolState) (calls : List Call) → AllKept s calls → All (IsGroupKept s) (groups_of calls)
groups_kept s [] k = All-nil (IsGroupKept s)
groups_kept s (takes entries (Ok receipt) ∷ calls) k = All-cons (IsGroupKept s) (record { first = receipt.first; entries = entries }) (groups_of calls) k.0 (groups_kept s calls k.1)
groups_kept s (takes entries (Err fault) ∷ calls) k = groups_kept s calls k.1
groups_kept s (call ∷ calls) k = groups_kept s calls k.1

pub first_kept : (s : SpoolState) (groups more : List Group) → All (IsGroupKept s) (groups ++ more) → All (IsGroupKept s) groups
first_kept s [] more k = All-nil (IsGroupKept s)
first_kept s (g ∷ groups) more k = All-cons (IsGroupKept s) g groups (All-head (IsGroupKept s) g (groups ++ more) k) (first_kept s groups more (All-tail (IsGroupKept s) g (groups ++ more) k))

-- the calls of one caller are among those of the journal
pub own_kept : (s : SpoolState) (number : ℕ) (log : List Record) → AllKept s (calls_of log) → AllKept s (own_of number log)
own_kept s number [] k = tt
own_kept s number (one ∷ log) k = by (one.by == number) (own_kept s number log k.1) where
  by : (b : Bool) → AllKept s (own_of number log) → AllKept s (cond b (one.call ∷ own_of number log) (own_of number log))
  by true rest = (k.0, rest)
  by false rest = rest

-- a disk that keeps what some calls took keeps what fewer of them took
pub keeps_some : (now : Moment) (calls some : List Call) → ((s : SpoolState) → AllKept s calls → AllKept s some) → KeepsCalls now calls → KeepsCalls now some
keeps_some now calls some part keeps = λ c image. let k = keeps c image in (k.0, k.1, part k.0 k.2)

-- one of the groups that were taken
pub one_durable : (now : Moment) (calls : List Call) (group : Group) → KeepsCalls now calls → Contains (groups_of calls) group → AreDurable now (group ∷ [])
one_durable now calls group keeps taken = λ c image.
    let k = keeps c image in
    (k.0, k.1, All-cons (IsGroupKept k.0) group [] (All-contains (IsGroupKept k.0) (groups_of calls) group (groups_kept k.0 calls k.2) taken) (All-nil (IsGroupKept k.0)))
