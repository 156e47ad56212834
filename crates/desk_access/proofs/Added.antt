-- Groups that calls added.
use Rattle.std.proofs.Common.{◌≡◌, ◌⊎◌, inl, inr, List, [], ◌∷◌, ◌++◌, refl, sym, ap, ◌∙◌, subst, append_assoc}
use Rattle.std.specs.Prelude.{All, Result, Ok, Err}
use Rattle.std.proofs.lemmas.List.Elements.{All-nil, All-append}
use Rattle.event_form.specs.declared.event.Entry.{Entry}
use Rattle.spool_answers.specs.declared.receipt.Receipt.{Receipt}
use Rattle.spool_faults.specs.declared.fault.TakeFault.{TakeFault}
use Rattle.spool_faults.specs.declared.fault.TakeFault.TheVariants as Take
use Rattle.desk_access.specs.Call.{Call, takes}
use Rattle.desk_access.specs.History.{Adds, AddsAll, written_by, written_next}
use Rattle.desk_access.specs.Legal.{AddsGroups, all_of}

-- a call adds nothing, or what it may have written
pub added_written : (call : Call) (here : List Entry) → Adds call here → (here ≡ []) ⊎ (here ≡ written_by call)
added_written (takes group (Ok receipt)) here h = inr h
added_written (takes group (Err Take.DiskFault)) here h = h
added_written (takes group (Err _)) here h = inl h
added_written _ here h = inl h

pub added_all : (P : Entry → Type 0) (call : Call) (here : List Entry) → Adds call here → All P (written_by call) → All P here
added_all P call here adds all = elim (added_written call here adds) [ inl none ↦ subst (All P) (sym none) (All-nil P) | inr some ↦ subst (All P) (sym some) all ]

-- a take may have written its group
pub written_all : (P : Entry → Type 0) (group : List Entry) (result : Result Receipt TakeFault) → All P group → All P (written_by (takes group result))
written_all P group (Ok receipt) all = all
written_all P group (Err Take.DiskFault) all = all
written_all P group (Err _) all = All-nil P

-- what holds of all that calls may have written holds of all that they added
abbrev pub AllWritten : (Entry → Type 0) → List Call → Type 0
AllWritten P [] = Unit {0}
AllWritten P (call ∷ calls) = All P (written_by call) × AllWritten P calls

pub groups_all : (P : Entry → Type 0) (calls : List Call) (groups : List (List Entry)) → AddsGroups calls groups → AllWritten P calls → All P (all_of groups)
groups_all P [] groups adds all = subst (λ (l : List (List Entry)). All P (all_of l)) (sym adds) (All-nil P)
groups_all P (call ∷ calls) groups adds all =
    subst (λ (l : List (List Entry)). All P (all_of l)) (sym adds.4) (All-append P adds.0 (all_of adds.1) (added_all P call adds.0 adds.2 all.0) (groups_all P calls adds.1 adds.3 all.1))

-- ---- what calls may have added

-- what a call may have written it may have added
wrote : (call : Call) → Adds call (written_by call)
wrote (takes group (Ok receipt)) = refl
wrote (takes group (Err Take.DiskFault)) = inr refl
wrote call = refl

-- some entries that calls may have added
some_added : (calls : List Call) → (entries : List Entry) × AddsAll calls entries
some_added [] = ([], refl)
some_added (call ∷ calls) = let rest = some_added calls in (written_by call ++ rest.0, (written_by call, rest.0, wrote call, rest.1, refl))

-- the next call's group, or nothing yet, and then some
pub next_added : (calls : List Call) (next : List Entry) → (next ≡ []) ⊎ (next ≡ written_next calls) → (more : List Entry) × AddsAll calls (next ++ more)
next_added calls next (inl none) = let some = some_added calls in (some.0, subst (λ (l : List Entry). AddsAll calls (l ++ some.0)) (sym none) some.1)
next_added [] next (inr none) = ([], ap (λ (l : List Entry). l ++ []) none)
next_added (call ∷ calls) next (inr here) =
    let rest = some_added calls in
    (rest.0, subst (λ (l : List Entry). AddsAll (call ∷ calls) (l ++ rest.0)) (sym here) (written_by call, rest.0, wrote call, rest.1, refl))

-- calls after others
pub added_then : (calls more : List Call) (xs ys : List Entry) → AddsAll calls xs → AddsAll more ys → AddsAll (calls ++ more) (xs ++ ys)
added_then [] more xs ys a b = subst (λ (l : List Entry). AddsAll more (l ++ ys)) (sym a) b
added_then (call ∷ calls) more xs ys (here, rest, added, others, is) b =
    (here, rest ++ ys, added, added_then calls more rest ys others b, ap (λ (l : List Entry). l ++ ys) is ∙ append_assoc here rest ys)
