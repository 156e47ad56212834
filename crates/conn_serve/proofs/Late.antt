-- Calls that promise nothing, after others.
use Rattle.std.proofs.Common.{◌≡◌, ℕ, ◌∙◌, Bool, List, [], ◌∷◌, ◌++◌, refl, ap, subst}
use Rattle.std.specs.Prelude.{Err, All}
use Rattle.std.proofs.lemmas.List.{append-nil}
use Rattle.std.proofs.lemmas.List.Elements.{All-head, All-tail}
use Rattle.spool_state.specs.SpoolState.{SpoolState}
use Rattle.desk_access.specs.Call.{Call, takes, forgets, asks}
use Rattle.desk_access.specs.Groups.{Group, groups_of}
use Rattle.desk_access.specs.History.{AllKept}
use Rattle.desk_access.proofs.Groups.{groups_then}
use Rattle.conn_serve.specs.Says.{PromisesNothing}
use Rattle.conn_serve.specs.Acked.{acked_by, singles_from}
use Rattle.edge_io.specs.declared.proto.Proto.{Proto}
use Rattle.edge_io.specs.declared.proto.Proto.TheVariants.{Relp, Lumberjack, Hec}
use Rattle.std.specs.List.{flat_map}

none_taken : (late : List Call) → All PromisesNothing late → groups_of late ≡ []
none_taken [] nothing = refl
none_taken (takes group (Err fault) ∷ late) nothing = none_taken late (All-tail PromisesNothing (takes group (Err fault)) late nothing)
none_taken (forgets channel id held ∷ late) nothing = none_taken late (All-tail PromisesNothing (forgets channel id held) late nothing)
none_taken (call ∷ late) nothing = absurd (All-head PromisesNothing call late nothing)

-- they took no group
pub groups_late : (calls late : List Call) → All PromisesNothing late → groups_of (calls ++ late) ≡ groups_of calls
groups_late calls late nothing = groups_then calls late ∙ ap (λ (l : List Group). groups_of calls ++ l) (none_taken late nothing) ∙ append-nil (groups_of calls)

-- nor any that its sender would know
pub acked_late : (proto : Proto) (calls late : List Call) → All PromisesNothing late → acked_by proto (calls ++ late) ≡ acked_by proto calls
acked_late Relp calls late nothing = ap (λ (l : List Group). flat_map (λ (group : Group). singles_from group.first group.entries) l) (groups_late calls late nothing)
acked_late Lumberjack calls late nothing = groups_late calls late nothing
acked_late Hec calls late nothing = groups_late calls late nothing

none_asked : (first more : List Call) (channel : ℕ) (ids : List ℕ) (known : List Bool) → All PromisesNothing (first ++ asks channel ids known ∷ more) → ⊥
none_asked [] more channel ids known nothing = All-head PromisesNothing (asks channel ids known) more nothing
none_asked (one ∷ first) more channel ids known nothing = none_asked first more channel ids known (All-tail PromisesNothing one (first ++ asks channel ids known ∷ more) nothing)

-- no question is among them: it is among the calls before
pub asks_late : (calls late first more : List Call) (channel : ℕ) (ids : List ℕ) (known : List Bool) → All PromisesNothing late → calls ++ late ≡ first ++ asks channel ids known ∷ more
    → (rest : List Call) × (calls ≡ first ++ asks channel ids known ∷ rest)
asks_late [] late first more channel ids known nothing is = absurd (none_asked first more channel ids known (subst (All PromisesNothing) is nothing))
asks_late (call ∷ calls) late [] more channel ids known nothing is =
    let one : call ≡ asks channel ids known = cc is in
    (calls, ap (λ (c : Call). c ∷ calls) one)
asks_late (call ∷ calls) late (one ∷ first) more channel ids known nothing is =
    let same : call ≡ one = cc is in
    let behind : calls ++ late ≡ first ++ asks channel ids known ∷ more = cc is in
    let found = asks_late calls late first more channel ids known nothing behind in
    (found.0, ap (λ (c : Call). c ∷ calls) same ∙ ap (λ (l : List Call). one ∷ l) found.1)

none_lost : (s : SpoolState) (late : List Call) → All PromisesNothing late → AllKept s late
none_lost s [] nothing = tt
none_lost s (takes group (Err fault) ∷ late) nothing = (tt, none_lost s late (All-tail PromisesNothing (takes group (Err fault)) late nothing))
none_lost s (forgets channel id held ∷ late) nothing = (tt, none_lost s late (All-tail PromisesNothing (forgets channel id held) late nothing))
none_lost s (call ∷ late) nothing = absurd (All-head PromisesNothing call late nothing)

-- what keeps the groups of the calls before keeps those of all
pub kept_late : (s : SpoolState) (calls late : List Call) → All PromisesNothing late → AllKept s calls → AllKept s (calls ++ late)
kept_late s [] late nothing kept = none_lost s late nothing
kept_late s (call ∷ calls) late nothing kept = (kept.0, kept_late s calls late nothing kept.1)
