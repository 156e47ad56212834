-- The group of an id is all that a journal adds of it.
use Rattle.std.proofs.Common.{◌≡◌, inl, inr, ℕ, ◌^◌, ◌<◌, ◌≤◌, ◌==◌, Bool, true, false, cond, List, [], ◌∷◌, ◌++◌, length, refl, sym, ap, ◌∙◌, subst, arith, eq-eqb, ne_eqb}
use Rattle.std.specs.Prelude.{All, Ok, Err}
use Rattle.std.specs.List.{Contains}
use Rattle.std.proofs.lemmas.Bool.{cond-true}
use Rattle.std.proofs.lemmas.List.{append-nil}
use Rattle.std.proofs.lemmas.List.Elements.{All-head, All-tail, All-contains, Contains-append_left, Contains-append_right, Contains-append_cases, Contains-push_cases}
use Rattle.event_form.specs.declared.event.Entry.{Entry}
use Rattle.desk_access.specs.Call.{Call, takes, Record, own_of, calls_of}
use Rattle.desk_access.specs.Batch.{AreOfUnit}
use Rattle.desk_access.specs.Groups.{Group, IsOfId, groups_by, groups_of}
use Rattle.desk_access.specs.History.{Adds, AddsAll}
use Rattle.desk_access.specs.Journal.{calls_then}
use Rattle.desk_access.specs.Legal.{AddsGroups, AreOfOthers, AreOneGroup, IsLegal, all_of}
use Rattle.desk_access.specs.Legal.{of_unit}
use Rattle.spool_turns.proofs.Picks.{picks_both, picks_none}
use Rattle.serve_laws.proofs.Contributing.{in_groups}

-- ---- a group that a caller took, among all

first_contains : (calls more : List Call) (group : Group) → Contains (groups_of calls) group → Contains (groups_of (calls ++ more)) group
first_contains [] more group c = absurd (omega (arith, c.1))
first_contains (call ∷ calls) more group c = elim (Contains-append_cases (groups_by call) (groups_of calls) group c) [
  | inl here ↦ Contains-append_left (groups_by call) (groups_of (calls ++ more)) group here
  | inr there ↦ Contains-append_right (groups_by call) (groups_of (calls ++ more)) group (first_contains calls more group there)
]

own_contains : (number : ℕ) (log : List Record) (group : Group) → Contains (groups_of (own_of number log)) group → Contains (groups_of (calls_of log)) group
own_contains number [] group c = c
own_contains number (one ∷ log) group c = by (own_contains number log group) (one.by == number) c where
  behind : Contains (groups_of (calls_of log)) group → Contains (groups_of (calls_of (one ∷ log))) group
  behind there = Contains-append_right (groups_by one.call) (groups_of (calls_of log)) group there

  by : (Contains (groups_of (own_of number log)) group → Contains (groups_of (calls_of log)) group) → (b : Bool) → Contains (groups_of (cond b (one.call ∷ own_of number log) (own_of number log))) group → Contains (groups_of (calls_of (one ∷ log))) group
  by rest true c = elim (Contains-append_cases (groups_by one.call) (groups_of (own_of number log)) group c) [
    | inl here ↦ Contains-append_left (groups_by one.call) (groups_of (calls_of log)) group here
    | inr there ↦ behind (rest there)
  ]
  by rest false c = behind (rest c)

by_call : (call : Call) (here : List Entry) (group : Group) → Adds call here → Contains (groups_by call) group → here ≡ group.entries
by_call (takes entries (Ok receipt)) here group adds c = elim (Contains-push_cases [] (record { first = receipt.first; entries = entries }) group c) [
  | inl never ↦ absurd (omega (arith, never.1))
  | inr same ↦ adds ∙ ap (λ (g : Group). g.entries) same
]
by_call (takes entries (Err fault)) here group adds c = absurd (omega (arith, c.1))
by_call call here group adds c = absurd (omega (arith, c.1))

-- it is one of those that the calls added
among_added : (calls : List Call) (groups : List (List Entry)) (group : Group) → AddsGroups calls groups → Contains (groups_of calls) group → Contains groups group.entries
among_added [] groups group adds c = absurd (omega (arith, c.1))
among_added (call ∷ calls) groups group (here, rest, added, others, is) c =
    subst (λ (l : List (List Entry)). Contains l group.entries) (sym is) (elim (Contains-append_cases (groups_by call) (groups_of calls) group c) [
      | inl first ↦ Contains-append_left (here ∷ []) rest group.entries (0, omega arith, by_call call here group added first)
      | inr later ↦ Contains-append_right (here ∷ []) rest group.entries (among_added calls rest group others later)
    ])

-- ---- of one unit

clash : (unit : ℕ) (entries : List Entry) → AreOfUnit unit entries → AreOfOthers unit entries → 0 < length entries → ⊥
clash unit [] mine others some = omega (arith, some)
clash unit (entry ∷ entries) mine others some = All-head (λ (e : Entry). e.unit ≡ unit → ⊥) entry entries others (All-head (λ (e : Entry). e.unit ≡ unit) entry entries mine)

unit_all : (unit : ℕ) (entries : List Entry) → AreOfUnit unit entries → of_unit unit entries ≡ entries
unit_all unit [] all = refl
unit_all unit (entry ∷ entries) all =
    cond-true (entry.unit == unit) (entry ∷ of_unit unit entries) (of_unit unit entries) (eq-eqb entry.unit unit (All-head (λ (e : Entry). e.unit ≡ unit) entry entries all))
    ∙ ap (λ (l : List Entry). entry ∷ l) (unit_all unit entries (All-tail (λ (e : Entry). e.unit ≡ unit) entry entries all))

unit_none : (unit : ℕ) (entries : List Entry) → AreOfOthers unit entries → of_unit unit entries ≡ []
unit_none unit entries others = picks_none (λ (e : Entry). e.unit == unit) entries (λ k d lt. ne_eqb _ unit (others k d lt))

units_none : (unit : ℕ) (groups : List (List Entry)) → All (AreOfOthers unit) groups → of_unit unit (all_of groups) ≡ []
units_none unit [] others = refl
units_none unit (group ∷ groups) others =
    picks_both (λ (e : Entry). e.unit == unit) group (all_of groups)
    ∙ (λ i. unit_none unit group (All-head (AreOfOthers unit) group groups others) i ++ units_none unit groups (All-tail (AreOfOthers unit) group groups others) i)

-- where the entries of the unit are one group at most, and this is one, it is all
one_unit : (unit : ℕ) (groups : List (List Entry)) (entries : List Entry) → AreOneGroup unit groups → Contains groups entries → AreOfUnit unit entries → 0 < length entries → of_unit unit (all_of groups) ≡ entries
one_unit unit [] entries one c mine some = absurd (omega (arith, c.1))
one_unit unit (group ∷ groups) entries (inl (others, rest)) c mine some = elim (Contains-append_cases (group ∷ []) groups entries c) [
  | inl here ↦ elim (Contains-push_cases [] group entries here) [
    | inl never ↦ absurd (omega (arith, never.1))
    | inr same ↦ absurd (clash unit entries mine (subst (AreOfOthers unit) same others) some)
  ]
  | inr there ↦
      picks_both (λ (e : Entry). e.unit == unit) group (all_of groups)
      ∙ (λ i. unit_none unit group others i ++ one_unit unit groups entries rest there mine some i)
]
one_unit unit (group ∷ groups) entries (inr (whole, others)) c mine some = elim (Contains-append_cases (group ∷ []) groups entries c) [
  | inl here ↦ elim (Contains-push_cases [] group entries here) [
    | inl never ↦ absurd (omega (arith, never.1))
    | inr same ↦
        picks_both (λ (e : Entry). e.unit == unit) group (all_of groups)
        ∙ (λ i. unit_all unit group whole i ++ units_none unit groups others i) ∙ append-nil group ∙ same
  ]
  | inr there ↦ absurd (clash unit entries mine (All-contains (AreOfOthers unit) groups entries others there) some)
]

-- The group of an id that a caller took by then is all that the whole journal added of the id.
pub id_whole : (run number id : ℕ) (log before more : List Record) (group : Group) (added : List Entry) → log ≡ before ++ more → Contains (groups_of (own_of number before)) group → IsOfId id group → 2 ^ 32 ≤ id
    → ((groups : List (List Entry)) → AddsGroups (calls_of log) groups → IsLegal run groups) → AddsAll (calls_of log) added → of_unit id added ≡ group.entries
id_whole run number id log before more group added parts taken of large legal adds =
    let g = in_groups (calls_of log) added adds in
    let all : calls_of log ≡ calls_of before ++ calls_of more = ap calls_of parts ∙ calls_then before more in
    let here = subst (λ (l : List Call). Contains (groups_of l) group) (sym all) (first_contains (calls_of before) (calls_of more) group (own_contains number before group taken)) in
    ap (of_unit id) g.2 ∙ one_unit id g.0 group.entries ((legal g.0 g.1).one_group id large) (among_added (calls_of log) g.0 group g.1 here) of.unit of.some
