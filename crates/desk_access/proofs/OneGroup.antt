-- The entries of an id are one group.
use Rattle.std.proofs.Common.{◌≡◌, ◌≢◌, ◌⊎◌, inl, inr, ℕ, ◌^◌, ◌≤◌, ◌<◌, ◌==◌, Bool, true, false, cond, List, [], ◌∷◌, ◌++◌, length, refl, sym, ◌∙◌, ap, subst, arith}
use Rattle.std.specs.Prelude.{All, Result}
use Rattle.std.proofs.lemmas.Bool.{cases_eq, eqb-true, eq-eqb}
use Rattle.std.proofs.lemmas.List.{append-nil}
use Rattle.std.proofs.lemmas.List.Elements.{All-nil, All-cons}
use Rattle.event_form.specs.declared.event.Entry.{Entry}
use Rattle.spool_answers.specs.declared.receipt.Receipt.{Receipt}
use Rattle.spool_faults.specs.declared.fault.TakeFault.{TakeFault}
use Rattle.hec_ids.specs.Table.{Table}
use Rattle.desk_access.specs.Division.{DividedRun}
use Rattle.desk_access.specs.Call.{Call, takes, Record, own_of, calls_of}
use Rattle.desk_access.specs.Batch.{AreOfUnit, MayUse}
use Rattle.desk_access.specs.Desk.{DeskState, Goes}
use Rattle.desk_access.specs.History.{written_by}
use Rattle.desk_access.specs.Legal.{AreUnused, IsIssuedBy, IsUnused, May, Met, AddsGroups, AreOfOthers, AreOneGroup}
use Rattle.desk_access.specs.Journal.{own_then}
use Rattle.desk_access.proofs.Tables.{TableAfter, table_then}
use Rattle.desk_access.proofs.Added.{added_all, written_all}
use Rattle.desk_access.proofs.Issued.{issued_of, AreIssued, below_own, issued_then, next_rises, new_is}

-- one call more
unused_parts : (id : ℕ) (calls more : List Call) → AreUnused id (calls ++ more) → AreUnused id calls × AreUnused id more
unused_parts id [] more h = (tt, h)
unused_parts id (call ∷ calls) more h = let rest = unused_parts id calls more h.1 in ((h.0, rest.0), rest.1)

unused_last : (own : List Call) (call : Call) (id : ℕ) → IsUnused (own ++ call ∷ []) id → (IsUnused own id × AreOfOthers id (written_by call)) ⊎ IsIssuedBy id call
unused_last [] call id (inl here) = inr here.0
unused_last [] call id (inr never) = absurd never
unused_last (first ∷ own) call id (inl here) = let parts = unused_parts id own (call ∷ []) here.1 in inl (inl (here.0, parts.0), parts.1.0)
unused_last (first ∷ own) call id (inr there) = elim (unused_last own call id there) [ inl rest ↦ inl (inr rest.0, rest.1) | inr new ↦ inr new ]

-- what one caller made, with one record more
own_more : (number : ℕ) (records : List Record) (one : Record) (P : List Call → Type 0) → P (own_of number (records ++ one ∷ [])) → ((one.by ≡ number) × P (own_of number records ++ one.call ∷ [])) ⊎ ((one.by ≢ number) × P (own_of number records))
own_more number records one P h = by (one.by == number) refl (subst P (own_then number records (one ∷ [])) h) where
  by : (b : Bool) → (one.by == number) ≡ b → P (own_of number records ++ cond b (one.call ∷ []) []) → ((one.by ≡ number) × P (own_of number records ++ one.call ∷ [])) ⊎ ((one.by ≢ number) × P (own_of number records))
  by true is h = inl (eqb-true one.by number is, h)
  by false is h = inr (λ same. let never : false ≡ true = sym is ∙ eq-eqb one.by number same in absurd (cc), subst P (append-nil (own_of number records)) h)

-- ---- which units a call writes

-- The call writes no entry of the unit, or its entries are all of it.
abbrev pub Uses : ℕ → List Call → Call → Type 0
Uses unit own call = AreOfOthers unit (written_by call) ⊎ ((0 < length (written_by call)) × IsUnused own unit × AreOfUnit unit (written_by call) × (IsIssuedBy unit call → ⊥))

some_or_none : (group : List Entry) (unit : ℕ) (own : List Call) (call : Call) → written_by call ≡ group → IsUnused own unit → AreOfUnit unit (written_by call) → (IsIssuedBy unit call → ⊥) → Uses unit own call
some_or_none [] unit own call is unused all not = inl (subst (AreOfOthers unit) (sym is) (All-nil (λ (entry : Entry). entry.unit ≢ unit)))
some_or_none (entry ∷ entries) unit own call is unused all not = inr (omega (arith, ap length is), unused, all, not)

take_uses : (unit : ℕ) (own : List Call) (group : List Entry) (result : Result Receipt TakeFault) → 2 ^ 32 ≤ unit → MayUse (IsUnused own) group → Uses unit own (takes group result)
take_uses unit own group result large (inl plain) = inl (written_all (λ (entry : Entry). entry.unit ≢ unit) group result (λ k d lt same. omega (arith, plain k d lt, same, large)))
take_uses unit own group result large (inr ids) = elim (cases_eq ids.0 unit) [
  | inl same ↦ some_or_none (written_by (takes group result)) unit own (takes group result) refl (subst (IsUnused own) same ids.1) (written_all (λ (entry : Entry). entry.unit ≡ unit) group result (λ k d lt. ids.2 k d lt ∙ same)) (λ never. absurd never)
  | inr differ ↦ inl (written_all (λ (entry : Entry). entry.unit ≢ unit) group result (λ k d lt is. differ (sym (ids.2 k d lt) ∙ is)))
]

uses : (run : DividedRun) (confirming number unit : ℕ) (own : List Call) (call : Call) → 2 ^ 32 ≤ unit → May run confirming number own call → Uses unit own call
uses run confirming number unit own (takes group result) large may = take_uses unit own group result large may.1
uses run confirming number unit own _ large may = inl (All-nil (λ (entry : Entry). entry.unit ≢ unit))

-- ---- after a use

both_units : (unit : ℕ) (group : List Entry) → 0 < length group → AreOfUnit unit group → AreOfOthers unit group → ⊥
both_units unit [] some all others = omega (arith, some)
both_units unit (entry ∷ entries) some all others = others 0 entry some (all 0 entry some)

-- no caller may use the unit again
record IsSpent (unit : ℕ) (records : List Record) (t : Table) : Type 0 where
  none : (number : ℕ) → IsUnused (own_of number records) unit → ⊥
  old : unit < t.next

module _ (run : DividedRun) (confirming unit : ℕ) (large : 2 ^ 32 ≤ unit) where
  spent_more : (records : List Record) (one : Record) (t u : Table) → AreIssued run.number records t → TableAfter t one.call u → IsSpent unit records t → IsSpent unit (records ++ one ∷ []) u
  spent_more records one t u are row spent = record {
    none = λ number h. elim (own_more number records one (λ (l : List Call). IsUnused l unit) h) [
      | inl same ↦ elim (unused_last (own_of number records) one.call unit same.1) [ inl before ↦ spent.none number before.0 | inr new ↦ omega (arith, new_is run.number unit records one.call t u are row new, spent.old) ]
      | inr other ↦ spent.none number other.1
    ];
    old = omega (arith, spent.old, next_rises run.number records one.call t u are row);
  }

  -- a call by which entries of the unit are written
  spent_new : (records : List Record) (one : Record) (t u : Table) → AreIssued run.number records t → TableAfter t one.call u → 0 < length (written_by one.call) → IsUnused (own_of one.by records) unit → AreOfUnit unit (written_by one.call) → (IsIssuedBy unit one.call → ⊥)
      → IsSpent unit (records ++ one ∷ []) u
  spent_new records one t u are row some unused all not = record {
    none = λ number h. elim (own_more number records one (λ (l : List Call). IsUnused l unit) h) [
      | inl same ↦ elim (unused_last (own_of number records) one.call unit same.1) [ inl before ↦ both_units unit (written_by one.call) some all before.1 | inr new ↦ not new ]
      | inr other ↦ other.0 (are.once one.by number unit (issued_of (own_of one.by records) unit unused) (issued_of (own_of number records) unit other.1))
    ];
    old = omega (arith, (below_own run.number one.by unit records t are (issued_of (own_of one.by records) unit unused)).1, next_rises run.number records one.call t u are row);
  }

  spent_none : (records log : List Record) (x y : DeskState) (groups : List (List Entry)) → AreIssued run.number records x.ids → IsSpent unit records x.ids → Goes x log y → Met run confirming records log → AddsGroups (calls_of log) groups → All (AreOfOthers unit) groups
  spent_none records [] x y groups are spent goes met adds = subst (All (AreOfOthers unit)) (sym adds) (All-nil (AreOfOthers unit))
  spent_none records (one ∷ log) x y groups are spent goes met adds =
      let row = table_then x goes.0 one goes.1 in
      let here : AreOfOthers unit (written_by one.call) = elim (uses run confirming one.by unit (own_of one.by records) one.call large met.0) [ inl others ↦ others | inr used ↦ absurd (spent.none one.by used.1) ] in
      subst (All (AreOfOthers unit)) (sym adds.4) (All-cons (AreOfOthers unit) adds.0 adds.1 (added_all (λ (entry : Entry). entry.unit ≢ unit) one.call adds.0 adds.2 here)
      (spent_none (records ++ one ∷ []) log goes.0 y adds.1 (issued_then run.number records one x.ids goes.0.ids are row) (spent_more records one x.ids goes.0.ids are row spent) goes.2 met.1 adds.3))

  pub one_group : (records log : List Record) (x y : DeskState) (groups : List (List Entry)) → AreIssued run.number records x.ids → Goes x log y → Met run confirming records log → AddsGroups (calls_of log) groups → AreOneGroup unit groups
  one_group records [] x y groups are goes met adds = subst (AreOneGroup unit) (sym adds) tt
  one_group records (one ∷ log) x y groups are goes met adds =
      let row = table_then x goes.0 one goes.1 in
      let after = issued_then run.number records one x.ids goes.0.ids are row in
      subst (AreOneGroup unit) (sym adds.4) (elim (uses run confirming one.by unit (own_of one.by records) one.call large met.0) [
        | inl others ↦ inl (added_all (λ (entry : Entry). entry.unit ≢ unit) one.call adds.0 adds.2 others, one_group (records ++ one ∷ []) log goes.0 y adds.1 after goes.2 met.1 adds.3)
        | inr used ↦ inr (
          added_all (λ (entry : Entry). entry.unit ≡ unit) one.call adds.0 adds.2 used.2,
          spent_none (records ++ one ∷ []) log goes.0 y adds.1 after (spent_new records one x.ids goes.0.ids are row used.0 used.1 used.2 used.3) goes.2 met.1 adds.3,
        )
      ])
