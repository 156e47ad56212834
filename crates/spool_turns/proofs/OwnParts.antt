-- What one caller added, among all that a journal added.
use Rattle.std.proofs.Common.{◌≡◌, ◌≢◌, ◌⊎◌, inl, inr, ℕ, ◌+◌, ◌*◌, ◌^◌, ◌≤◌, ◌==◌, Bool, true, false, cond, List, [], ◌∷◌, ◌++◌, get_or, refl, sym, ap, ◌∙◌, subst, arith, append_assoc, ne_eqb}
use Rattle.std.specs.Prelude.{All, filter, Result, Ok}
use Rattle.std.proofs.lemmas.Bool.{cases_eq, eqb-true, eqb-false}
use Rattle.std.proofs.lemmas.List.{append-nil}
use Rattle.std.proofs.lemmas.List.Elements.{All-nil, All-cons, All-head, All-tail}
use Rattle.event_form.specs.declared.event.Entry.{Entry}
use Rattle.spool_answers.specs.declared.receipt.Receipt.{Receipt}
use Rattle.spool_faults.specs.declared.fault.TakeFault.{TakeFault}
use Rattle.desk_access.specs.declared.division.Division.{Division}
use Rattle.desk_access.specs.Division.{DividedRun, divided}
use Rattle.desk_access.proofs.Dividing.{whose}
use Rattle.desk_access.specs.Call.{Call, takes, issues, Record, own_of, calls_of}
use Rattle.desk_access.specs.Batch.{AreNext, MayTake, MayUse, Belongs}
use Rattle.desk_access.specs.Desk.{DeskState, Goes}
use Rattle.desk_access.specs.History.{IsDesk, written_by}
use Rattle.desk_access.specs.Journal.{own_then}
use Rattle.desk_access.specs.Legal.{IsNext, IsIssuedBy, IsUnused, May, Met, AddsGroups, all_of, of_conn, AreOfOthers, AreOneGroup, IsLegal}
use Rattle.desk_access.proofs.Taking.{all_of_conn}
use Rattle.desk_access.proofs.Tables.{table_then}
use Rattle.desk_access.proofs.Added.{AllWritten, added_all, written_all, groups_all}
use Rattle.desk_access.proofs.Issued.{IsIssued, issued_of, AreIssued, none_issued, issued_then}
use Rattle.spool_turns.specs.OwnEntries.{groups_by, AddsOwn}
use Rattle.spool_turns.proofs.Picks.{picks_both, picks_none, picks_conn}

-- ---- the groups of one caller

module _ (number : ℕ) where
  adds_by : (log : List Record) (groups : List (List Entry)) → AddsGroups (calls_of log) groups → AddsGroups (own_of number log) (groups_by number log groups)
  adds_by [] groups adds = refl
  adds_by (one ∷ log) groups adds =
      subst (λ (l : List (List Entry)). AddsGroups (own_of number (one ∷ log)) (groups_by number (one ∷ log) l)) (sym adds.4)
      (by (one.by == number) (own_of number log) (groups_by number log adds.1) (adds_by log adds.1 adds.3))
    where
      by : (b : Bool) (calls : List Call) (mine : List (List Entry)) → AddsGroups calls mine → AddsGroups (cond b (one.call ∷ calls) calls) (cond b (adds.0 ∷ mine) mine)
      by true calls mine rest = (adds.0, mine, adds.2, rest, refl)
      by false calls mine rest = rest

  -- what the records of the caller may have written, and what those of others may have
  abbrev OwnWrite : (Entry → Type 0) → List Record → Type 0
  OwnWrite P [] = Unit {0}
  OwnWrite P (one ∷ log) = (one.by ≡ number → All P (written_by one.call)) × OwnWrite P log

  abbrev OthersWrite : (Entry → Type 0) → List Record → Type 0
  OthersWrite P [] = Unit {0}
  OthersWrite P (one ∷ log) = (one.by ≢ number → All P (written_by one.call)) × OthersWrite P log

  own_written : (P : Entry → Type 0) (log : List Record) → OwnWrite P log → AllWritten P (own_of number log)
  own_written P [] own = tt
  own_written P (one ∷ log) own = by (one.by == number) refl (own_written P log own.1) where
    by : (b : Bool) → (one.by == number) ≡ b → AllWritten P (own_of number log) → AllWritten P (cond b (one.call ∷ own_of number log) (own_of number log))
    by true is rest = (own.0 (eqb-true one.by number is), rest)
    by false is rest = rest

  -- where no other caller wrote an entry that the test picks, all that it picks are the caller's
  picks_own : (p : Entry → Bool) (log : List Record) (groups : List (List Entry)) → AddsGroups (calls_of log) groups → OthersWrite (λ (e : Entry). p e ≡ false) log
      → filter p (all_of groups) ≡ filter p (all_of (groups_by number log groups))
  picks_own p [] groups adds others = ap (λ (l : List (List Entry)). filter p (all_of l)) adds
  picks_own p (one ∷ log) groups adds others =
      ap (λ (l : List (List Entry)). filter p (all_of l)) adds.4
      ∙ picks_both p adds.0 (all_of adds.1)
      ∙ by (one.by == number) refl (groups_by number log adds.1) (picks_own p log adds.1 adds.3 others.1)
      ∙ sym (ap (λ (l : List (List Entry)). filter p (all_of (groups_by number (one ∷ log) l))) adds.4)
    where
      by : (b : Bool) → (one.by == number) ≡ b → (mine : List (List Entry)) → filter p (all_of adds.1) ≡ filter p (all_of mine)
          → filter p adds.0 ++ filter p (all_of adds.1) ≡ filter p (all_of (cond b (adds.0 ∷ mine) mine))
      by true is mine rest = ap (λ (l : List Entry). filter p adds.0 ++ l) rest ∙ sym (picks_both p adds.0 (all_of mine))
      by false is mine rest =
          ap (λ (l : List Entry). l ++ filter p (all_of adds.1))
          (picks_none p adds.0 (added_all (λ (e : Entry). p e ≡ false) one.call adds.0 adds.2 (others.0 (eqb-false one.by number is))))
          ∙ rest

  -- some of the groups are one group at most, where all are
  one_group_by : (unit : ℕ) (log : List Record) (groups : List (List Entry)) → AreOneGroup unit groups → AreOneGroup unit (groups_by number log groups)
  one_group_by unit [] groups one = tt
  one_group_by unit (record_of ∷ log) [] one = tt
  one_group_by unit (it ∷ log) (group ∷ groups) (inl others) = by (it.by == number) (one_group_by unit log groups others.1) where
    by : (b : Bool) → AreOneGroup unit (groups_by number log groups) → AreOneGroup unit (cond b (group ∷ groups_by number log groups) (groups_by number log groups))
    by true rest = inl (others.0, rest)
    by false rest = rest
  one_group_by unit (it ∷ log) (group ∷ groups) (inr whole) = by (it.by == number) (others_by log groups whole.1) where
    others_by : (log : List Record) (groups : List (List Entry)) → All (AreOfOthers unit) groups → All (AreOfOthers unit) (groups_by number log groups)
    others_by [] groups all = All-nil (AreOfOthers unit)
    others_by (one ∷ log) [] all = All-nil (AreOfOthers unit)
    others_by (one ∷ log) (group ∷ groups) all = here (one.by == number) (others_by log groups (All-tail (AreOfOthers unit) group groups all)) where
      here : (b : Bool) → All (AreOfOthers unit) (groups_by number log groups) → All (AreOfOthers unit) (cond b (group ∷ groups_by number log groups) (groups_by number log groups))
      here true rest = All-cons (AreOfOthers unit) group (groups_by number log groups) (All-head (AreOfOthers unit) group groups all) rest
      here false rest = rest

    none : (groups : List (List Entry)) → All (AreOfOthers unit) groups → AreOneGroup unit groups
    none [] all = tt
    none (group ∷ groups) all = inl (All-head (AreOfOthers unit) group groups all, none groups (All-tail (AreOfOthers unit) group groups all))

    by : (b : Bool) → All (AreOfOthers unit) (groups_by number log groups) → AreOneGroup unit (cond b (group ∷ groups_by number log groups) (groups_by number log groups))
    by true rest = inr (whole.0, rest)
    by false rest = none (groups_by number log groups) rest

-- ---- connections

abbrev IsOwn : DividedRun → ℕ → Entry → Type 0
IsOwn run number entry = Belongs run number entry.conn

group_own : (run : DividedRun) (number : ℕ) (own : List Call) (group : List Entry) → MayTake (IsNext run number own) group → All (IsOwn run number) group
group_own run number own [] may = All-nil (IsOwn run number)
group_own run number own (entry ∷ entries) may =
    All-cons (IsOwn run number) entry entries may.0.belongs
    (λ k d lt. subst (Belongs run number) (sym (all_of_conn entry.conn (entry.index + 1) entries may.1 k d lt)) may.0.belongs)

call_own : (run : DividedRun) (confirming number : ℕ) (own : List Call) (call : Call) → May run confirming number own call → All (IsOwn run number) (written_by call)
call_own run confirming number own (takes group result) may = written_all (IsOwn run number) group result (group_own run number own group may.0)
call_own run confirming number own _ may = All-nil (IsOwn run number)

one_owner : (run : DividedRun) (n k conn : ℕ) → Belongs run n conn → Belongs run k conn → n ≡ k
one_owner run n k conn p q =
    whose run.division (run.number * 2 ^ 32) n conn p.from p.below ∙ sym (whose run.division (run.number * 2 ^ 32) k conn q.from q.below)

off_conn : (run : DividedRun) (n number conn : ℕ) → Belongs run number conn → n ≢ number → (entry : Entry) → IsOwn run n entry → (entry.conn == conn) ≡ false
off_conn run n number conn mine differ entry theirs =
    ne_eqb entry.conn conn (λ same. differ (one_owner run n number conn (subst (Belongs run n) same theirs) mine))

module _ (run : DividedRun) (confirming number : ℕ) where
  own_conns : (before log : List Record) → Met run confirming before log → OwnWrite number (IsOwn run number) log
  own_conns before [] met = tt
  own_conns before (one ∷ log) met = (
    λ same. subst (λ (n : ℕ). All (IsOwn run n) (written_by one.call)) same (call_own run confirming one.by (own_of one.by before) one.call met.0),
    own_conns (before ++ one ∷ []) log met.1,
  )

  other_conns : (conn : ℕ) → Belongs run number conn → (before log : List Record) → Met run confirming before log → OthersWrite number (λ (e : Entry). (e.conn == conn) ≡ false) log
  other_conns conn mine before [] met = tt
  other_conns conn mine before (one ∷ log) met = (
    λ differ k d lt. off_conn run one.by number conn mine differ (get_or (written_by one.call) k d) (call_own run confirming one.by (own_of one.by before) one.call met.0 k d lt),
    other_conns conn mine (before ++ one ∷ []) log met.1,
  )

-- ---- ids

issued_here : (unit : ℕ) (call : Call) → IsIssuedBy unit call ⊎ (IsIssuedBy unit call → ⊥)
issued_here unit (issues channel (Ok id)) = cases_eq id unit
issued_here unit _ = inr (λ never. never)

issued_or_not : (unit : ℕ) (calls : List Call) → IsIssued unit calls ⊎ (IsIssued unit calls → ⊥)
issued_or_not unit [] = inr (λ never. never)
issued_or_not unit (call ∷ calls) = elim (issued_here unit call) [
  | inl here ↦ inl (inl here)
  | inr other ↦ elim (issued_or_not unit calls) [ inl there ↦ inl (inr there) | inr never ↦ inr (λ h. elim h [ inl here ↦ other here | inr there ↦ never there ]) ]
]

issued_left : (unit : ℕ) (calls more : List Call) → IsIssued unit calls → IsIssued unit (calls ++ more)
issued_left unit [] more h = absurd h
issued_left unit (call ∷ calls) more (inl here) = inl here
issued_left unit (call ∷ calls) more (inr there) = inr (issued_left unit calls more there)

issued_whole : (unit number : ℕ) (before log whole : List Record) → before ++ log ≡ whole → IsIssued unit (own_of number before) → IsIssued unit (own_of number whole)
issued_whole unit number before log whole is h =
    subst (λ (l : List Record). IsIssued unit (own_of number l)) is
    (subst (IsIssued unit) (sym (own_then number before log)) (issued_left unit (own_of number before) (own_of number log) h))

-- the ids that a whole journal issued
pub issued_all : (run : ℕ) (records log : List Record) (x y : DeskState) → AreIssued run records x.ids → Goes x log y → AreIssued run (records ++ log) y.ids
issued_all run records [] x y are goes =
    subst (λ (l : List Record). AreIssued run l y.ids) (sym (append-nil records)) (subst (λ (d : DeskState). AreIssued run records d.ids) (sym goes) are)
issued_all run records (one ∷ log) x y are goes =
    let row = table_then x goes.0 one goes.1 in
    subst (λ (l : List Record). AreIssued run l y.ids) (append_assoc records (one ∷ []) log)
    (issued_all run (records ++ one ∷ []) log goes.0 y (issued_then run records one x.ids goes.0.ids are row) goes.2)

-- a call writes no entry of the unit, or its caller was issued it
group_unit : (unit : ℕ) (own : List Call) (group : List Entry) (result : Result Receipt TakeFault) → 2 ^ 32 ≤ unit → MayUse (IsUnused own) group
    → AreOfOthers unit (written_by (takes group result)) ⊎ IsIssued unit own
group_unit unit own group result large (inl plain) =
    inl (written_all (λ (e : Entry). e.unit ≢ unit) group result (λ k d lt same. omega (arith, plain k d lt, same, large)))
group_unit unit own group result large (inr ids) = elim (cases_eq ids.0 unit) [
  | inl same ↦ inr (subst (λ (u : ℕ). IsIssued u own) same (issued_of own ids.0 ids.1))
  | inr differ ↦ inl (written_all (λ (e : Entry). e.unit ≢ unit) group result (λ k d lt is. differ (sym (ids.2 k d lt) ∙ is)))
]

call_unit : (run : DividedRun) (confirming number unit : ℕ) (own : List Call) (call : Call) → 2 ^ 32 ≤ unit → May run confirming number own call
    → AreOfOthers unit (written_by call) ⊎ IsIssued unit own
call_unit run confirming number unit own (takes group result) large may = group_unit unit own group result large may.1
call_unit run confirming number unit own _ large may = inl (All-nil (λ (e : Entry). e.unit ≢ unit))

module _ (run : DividedRun) (confirming number unit : ℕ) (large : 2 ^ 32 ≤ unit) (whole : List Record) where
  -- of an id that was issued to the caller nobody else wrote an entry
  other_units : ((n : ℕ) → IsIssued unit (own_of n whole) → n ≡ number) → (before log : List Record) → before ++ log ≡ whole → Met run confirming before log
      → OthersWrite number (λ (e : Entry). (e.unit == unit) ≡ false) log
  other_units only before [] is met = tt
  other_units only before (one ∷ log) is met = (
    (λ differ. elim (call_unit run confirming one.by unit (own_of one.by before) one.call large met.0) [
      | inl others ↦ (λ k d lt. ne_eqb _ unit (others k d lt))
      | inr issued ↦ absurd (differ (only one.by (issued_whole unit one.by before (one ∷ log) whole is issued)))
    ]),
    other_units only (before ++ one ∷ []) log (append_assoc before (one ∷ []) log ∙ is) met.1,
  )

  -- and of another id the caller wrote none
  own_units : (IsIssued unit (own_of number whole) → ⊥) → (before log : List Record) → before ++ log ≡ whole → Met run confirming before log
      → OwnWrite number (λ (e : Entry). e.unit ≢ unit) log
  own_units not before [] is met = tt
  own_units not before (one ∷ log) is met = (
    (λ same. elim (call_unit run confirming one.by unit (own_of one.by before) one.call large met.0) [
      | inl others ↦ others
      | inr issued ↦ absurd (not (subst (λ (n : ℕ). IsIssued unit (own_of n whole)) same (issued_whole unit one.by before (one ∷ log) whole is issued)))
    ]),
    own_units not (before ++ one ∷ []) log (append_assoc before (one ∷ []) log ∙ is) met.1,
  )

-- ---- all of it

pub adds_own : (x y : DeskState) (log : List Record) (division : Division) (confirming number : ℕ) (groups : List (List Entry)) → IsDesk x → Goes x log y → Met (divided division x.spool.run) confirming [] log → AddsGroups (calls_of log) groups → IsLegal x.spool.run groups
    → AddsOwn (divided division x.spool.run) number (own_of number log) groups (groups_by number log groups)
adds_own x y log division confirming number groups rules goes met adds legal =
    let run = divided division x.spool.run in
    let mine = groups_by number log groups in
    let own = adds_by number log groups adds in
    let are = issued_all x.spool.run [] log x y (none_issued x.spool.run x.ids rules.run rules.ids) goes in
    let conns : (conn : ℕ) → Belongs run number conn → of_conn conn (all_of groups) ≡ of_conn conn (all_of mine) = λ conn h.
    picks_conn conn (all_of groups)
    ∙ picks_own number (λ (e : Entry). e.conn == conn) log groups adds (other_conns run confirming number conn h [] log met)
    ∙ sym (picks_conn conn (all_of mine)) in
    record {
      adds = own;
      belongs = groups_all (IsOwn run number) (own_of number log) mine own (own_written number (IsOwn run number) log (own_conns run confirming number [] log met));
      conns = conns;
      indexes = λ conn h. subst (AreNext conn 0) (conns conn h) (legal.indexes conn);
      one_group = λ unit large. one_group_by number unit log groups (legal.one_group unit large);
      units = λ unit large. elim (issued_or_not unit (own_of number log)) [
        | inl issued ↦ inr (picks_own number (λ (e : Entry). e.unit == unit) log groups adds
            (other_units run confirming number unit large log (λ n h. are.once n number unit h issued) [] log refl met))
        | inr not ↦ inl (groups_all (λ (e : Entry). e.unit ≢ unit) (own_of number log) mine own
            (own_written number (λ (e : Entry). e.unit ≢ unit) log (own_units run confirming number unit large log not [] log refl met)))
      ];
    }
