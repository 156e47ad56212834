-- Each connection's entries are added in order.
use Rattle.std.proofs.Common.{◌≡◌, ◌≢◌, ◌⊎◌, inl, inr, ℕ, suc, ◌+◌, ◌-◌, ◌*◌, ◌/◌, ◌^◌, ◌<◌, ◌==◌, Bool, true, false, cond, List, [], ◌∷◌, ◌++◌, length, Ok, Err, refl, sym, ◌∙◌, ap, subst, arith}
use Rattle.std.specs.Prelude.{All, Result}
use Rattle.std.proofs.lemmas.Bool.{cases_eq, eq-eqb, ne_eqb}
use Rattle.std.proofs.lemmas.List.{append-nil}
use Rattle.std.proofs.lemmas.List.Elements.{All-nil, All-cons, All-head, All-tail}
use Rattle.event_form.specs.declared.event.Entry.{Entry}
use Rattle.spool_answers.specs.declared.receipt.Receipt.{Receipt}
use Rattle.spool_faults.specs.declared.fault.TakeFault.{TakeFault}
use Rattle.spool_faults.specs.declared.fault.TakeFault.TheVariants as Take
use Rattle.desk_access.specs.Division.{DividedRun, each_of}
use Rattle.desk_access.specs.Call.{Call, takes, Record, own_of, calls_of, taken_by}
use Rattle.desk_access.specs.Batch.{AreNext, MayTake, Belongs}
use Rattle.desk_access.specs.History.{Adds}
use Rattle.desk_access.specs.Legal.{count_in, count_on, IsSureOn, AreSureOn, IsNext, May, Met, AddsGroups, all_of, of_conn}
use Rattle.desk_access.specs.Journal.{own_then}
use Rattle.desk_access.proofs.Dividing.{whose}
use Rattle.desk_access.proofs.Taking.{all_of_conn}
use Rattle.desk_access.proofs.Added.{added_all, written_all}
use Rattle.desk_access.proofs.Nexts.{count_all, count_none, count_then, sure_then}

-- ---- the entries of one connection

conn_cons : (conn : ℕ) (entry : Entry) (entries : List Entry) → entry.conn ≡ conn → of_conn conn (entry ∷ entries) ≡ entry ∷ of_conn conn entries
conn_cons conn entry entries is = ap (λ (b : Bool). cond b (entry ∷ of_conn conn entries) (of_conn conn entries)) (eq-eqb entry.conn conn is)

conn_skip : (conn : ℕ) (entry : Entry) (entries : List Entry) → entry.conn ≢ conn → of_conn conn (entry ∷ entries) ≡ of_conn conn entries
conn_skip conn entry entries off = ap (λ (b : Bool). cond b (entry ∷ of_conn conn entries) (of_conn conn entries)) (ne_eqb entry.conn conn off)

conn_all : (conn : ℕ) (group : List Entry) → All (λ (entry : Entry). entry.conn ≡ conn) group → of_conn conn group ≡ group
conn_all conn [] all = refl
conn_all conn (entry ∷ entries) all =
    conn_cons conn entry entries (All-head (λ (e : Entry). e.conn ≡ conn) entry entries all) ∙ ap (λ (l : List Entry). entry ∷ l) (conn_all conn entries (All-tail (λ (e : Entry). e.conn ≡ conn) entry entries all))

conn_none : (conn : ℕ) (group : List Entry) → All (λ (entry : Entry). entry.conn ≢ conn) group → of_conn conn group ≡ []
conn_none conn [] all = refl
conn_none conn (entry ∷ entries) all =
    conn_skip conn entry entries (All-head (λ (e : Entry). e.conn ≢ conn) entry entries all) ∙ conn_none conn entries (All-tail (λ (e : Entry). e.conn ≢ conn) entry entries all)

conn_both : (conn : ℕ) (xs ys : List Entry) → of_conn conn (xs ++ ys) ≡ of_conn conn xs ++ of_conn conn ys
conn_both conn [] ys = refl
conn_both conn (x ∷ xs) ys = by (x.conn == conn) (conn_both conn xs ys) where
  by : (b : Bool) → of_conn conn (xs ++ ys) ≡ of_conn conn xs ++ of_conn conn ys → cond b (x ∷ of_conn conn (xs ++ ys)) (of_conn conn (xs ++ ys)) ≡ cond b (x ∷ of_conn conn xs) (of_conn conn xs) ++ of_conn conn ys
  by true rest = ap (λ (l : List Entry). x ∷ l) rest
  by false rest = rest

-- entries that go on, one list after another
next_both : (conn index : ℕ) (xs ys : List Entry) → AreNext conn index xs → AreNext conn (index + length xs) ys → AreNext conn index (xs ++ ys)
next_both conn index [] ys p q = subst (λ (n : ℕ). AreNext conn n ys) (let none : index + 0 ≡ index = omega arith in none) q
next_both conn index (x ∷ xs) ys p q = (p.0, p.1, next_both conn (index + 1) xs ys p.2 (subst (λ (n : ℕ). AreNext conn n ys) (let step : index + suc (length xs) ≡ index + 1 + length xs = omega arith in step) q))

-- ---- what a call takes of it

-- a call of the caller takes none of the connection, or the next of it and no other
abbrev pub TakesOf : DividedRun → ℕ → ℕ → List Call → List Entry → Type 0
TakesOf run conn number own group = All (λ (entry : Entry). entry.conn ≢ conn) group ⊎ ((0 < length group) × Belongs run number conn × AreSureOn conn own × AreNext conn (count_on conn own) group)

takes_of : (run : DividedRun) (conn number : ℕ) (own : List Call) (group : List Entry) → MayTake (IsNext run number own) group → TakesOf run conn number own group
takes_of run conn number own [] may = inl (All-nil (λ (entry : Entry). entry.conn ≢ conn))
takes_of run conn number own (entry ∷ entries) may = elim (cases_eq entry.conn conn) [
  | inl same ↦ inr (
    omega arith,
    subst (Belongs run number) same may.0.belongs,
    subst (λ (c : ℕ). AreSureOn c own) same may.0.sure,
    (same, may.0.index_is ∙ ap (λ (c : ℕ). count_on c own) same, subst (λ (n : ℕ). AreNext conn (n + 1) entries) (may.0.index_is ∙ ap (λ (c : ℕ). count_on c own) same) (subst (λ (c : ℕ). AreNext c (entry.index + 1) entries) same may.1)),
  )
  | inr off ↦ inl (All-cons (λ (e : Entry). e.conn ≢ conn) entry entries off (λ k d lt is. off (sym (all_of_conn entry.conn (entry.index + 1) entries may.1 k d lt) ∙ is)))
]

-- ---- one caller's calls, with one more

own_other : (number : ℕ) (records : List Record) (one : Record) → one.by ≢ number → own_of number (records ++ one ∷ []) ≡ own_of number records
own_other number records one off = own_then number records (one ∷ []) ∙ ap (λ (b : Bool). own_of number records ++ cond b (one.call ∷ []) []) (ne_eqb one.by number off) ∙ append-nil (own_of number records)

own_same : (number : ℕ) (records : List Record) (one : Record) → one.by ≡ number → own_of number (records ++ one ∷ []) ≡ own_of number records ++ one.call ∷ []
own_same number records one is = own_then number records (one ∷ []) ∙ ap (λ (b : Bool). own_of number records ++ cond b (one.call ∷ []) []) (eq-eqb one.by number is)

sure_first : (conn : ℕ) (own more : List Call) → AreSureOn conn (own ++ more) → AreSureOn conn own
sure_first conn [] more h = tt
sure_first conn (call ∷ own) more h = (h.0, sure_first conn own more h.1)

none_taken : (conn : ℕ) (group : List Entry) (result : Result Receipt TakeFault) → All (λ (entry : Entry). entry.conn ≢ conn) group → count_in conn (taken_by (takes group result)) ≡ 0
none_taken conn group (Ok receipt) none = count_none conn group none
none_taken conn group (Err fault) none = refl

sure_last : (conn : ℕ) (own : List Call) (call : Call) → AreSureOn conn (own ++ call ∷ []) → IsSureOn conn call
sure_last conn [] call h = h.0
sure_last conn (first ∷ own) call h = sure_last conn own call h.1

unsure : (conn : ℕ) (group : List Entry) → All (λ (entry : Entry). entry.conn ≡ conn) group → 0 < length group → IsSureOn conn (takes group (Err Take.DiskFault)) → ⊥
unsure conn [] all some h = omega (arith, some)
unsure conn (entry ∷ entries) all some (inl never) = omega (arith, never)
unsure conn (entry ∷ entries) all some (inr off) = All-head (λ (e : Entry). e.conn ≢ conn) entry entries off (All-head (λ (e : Entry). e.conn ≡ conn) entry entries all)

module _ (run : DividedRun) (confirming conn number : ℕ) (only : (k : ℕ) → Belongs run k conn → k ≡ number) where
  sure_still : (records : List Record) (one : Record) → AreSureOn conn (own_of number (records ++ one ∷ [])) → AreSureOn conn (own_of number records)
  sure_still records one h = sure_first conn (own_of number records) (own_of number (one ∷ [])) (subst (AreSureOn conn) (own_then number records (one ∷ [])) h)

  -- ---- after a take of it that failed at the disk

  quiet_take : (by : ℕ) (records : List Record) (group here : List Entry) (result : Result Receipt TakeFault) → (AreSureOn conn (own_of number records) → ⊥) → TakesOf run conn by (own_of by records) group → Adds (takes group result) here → of_conn conn here ≡ []
  quiet_take by records group here result failed (inl none) adds = conn_none conn here (added_all (λ (entry : Entry). entry.conn ≢ conn) (takes group result) here adds (written_all (λ (entry : Entry). entry.conn ≢ conn) group result none))
  quiet_take by records group here result failed (inr some) adds = absurd (failed (subst (λ (n : ℕ). AreSureOn conn (own_of n records)) (only by some.1) some.2))

  quiet_here : (by : ℕ) (records : List Record) (call : Call) (here : List Entry) → (AreSureOn conn (own_of number records) → ⊥) → May run confirming by (own_of by records) call → Adds call here → of_conn conn here ≡ []
  quiet_here by records (takes group result) here failed may adds = quiet_take by records group here result failed (takes_of run conn by (own_of by records) group may.0) adds
  quiet_here by records _ here failed may adds = ap (of_conn conn) adds

  quiet_after : (records log : List Record) (groups : List (List Entry)) → (AreSureOn conn (own_of number records) → ⊥) → Met run confirming records log → AddsGroups (calls_of log) groups → of_conn conn (all_of groups) ≡ []
  quiet_after records [] groups failed met adds = ap (λ (l : List (List Entry)). of_conn conn (all_of l)) adds
  quiet_after records (one ∷ log) groups failed met adds =
      ap (λ (l : List (List Entry)). of_conn conn (all_of l)) adds.4
      ∙ conn_both conn adds.0 (all_of adds.1)
      ∙ ap (λ (l : List Entry). l ++ of_conn conn (all_of adds.1)) (quiet_here one.by records one.call adds.0 failed met.0 adds.2)
      ∙ quiet_after (records ++ one ∷ []) log adds.1 (λ sure. failed (sure_still records one sure)) met.1 adds.3

  -- ---- one record more

  -- What a record leaves of the connection: nothing of it was added, and the count and the sureness stay; or the next
  -- were added, which the count has; or the disk failed, with the next or nothing of it.
  abbrev pub GoesOn : List Record → Record → List Entry → Type 0
  GoesOn records one here =
      AreNext conn (count_on conn (own_of number records)) (of_conn conn here)
      × ((AreSureOn conn (own_of number (records ++ one ∷ [])) × (count_on conn (own_of number (records ++ one ∷ [])) ≡ count_on conn (own_of number records) + length (of_conn conn here)))
      ⊎ (AreSureOn conn (own_of number (records ++ one ∷ [])) → ⊥))

  nothing : (records : List Record) (one : Record) (here : List Entry) → AreSureOn conn (own_of number records) → of_conn conn here ≡ [] → count_in conn (taken_by one.call) ≡ 0 → IsSureOn conn one.call → GoesOn records one here
  nothing records one here sure none empty certain = (
    subst (AreNext conn (count_on conn (own_of number records))) (sym none) tt,
    inl (elim (cases_eq one.by number) [
      | inl same ↦ (
        subst (AreSureOn conn) (sym (own_same number records one same)) (sure_then conn (own_of number records) (one.call ∷ []) sure (certain, tt)),
        omega (arith, ap (count_on conn) (own_same number records one same), count_then conn (own_of number records) (one.call ∷ []), empty, ap length none),
      )
      | inr off ↦ (
        subst (AreSureOn conn) (sym (own_other number records one off)) sure,
        omega (arith, ap (count_on conn) (own_other number records one off), ap length none),
      )
    ]),
  )

  took : (records : List Record) (one : Record) (group : List Entry) (receipt : Receipt) → one.call ≡ takes group (Ok receipt) → one.by ≡ number → AreSureOn conn (own_of number records) → AreNext conn (count_on conn (own_of number records)) group → GoesOn records one group
  took records one group receipt is by sure next =
      let all = all_of_conn conn (count_on conn (own_of number records)) group next in
      let own = own_same number records one by ∙ ap (λ (c : Call). own_of number records ++ c ∷ []) is in
      let whole = conn_all conn group all in (
        subst (AreNext conn (count_on conn (own_of number records))) (sym whole) next,
        inl (
          subst (AreSureOn conn) (sym own) (sure_then conn (own_of number records) (takes group (Ok receipt) ∷ []) sure (inl refl, tt)),
          omega (arith, ap (count_on conn) own, count_then conn (own_of number records) (takes group (Ok receipt) ∷ []), count_all conn group all, ap length whole),
        ),
      )

  failed_take : (records : List Record) (one : Record) (group here : List Entry) → one.call ≡ takes group (Err Take.DiskFault) → one.by ≡ number → 0 < length group → AreNext conn (count_on conn (own_of number records)) group → (here ≡ []) ⊎ (here ≡ group) → GoesOn records one here
  failed_take records one group here is by some next adds =
      let all = all_of_conn conn (count_on conn (own_of number records)) group next in
      let own = own_same number records one by ∙ ap (λ (c : Call). own_of number records ++ c ∷ []) is in (
        elim adds [
          | inl none ↦ subst (AreNext conn (count_on conn (own_of number records))) (sym (ap (of_conn conn) none)) tt
          | inr whole ↦ subst (AreNext conn (count_on conn (own_of number records))) (sym (ap (of_conn conn) whole ∙ conn_all conn group all)) next
        ],
        inr (λ sure. unsure conn group all some (sure_last conn (own_of number records) (takes group (Err Take.DiskFault)) (subst (AreSureOn conn) own sure))),
      )

  take_on : (records : List Record) (one : Record) (group here : List Entry) (result : Result Receipt TakeFault) → one.call ≡ takes group result → AreSureOn conn (own_of number records) → TakesOf run conn one.by (own_of one.by records) group → Adds (takes group result) here → GoesOn records one here
  take_on records one group here result is sure (inl none) adds =
      nothing records one here sure (conn_none conn here (added_all (λ (entry : Entry). entry.conn ≢ conn) (takes group result) here adds (written_all (λ (entry : Entry). entry.conn ≢ conn) group result none)))
      (ap (λ (c : Call). count_in conn (taken_by c)) is ∙ none_taken conn group result none) (subst (IsSureOn conn) (sym is) (inr none))
  take_on records one group here (Ok receipt) is sure (inr some) adds =
      let by = only one.by some.1 in
      subst (GoesOn records one) (sym adds) (took records one group receipt is by sure (subst (λ (n : ℕ). AreNext conn (count_on conn (own_of n records)) group) by some.3))
  take_on records one group here (Err Take.DiskFault) is sure (inr some) adds =
      let by = only one.by some.1 in
      failed_take records one group here is by some.0 (subst (λ (n : ℕ). AreNext conn (count_on conn (own_of n records)) group) by some.3) adds
  take_on records one group here (Err _) is sure (inr some) adds = nothing records one here sure (ap (of_conn conn) adds) (ap (λ (c : Call). count_in conn (taken_by c)) is) (subst (IsSureOn conn) (sym is) (inl refl))

  call_on : (records : List Record) (one : Record) (call : Call) (here : List Entry) → one.call ≡ call → AreSureOn conn (own_of number records) → May run confirming one.by (own_of one.by records) call → Adds call here → GoesOn records one here
  call_on records one (takes group result) here is sure may adds = take_on records one group here result is sure (takes_of run conn one.by (own_of one.by records) group may.0) adds
  call_on records one _ here is sure may adds = nothing records one here sure (ap (of_conn conn) adds) (ap (λ (c : Call). count_in conn (taken_by c)) is) (subst (IsSureOn conn) (sym is) tt)

  in_order : (records log : List Record) (groups : List (List Entry)) → AreSureOn conn (own_of number records) → Met run confirming records log → AddsGroups (calls_of log) groups → AreNext conn (count_on conn (own_of number records)) (of_conn conn (all_of groups))
  in_order records [] groups sure met adds = subst (λ (l : List (List Entry)). AreNext conn (count_on conn (own_of number records)) (of_conn conn (all_of l))) (sym adds) tt
  in_order records (one ∷ log) groups sure met adds =
      let on = call_on records one one.call adds.0 refl sure met.0 adds.2 in
      let n = count_on conn (own_of number records) in
      subst (AreNext conn n) (sym (ap (λ (l : List (List Entry)). of_conn conn (all_of l)) adds.4 ∙ conn_both conn adds.0 (all_of adds.1)))
      (next_both conn n (of_conn conn adds.0) (of_conn conn (all_of adds.1)) on.0 (elim on.1 [
        | inl still ↦ subst (λ (k : ℕ). AreNext conn k (of_conn conn (all_of adds.1))) still.1 (in_order (records ++ one ∷ []) log adds.1 still.0 met.1 adds.3)
        | inr failed ↦ subst (AreNext conn (n + length (of_conn conn adds.0))) (sym (quiet_after (records ++ one ∷ []) log adds.1 failed met.1 adds.3)) tt
      ]))

-- a connection belongs to one caller
owner : (run : DividedRun) (k conn : ℕ) → Belongs run k conn → k ≡ (conn - run.number * 2 ^ 32) / each_of run.division
owner run k conn h = whose run.division (run.number * 2 ^ 32) k conn h.from h.below

-- each connection's entries have the indexes from 0 on
pub each_in_order : (run : DividedRun) (confirming conn : ℕ) (log : List Record) (groups : List (List Entry)) → Met run confirming [] log → AddsGroups (calls_of log) groups → AreNext conn 0 (of_conn conn (all_of groups))
each_in_order run confirming conn log groups met adds = in_order run confirming conn ((conn - run.number * 2 ^ 32) / each_of run.division) (λ k h. owner run k conn h) [] log groups tt met adds
