-- Ids that a journal issued.
use Rattle.std.proofs.Common.{◌≡◌, ◌⊎◌, inl, inr, ℕ, ◌≤◌, ◌<◌, ◌==◌, Bool, true, false, cond, List, [], ◌∷◌, ◌++◌, Ok, refl, sym, ◌∙◌, ap, subst, arith}
use Rattle.std.proofs.lemmas.Bool.{eqb-true}
use Rattle.hec_ids.specs.Table.{Table}
use Rattle.hec_ids.specs.Table as Ids
use Rattle.hec_ids.specs.Laws.{IsCall, issue, settle, forget, ask}
use Rattle.hec_ids.proofs.CallLaws.{calls_keep_sound, issued_is_new}
use Rattle.desk_access.specs.Call.{Call, issues, settles, forgets, asks, Record, own_of, calls_of}
use Rattle.desk_access.specs.Legal.{IsIssuedBy, IsUnused, IsOfRun}
use Rattle.desk_access.specs.Journal.{own_then, calls_then}
use Rattle.desk_access.proofs.Tables.{TableAfter}

-- one of the calls issued the id
abbrev pub IsIssued : ℕ → List Call → Type 0
IsIssued id [] = ⊥
IsIssued id (call ∷ calls) = IsIssuedBy id call ⊎ IsIssued id calls

pub issued_of : (calls : List Call) (id : ℕ) → IsUnused calls id → IsIssued id calls
issued_of [] id h = absurd h
issued_of (call ∷ calls) id (inl here) = inl here.0
issued_of (call ∷ calls) id (inr there) = inr (issued_of calls id there)

issued_parts : (id : ℕ) (calls more : List Call) → IsIssued id (calls ++ more) → IsIssued id calls ⊎ IsIssued id more
issued_parts id [] more h = inr h
issued_parts id (call ∷ calls) more (inl here) = inl (inl here)
issued_parts id (call ∷ calls) more (inr there) = elim (issued_parts id calls more there) [ inl one ↦ inl (inr one) | inr other ↦ inr other ]

issued_among : (id number : ℕ) (records : List Record) → IsIssued id (own_of number records) → IsIssued id (calls_of records)
issued_among id number [] h = absurd h
issued_among id number (one ∷ records) h = by (one.by == number) (issued_among id number records) h where
  by : (b : Bool) → (IsIssued id (own_of number records) → IsIssued id (calls_of records)) → IsIssued id (cond b (one.call ∷ own_of number records) (own_of number records)) → IsIssuedBy id one.call ⊎ IsIssued id (calls_of records)
  by true more (inl here) = inl here
  by true more (inr there) = inr (more there)
  by false more h = inr (more h)

-- a caller's only record
issued_one : (id number : ℕ) (one : Record) → IsIssued id (own_of number (one ∷ [])) → (one.by ≡ number) × IsIssuedBy id one.call
issued_one id number one h = by (one.by == number) refl h where
  by : (b : Bool) → (one.by == number) ≡ b → IsIssued id (cond b (one.call ∷ []) []) → (one.by ≡ number) × IsIssuedBy id one.call
  by true is (inl here) = (eqb-true one.by number is, here)
  by true is (inr never) = absurd never
  by false is never = absurd never

-- ---- a table after a call

is_call : (t u : Table) (call : Call) → TableAfter t call u → (u ≡ t) ⊎ IsCall t u
is_call t u (issues channel result) row = inr (issue channel result row)
is_call t u (settles channel id answer) row = inr (settle channel id answer row)
is_call t u (forgets channel id answer) row = inr (forget channel id answer row)
is_call t u (asks channel ids known) row = inr (ask channel ids known row)
is_call t u _ row = inl row

table_kept : (t u : Table) → Ids.IsSound t → (u ≡ t) ⊎ IsCall t u → Ids.IsSound u × (u.run ≡ t.run) × (t.next ≤ u.next)
table_kept t u sound (inl same) = (subst Ids.IsSound (sym same) sound, ap (λ (v : Table). v.run) same, let next = ap (λ (v : Table). v.next) same in omega (arith, next))
table_kept t u sound (inr call) = calls_keep_sound t u call sound

issued_here : (t u : Table) (call : Call) (id : ℕ) → Ids.IsSound t → TableAfter t call u → IsIssuedBy id call → IsOfRun t.run id × (id ≡ t.next) × (id < u.next)
issued_here t u (issues channel (Ok new)) id sound row is =
    let range = issued_is_new t u channel new 0 sound row in
    let next = ap (λ (v : Table). v.next) row.2 in
    ((omega (arith, range.0, is), omega (arith, range.1, is)), sym is ∙ row.1, omega (arith, is, row.1, next))
issued_here t u _ id sound row never = absurd never

-- ---- a journal

-- The ids that the records issued are of the run and below the next one, and each was issued to one caller.
pub record AreIssued (run : ℕ) (records : List Record) (t : Table) : Type 0 where
  pub run_is : t.run ≡ run
  pub sound : Ids.IsSound t
  pub below : (id : ℕ) → IsIssued id (calls_of records) → IsOfRun run id × (id < t.next)
  pub once : (n k id : ℕ) → IsIssued id (own_of n records) → IsIssued id (own_of k records) → n ≡ k

pub none_issued : (run : ℕ) (t : Table) → t.run ≡ run → Ids.IsSound t → AreIssued run [] t
none_issued run t is sound = record { run_is = is; sound = sound; below = λ id h. absurd h; once = λ n k id h. absurd h }

pub below_own : (run number id : ℕ) (records : List Record) (t : Table) → AreIssued run records t → IsIssued id (own_of number records) → IsOfRun run id × (id < t.next)
below_own run number id records t are h = are.below id (issued_among id number records h)

pub issued_then : (run : ℕ) (records : List Record) (one : Record) (t u : Table) → AreIssued run records t → TableAfter t one.call u → AreIssued run (records ++ one ∷ []) u
issued_then run records one t u are row =
    let kept = table_kept t u are.sound (is_call t u one.call row) in
    let own = λ (n id : ℕ) (h : IsIssued id (own_of n (records ++ one ∷ []))). issued_parts id (own_of n records) (own_of n (one ∷ [])) (subst (IsIssued id) (own_then n records (one ∷ [])) h) in
    let fresh = λ (n id : ℕ) (h : IsIssued id (own_of n (one ∷ []))). (issued_here t u one.call id are.sound row (issued_one id n one h).1).1 in
    record {
      run_is = kept.1 ∙ are.run_is;
      sound = kept.0;
      below = λ id h. elim (issued_parts id (calls_of records) (one.call ∷ []) (subst (IsIssued id) (calls_then records (one ∷ [])) h)) [
        | inl old ↦ let was = are.below id old in (was.0, omega (arith, was.1, kept.2))
        | inr (inl new) ↦ let now = issued_here t u one.call id are.sound row new in (subst (λ (r : ℕ). IsOfRun r id) are.run_is now.0, now.2)
        | inr (inr never) ↦ absurd never
      ];
      once = λ n k id p q. elim (own n id p) [
        | inl old ↦ elim (own k id q) [
          | inl other ↦ are.once n k id old other
          | inr new ↦ absurd (omega (arith, (below_own run n id records t are old).1, fresh k id new))
        ]
        | inr new ↦ elim (own k id q) [
          | inl old ↦ absurd (omega (arith, (below_own run k id records t are old).1, fresh n id new))
          | inr other ↦ sym (issued_one id n one new).0 ∙ (issued_one id k one other).0
        ]
      ];
    }

pub next_rises : (run : ℕ) (records : List Record) (call : Call) (t u : Table) → AreIssued run records t → TableAfter t call u → t.next ≤ u.next
next_rises run records call t u are row = (table_kept t u are.sound (is_call t u call row)).2

pub new_is : (run id : ℕ) (records : List Record) (call : Call) (t u : Table) → AreIssued run records t → TableAfter t call u → IsIssuedBy id call → id ≡ t.next
new_is run id records call t u are row is = (issued_here t u call id are.sound row is).1
