-- What stands in the journal of a desk when it is closed.
use Rattle.std.proofs.Common.{◌≡◌, ℕ, zero, suc, ◌+◌, ◌<◌, Bool, arith, List, [], ◌∷◌, ◌∙◌, length, refl, sym, ap, subst, inl, inr, eq-eqb}
use Rattle.std.specs.Prelude.{All, if◌then◌else◌}
use Rattle.std.proofs.lemmas.List.Elements.{All-head, All-tail}
use Rattle.desk_access.specs.Call.{Record, own_of}
use Rattle.desk_seats.specs.Passes.{Known, Stands}
use Rattle.spool_turns.specs.Replays.{HasNumber}
use Rattle.serve_workers.specs.Crews.{AreNew}

own_first : (one : Record) (log : List Record) → own_of one.by (one ∷ log) ≡ one.call ∷ own_of one.by log
own_first one log = ap (λ (b : Bool). if b then one.call ∷ own_of one.by log else own_of one.by log) (eq-eqb one.by one.by refl)

-- a journal has no call of a pass that is new
none_of : (number n : ℕ) (passes : List Known) (log : List Record) → AreNew number passes → All (Stands log) passes → HasNumber passes n → own_of n log ≡ []
none_of number n [] log new stands has = absurd has
none_of number n (pass ∷ passes) log new stands (inl is) = ap (λ (k : ℕ). own_of k log) (sym is) ∙ (All-head (Stands log) pass passes stands).1 ∙ new.1
none_of number n (pass ∷ passes) log new stands (inr more) = none_of (number + 1) n passes log new.2 (All-tail (Stands log) pass passes stands) more

-- each number has its pass
all_there : (number k : ℕ) (passes : List Known) → AreNew number passes → k < length passes → HasNumber passes (number + k)
all_there number k [] new lt = absurd (omega (arith, lt))
all_there number zero (pass ∷ passes) new lt = inl (omega (arith, new.0))
all_there number (suc k) (pass ∷ passes) new lt = inr (subst (HasNumber passes) (omega arith) (all_there (number + 1) k passes new.2 (omega (arith, lt))))

-- where all passes are new, it has no record
pub no_record : (seats : ℕ) (passes : List Known) (log : List Record) → AreNew 0 passes → length passes ≡ seats → All (Stands log) passes
    → (((n : ℕ) → n < seats → HasNumber passes n) → All (λ (one : Record). HasNumber passes one.by) log) → log ≡ []
no_record seats passes [] new many stands by = refl
no_record seats passes (one ∷ log) new many stands by =
    let all = by (λ n lt. subst (HasNumber passes) (omega arith) (all_there 0 n passes new (omega (arith, lt, many)))) in
    let none = none_of 0 one.by passes (one ∷ log) new stands (All-head (λ (r : Record). HasNumber passes r.by) one log all) in
    let some = own_first one log in
    absurd (cc (none, some))
