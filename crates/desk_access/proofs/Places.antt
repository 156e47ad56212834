-- Where the calls of a caller stand in a journal.
use Rattle.std.proofs.Common.{◌≡◌, ℕ, ◌==◌, Bool, true, false, cond, List, [], ◌∷◌, ◌++◌, refl, ap}
use Rattle.std.proofs.lemmas.Bool.{eqb-true}
use Rattle.desk_access.specs.Call.{Call, Record, own_of}

-- where a call of a caller stands in the journal
pub record Place (number : ℕ) (log : List Record) (call : Call) : Type 0 where
  pub before : List Record
  pub one : Record
  pub after : List Record
  pub parts : log ≡ before ++ one ∷ after
  pub by : one.by ≡ number
  pub is : one.call ≡ call

place_behind : (number : ℕ) (first : Record) (log : List Record) (call : Call) → Place number log call → Place number (first ∷ log) call
place_behind number first log call p = record { before = first ∷ p.before; one = p.one; after = p.after; parts = ap (λ (l : List Record). first ∷ l) p.parts; by = p.by; is = p.is }

pub place_of : (number : ℕ) (log : List Record) (first : List Call) (call : Call) (more : List Call) → own_of number log ≡ first ++ call ∷ more → Place number log call
place_of number [] [] call more is = absurd (cc is)
place_of number [] (one ∷ first) call more is = absurd (cc is)
place_of number (one ∷ log) first call more is = by (λ (rest : List Call) (same : own_of number log ≡ rest ++ call ∷ more). place_of number log rest call more same) (one.by == number) refl first is where
  by : ((rest : List Call) → own_of number log ≡ rest ++ call ∷ more → Place number log call) → (b : Bool) → (one.by == number) ≡ b → (first : List Call)
      → cond b (one.call ∷ own_of number log) (own_of number log) ≡ first ++ call ∷ more → Place number (one ∷ log) call
  by behind true same [] is = record { before = []; one = one; after = log; parts = refl; by = eqb-true one.by number same; is = cc is }
  by behind true same (other ∷ first) is = place_behind number one log call (behind first (cc is))
  by behind false same first is = place_behind number one log call (behind first is)
