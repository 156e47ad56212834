-- Stretches that end by a number.
use Rattle.std.proofs.Common.{ℕ, suc, ◌≤◌, List, [], ◌∷◌, arith}
use Rattle.std.specs.Prelude.{All}
use Rattle.known_numbers.specs.declared.stretch.Stretch.{Stretch}
use Rattle.known_numbers.specs.Numbers.{EndBy}
use Rattle.spool_answers.specs.Mark.{EndsBy}

-- all end by a number
pub end_by : (e : ℕ) (more : List Stretch) → All (EndsBy e) more → EndBy e more
end_by e [] all = tt
end_by e (one ∷ more) all = ((all 0 one (omega arith)).within, end_by e more (λ k d lt. all (suc k) d (omega arith)))

-- the same for a later end
pub ends_later : (e f : ℕ) (more : List Stretch) → e ≤ f → All (EndsBy e) more → All (EndsBy f) more
ends_later e f more le all = λ k d lt. record { order = (all k d lt).order; within = omega (arith, (all k d lt).within, le) }
