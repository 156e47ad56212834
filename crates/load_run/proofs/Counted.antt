-- Counts of faults, and calls that never fail.
use Rattle.std.proofs.Common.{◌≡◌, ℕ, ◌<◌, arith}
use Rattle.std.specs.Prelude.{Result, Ok, Err, IsOk, IsErr, OnOk, true, false, is_err}
use Rattle.std.proofs.lemmas.Grind.{common_steps}
use Rattle.foundation.specs.Faults.{Rose}

pub never_rose : Rose 1 0 0 → ⊥
never_rose h = omega (arith, h)

pub some_rose : (before now : ℕ) → Rose 1 before now → 0 < now
some_rose before now h = grind (arith, common_steps)

pub ok_not_err : {T E : Type 0} (r : Result T E) → IsOk r → IsErr r → ⊥
ok_not_err (Ok x) ok err = cc
ok_not_err (Err e) ok err = cc

pub on_ok : {T E : Type 0} (r : Result T E) (P : Type 0) → false ≡ is_err r → OnOk r P → P
on_ok (Ok x) P same h = h
on_ok (Err e) P same h = absurd (let both : false ≡ true = same in cc)
