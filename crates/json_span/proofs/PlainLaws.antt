-- A byte that stands for itself in a string.
use Rattle.std.proofs.Common.{◌≡◌, ℕ, true, false, eqb, refl, Some}
use Rattle.json_span.specs.Strings.{is_plain}
use Rattle.json_span.specs.Machine.{Chars, next}
use Rattle.json_span.proofs.TokenForth.{apart}

pub plain_next : (c : ℕ) → is_plain c ≡ true → next Chars c ≡ Some Chars
unfolding next
plain_next c h =
    let a : eqb c 34 ≡ false = apart is_plain c 34 refl h in
    let b : eqb c 92 ≡ false = apart is_plain c 92 refl h in
    rw (a, b, h) refl
