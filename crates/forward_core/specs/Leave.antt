-- Leave to mark, at a moment of a session.
use Rattle.std.specs.Prelude.{ℕ, List}
use Rattle.known_numbers.specs.declared.stretch.Stretch.{Stretch}
use Rattle.known_numbers.specs.Numbers.{IsInSome}
use Rattle.desk_access.specs.Call.{Call}
use Rattle.forward_core.specs.Moments.{Does, Told}

-- From here on bytes may be read, calls made and texts written: where it is so of these that a number is acknowledged, it may
-- become known.
abbrev pub MayMark : {A L : Type 0} → (A → List Call → A → Type 0) → A → (L → L → Type 0) → (L → Told) → L
    → (ℕ → List ℕ → List Call → List ℕ → Type 0) → (ℕ → Type 0) → Type 0
MayMark {A} {L} ran old same tells old_link Acknowledges Release =
    (now : A) (link : L) (n : ℕ) → same old_link link → Does (λ calls. ran old calls now) (tells old_link) (tells link) (Acknowledges n) → Release n

-- all numbers of these stretches may become known
abbrev pub AreEarned : List Stretch → (ℕ → Type 0) → Type 0
AreEarned stretches Release = (n : ℕ) → IsInSome stretches n → Release n
