-- A write that stopped.
use Rattle.std.proofs.Common.{◌≡◌, ℕ, ◌<◌, List, Option, length, take, drop, sym, subst, arith, length-drop, take-append-drop}
use Rattle.std.specs.Io.KnownBytes.{Appends}
use Rattle.bridge_parts.specs.Written.{WritesFront}

-- a write that stopped within the text
pub stopped : (text : List ℕ) (n : ℕ) (old new : Option (List ℕ)) → n < length text → Appends old new (take n text)
    → (part : WritesFront text old new) × (0 < length part.rest)
stopped text n old new lt written = (
  record { front = take n text; rest = drop n text; whole = sym (take-append-drop n text); written = written },
  omega (arith, length-drop n text),
)

pub stopped_as : (text piece : List ℕ) (n : ℕ) (old new : Option (List ℕ)) → piece ≡ text → n < length piece → Appends old new (take n piece)
    → (part : WritesFront text old new) × (0 < length part.rest)
stopped_as text piece n old new is lt written =
    subst (λ (t : List ℕ). (part : WritesFront t old new) × (0 < length part.rest)) is (stopped piece n old new lt written)
