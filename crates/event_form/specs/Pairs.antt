-- The pairs that a text begins with.
use Rattle.std.specs.Prelude.{◌≡◌, ℕ, ◌<◌, ◌≤◌, ◌^◌, List, ◌++◌, length}
use Rattle.std.specs.Int.{to_be_bytes}
use mir.Syntax.{w32}
use Rattle.event_form.specs.Event.{pairs_text}

-- the bytes are a key or a value, its length before it, and then the rest
pub record BeginsString (string bytes rest : List ℕ) : Type 0 where
  pub short : length string < 2 ^ 32
  pub whole : bytes ≡ to_be_bytes w32 (length string) ++ (string ++ rest)

-- the bytes are a pair, and then the rest
pub record BeginsPair (pair : List ℕ × List ℕ) (bytes rest : List ℕ) : Type 0 where
  pub middle : List ℕ
  pub key : BeginsString pair.0 bytes middle
  pub value : BeginsString pair.1 middle rest

-- the bytes are at most so many whole pairs
pub record AreUpTo (most : ℕ) (bytes : List ℕ) : Type 0 where
  pub pairs : List (List ℕ × List ℕ)
  pub few : length pairs ≤ most
  pub whole : bytes ≡ pairs_text pairs
