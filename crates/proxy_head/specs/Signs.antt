-- How many bytes agree with those that a head begins with.
use Rattle.std.specs.Prelude.{◌≡◌, ◌≢◌, ℕ, ◌<◌, ◌≤◌, List, length, take, slice_index}

-- so many bytes agree with a sign from the front on, and no more
pub record Agrees (bytes sign : List ℕ) (count : ℕ) : Type 0 where
  pub inside : count ≤ length bytes
  pub few : count ≤ length sign
  pub same : take count bytes ≡ take count sign
  pub other : count < length bytes → count < length sign → slice_index bytes count ≢ slice_index sign count
