-- The places of the frames that are not answered.
use Rattle.std.specs.Prelude.{◌≡◌, ◌≢◌, ℕ, ◌<◌, List, [], ◌∷◌, length, take, All, slice_index, Option, Some, None, ◌==◌, if◌then◌else◌}
use Rattle.relp_sender.specs.Texts.{txnr_of}

-- the first of the places whose frame has that transaction number stands at the index
pub record IsFirstOf (places : List ℕ) (txnr index : ℕ) : Type 0 where
  pub inside : index < length places
  pub has : txnr_of (slice_index places index) ≡ txnr
  pub none : All (λ (p : ℕ). txnr_of p ≢ txnr) (take index places)

-- the first place, and where there is none how many were written
abbrev pub first_open : List ℕ → ℕ → ℕ
first_open [] written = written
first_open (place ∷ places) written = place

-- the place at an index, where places before it are not answered
abbrev pub beyond_of : ℕ → ℕ → Option ℕ
beyond_of index place = if index == 0 then None else Some place
