-- What a crash leaves of two disks, of which each was opened before a move.
use Rattle.std.proofs.Common.{inl, inr, ℕ, List, ◌∷◌}
use Rattle.edge_disk.specs.Disk.{Moment, LeavesOnly}
use Rattle.spool_move.specs.Turns.{WasLeft, LeavesBoth}
use Rattle.spool_move.specs.Turns.Turn.{OfSource, OfTarget}

module _ {D E : Type 0} (on : D → Moment) (onto : E → Moment) where
  pub both_weaker : (P Q : List ℕ → List ℕ → Type 0) (a : D) (b : E) (a' : D) (b' : E) → ((c d : List ℕ) → P c d → Q c d) → LeavesBoth on onto P a b a' b' → LeavesBoth on onto Q a b a' b'
  both_weaker P Q a b a' b' so leaves = record { turns = leaves.turns; are = leaves.are; each = λ c d was. so c d (leaves.each c d was) }

  -- the one went on first
  pub first_one : (P : List ℕ → List ℕ → Type 0) (a next a' : D) (b b' : E) → LeavesOnly (on a).image (on a) (on next)
      → ((c d : List ℕ) → (on a).image c → (onto b).image d → P c d) → LeavesBoth on onto P next b a' b' → LeavesBoth on onto P a b a' b'
  first_one P a next a' b b' only so leaves = record { turns = OfSource next ∷ leaves.turns; are = leaves.are; each = each } where
    each : (c d : List ℕ) → WasLeft on onto a b (OfSource next ∷ leaves.turns) c d → P c d
    each c d (inl now) = so c d (only.each c now.0) now.1
    each c d (inr later) = leaves.each c d later

  -- the other did
  pub first_other : (P : List ℕ → List ℕ → Type 0) (a a' : D) (b next b' : E) → LeavesOnly (onto b).image (onto b) (onto next)
      → ((c d : List ℕ) → (on a).image c → (onto b).image d → P c d) → LeavesBoth on onto P a next a' b' → LeavesBoth on onto P a b a' b'
  first_other P a a' b next b' only so leaves = record { turns = OfTarget next ∷ leaves.turns; are = leaves.are; each = each } where
    each : (c d : List ℕ) → WasLeft on onto a b (OfTarget next ∷ leaves.turns) c d → P c d
    each c d (inl now) = so c d now.0 (only.each d now.1)
    each c d (inr later) = leaves.each c d later

  -- both were opened, the one first, and then they were used
  pub both_opened : (P : List ℕ → List ℕ → Type 0) (a next a' : D) (b next' b' : E) → LeavesOnly (on a).image (on a) (on next) → LeavesOnly (onto b).image (onto b) (onto next')
      → ((c d : List ℕ) → (on a).image c → (onto b).image d → P c d) → LeavesBoth on onto P next next' a' b' → LeavesBoth on onto P a b a' b'
  both_opened P a next a' b next' b' only only' so leaves =
      first_one P a next a' b b' only so
      (first_other P next a' b next' b' only' (λ c d image image'. so c d (only.now c image) image') leaves)
