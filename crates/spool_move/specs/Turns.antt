-- Two disks of which one is used at a time, and what a crash of both leaves.
use Rattle.std.specs.Prelude.{◌≡◌, ◌⊎◌, ℕ, List, [], ◌∷◌}
use Rattle.edge_disk.specs.Disk.{Moment}

-- the source's disk went on to this one, while the target's stayed; or the target's to this one, while the source's stayed
pub data Turn (D E : Type 0) : Type 0 where
  OfSource : D → Turn D E
  OfTarget : E → Turn D E

-- From two disks the turns led to two.
abbrev pub AreTurns : {D E : Type 0} → D → E → List (Turn D E) → D → E → Type 0
AreTurns a b [] a' b' = (a' ≡ a) × (b' ≡ b)
AreTurns a b (OfSource next ∷ turns) a' b' = AreTurns next b turns a' b'
AreTurns a b (OfTarget next ∷ turns) a' b' = AreTurns a next turns a' b'

-- A crash of both at one moment of these turns left this of the source's disk, and that of the target's.
abbrev pub WasLeft : {D E : Type 0} → (D → Moment) → (E → Moment) → D → E → List (Turn D E) → List ℕ → List ℕ → Type 0
WasLeft on onto a b [] c d = (on a).image c × (onto b).image d
WasLeft on onto a b (OfSource next ∷ turns) c d = ((on next).image_since (on a).clock c × (onto b).image d) ⊎ WasLeft on onto next b turns c d
WasLeft on onto a b (OfTarget next ∷ turns) c d = ((on a).image c × (onto next).image_since (onto b).clock d) ⊎ WasLeft on onto a next turns c d

-- Turns led from two disks to two, and whenever a crash came meanwhile, what it left of both has P.
pub record LeavesBoth {D E : Type 0} (on : D → Moment) (onto : E → Moment) (P : List ℕ → List ℕ → Type 0) (a : D) (b : E) (a' : D) (b' : E) : Type 0 where
  pub turns : List (Turn D E)
  pub are : AreTurns a b turns a' b'
  pub each : (c d : List ℕ) → WasLeft on onto a b turns c d → P c d
