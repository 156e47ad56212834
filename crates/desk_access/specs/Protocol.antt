-- What a protocol is, for frames of any kind.
use Rattle.std.specs.Prelude.{◌≡◌, ℕ, List, [], ◌∷◌, ◌++◌}
use Rattle.event_form.specs.declared.talk.Talk.{Talk}
use Rattle.event_form.specs.declared.talk.Why.{Why}
use Rattle.desk_access.specs.Call.{Call}
use Rattle.desk_access.specs.Step.{Step}

-- A protocol of frames F.
pub record Protocol (F : Type 0) : Type 1 where
  -- the bytes begin with these frames, which end at that place
  pub IsFront : List ℕ → List F → ℕ → Type 0
  -- the bytes are these frames, which end at that place, and then a rest with no whole frame and no fault
  pub IsWhole : List ℕ → List F → ℕ → Type 0
  -- the bytes have a fault, at a place, after these frames
  pub IsFaulty : List ℕ → List F → ℕ → Why → Type 0
  -- after these steps, this is what is to be done for its frames
  pub IsMove : List (Step F) → Step F → Type 0
  -- after these steps, nothing is to be done for these frames before more come
  pub AreHeld : List (Step F) → List F → Type 0
  -- after these steps, the connection may end for want of more with these frames held, which are given up then
  pub MayGiveUp : List (Step F) → List F → Type 0
  -- after these steps and frames held, the connection ends at this frame, with these calls and this text
  pub Stops : List (Step F) → List F → F → List Call → List ℕ → Talk → Type 0
  -- where the input is over and would end the connection so, these calls and this text are what is to be done for that
  pub IsLastMove : List (Step F) → List F → Talk → List Call → List ℕ → Type 0
  -- the connection ends at that in another way, with these calls and this text
  pub StopsLast : List (Step F) → List F → Talk → List Call → List ℕ → Talk → Type 0

-- after the first steps, each of these is what is to be done for its frames
abbrev pub AreMoves : {F : Type 0} → Protocol F → List (Step F) → List (Step F) → Type 0
AreMoves p before [] = Unit {0}
AreMoves p before (s ∷ steps) = p.IsMove before s × AreMoves p (before ++ s ∷ []) steps

-- nothing was called and nothing written
abbrev pub IsNothing : List Call → List ℕ → Type 0
IsNothing late part = (late ≡ []) × (part ≡ [])
