-- Frames at the front of bytes, in any format.
use Rattle.std.specs.Prelude.{◌≡◌, ℕ, List, ◌++◌, length}
use Rattle.event_form.specs.declared.talk.Why.{Why}
use Rattle.stream_grammar.specs.Framing.{AreSpelled}
use Rattle.stream_grammar.specs.Reading.{Format}

-- the bytes begin with these frames, which end at that place; Spells says how a frame may be spelled
pub record IsFront {F : Type 0} (Spells : F → List ℕ → Type 0) (b : List ℕ) (frames : List F) (at : ℕ) : Type 0 where
  pub front : List ℕ
  pub rest : List ℕ
  pub spelled : AreSpelled Spells frames front
  pub ends : length front ≡ at
  pub whole : b ≡ front ++ rest

-- the bytes are these frames, which end at that place, and then a rest with no whole frame and no fault
abbrev pub IsWholeBy : {F E : Type 0} → Format F E → List ℕ → List F → ℕ → Type 0
IsWholeBy format b frames at = (rest : List ℕ) × format.IsWhole b frames at rest

-- the bytes have this fault after these frames; a fault of the format has a place and a reason
abbrev pub IsFaultyBy : {F E : Type 0} → Format F E → (E → ℕ) → (E → Why) → List ℕ → List F → ℕ → Why → Type 0
IsFaultyBy {F} {E} format place_of why_of b frames place why =
    (at : ℕ) × (rest : List ℕ) × (fault : E) × format.IsFaulty b frames at rest fault × (place ≡ place_of fault) × (why ≡ why_of fault)
