-- Where frames stand in their stream.
use Rattle.std.specs.Prelude.{◌≡◌, ℕ, List, [], ◌∷◌, ◌++◌, length}
use Rattle.relp_frame.specs.declared.frame.Frame.{Frame}
use Rattle.relp_frame.specs.declared.frame.Placed.{Placed}
use Rattle.relp_frame.specs.Spelling.{IsSpelling}
use Rattle.stream_grammar.specs.Framing.{AreSpelled}

-- the frames alone
abbrev pub frames_of : List Placed → List Frame
frames_of [] = []
frames_of (p ∷ ps) = p.frame ∷ frames_of ps

-- the bytes begin with these frames, and what follows them begins at this offset
pub record BeginsAt (bytes : List ℕ) (before : List Frame) (at : ℕ) : Type 0 where
  pub front : List ℕ
  pub rest : List ℕ
  pub spelled : AreSpelled IsSpelling before front
  pub whole : bytes ≡ front ++ rest
  pub place : length front ≡ at

-- each of these frames, which follow those before, begins at its offset
abbrev pub ArePlaced : List ℕ → List Frame → List Placed → Type 0
ArePlaced bytes before [] = Unit {0}
ArePlaced bytes before (p ∷ ps) = BeginsAt bytes before p.at × ArePlaced bytes (before ++ p.frame ∷ []) ps

-- the same of frames that a piece completes, whatever frames end at the offset from which bytes are held
abbrev pub ArePlacedAfter : ℕ → List ℕ → List ℕ → List Placed → Type 0
ArePlacedAfter at held piece ps =
    (fed : List ℕ) (before : List Frame) (front : List ℕ) → AreSpelled IsSpelling before front
    → fed ≡ front ++ held → length front ≡ at → ArePlaced (fed ++ piece) before ps
