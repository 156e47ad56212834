-- What bytes are to a format that keeps an unfinished frame of them, and what the fields of a reader and of a window
-- keep to.
use Rattle.std.specs.Prelude.{◌≡◌, ℕ, ◌+◌, ◌<◌, ◌≤◌, ◌^◌, List, ◌++◌, length, drop, slice_range, Option}
use Rattle.std.specs.List.{All}
use Rattle.stream_grammar.specs.Framing.{AreSpelled}

-- How a format is laid out: how a frame may be spelled, which bytes are an unfinished frame that is read to a
-- phase, what follows such bytes where the reading stops, at the end or at a fault, the phase at a frame's first
-- byte, and how many bytes a window holds.
pub record Layout (F P W : Type 0) : Type 1 where
  pub Spells : F → List ℕ → Type 0
  pub IsUnfinished : List ℕ → P → Type 0
  pub Stops : List ℕ → List ℕ → P → Option W → Type 0
  pub fresh : P
  pub room : ℕ

-- The bytes are these frames, which end at a place, and then an unfinished one, to their end or to a fault.
pub record Splits {F P W : Type 0} (l : Layout F P W) (b : List ℕ) (frames : List F) (end : ℕ) (now : P) (fault : Option W) : Type 0 where
  pub spelt : List ℕ
  pub tail : List ℕ
  pub rest : List ℕ
  pub spelled : AreSpelled l.Spells frames spelt
  pub ends : length spelt ≡ end
  pub joined : b ≡ spelt ++ tail
  pub unfinished : l.IsUnfinished rest now
  pub stops : l.Stops tail rest now fault

-- what the bytes are, and how many of them stand before the fault
pub record Judges {F P W : Type 0} (l : Layout F P W) (b : List ℕ) (end before : ℕ) (now : P) (fault : Option W) : Type 0 where
  pub frames : List F
  pub splits : Splits l b frames end now fault
  pub kept : before ≡ end + length splits.rest

-- The frames that wait keep their limits; an unfinished frame has fewer bytes than a window holds; and offsets stay
-- within 2^40.
pub record Holds {F P W : Type 0} (l : Layout F P W) (IsFrame : F → Type 0) (waiting : List F) (at : ℕ) (rest : List ℕ) (now : P) : Type 0 where
  pub limits : All IsFrame waiting
  pub room : at + length rest ≤ 2 ^ 40
  pub bound : length rest < l.room
  pub unfinished : l.IsUnfinished rest now

-- A window has space for its bytes, and has no more than it may. From one place to another they are whole frames,
-- and those from there on an unfinished one. Offsets stay within 2^40.
pub record Fills {F P W : Type 0} (l : Layout F P W) (bytes : List ℕ) (space from whole at : ℕ) (now : P) : Type 0 where
  pub enough : l.room ≤ space
  pub bound : length bytes ≤ l.room
  pub order : from ≤ whole
  pub inside : whole ≤ length bytes
  pub waiting : List F
  pub spelled : AreSpelled l.Spells waiting (slice_range bytes from whole)
  pub room : at + length (drop whole bytes) ≤ 2 ^ 40
  pub short : length (drop whole bytes) < l.room
  pub unfinished : l.IsUnfinished (drop whole bytes) now
