-- What a piece brought that came after the bytes held of an unfinished frame.
use Rattle.std.specs.Prelude.{List, ℕ}
use Rattle.std.specs.List.{All}
use Rattle.lumber_frame.specs.declared.scan.Scanned.{Scanned}
use Rattle.lumber_frame.specs.declared.side.Side.{Side}
use Rattle.stream_grammar.specs.Splitting.{Splits}
use Rattle.lumber_frame.specs.Running.{layout}
use Rattle.lumber_frame.specs.Spelling.{IsFrameFor}

-- the frames that were built, which keep their limits, and what follows them
pub record Scans (side : Side) (b : List ℕ) (s : Scanned) : Type 0 where
  pub splits : Splits (layout side) b s.frames.items s.end s.phase s.fault
  pub limits : All (IsFrameFor side) s.frames.items
