-- Lumberjack as a format, one for each side, and what a reader has read and holds.
use Rattle.std.specs.Prelude.{ℕ, ◌+◌, ◌++◌, List, [], ◌∷◌, length, Option, Some, None, Result}
use Rattle.lumber_frame.specs.declared.fault.LumberFault.{LumberFault}
use Rattle.lumber_frame.specs.declared.fault.LumberWhy.{LumberWhy}
use Rattle.lumber_frame.specs.declared.frame.LumberFrame.{LumberFrame}
use Rattle.lumber_frame.specs.declared.side.Side.{Side}
use Rattle.lumber_frame.specs.declared.side.Side.TheVariants.{Receiver}
use Rattle.event_form.specs.declared.feed_fault.FeedFault.{FeedFault}
use Rattle.stream_grammar.specs.Feeding as feeding
use Rattle.stream_grammar.specs.FieldFaults.{IsFieldStream, IsFieldFault}
use Rattle.stream_grammar.specs.Reading as stream
use Rattle.stream_grammar.specs.Reading.{Format, Holding}
use Rattle.lumber_frame.specs.Broken.{Broken}
use Rattle.lumber_frame.specs.Spelling.{IsFrameFor, IsWritten, Spells}

-- What contracts see of a reader: its side, the whole frames that wait to be taken, the offset after
-- the last whole frame, the bytes held from there on, and the fault. With a fault no bytes are held.
pub record Reader : Type 0 where
  pub side : Side
  pub waiting : List LumberFrame
  pub at : ℕ
  pub rest : List ℕ
  pub fault : Option LumberFault

-- a reader that was fed nothing
abbrev pub unfed : Side → Reader
unfed side = record { side = side; waiting = []; at = 0; rest = []; fault = None }

-- the fault at an offset
abbrev pub fault_of : ℕ → LumberWhy → LumberFault
fault_of at why = record { at = at; why = why }

-- what a side reads
abbrev pub format : Side → Format LumberFrame LumberFault
format side = record {
  IsWhole = IsFieldStream (Spells side) (Broken side);
  IsFaulty = λ b frames at rest e. IsFieldFault (Spells side) (Broken side) b frames at rest e.at e.why;
}

-- what a receiver reads
abbrev pub receiver : Format LumberFrame LumberFault
receiver = format Receiver

-- the bytes are these frames, up to an offset, and then a rest or a fault
abbrev pub ReadsTo : Side → List ℕ → List LumberFrame → ℕ → List ℕ → Option LumberFault → Type 0
ReadsTo side = stream.ReadsTo (format side) stream.Drops

-- the bytes fed so far are the frames that were taken, those that wait, and a rest or a fault
abbrev pub Reads : List ℕ → List LumberFrame → Reader → Type 0
Reads fed taken r = ReadsTo r.side fed (taken ++ r.waiting) r.at r.rest r.fault

-- whatever was read before, that and the piece after it are read now
abbrev pub ReadsOn : Reader → List ℕ → Reader → Type 0
ReadsOn = feeding.ReadsOn Reads

-- what a call that feeds a piece leaves
abbrev pub Feeds : Reader → List ℕ → Result (Unit {0}) (FeedFault LumberFault) → Reader → Type 0
Feeds = feeding.Feeds Reads (λ (r : Reader). r.fault)

-- a fault so many bytes further on
abbrev pub moved : ℕ → Option LumberFault → Option LumberFault
moved n None = None
moved n (Some e) = Some (fault_of (n + e.at) e.why)

-- What is written for a frame that may come is read first, whatever follows, and what follows is read
-- after it.
abbrev pub WrittenIsRead : Holding (List ℕ) → Type 0
WrittenIsRead h =
    (side : Side) (f : LumberFrame) (text more : List ℕ) (frames : List LumberFrame) (at : ℕ) (held : List ℕ) (fault : Option LumberFault)
    → IsFrameFor side f → IsWritten f text → stream.ReadsTo (format side) h more frames at held fault
    → stream.ReadsTo (format side) h (text ++ more) (f ∷ frames) (length text + at) held (moved (length text) fault)
