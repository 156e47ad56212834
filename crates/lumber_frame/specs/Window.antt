-- What a window lends, and what it is once that is given back.
use Rattle.std.specs.Prelude.{◌≡◌, ◌<◌, length, [], ⊤, Option, Some, None}
use mathlib.Core.Option.{none}
use Rattle.std.specs.Borrow.{MutBor, Fml, follows_so}
use Rattle.lumber_frame.specs.declared.fault.LumberFault.{LumberFault}
use Rattle.lumber_frame.specs.declared.lent.LumberRef.{LumberRef}
use Rattle.lumber_frame.specs.declared.limits.TheConstants.{ROOM}
use Rattle.lumber_frame.specs.declared.side.Side.TheVariants.{Receiver}
use Rattle.lumber_frame.specs.contracts.window.LumberWindow.{the_row}
use Rattle.lumber_frame.specs.Reading.{receiver}
use Rattle.lumber_frame.specs.Spelling.{Spells}
use Rattle.lumber_frame.specs.Lent.{frame_lent}
use Rattle.stream_grammar.specs.Reading as stream

-- the first of the frames that wait is lent, and no longer waits; or none waits, and there is room
abbrev pub Gives : stream.Window LumberFault → Option LumberRef → stream.Window LumberFault → Type 0
Gives old None new = (old.whole ≡ []) × (new ≡ old) × (length new.rest < ROOM)
Gives old (Some f) new = stream.Gives receiver (Spells Receiver) old (frame_lent f) new

abbrev pub Leaves : MutBor (stream.Window LumberFault) → Option LumberRef → Fml
Leaves s result = follows_so the_row the_row s.ghost_name none (λ _ _. ⊤) (λ v. Gives s.now result v)
