-- What a frame of the receiver does, by the size of the window under way and by what of it is acknowledged.
use Rattle.std.specs.Prelude.{◌≡◌, ℕ, ◌+◌, ◌*◌, ◌<◌, ◌≤◌, [], length, Some}
use Rattle.lumber_frame.specs.declared.frame.LumberFrame.{LumberFrame}
use Rattle.lumber_frame.specs.declared.frame.LumberFrame.TheVariants.{Ack}
use Rattle.lumber_frame.specs.Reading.{Reader}
use Rattle.lumber_sender.specs.declared.hearing.Heard.{Heard}
use Rattle.lumber_sender.specs.declared.hearing.Heard.TheVariants.{Nothing, Part, Whole, Beyond}
use Rattle.lumber_sender.specs.Sender.{Sender}

abbrev pub IsHeard : ℕ → ℕ → LumberFrame → Heard → Type 0
IsHeard size acked f Nothing = (seq : ℕ) × (f ≡ Ack seq) × (seq ≤ acked) × (seq ≤ size)
IsHeard size acked f (Part seq) = (f ≡ Ack seq) × (acked < seq) × (seq < size)
IsHeard size acked f Whole = (seq : ℕ) × (f ≡ Ack seq) × (acked < seq) × (seq ≡ size)
IsHeard size acked f Beyond = (seq : ℕ) × (f ≡ Ack seq) × (size < seq)

-- what it leaves of the sender
abbrev pub heard_by : Sender → Reader → Heard → Sender
heard_by s r Nothing = record s { reader = r; heard = s.heard + 1 }
heard_by s r (Part seq) = record s { reader = r; heard = s.heard + 1; acked = seq }
heard_by s r Whole = record s { reader = r; heard = s.heard + 1; done = s.done + length s.batch; batch = []; written = 0; acked = 0 }
heard_by s r Beyond = record s { reader = r; stop = Some (6 * s.heard) }
