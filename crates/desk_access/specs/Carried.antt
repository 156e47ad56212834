-- What a connection has carried when it ends, by any protocol.
use Rattle.std.specs.Prelude.{◌≡◌, ◌⊎◌, ℕ, ◌<◌, ◌^◌, List, [], ◌∷◌, ◌++◌, length, Option}
use Rattle.std.specs.Io.KnownBytes.{IsAtEnd}
use Rattle.event_form.specs.declared.talk.Talk.{Talk}
use Rattle.event_form.specs.declared.talk.Talk.TheVariants.{Ended, Truncated, Fault, ReadFault, TooMuch, NoMemory}
use Rattle.desk_access.specs.Call.{Call}
use Rattle.desk_access.specs.Step.{Step, frames_of, calls_of, text_of}
use Rattle.desk_access.specs.Protocol.{Protocol, AreMoves, IsNothing}

-- The input is over, and would end the connection so: it was read to its end, or its bytes have a fault. `left` is
-- what the input has left, where it says so; the whole frames of the bytes b end at the place `at`.
abbrev pub IsOver : {F : Type 0} → Protocol F → Option (List ℕ) → List ℕ → List F → ℕ → Talk → Type 0
IsOver p left b frames at Ended = IsAtEnd left × p.IsWhole b frames at × (at ≡ length b)
IsOver p left b frames at (Truncated place) = IsAtEnd left × p.IsWhole b frames at × (at < length b) × (place ≡ at)
IsOver p left b frames at (Fault place why) = p.IsFaulty b frames place why
IsOver p left b frames at talk = ⊥

-- after the frames held the bytes go on with a frame, at which the connection ends
abbrev pub EndsAtFrame : {F : Type 0} → Protocol F → List ℕ → List (Step F) → List F → List Call → List ℕ → Talk → Type 0
EndsAtFrame {F} p b steps held late part talk = (f : F) × (end : ℕ) × p.IsFront b (frames_of steps ++ held ++ f ∷ []) end × p.Stops steps held f late part talk

-- the input is over, and the connection ends at what is to be done for that
abbrev pub EndsAtLast : {F : Type 0} → Protocol F → Option (List ℕ) → List ℕ → List (Step F) → List F → ℕ → List Call → List ℕ → Talk → Type 0
EndsAtLast p left b steps held at late part talk = (over : Talk) × IsOver p left b (frames_of steps ++ held) at over × p.StopsLast steps held over late part talk

-- the connection ends at something that is to be done
abbrev pub EndsAtMove : {F : Type 0} → Protocol F → Option (List ℕ) → List ℕ → List (Step F) → List F → ℕ → List Call → List ℕ → Talk → Type 0
EndsAtMove p left b steps held at late part talk = EndsAtFrame p b steps held late part talk ⊎ EndsAtLast p left b steps held at late part talk

-- How a connection ends that read the bytes b, has carried these steps and holds these frames, all of which end at
-- the place `at`. After the steps, `late` was called and `part` written. Where no more can be read, the frames held are
-- given up, which the protocol must allow.
abbrev pub Ending : {F : Type 0} → Protocol F → Option (List ℕ) → List ℕ → List (Step F) → List F → ℕ → List Call → List ℕ → Talk → Type 0
Ending p left b steps held at late part Ended = IsOver p left b (frames_of steps ++ held) at Ended × p.IsLastMove steps held Ended late part
Ending p left b steps held at late part (Truncated place) = IsOver p left b (frames_of steps ++ held) at (Truncated place) × p.IsLastMove steps held (Truncated place) late part
Ending p left b steps held at late part (Fault place why) = IsOver p left b (frames_of steps ++ held) at (Fault place why) × p.IsLastMove steps held (Fault place why) late part
Ending p left b steps held at late part ReadFault = p.IsWhole b (frames_of steps ++ held) at × IsNothing late part × p.MayGiveUp steps held
Ending p left b steps held at late part (TooMuch place) = p.IsWhole b (frames_of steps ++ held) at × (place ≡ length b) × (place ≡ 2 ^ 40) × IsNothing late part × p.MayGiveUp steps held
Ending p left b steps held at late part NoMemory = IsNothing late part ⊎ EndsAtMove p left b steps held at late part NoMemory
Ending p left b steps held at late part talk = EndsAtMove p left b steps held at late part talk

-- The bytes read begin with the frames of the steps, from the first one, none skipped, and those that are held. What
-- was called and what was written are those of the steps, in order, and then what belongs to the ending. `left` is
-- what the input has left, where it says so.
pub record Carried {F : Type 0} (p : Protocol F) (left : Option (List ℕ)) (b : List ℕ) (calls : List Call) (text : List ℕ) (talk : Talk) : Type 0 where
  pub steps : List (Step F)
  pub each : AreMoves p [] steps
  pub held : List F
  pub kept : p.AreHeld steps held
  pub at : ℕ
  pub front : p.IsFront b (frames_of steps ++ held) at
  pub late : List Call
  pub part : List ℕ
  pub made : calls ≡ calls_of steps ++ late
  pub wrote : text ≡ text_of steps ++ part
  pub ending : Ending p left b steps held at late part talk
