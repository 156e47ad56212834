-- Steps of a connection one after another, and its endings at what is to be done.
use Rattle.std.proofs.Common.{◌≡◌, ℕ, ◌+◌, ◌∙◌, inl, inr, List, [], ◌∷◌, ◌++◌, Option, length, refl, sym, ap, subst, append_assoc, length-append}
use Rattle.std.proofs.lemmas.List.{append-nil}
use Rattle.event_form.specs.declared.event.Entry.{Entry}
use Rattle.event_form.specs.declared.talk.Talk.{Talk}
use Rattle.event_form.specs.declared.talk.Talk.TheVariants.{Ended, Closed, Fault, Truncated, Full, TooLarge, Busy, Spent, NoMore, TooMuch, ReadFault, WriteFault, DiskFault, NotSpool, NoMemory}
use Rattle.desk_access.specs.Call.{Call, taken_by, taken_of}
use Rattle.desk_access.specs.Step.{Step, frames_of, calls_of, text_of, count}
use Rattle.desk_access.specs.Protocol.{Protocol, AreMoves, IsNothing}
use Rattle.desk_access.specs.Carried.{IsOver, EndsAtMove, Ending}
use Rattle.desk_access.specs.Endings.{IsAtMove}

pub taken_then : (xs ys : List Call) → taken_of (xs ++ ys) ≡ taken_of xs ++ taken_of ys
taken_then [] ys = refl
taken_then (x ∷ xs) ys = ap (λ (l : List Entry). taken_by x ++ l) (taken_then xs ys) ∙ sym (append_assoc (taken_by x) (taken_of xs) (taken_of ys))

pub count_then : (xs ys : List Call) → count (xs ++ ys) ≡ count xs + count ys
count_then xs ys = ap length (taken_then xs ys) ∙ length-append (taken_of xs) (taken_of ys)

pub frames_then : {F : Type 0} (xs ys : List (Step F)) → frames_of (xs ++ ys) ≡ frames_of xs ++ frames_of ys
frames_then [] ys = refl
frames_then {F} (x ∷ xs) ys = ap (λ (l : List F). x.frames ++ l) (frames_then xs ys) ∙ sym (append_assoc x.frames (frames_of xs) (frames_of ys))

pub calls_then : {F : Type 0} (xs ys : List (Step F)) → calls_of (xs ++ ys) ≡ calls_of xs ++ calls_of ys
calls_then [] ys = refl
calls_then (x ∷ xs) ys = ap (λ (l : List Call). x.calls ++ l) (calls_then xs ys) ∙ sym (append_assoc x.calls (calls_of xs) (calls_of ys))

pub text_then : {F : Type 0} (xs ys : List (Step F)) → text_of (xs ++ ys) ≡ text_of xs ++ text_of ys
text_then [] ys = refl
text_then (x ∷ xs) ys = ap (λ (l : List ℕ). x.text ++ l) (text_then xs ys) ∙ sym (append_assoc x.text (text_of xs) (text_of ys))

-- a step more
pub moves_push : {F : Type 0} (p : Protocol F) (before steps : List (Step F)) (s : Step F) → AreMoves p before steps → p.IsMove (before ++ steps) s → AreMoves p before (steps ++ s ∷ [])
moves_push {F} p before [] s m move = (subst (λ (l : List (Step F)). p.IsMove l s) (append-nil before) move, tt)
moves_push {F} p before (x ∷ steps) s m move = (m.0, moves_push p (before ++ x ∷ []) steps s m.1 (subst (λ (l : List (Step F)). p.IsMove l s) (sym (append_assoc before (x ∷ []) steps)) move))

-- What a connection has done when it comes to its ending.
module _ {F : Type 0} (p : Protocol F) (left : Option (List ℕ)) (b : List ℕ) (steps : List (Step F)) (held : List F) (at : ℕ) (late : List Call) (part : List ℕ) where
  -- it ends at what is to be done
  pub at_move : (talk : Talk) → IsAtMove talk → EndsAtMove p left b steps held at late part talk → Ending p left b steps held at late part talk
  at_move Ended is e = absurd is
  at_move Closed is e = e
  at_move (Fault place why) is e = absurd is
  at_move (Truncated place) is e = absurd is
  at_move (Full need room) is e = e
  at_move (TooLarge need most) is e = e
  at_move (Busy many) is e = e
  at_move (Spent end) is e = e
  at_move (NoMore run) is e = e
  at_move (TooMuch place) is e = absurd is
  at_move ReadFault is e = absurd is
  at_move WriteFault is e = e
  at_move DiskFault is e = e
  at_move (NotSpool place) is e = e
  at_move NoMemory is e = inr e

  -- the input is over, and what is to be done for that was done
  pub at_over : (talk : Talk) → IsOver p left b (frames_of steps ++ held) at talk → p.IsLastMove steps held talk late part → Ending p left b steps held at late part talk
  at_over Ended o m = (o, m)
  at_over Closed o m = absurd o
  at_over (Fault place why) o m = (o, m)
  at_over (Truncated place) o m = (o, m)
  at_over (Full need room) o m = absurd o
  at_over (TooLarge need most) o m = absurd o
  at_over (Busy many) o m = absurd o
  at_over (Spent end) o m = absurd o
  at_over (NoMore run) o m = absurd o
  at_over (TooMuch place) o m = absurd o
  at_over ReadFault o m = absurd o
  at_over WriteFault o m = absurd o
  at_over DiskFault o m = absurd o
  at_over (NotSpool place) o m = absurd o
  at_over NoMemory o m = absurd o

  -- what is so of an ending, by what was done at it: the last move of an input that is over, nothing, or a move
  pub ending_cases : (G : Talk → Type 0) → ((talk : Talk) → p.IsLastMove steps held talk late part → G talk) → ((talk : Talk) → IsNothing late part → G talk) → ((talk : Talk) → EndsAtMove p left b steps held at late part talk → G talk) → (talk : Talk) → Ending p left b steps held at late part talk → G talk
  ending_cases G last none move Ended e = last Ended e.1
  ending_cases G last none move (Truncated place) e = last (Truncated place) e.1
  ending_cases G last none move (Fault place why) e = last (Fault place why) e.1
  ending_cases G last none move ReadFault e = none ReadFault e.1
  ending_cases G last none move (TooMuch place) e = none (TooMuch place) e.3
  ending_cases G last none move NoMemory e = elim e [ inl n ↦ none NoMemory n | inr m ↦ move NoMemory m ]
  ending_cases G last none move Closed e = move Closed e
  ending_cases G last none move (Full need room) e = move (Full need room) e
  ending_cases G last none move (TooLarge need most) e = move (TooLarge need most) e
  ending_cases G last none move (Busy many) e = move (Busy many) e
  ending_cases G last none move (Spent end) e = move (Spent end) e
  ending_cases G last none move (NoMore run) e = move (NoMore run) e
  ending_cases G last none move WriteFault e = move WriteFault e
  ending_cases G last none move DiskFault e = move DiskFault e
  ending_cases G last none move (NotSpool place) e = move (NotSpool place) e
