-- The words are one command, so what is done for it is done for each command that they are.
use Rattle.std.proofs.Common.{◌≡◌, ◌∙◌, ◌<◌, inl, inr, List, ℕ, ap, subst, arith}
use Rattle.std.specs.Prelude.{Option}
use Rattle.bridge_words.specs.declared.command.Command.{Command}
use Rattle.bridge_words.specs.declared.command.Command.TheVariants.{Format, List as ListCommand, Replay, Drain, Load, Serve}
use Rattle.bridge_words.specs.declared.command.Receiver.{Receiver}
use Rattle.bridge_words.specs.declared.command.Receiver.TheVariants.{Relp, Lumberjack, Hec}
use Rattle.bridge_words.specs.declared.need.Need.{Need}
use Rattle.bridge_words.specs.declared.need.Need.TheVariants.{NoCommand, Existing, Pair}
use Rattle.bridge_words.specs.Words.{IsCommand, IsNoCommand, IsNeed, need_for}
use Rattle.bridge_words.proofs.Once.{one_command, move_is_no_command}
use Rattle.notes.specs.declared.note.Note.{Note}
use Rattle.bridge_parts.specs.Receivers.{outward_of}
use Rattle.bridge_parts.specs.Run.{Run}
use Rattle.bridge_core.specs.Failed.{AsksServe}
use Rattle.bridge_core.specs.Done.{Does, IsOther}

pub does_as : (command other : Command) (words : List (List ℕ)) (run : Run) (note : Note) → IsCommand command words → Does command run note → IsCommand other words → Does other run note
does_as command other words run note is done other_is = subst (λ (x : Command). Does x run note) (one_command command other words is other_is) done

-- words that want a device alone are a command
pub needs_device : (need : Need) (words : List (List ℕ)) → (need ≡ NoCommand → ⊥) → ((target : List ℕ) (tag : ℕ) → need ≡ Pair target tag → ⊥)
    → IsNeed words need → IsNoCommand words → ⊥
needs_device need words other alone (inl is) none = other is.0
needs_device need words other alone (inr (inl is)) none = none is.0 is.1
needs_device need words other alone (inr (inr is)) none = alone is.0 is.1 is.3

-- the words are a command, so they are not none
pub no_asked : (command : Command) (words : List (List ℕ)) → IsCommand command words → IsNoCommand words → ⊥
no_asked command words is none = none command is

-- the collector is asked at least once
pub has_polls : (receiver : Receiver) (place : Option (List ℕ)) (words : List (List ℕ)) → IsCommand (Drain receiver place) words → 0 < (outward_of receiver).polls
has_polls Relp place words is = omega arith
has_polls Lumberjack place words is = omega arith
has_polls (Hec token channel polls) place words is = let range = is.asks.in_range in omega (arith, range.0)

-- words that serve many senders are that command
pub is_serve : (command : Command) (words : List (List ℕ)) → IsCommand command words → (serves : AsksServe words) → command ≡ Serve serves.0
is_serve command words is serves = one_command command (Serve serves.0) words is serves.1

-- and words that don't are another one
pub is_other : (command : Command) (words : List (List ℕ)) → IsCommand command words → (AsksServe words → ⊥) → IsOther command
is_other (Format slots size) words is never = tt
is_other (ListCommand form) words is never = tt
is_other (Replay proto token ack_token) words is never = tt
is_other (Drain receiver place) words is never = tt
is_other (Load proto number count) words is never = tt
is_other (Serve server) words is never = never (server, is)

-- a command that serves wants a device that exists
pub serves_existing : (need : Need) (words : List (List ℕ)) → IsNeed words need → AsksServe words → need ≡ Existing
serves_existing need words (inl none) serves = absurd (none.1 (Serve serves.0) serves.1)
serves_existing need words (inr (inl some)) serves = some.2 ∙ ap need_for (one_command some.0 (Serve serves.0) words some.1 serves.1)
serves_existing need words (inr (inr move)) serves = absurd (move_is_no_command move.0 move.1 words move.2 (Serve serves.0) serves.1)
