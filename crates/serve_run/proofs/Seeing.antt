-- A pass that has met others, and the numbers of passes that looked.
use Rattle.std.proofs.Common.{◌≡◌, ℕ, List, [], ◌∷◌, ◌++◌, ◌∙◌, append_assoc, refl, sym, ap}
use Rattle.std.proofs.lemmas.List.Elements.{All-nil, All-push, All-weaker}
use mathlib.Core.List.{IsPrefix}
use Rattle.desk_access.specs.Desk.{DeskState}
use Rattle.forward_core.specs.declared.outward.Outward.{Outward}
use Rattle.desk_seats.specs.Passes.{Known}
use Rattle.desk_seats.specs.Own.{prefix_self}
use Rattle.serve_forwarder.specs.declared.destination.Destination.{Destination}
use Rattle.serve_forwarder.specs.Looks.{Forwarder, Found, Idle, Unread, Undialed, Held, Look, IsFound, AreLooks}
use Rattle.serve_run.specs.Running.{HasMet}

prefix_then : {A : Type 0} (xs ys zs : List A) → IsPrefix xs ys → IsPrefix ys zs → IsPrefix xs zs
prefix_then {A} xs ys zs p q = (p.0 ++ q.0, sym (append_assoc xs p.0 q.0) ∙ ap (λ (l : List A). l ++ q.0) p.1 ∙ q.1)

-- no other was met, or one more
pub met_none : (pass : Known) → HasMet [] pass pass
met_none pass = record { number = refl; own = refl; seen = prefix_self pass.seen; each = All-nil (λ (other : Known). IsPrefix other.seen pass.seen) }

pub met_more : (others : List Known) (other pass between pass' : Known) → HasMet others pass between → IsPrefix between.seen pass'.seen → IsPrefix other.seen pass'.seen
    → (pass'.number ≡ between.number) × (pass'.own ≡ between.own) → HasMet (others ++ other ∷ []) pass pass'
met_more others other pass between pass' met first second same = record {
  number = same.0 ∙ met.number;
  own = same.1 ∙ met.own;
  seen = prefix_then pass.seen between.seen pass'.seen met.seen first;
  each = All-push (λ (o : Known). IsPrefix o.seen pass'.seen) others other
      (All-weaker (λ (o : Known). IsPrefix o.seen between.seen) (λ (o : Known). IsPrefix o.seen pass'.seen) (λ o is. prefix_then o.seen between.seen pass'.seen is first) others met.each) second;
}

-- ---- looks leave a pass its number

found_number : (start : DeskState → Type 0) (outward : Outward) (look : Look) (found : Found) (pass pass' : Known) → IsFound start outward look found pass pass' → pass'.number ≡ pass.number
found_number start outward look Idle pass pass' is = ap (λ (p : Known). p.number) is.1
found_number start outward look (Unread _) pass pass' is = ap (λ (p : Known). p.number) is.1
found_number start outward look (Undialed _) pass pass' is = ap (λ (p : Known). p.number) is.1
found_number start outward look (Held one) pass pass' is = is.1.made.number ∙ is.1.asked.end_ran.number ∙ is.1.asked.cursor_ran.number

pub looks_number : (start : DeskState → Type 0) (destination : Destination) (looks : List Look) (old new : Forwarder) → AreLooks start destination looks old new → new.pass.number ≡ old.pass.number
looks_number start destination [] old new are = ap (λ (p : Known). p.number) are.0
looks_number start destination (look ∷ looks) old new are =
    looks_number start destination looks are.0 new are.2 ∙ found_number start destination.outward look look.found are.1.asked are.0.pass are.1.found ∙ are.1.asks.number
