-- The sessions of the looks of a run, and the last look.
use Rattle.std.proofs.Common.{◌≡◌, ℕ, List, [], ◌∷◌, ◌++◌, refl, sym, ◌∙◌, ap, subst}
use Rattle.std.specs.Prelude.{All, Option, None, Some}
use Rattle.std.proofs.lemmas.Grind.{flat_map-append}
use Rattle.std.proofs.lemmas.List.Elements.{All-nil, All-cons, All-append}
use Rattle.edge_io.specs.Net.{NetState}
use Rattle.desk_access.specs.Call.{Record}
use Rattle.desk_access.specs.Desk.{DeskState}
use Rattle.forward_core.specs.declared.outward.Outward.{Outward}
use Rattle.desk_seats.specs.Passes.{Known}
use Rattle.serve_forwarder.specs.declared.destination.Destination.{Destination}
use Rattle.serve_forwarder.specs.declared.looking.Outcome.{Outcome}
use Rattle.serve_forwarder.specs.Looks.{Forwarder, Found, Idle, Unread, Undialed, Held, Look, held_in, sessions_of, forwarder_at, IsFound, AreLooks}
use Rattle.serve_forwarder.specs.Sessions.{Session, TellsSessions}
use Rattle.serve_forwarder.proofs.Chain.{looks_are_told, tells_then}
use Rattle.serve_run.specs.Running.{Forwarded}
use Rattle.serve_laws.proofs.Last.{IsLastOf}
use Rattle.bridge_serve.specs.Promised.{TellsHung, IsReadOut, AreReadOut, TellsLast}

sessions_then : (looks more : List Look) → sessions_of (looks ++ more) ≡ sessions_of looks ++ sessions_of more
sessions_then looks more = flat_map-append (λ (look : Look). held_in look.found) looks more

-- the looks of a forwarder
abbrev pub looks_in : (start : DeskState → Type 0) (destination : Option Destination) (workers : List Known) (old new : Forwarder) (last : Option Outcome)
    → Forwarded start destination workers old new last → List Look
looks_in start destination workers old new last forwarded =
    elim destination as (λ destination. Forwarded start destination workers old new last → List Look) [
      | None ↦ λ none. []
      | Some destination ↦ λ forwarded. forwarded.2.looks ++ forwarded.2.look ∷ []
    ] forwarded

-- ---- sessions that the peer closed

found_read_out : (start : DeskState → Type 0) (outward : Outward) (look : Look) (found : Found) (a b : Known) → IsFound start outward look found a b → All (IsReadOut outward) (held_in found)
found_read_out start outward look Idle a b f = All-nil (IsReadOut outward)
found_read_out start outward look (Unread _) a b f = All-nil (IsReadOut outward)
found_read_out start outward look (Undialed _) a b f = All-nil (IsReadOut outward)
found_read_out start outward look (Held one) a b f = All-cons (IsReadOut outward) one [] f.1.ended.closed (All-nil (IsReadOut outward))

looks_read_out : (start : DeskState → Type 0) (destination : Destination) (looks : List Look) (old new : Forwarder) → AreLooks start destination looks old new → All (IsReadOut destination.outward) (sessions_of looks)
looks_read_out start destination [] old new are = All-nil (IsReadOut destination.outward)
looks_read_out start destination (look ∷ looks) old new are =
    All-append (IsReadOut destination.outward) (held_in look.found) (sessions_of looks) (found_read_out start destination.outward look look.found are.1.asked are.0.pass are.1.found)
    (looks_read_out start destination looks are.0 new are.2)

-- ---- of a run

module _ (start : DeskState → Type 0) (workers : List Known) (old new : Forwarder) (last : Option Outcome) where
  pub hangs_up : (destination : Option Destination) (f : Forwarded start destination workers old new last) → TellsHung destination (looks_in start destination workers old new last f) old.net.hung new.net.hung
  hangs_up None f = ap (λ (n : NetState). n.hung) f.2
  hangs_up (Some destination) f =
      let h = f.2 in
      let place = destination.place in
      let first = looks_are_told start destination h.looks old h.beside h.looked in
      let more = looks_are_told start destination (h.look ∷ []) (forwarder_at h.met h.beside.net) new (new, h.looked_last, (refl, refl)) in
      subst (λ (l : List Session). TellsSessions place l old.net.hung new.net.hung) (sym (sessions_then h.looks (h.look ∷ [])))
      (tells_then place (sessions_of h.looks) (sessions_of (h.look ∷ [])) old.net.hung h.beside.net.hung new.net.hung first more)

  pub read_out : (destination : Option Destination) (f : Forwarded start destination workers old new last) → AreReadOut destination (looks_in start destination workers old new last f)
  read_out None f = tt
  read_out (Some destination) f =
      let h = f.2 in
      let P = IsReadOut destination.outward in
      let first = looks_read_out start destination h.looks old h.beside h.looked in
      let more = looks_read_out start destination (h.look ∷ []) (forwarder_at h.met h.beside.net) new (new, h.looked_last, (refl, refl)) in
      subst (All P) (sym (sessions_then h.looks (h.look ∷ []))) (All-append P (sessions_of h.looks) (sessions_of (h.look ∷ [])) first more)

  pub tells_last : (number : ℕ) (log : List Record) (destination : Option Destination) (f : Forwarded start destination workers old new last) → IsLastOf start number log destination workers old new last f
      → TellsLast start number log destination (looks_in start destination workers old new last f) last
  tells_last number log None f is = f.3
  tells_last number log (Some destination) f is = (f.2.looks, f.2.look, refl, f.1 ∙ ap (λ (o : Outcome). Some o) f.2.last_is, is)
