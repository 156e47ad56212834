-- What looks offer, one after another.
use Rattle.std.proofs.Common.{◌≡◌, ℕ, List, [], ◌∷◌, ◌++◌, refl}
use Rattle.std.specs.Prelude.{Option}
use Rattle.serve_forwarder.specs.Looks.{Look, first_of, offer_at, stuck_after, AreInTurn}

-- where looks leave those after them stuck
abbrev pub stuck_through : Option ℕ → List Look → Option ℕ
stuck_through stuck [] = stuck
stuck_through stuck (look ∷ looks) = stuck_through (stuck_after stuck look) looks

-- one look more
pub turn_more : (stuck : Option ℕ) (looks : List Look) (look : Look) → AreInTurn stuck looks → look.offer ≡ offer_at (stuck_through stuck looks) (first_of look.given) → AreInTurn stuck (looks ++ look ∷ [])
turn_more stuck [] look turn offers = (offers, tt)
turn_more stuck (first ∷ looks) look turn offers = (turn.0, turn_more (stuck_after stuck first) looks look turn.1 offers)

pub stuck_more : (stuck : Option ℕ) (looks : List Look) (look : Look) → stuck_through stuck (looks ++ look ∷ []) ≡ stuck_after (stuck_through stuck looks) look
stuck_more stuck [] look = refl
stuck_more stuck (first ∷ looks) look = stuck_more (stuck_after stuck first) looks look
