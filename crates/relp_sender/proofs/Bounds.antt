-- What was told is acknowledged, and where a session isn't over not all is.
use Rattle.std.proofs.Common.{◌≡◌, ◌≢◌, inl, inr, ℕ, ◌<◌, ◌≤◌, List, [], ◌∷◌, length, refl, ap, arith}
use Rattle.std.specs.Prelude.{All}
use Rattle.std.proofs.lemmas.List.Elements.{All-head}
use Rattle.event_form.specs.declared.turn.Turn.{Turn}
use Rattle.event_form.specs.declared.turn.Turn.TheVariants.{Write, Confirmed, Also, Need, Wait, Pause, Done, Refused, PeerClosed, PeerFault, Unconfirmed}
use Rattle.event_form.specs.Turn.{IsResting}
use Rattle.relp_sender.specs.declared.stage.Stage.{Stage}
use Rattle.relp_sender.specs.declared.stage.Stage.TheVariants.{Fresh, Opening, Open, Closed}
use Rattle.relp_sender.specs.declared.stage.Stop.TheVariants as stops
use Rattle.relp_sender.specs.Window.{first_open}
use Rattle.relp_sender.specs.Sender.{Sender, Keeps, KeepsAt, HasTold, given, MustHear}
use Rattle.relp_sender.specs.Sends.{History, Sends}
use Rattle.relp_sender.specs.Turns.{IsTurn, TellsKnown}
use Rattle.relp_sender.proofs.Whole.{below_by}

front_most : (ps : List ℕ) (w : ℕ) → All (λ (p : ℕ). p < w) ps → first_open ps w ≤ w
front_most [] w below = omega arith
front_most (p ∷ ps) w below = let h = All-head (λ (q : ℕ). q < w) p ps below in omega (arith, h)

front_less : (ps : List ℕ) (w : ℕ) → All (λ (p : ℕ). p < w) ps → 0 < length ps → first_open ps w < w
front_less [] w below some = absurd (omega (arith, some))
front_less (p ∷ ps) w below some = All-head (λ (q : ℕ). q < w) p ps below

pub within_at : (s : Sender) → Keeps s → s.told ≤ given s
within_at s k = omega (arith, k.told, front_most s.unanswered s.written k.below)

pub most_at : (s : Sender) → Keeps s → (h : History) → Sends h s → TellsKnown h s
most_at s k h was = λ place told. elim told [
  | inl low ↦ below_by s.stage s h.progress place k.at was.stands (omega (arith, low, k.told))
  | inr one ↦ was.knows.told place one
]

-- a turn at which the session goes on with the peer's frames, or ended by them
hears : (turn : Turn) (s : Sender) → Keeps s → IsTurn turn s → IsResting turn → turn ≢ Need → turn ≢ Done → HasTold s × MustHear s.stage s
hears (Write text) s k is at need done = absurd at
hears (Confirmed upto) s k is at need done = absurd at
hears (Also from to) s k is at need done = absurd at
hears Need s k is at need done = absurd (need refl)
hears Wait s k is at need done = (is.0.1, is.0.2)
hears Pause s k is at need done = absurd is
hears Done s k is at need done = absurd (done refl)
hears (Refused unit code) s k is at need done = k.ended (stops.Refused unit code) is
hears PeerClosed s k is at need done = k.ended stops.Hint is
hears (PeerFault place why) s k is at need done = elim is [ inl x ↦ k.ended (stops.BadReply place) x.0 | inr x ↦ (x.0.1, x.0.2) ]
hears (Unconfirmed asked) s k is at need done = absurd is

left_by : (stage : Stage) (s : Sender) → Keeps s → KeepsAt stage s → HasTold s → MustHear stage s → s.told < given s
left_by Fresh s k at told must = absurd must
left_by Opening s k at told must =
    let first : first_open s.unanswered s.written ≡ s.written = ap (λ (l : List ℕ). first_open l s.written) at.1 in
    omega (arith, told.front, first, at.0, at.2)
left_by Open s k at told must =
    let some : 0 < length s.unanswered = elim must [ inl full ↦ omega (arith, full) | inr rest ↦ rest.2 ] in
    omega (arith, told.front, front_less s.unanswered s.written k.below some)
left_by Closed s k at told must = absurd must

pub left_at : (turn : Turn) (s : Sender) → Keeps s → IsTurn turn s → IsResting turn → turn ≢ Need → turn ≢ Done → s.told < given s
left_at turn s k is at need done = let h = hears turn s k is at need done in left_by s.stage s k k.at h.0 h.1
