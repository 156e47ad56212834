-- What a receiver's acknowledgments have brought, of a session that is to send n entries, and what was written by then.
use Rattle.std.specs.Prelude.{◌≡◌, ◌⊎◌, ℕ, ◌+◌, ◌-◌, ◌/◌, ◌<◌, ◌≤◌, min, List, [], ◌∷◌}
use Rattle.event_form.specs.declared.event.Entry.{Entry}
use Rattle.lumber_frame.specs.declared.frame.LumberFrame.{LumberFrame}
use Rattle.lumber_frame.specs.declared.frame.LumberFrame.TheVariants.{Window, Pairs, Json, Ack}
use Rattle.lumber_sender.specs.declared.limits.TheConstants.{WINDOW}
use Rattle.lumber_sender.specs.Windows.{windows_text}

-- How many entries stand in windows that are wholly acknowledged, and the greatest sequence number that is acknowledged of the
-- next window.
pub record Progress : Type 0 where
  pub done : ℕ
  pub acked : ℕ

-- nothing is acknowledged
abbrev pub unacknowledged : Progress
unacknowledged = record { done = 0; acked = 0 }

-- how many of the first entries are acknowledged
abbrev pub known_by : Progress → ℕ
known_by p = p.done + p.acked

-- how many entries the window has that isn't wholly acknowledged
abbrev pub size_of : ℕ → Progress → ℕ
size_of n p = min WINDOW (n - p.done)

-- of a window of this size: a number up to which frames are acknowledged already has no effect; a greater one acknowledges the
-- frames up to it, and the last one the window
abbrev pub Acknowledges : ℕ → Progress → ℕ → Progress → Type 0
Acknowledges size p seq next =
    ((seq ≤ p.acked) × (next ≡ p))
    ⊎ (((p.acked < seq) × (seq < size) × (next ≡ record { done = p.done; acked = seq }))
    ⊎ ((p.acked < seq) × (seq ≡ size) × (next ≡ record { done = p.done + size; acked = 0 })))

-- what a frame of the receiver brings, which is an acknowledgment
abbrev pub Takes : ℕ → Progress → LumberFrame → Progress → Type 0
Takes n p (Window size) next = ⊥
Takes n p (Pairs seq text) next = ⊥
Takes n p (Json seq text) next = ⊥
Takes n p (Ack seq) next = Acknowledges (size_of n p) p seq next

-- the same of frames, one after another
abbrev pub TakesAll : ℕ → Progress → List LumberFrame → Progress → Type 0
TakesAll n p [] next = next ≡ p
TakesAll n p (f ∷ frames) next = (q : Progress) × Takes n p f q × TakesAll n q frames next

-- the frame may not come: it acknowledges more frames than the window has
abbrev pub Stops : ℕ → Progress → LumberFrame → Type 0
Stops n p (Window size) = ⊥
Stops n p (Pairs seq text) = ⊥
Stops n p (Json seq text) = ⊥
Stops n p (Ack seq) = size_of n p < seq

-- THE TEXT of a list of entries, by what the receiver has acknowledged: its windows up to the first one that isn't wholly
-- acknowledged.
abbrev pub session_text : List Entry → Progress → List ℕ
session_text entries p = windows_text (p.done / WINDOW + 1) entries
