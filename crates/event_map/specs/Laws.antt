-- What holds of a map.
use Rattle.std.specs.Prelude.{◌≡◌, ℕ, ◌≤◌, List, length}
use Rattle.event_form.specs.Event.{IsEvent}
use Rattle.event_form.specs.declared.event.Event.{Event}

-- Of each event within its limits it has bytes, of at most this length, and no others.
abbrev pub HasOne : (Event → List ℕ → Type 0) → ℕ → Type 0
HasOne Is most = (e : Event) → IsEvent e → (bytes : List ℕ) × Is e bytes × (length bytes ≤ most) × ((other : List ℕ) → Is e other → other ≡ bytes)
