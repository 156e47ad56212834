-- Events as texts, as JSON objects and as HEC event objects.
use Rattle.std.specs.Prelude.{◌≡◌, List, ℕ, ◌⊎◌}
use Rattle.event_form.specs.Event.{ArePairs}
use Rattle.event_form.specs.declared.event.Event.{Event}
use Rattle.event_form.specs.declared.event.Origin.{Origin}
use Rattle.event_form.specs.declared.event.Origin.TheVariants.{Relp, HecRaw, LumberJson, LumberData, HecEvent}
use Rattle.json_span.specs.Members.{IsObjectText}
use Rattle.event_map.specs.Strings.{event_string}
use Rattle.event_map.specs.Objects.{message_object, event_object, pairs_object}

-- the text is some pairs, and the bytes are what f makes of them
abbrev pub OfPairs : (List (List ℕ × List ℕ) → List ℕ) → List ℕ → List ℕ → Type 0
OfPairs f text bytes = (h : ArePairs text) × (bytes ≡ f h.pairs)

-- the bytes are the first where the text is one JSON object, white space round it allowed, and else the second
abbrev pub OfObject : List ℕ → List ℕ → List ℕ → List ℕ → Type 0
OfObject object other text bytes = (IsObjectText text × (bytes ≡ object)) ⊎ ((¬ IsObjectText text) × (bytes ≡ other))

-- an event as a text, by its origin and its text: the text itself, and of pairs their object
abbrev pub TextBy : Origin → List ℕ → List ℕ → Type 0
TextBy Relp text bytes = bytes ≡ text
TextBy HecRaw text bytes = bytes ≡ text
TextBy LumberJson text bytes = bytes ≡ text
TextBy LumberData text bytes = OfPairs pairs_object text bytes
TextBy HecEvent text bytes = bytes ≡ text

-- an event as a JSON object: a text that isn't one is put into a message
abbrev pub JsonBy : Origin → List ℕ → List ℕ → Type 0
JsonBy Relp text bytes = bytes ≡ message_object text
JsonBy HecRaw text bytes = bytes ≡ message_object text
JsonBy LumberJson text bytes = OfObject text (message_object text) text bytes
JsonBy LumberData text bytes = OfPairs pairs_object text bytes
JsonBy HecEvent text bytes = bytes ≡ text

-- an event as an event object: what isn't one already stands under `event`, an object as it is and another text as a string
abbrev pub HecBy : Origin → List ℕ → List ℕ → Type 0
HecBy Relp text bytes = bytes ≡ event_object (event_string text)
HecBy HecRaw text bytes = bytes ≡ event_object (event_string text)
HecBy LumberJson text bytes = OfObject (event_object text) (event_object (event_string text)) text bytes
HecBy LumberData text bytes = OfPairs (λ pairs. event_object (pairs_object pairs)) text bytes
HecBy HecEvent text bytes = bytes ≡ text

-- the bytes are the event's text
abbrev pub IsText : Event → List ℕ → Type 0
IsText event bytes = TextBy event.origin event.text bytes

-- the bytes are the event as a JSON object
abbrev pub IsJsonObject : Event → List ℕ → Type 0
IsJsonObject event bytes = JsonBy event.origin event.text bytes

-- the bytes are the event as an HEC event object
abbrev pub IsHecObject : Event → List ℕ → Type 0
IsHecObject event bytes = HecBy event.origin event.text bytes
