-- Which of the event objects that the maps make a receiver of events takes.
use Rattle.std.specs.Prelude.{◌≡◌, ◌≢◌, ◌⊎◌, ℕ, ◌<◌, ◌≤◌, List, [], ◌∷◌, ◌++◌, length, map, Ok, Err}
use Rattle.std.specs.List.{All}
use Rattle.event_form.specs.declared.event.Entry.{Entry}
use Rattle.event_form.specs.declared.event.Event.{Event}
use Rattle.event_form.specs.declared.event.Origin.{Origin}
use Rattle.event_form.specs.declared.event.Origin.TheVariants.{Relp, HecRaw, LumberJson, LumberData, HecEvent}
use Rattle.event_form.specs.Event.{IsEvent}
use Rattle.json_span.specs.Json.{AreSpaces, JsonObject, Spaced, Then}
use Rattle.json_span.specs.Members.{IsObjectText}
use Rattle.event_map.proofs.Functions.{hec_object_of}
use Rattle.event_map.specs.Maps.{IsHecObject, OfPairs}
use Rattle.event_map.specs.Objects.{pairs_object}
use Rattle.event_map.specs.Strings.{event_string}
use Rattle.body_faults.specs.declared.fault.BodyFault.TheVariants.{Format}
use Rattle.hec_body.specs.Events.{HasEvent, IsCut}
use Rattle.hec_body.specs.Limits.{IsLong, IsShort}
use Rattle.hec_sender.specs.Texts.{objects_text}

-- ws object ws, the object of at most so many levels
abbrev pub IsObjectOf : ℕ → List ℕ → Type 0
IsObjectOf levels text = Spaced (Then (JsonObject levels) AreSpaces) text

-- A Lumberjack event whose text is an object stands one level deeper in its event object: so that object may have 126 levels.
abbrev pub HasRoom : Event → Type 0
HasRoom e = e.origin ≡ LumberJson → IsObjectText e.text → IsObjectOf 126 e.text

-- it has no such room
abbrev pub IsDeep : Event → Type 0
IsDeep e = (e.origin ≡ LumberJson) × IsObjectText e.text × ¬ IsObjectOf 126 e.text

-- the value is the text's object, without the white space round it
pub record IsInside (text value : List ℕ) : Type 0 where
  pub front : List ℕ
  pub back : List ℕ
  pub front_is : AreSpaces front
  pub back_is : AreSpaces back
  pub object : JsonObject 127 value
  pub text_is : text ≡ front ++ (value ++ back)

-- the value that an event has in its object, by its origin and its text: the text as a string, an object as it is, or an object of pairs
abbrev pub ValueBy : Origin → List ℕ → List ℕ → Type 0
ValueBy Relp text value = value ≡ event_string text
ValueBy HecRaw text value = value ≡ event_string text
ValueBy LumberJson text value = IsInside text value ⊎ ((¬ IsObjectText text) × (value ≡ event_string text))
ValueBy LumberData text value = OfPairs pairs_object text value
ValueBy HecEvent text value = HasEvent text value

-- these bytes alone are a body of one event
abbrev pub IsOne : List ℕ → Type 0
IsOne bytes = IsCut bytes (Ok (bytes ∷ []))

-- a body of them is one event, whose value is the one by the map
pub record IsTaken (e : Event) (bytes : List ℕ) : Type 0 where
  pub one : IsOne bytes
  pub value : List ℕ
  pub has : HasEvent bytes value
  pub value_is : ValueBy e.origin e.text value

-- The event object of an event that didn't come as one is taken, where it has at most 131,072 bytes and there is room for its levels.
abbrev pub MappedIsTaken : Type 0
MappedIsTaken =
    (e : Event) (bytes : List ℕ) → IsEvent e → IsHecObject e bytes → e.origin ≢ HecEvent → IsShort bytes → HasRoom e
    → IsTaken e bytes

-- A text of at most 21,843 bytes makes no longer object, whatever bytes it has.
abbrev pub FewAreShort : Type 0
FewAreShort = (e : Event) (bytes : List ℕ) → IsHecObject e bytes → length e.text ≤ 21843 → IsShort bytes

-- And where it has more, or there is none, it is refused by its format.
abbrev pub OthersAreRefused : Type 0
OthersAreRefused =
    (e : Event) (bytes : List ℕ) → IsEvent e → IsHecObject e bytes → e.origin ≢ HecEvent → (IsLong bytes × HasRoom e) ⊎ IsDeep e
    → IsCut bytes (Err (Format 0))

-- What a receiver has taken as an event is one again.
abbrev pub KeptIsTaken : Type 0
KeptIsTaken = (body : List ℕ) (texts : List (List ℕ)) → IsCut body (Ok texts) → All IsOne texts

-- the event's object is taken
abbrev pub EntryIsOne : Entry → Type 0
EntryIsOne e = IsOne (hec_object_of e.event)

-- It fits: it came as an event object that was taken, or its object is short and has room.
abbrev pub Fits : Event → Type 0
Fits e = ((e.origin ≡ HecEvent) × IsOne e.text) ⊎ ((e.origin ≢ HecEvent) × IsShort (hec_object_of e) × HasRoom e)

-- The object of an entry whose event fits is taken.
abbrev pub FittingIsOne : Type 0
FittingIsOne = (e : Entry) → IsEvent e.event → Fits e.event → EntryIsOne e

-- The body of a request, of entries whose objects are taken, is these objects.
abbrev pub RequestIsTaken : Type 0
RequestIsTaken =
    (entries : List Entry) → 0 < length entries → length entries ≤ 10000 → All EntryIsOne entries
    → IsCut (objects_text entries) (Ok (map (λ (e : Entry). hec_object_of e.event) entries))

-- Of any other the first entry whose object isn't taken is told by its number among them.
abbrev pub RequestIsRefused : Type 0
RequestIsRefused =
    (before after : List Entry) (e : Entry) → length before < 10000 → All EntryIsOne before → IsEvent e.event → e.event.origin ≢ HecEvent
    → (IsLong (hec_object_of e.event) × HasRoom e.event) ⊎ IsDeep e.event
    → IsCut (objects_text (before ++ e ∷ after)) (Err (Format (length before)))
