-- Event bodies: "Format events for HTTP Event Collector" has event objects one after another.
use Rattle.std.specs.Prelude.{◌≡◌, ℕ, ◌<◌, ◌≤◌, ◌⊎◌, ⊤, List, [], ◌∷◌, ◌++◌, length, codes, slice_range, Result, Ok, Err}
use Rattle.std.specs.List.{All}
use Rattle.json_span.specs.Json.{AreSpaces, JsonObject}
use Rattle.json_span.specs.Members.{HasMembers}
use Rattle.json_span.specs.declared.span.Span.{Span}
use Rattle.json_span.specs.declared.object.Member.{Member}
use Rattle.hec_body.specs.Limits.{IsShort, IsLong, AreWithinLimits}
use Rattle.body_faults.specs.declared.fault.BodyFault.{BodyFault}
use Rattle.body_faults.specs.declared.fault.BodyFault.TheVariants.{NoData, Format, NoEvent, Blank, TooMany, NoMemory}

-- The bytes are white space, an object of at most 127 levels with this text, and the rest.
pub record BeginsObject (bytes text rest : List ℕ) : Type 0 where
  pub space : List ℕ
  pub spaces : AreSpaces space
  pub whole : bytes ≡ space ++ (text ++ rest)
  pub object : JsonObject 127 text

-- ---- one object

-- all of a text
abbrev pub whole_of : List ℕ → Span
whole_of text = record { start = 0; end = length text }

-- a member's name is spelt "event": no escape in it is read
abbrev pub IsNamedEvent : List ℕ → Member → Type 0
IsNamedEvent text m = slice_range text m.name.start m.name.end ≡ codes "\"event\""

-- The first of these members that is named so has this value.
pub record FirstEventIs (text : List ℕ) (members : List Member) (value : List ℕ) : Type 0 where
  pub before : List Member
  pub event : Member
  pub after : List Member
  pub whole : members ≡ before ++ event ∷ after
  pub first : All (λ m. ¬ IsNamedEvent text m) before
  pub named : IsNamedEvent text event
  pub is : value ≡ slice_range text event.value.start event.value.end

-- the value of an object's event
abbrev pub HasEvent : List ℕ → List ℕ → Type 0
HasEvent text value = (members : List Member) × HasMembers text (whole_of text) members × FirstEventIs text members value

-- none of an object's members is named so
abbrev pub HasNoEvent : List ℕ → Type 0
HasNoEvent text = (members : List Member) × HasMembers text (whole_of text) members × All (λ m. ¬ IsNamedEvent text m) members

-- a blank value: the empty string or null
abbrev pub IsBlank : List ℕ → Type 0
IsBlank value = (value ≡ codes "\"\"") ⊎ (value ≡ codes "null")

-- an event: the object isn't long, and its value isn't blank
abbrev pub IsEventObject : List ℕ → Type 0
IsEventObject text = IsShort text × ((value : List ℕ) × HasEvent text value × ¬ IsBlank value)

-- an object that has no event, and one whose event is blank; neither is long
abbrev pub LacksEvent : List ℕ → Type 0
LacksEvent text = IsShort text × HasNoEvent text

abbrev pub HasBlankEvent : List ℕ → Type 0
HasBlankEvent text = IsShort text × ((value : List ℕ) × HasEvent text value × IsBlank value)

-- ---- a body

-- the bytes begin with these events, white space before each allowed, and the rest follows
abbrev pub BeginsEvents : List ℕ → List (List ℕ) → List ℕ → Type 0
BeginsEvents bytes [] rest = bytes ≡ rest
BeginsEvents bytes (text ∷ texts) rest = (more : List ℕ) × BeginsObject bytes text more × IsEventObject text × BeginsEvents more texts rest

-- the body is these events, and white space round them
abbrev pub AreEvents : List ℕ → List (List ℕ) → Type 0
AreEvents body texts = (rest : List ℕ) × BeginsEvents body texts rest × AreSpaces rest

-- neither white space alone nor an object of at most 127 levels
abbrev pub BeginsNoObject : List ℕ → Type 0
BeginsNoObject bytes = (¬ AreSpaces bytes) × ((text rest : List ℕ) → BeginsObject bytes text rest → ⊥)

-- what is wrong with an object that is looked at as the event of this number
abbrev pub IsRefused : List ℕ → ℕ → BodyFault → Type 0
IsRefused text number NoData = ⊥
IsRefused text number (Format event) = (event ≡ number) × IsLong text
IsRefused text number (NoEvent event) = (event ≡ number) × LacksEvent text
IsRefused text number (Blank event) = (event ≡ number) × HasBlankEvent text
IsRefused text number TooMany = ⊥
IsRefused text number NoMemory = ⊤

-- what is wrong where an object is looked at as the event of this number: only 10,000 are
abbrev pub RefusesNext : ℕ → List ℕ → BodyFault → Type 0
RefusesNext number bytes fault = (number < 10000) × ((text : List ℕ) × (rest : List ℕ) × BeginsObject bytes text rest × IsRefused text number fault)

-- what is wrong after so many events
abbrev pub IsFaultBehind : ℕ → List ℕ → BodyFault → Type 0
IsFaultBehind number rest NoData = (number ≡ 0) × AreSpaces rest
IsFaultBehind number rest (Format event) = ((event ≡ number) × BeginsNoObject rest) ⊎ RefusesNext number rest (Format event)
IsFaultBehind number rest (NoEvent event) = RefusesNext number rest (NoEvent event)
IsFaultBehind number rest (Blank event) = RefusesNext number rest (Blank event)
IsFaultBehind number rest TooMany = (number ≡ 10000) × ((text : List ℕ) × (more : List ℕ) × BeginsObject rest text more)
IsFaultBehind number rest NoMemory = ⊤

-- The fault is the first of the body: all objects before it are events, at most 10,000.
pub record IsFirstFault (body : List ℕ) (fault : BodyFault) : Type 0 where
  pub texts : List (List ℕ)
  pub rest : List ℕ
  pub begins : BeginsEvents body texts rest
  pub few : length texts ≤ 10000
  pub fault_is : IsFaultBehind (length texts) rest fault

-- what a body is cut into: its events, or its first fault
abbrev pub IsCut : List ℕ → Result (List (List ℕ)) BodyFault → Type 0
IsCut body (Ok texts) = AreEvents body texts × AreWithinLimits texts
IsCut body (Err fault) = IsFirstFault body fault

-- One body has one cut, unless memory is wanting.
abbrev pub OneCut : Type 0
OneCut = (body : List ℕ) (r s : Result (List (List ℕ)) BodyFault) → IsCut body r → IsCut body s → (r ≡ Err NoMemory) ⊎ ((s ≡ Err NoMemory) ⊎ (r ≡ s))
