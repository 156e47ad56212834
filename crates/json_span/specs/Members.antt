-- Where the members of an object stand: RFC 8259, section 4.
use Rattle.std.specs.Prelude.{◌≡◌, ℕ, List, [], ◌∷◌, ◌++◌, slice_range, Option, Some, None}
use Rattle.std.specs.List.{All}
use Rattle.json_span.specs.Strings.{IsString}
use Rattle.json_span.specs.Json.{AreSpaces, Spaced, Byte, Then, IsEmpty, Json, JsonObject}
use Rattle.json_span.specs.Spans.{Stretch}
use Rattle.json_span.specs.declared.span.Span.{Span}
use Rattle.json_span.specs.declared.object.Member.{Member}

-- the span is an object of at most 127 levels
abbrev pub HasObject : List ℕ → Span → Type 0
HasObject bytes object = Stretch (JsonObject 127) bytes object.start object.end

-- ws object ws
abbrev pub IsObjectText : List ℕ → Type 0
IsObjectText bytes = Spaced (Then (JsonObject 127) AreSpaces) bytes

-- a structural character with white space round it: name-separator = ws %x3A ws, value-separator = ws %x2C ws
abbrev pub Separator : ℕ → List ℕ → Type 0
Separator c x = Spaced (Byte c AreSpaces) x

-- member = string name-separator value
pub record IsMemberAt (bytes : List ℕ) (m : Member) : Type 0 where
  pub name : Stretch IsString bytes m.name.start m.name.end
  pub colon : Stretch (Separator 58) bytes m.name.end m.value.start
  pub value : Stretch (Json 126) bytes m.value.start m.value.end

-- *( value-separator member ) end-object, from a place after a member up to the object's end
abbrev pub AreFurther : List ℕ → ℕ → List Member → ℕ → Type 0
AreFurther bytes at [] end = Stretch (Spaced (Byte 125 IsEmpty)) bytes at end
AreFurther bytes at (m ∷ ms) end = Stretch (Separator 44) bytes at m.name.start × IsMemberAt bytes m × AreFurther bytes m.value.end ms end

-- object = begin-object [ member *( value-separator member ) ] end-object, with these members
abbrev pub HasMembers : List ℕ → Span → List Member → Type 0
HasMembers bytes object [] = Stretch (Byte 123 (Spaced (Byte 125 IsEmpty))) bytes object.start object.end
HasMembers bytes object (m ∷ ms) = Stretch (Byte 123 AreSpaces) bytes object.start m.name.start × IsMemberAt bytes m × AreFurther bytes m.value.end ms object.end

-- the member's name is spelt so, its quotes too: no escape in it is read
abbrev pub IsSpelt : List ℕ → List ℕ → Member → Type 0
IsSpelt bytes name m = slice_range bytes m.name.start m.name.end ≡ name

-- The first of these members that is spelt so has this value.
pub record IsFirstSpelt (bytes name : List ℕ) (members : List Member) (value : Span) : Type 0 where
  pub before : List Member
  pub member : Member
  pub after : List Member
  pub whole : members ≡ before ++ member ∷ after
  pub first : All (λ m. ¬ IsSpelt bytes name m) before
  pub spelt : IsSpelt bytes name member
  pub is : member.value ≡ value

-- the value of the first of these members that is spelt so, or there is no such member
abbrev pub FirstSpelt : List ℕ → List ℕ → List Member → Option Span → Type 0
FirstSpelt bytes name members (Some value) = IsFirstSpelt bytes name members value
FirstSpelt bytes name members None = All (λ m. ¬ IsSpelt bytes name m) members

-- the same of the object's members
abbrev pub HasNamed : List ℕ → Span → List ℕ → Option Span → Type 0
HasNamed bytes object name value = (members : List Member) × HasMembers bytes object members × FirstSpelt bytes name members value

-- after the white space at a place the span is an object of at most 127 levels
abbrev pub IsObjectAt : List ℕ → ℕ → Span → Type 0
IsObjectAt bytes at object = Stretch AreSpaces bytes at object.start × HasObject bytes object
