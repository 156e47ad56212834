-- How far a walk over an object's members has come. No public contract names this.
use Rattle.std.specs.Prelude.{◌≡◌, ◌≢◌, ℕ, ◌<◌, ◌⊎◌, false, List, [], ◌∷◌, length, slice_index, Option, Some, None}
use Rattle.json_span.specs.Json.{is_space, AreSpaces, Spaced, Byte, Then, IsEmpty, Items, IsMember, Json}
use Rattle.json_span.specs.Machine.{Follows}
use Rattle.json_span.specs.Spans.{Stretch}
use Rattle.json_span.specs.Members.{Separator, IsMemberAt, AreFurther, IsSpelt}
use Rattle.json_span.specs.declared.span.Span.{Span}
use Rattle.json_span.specs.declared.object.Member.{Member}
use Rattle.json_span.specs.declared.named.Next.{Next}
use Rattle.json_span.specs.declared.named.Next.TheVariants.{Another, End}

-- the bytes end, or a byte that may stand after a value or a name does
abbrev pub IsFollowed : List ℕ → ℕ → Type 0
IsFollowed bytes end = end < length bytes → Follows (slice_index bytes end)

-- a member and all after it
abbrev pub MembersLeft : List ℕ → Type 0
MembersLeft x = Then (IsMember (Json 126)) (Items (IsMember (Json 126)) 125) x

-- what is left of an object, where a member or the closing brace is due
abbrev pub IsLeft : List ℕ → Type 0
IsLeft x = Byte 125 IsEmpty x ⊎ MembersLeft x

-- the same with the members that it has
abbrev pub AreAhead : List ℕ → ℕ → List Member → ℕ → Type 0
AreAhead bytes at [] end = Stretch (Byte 125 IsEmpty) bytes at end
AreAhead bytes at (m ∷ ms) end = (m.name.start ≡ at) × IsMemberAt bytes m × AreFurther bytes m.value.end ms end

-- what comes at a place inside an object's braces: a member, where no white space stands, or nothing more
abbrev pub ComesFirst : List ℕ → ℕ → Next → Type 0
ComesFirst bytes from (Another at) = Stretch AreSpaces bytes from at × (at < length bytes → is_space (slice_index bytes at) ≡ false) × (at < length bytes → slice_index bytes at ≢ 125)
ComesFirst bytes from (End end) = Stretch (Spaced (Byte 125 IsEmpty)) bytes from end

-- and after a member
abbrev pub ComesAfter : List ℕ → ℕ → Next → Type 0
ComesAfter bytes from (Another at) = Stretch (Separator 44) bytes from at × (at < length bytes → is_space (slice_index bytes at) ≡ false)
ComesAfter bytes from (End end) = Stretch (Spaced (Byte 125 IsEmpty)) bytes from end

-- the value of the first member that is spelt so, after one member more
abbrev pub Chooses : List ℕ → List ℕ → Option Span → Member → Option Span → Type 0
Chooses bytes name (Some value) m chosen = chosen ≡ Some value
Chooses bytes name None m (Some value) = IsSpelt bytes name m × (m.value ≡ value)
Chooses bytes name None m None = ¬ IsSpelt bytes name m
