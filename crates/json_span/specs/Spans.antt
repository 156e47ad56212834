-- What is answered for the first value after a place of some bytes.
use Rattle.std.specs.Prelude.{◌≡◌, ℕ, ◌+◌, ◌≤◌, ◌<◌, ◌⊎◌, List, ◌++◌, length, drop, slice_index, slice_range, Result, Ok, Err}
use Rattle.json_span.specs.Strings.{IsBegun}
use Rattle.json_span.specs.Json.{AreSpaces, Spaced, Json}
use Rattle.json_span.specs.declared.span.Span.{Span}
use Rattle.json_span.specs.declared.span.JsonFault.{JsonFault}
use Rattle.json_span.specs.declared.span.JsonFault.TheVariants.{Cut, NotJson, TooDeep}

-- the bytes from one place up to another are what P says
pub record Stretch (P : List ℕ → Type 0) (bytes : List ℕ) (start end : ℕ) : Type 0 where
  pub order : start ≤ end
  pub bound : end ≤ length bytes
  pub text : P (slice_range bytes start end)

-- the front, or the whole, of white space and a value of at most so many levels
abbrev pub Begins : ℕ → List ℕ → Type 0
Begins levels x = (more : List ℕ) × Spaced (Json levels) (x ++ more)

-- the span is the longest value, of any depth, after the white space at `at`; it has at most so many levels
pub record IsFirst (levels : ℕ) (bytes : List ℕ) (at : ℕ) (s : Span) : Type 0 where
  pub space : Stretch AreSpaces bytes at s.start
  pub value : Stretch (Json levels) bytes s.start s.end
  pub longest : (any end : ℕ) → Stretch (Json any) bytes s.start end → end ≤ s.end

-- so it is not empty, and lies between `at` and the bytes' end
pub record IsWithin (at : ℕ) (s : Span) (len : ℕ) : Type 0 where
  pub after : at ≤ s.start
  pub some : s.start < s.end
  pub bound : s.end ≤ len

-- no value, of any depth, stands after the white space at `at`
abbrev pub NoValue : List ℕ → ℕ → Type 0
NoValue bytes at = (any start end : ℕ) → Stretch AreSpaces bytes at start → Stretch (Json any) bytes start end → ⊥

-- the bytes from `at` on are the front of white space and a value of at most so many levels, and hold no value
pub record IsCut (levels : ℕ) (bytes : List ℕ) (at : ℕ) : Type 0 where
  pub begins : Begins levels (drop at bytes)
  pub none : NoValue bytes at

-- the byte at `fault` is the first after which no value of any depth is possible; before it one of at most so many levels is
pub record IsFault (levels : ℕ) (bytes : List ℕ) (at fault : ℕ) : Type 0 where
  pub order : at ≤ fault
  pub bound : fault < length bytes
  pub begins : Begins levels (slice_range bytes at fault)
  pub ends : (any : ℕ) → Begins any (slice_range bytes at (fault + 1)) → ⊥

-- where a fault is found: at the character that it leaves unfinished, or, with none such, at the faulty byte itself
abbrev pub IsFaultPlace : List ℕ → ℕ → ℕ → ℕ → Type 0
IsFaultPlace bytes at fault place =
    ((at ≤ place) × Stretch IsBegun bytes place fault)
    ⊎ ((place ≡ fault) × ((from : ℕ) → at ≤ from → Stretch IsBegun bytes from fault → ⊥))

-- no value is possible, and none was found before the fault
pub record IsNotJson (levels : ℕ) (bytes : List ℕ) (at place : ℕ) : Type 0 where
  pub fault : ℕ
  pub first : IsFault levels bytes at fault
  pub found : IsFaultPlace bytes at fault place
  pub none : NoValue bytes at

-- the bracket at `place` is the first byte after which only values of more than so many levels are possible
pub record IsTooDeep (levels : ℕ) (bytes : List ℕ) (at place : ℕ) : Type 0 where
  pub order : at ≤ place
  pub bound : place < length bytes
  pub bracket : (slice_index bytes place ≡ 91) ⊎ (slice_index bytes place ≡ 123)
  pub begins : Begins levels (slice_range bytes at place)
  pub ends : Begins levels (slice_range bytes at (place + 1)) → ⊥
  pub deeper : Begins (levels + 1) (slice_range bytes at (place + 1))
  pub none : (start end : ℕ) → Stretch AreSpaces bytes at start → Stretch (Json levels) bytes start end → ⊥

-- the answer is right, where values of at most so many levels are looked for
abbrev pub IsAnswer : ℕ → List ℕ → ℕ → Result Span JsonFault → Type 0
IsAnswer levels bytes at (Ok s) = IsFirst levels bytes at s
IsAnswer levels bytes at (Err Cut) = IsCut levels bytes at
IsAnswer levels bytes at (Err (NotJson place)) = IsNotJson levels bytes at place
IsAnswer levels bytes at (Err (TooDeep place)) = IsTooDeep levels bytes at place
