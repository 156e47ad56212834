-- Raw bodies: their events are their lines.
use Rattle.std.specs.Prelude.{◌≡◌, ℕ, ◌<◌, ◌⊎◌, ⊤, List, [], ◌∷◌, ◌++◌, length, filter, nat_lt, Result, Ok, Err}
use Rattle.std.specs.List.{All}
use Rattle.std.specs.Str.Lines.{lines}
use Rattle.hec_body.specs.Limits.{IsShort, IsLong, AreWithinLimits}
use Rattle.body_faults.specs.declared.fault.BodyFault.{BodyFault}
use Rattle.body_faults.specs.declared.fault.BodyFault.TheVariants.{NoData, Format, NoEvent, Blank, TooMany, NoMemory}

-- The lines of a body, the empty ones left out. A line ends with LF or with the body; one CR before the LF
-- belongs to the line's end.
abbrev pub filled_lines : List ℕ → List (List ℕ)
filled_lines body = filter (λ line. nat_lt 0 (length line)) (lines body)

-- so many lines, none of them long, stand before one that is what P says
abbrev pub NextLineIs : (List ℕ → Type 0) → ℕ → List (List ℕ) → Type 0
NextLineIs P number texts = (before : List (List ℕ)) × (line : List ℕ) × (after : List (List ℕ)) × (texts ≡ before ++ line ∷ after) × (length before ≡ number) × All IsShort before × P line

-- the fault is the first of these lines
abbrev pub IsLineFault : List (List ℕ) → BodyFault → Type 0
IsLineFault texts NoData = texts ≡ []
IsLineFault texts (Format event) = (event < 10000) × NextLineIs IsLong event texts
IsLineFault texts (NoEvent event) = ⊥
IsLineFault texts (Blank event) = ⊥
IsLineFault texts TooMany = NextLineIs (λ _. ⊤) 10000 texts
IsLineFault texts NoMemory = ⊤

-- what a raw body is cut into: its lines, or its first fault
abbrev pub IsLineCut : List ℕ → Result (List (List ℕ)) BodyFault → Type 0
IsLineCut body (Ok texts) = (texts ≡ filled_lines body) × AreWithinLimits texts
IsLineCut body (Err fault) = IsLineFault (filled_lines body) fault

-- One raw body has one cut, unless memory is wanting.
abbrev pub OneLineCut : Type 0
OneLineCut = (body : List ℕ) (r s : Result (List (List ℕ)) BodyFault) → IsLineCut body r → IsLineCut body s → (r ≡ Err NoMemory) ⊎ ((s ≡ Err NoMemory) ⊎ (r ≡ s))
