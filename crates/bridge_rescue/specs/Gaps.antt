-- Numbers between slots that no slot has.
use Rattle.std.specs.Prelude.{ℕ, ◌+◌, max, if◌then◌else◌, nat_lt, List, [], ◌∷◌, ◌++◌, map}
use Rattle.spool_state.specs.SpoolState.{OpenSlot}
use Rattle.spool_state.specs.Order.{count_of}
use Rattle.bridge_rescue.specs.declared.found.Found.{Found}
use Rattle.bridge_rescue.specs.declared.gaps.Span.{Span}

abbrev pub span : ℕ → ℕ → Span
span from to = record { from = from; to = to }

-- the numbers of the entries that were found of each slot, and the same by what memory has of them
abbrev pub spans_in : List OpenSlot → List Span
spans_in slots = map (λ slot. span slot.segment.first (slot.segment.first + count_of slot)) slots

abbrev pub spans_of : List Found → List Span
spans_of founds = map (λ found. span found.slot.first (found.slot.first + found.slot.count)) founds

-- the numbers from one on up to another, where there are any
abbrev pub gap_between : ℕ → ℕ → List Span
gap_between from to = if nat_lt from to then span from to ∷ [] else []

-- Of spans in order of their first numbers, which come after numbers below an end: the numbers from there on that come before each of them,
-- and that neither those nor an earlier span has.
abbrev pub gaps_from : ℕ → List Span → List Span
gaps_from end [] = []
gaps_from end (one ∷ more) = gap_between end one.from ++ gaps_from (max end one.to) more

abbrev pub first_from : List Span → ℕ
first_from [] = 0
first_from (one ∷ more) = one.from

-- the numbers between the first one of these spans, in order of their first numbers, and the last one that none of them has
abbrev pub gaps_in : List Span → List Span
gaps_in spans = gaps_from (first_from spans) spans
