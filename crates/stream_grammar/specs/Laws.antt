-- What holds of a format whose bytes alone decide what is read.
use Rattle.std.specs.Prelude.{◌≡◌, ℕ, List, Option}
use Rattle.stream_grammar.specs.Reading.{Format, Holding, ReadsTo}

-- The bytes decide the frames, the offset, what is held and the fault.
abbrev pub OneReading : {F E H : Type 0} → Format F E → Holding H → Type 0
OneReading {F} {E} {H} p o =
    (fed : List ℕ) (fs gs : List F) (m n : ℕ) (h k : H) (d e : Option E) → ReadsTo p o fed fs m h d → ReadsTo p o fed gs n k e
    → (fs ≡ gs) × (m ≡ n) × (h ≡ k) × (d ≡ e)

-- All bytes have a reading: they are frames and a rest, or have a fault.
abbrev pub SomeReading : {F E H : Type 0} → Format F E → Holding H → Type 0
SomeReading {F} {E} {H} p o = (fed : List ℕ) → (frames : List F) × (at : ℕ) × (held : H) × (fault : Option E) × ReadsTo p o fed frames at held fault
