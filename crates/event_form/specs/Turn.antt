-- What a turn of a sender says.
use Rattle.std.specs.Prelude.{ℕ, List, []}
use Rattle.event_form.specs.declared.turn.Turn.{Turn}
use Rattle.event_form.specs.declared.turn.Turn.TheVariants.{Write, Confirmed, Also, Pause}

-- the bytes that it writes
abbrev pub text_of : Turn → List ℕ
text_of (Write text) = text
text_of turn = []

-- all that is acknowledged was told before it: it tells of no acknowledgment itself
abbrev pub HasTold : Turn → Type 0
HasTold (Confirmed upto) = ⊥
HasTold (Also from to) = ⊥
HasTold turn = Unit {0}

-- the text is whole, as far as it may be written: it writes nothing, tells nothing, and isn't before a repeated query
abbrev pub IsResting : Turn → Type 0
IsResting (Write text) = ⊥
IsResting (Confirmed upto) = ⊥
IsResting (Also from to) = ⊥
IsResting Pause = ⊥
IsResting turn = Unit {0}
