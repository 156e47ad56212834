-- Kinds of endings of a connection.
use Rattle.event_form.specs.declared.talk.Talk.{Talk}
use Rattle.event_form.specs.declared.talk.Talk.TheVariants.{Ended, Truncated, Fault, ReadFault, TooMuch}

-- an ending that comes of what is to be done
abbrev pub IsAtMove : Talk → Type 0
IsAtMove Ended = ⊥
IsAtMove (Truncated at) = ⊥
IsAtMove (Fault at why) = ⊥
IsAtMove ReadFault = ⊥
IsAtMove (TooMuch at) = ⊥
IsAtMove talk = Unit {0}

-- an ending that comes of a fault of the bytes
abbrev pub IsByFault : Talk → Type 0
IsByFault (Fault at why) = Unit {0}
IsByFault talk = ⊥

-- an ending that comes of the end of the input
abbrev pub IsAtEndOfInput : Talk → Type 0
IsAtEndOfInput Ended = Unit {0}
IsAtEndOfInput (Truncated at) = Unit {0}
IsAtEndOfInput talk = ⊥
