-- How a connection ended, as far as a line about it, or a count, tells one ending from another.
use Rattle.std.specs.Prelude.{Bool, true, false}
use Rattle.event_form.specs.declared.talk.Talk.{Talk}
use Rattle.event_form.specs.declared.talk.Talk.TheVariants.{Ended, Closed, Fault, Truncated, Full, TooLarge, Busy, Spent, NoMore, TooMuch, ReadFault, WriteFault, NotSpool}

-- FILE had no room for an event
abbrev pub is_full : Talk → Bool
is_full (Full need room) = true
is_full talk = false

-- it says why the request was refused that came last
abbrev pub explains : Talk → Bool
explains Ended = false
explains Closed = false
explains (Truncated at) = false
explains ReadFault = false
explains WriteFault = false
explains talk = true

-- the same without its offset and its numbers
abbrev pub kind_of : Talk → Talk
kind_of (Fault at why) = Fault 0 why
kind_of (Truncated at) = Truncated 0
kind_of (Full need room) = Full 0 0
kind_of (TooLarge need most) = TooLarge 0 0
kind_of (Busy held) = Busy 0
kind_of (Spent end) = Spent 0
kind_of (NoMore run) = NoMore 0
kind_of (TooMuch at) = TooMuch 0
kind_of (NotSpool at) = NotSpool 0
kind_of talk = talk
