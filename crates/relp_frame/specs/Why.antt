-- The reasons of a fault, as a connection and a sender tell them.
use Rattle.relp_frame.specs.declared.fault.RelpWhy.{RelpWhy}
use Rattle.relp_frame.specs.declared.fault.RelpWhy.TheVariants.{Digits, Space, Command, TooLong, Trailer}
use Rattle.event_form.specs.declared.talk.Why.{Why}
use Rattle.event_form.specs.declared.talk.Why.TheVariants as why

-- the reason of the same name
abbrev pub why_of : RelpWhy → Why
why_of Digits = why.Digits
why_of Space = why.Space
why_of Command = why.Command
why_of TooLong = why.TooLong
why_of Trailer = why.Trailer
