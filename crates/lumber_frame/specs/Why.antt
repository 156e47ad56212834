-- The reasons of a fault, as a connection and a sender tell them.
use Rattle.lumber_frame.specs.declared.fault.LumberWhy.{LumberWhy}
use Rattle.lumber_frame.specs.declared.fault.LumberWhy.TheVariants.{Version, Kind, Compressed, AckFromWriter, TooLong, TooMany}
use Rattle.event_form.specs.declared.talk.Why.{Why}
use Rattle.event_form.specs.declared.talk.Why.TheVariants as why

-- the reason of the same name
abbrev pub why_of : LumberWhy → Why
why_of Version = why.Version
why_of Kind = why.Kind
why_of Compressed = why.Compressed
why_of AckFromWriter = why.AckFromWriter
why_of TooLong = why.TooLong
why_of TooMany = why.TooMany
