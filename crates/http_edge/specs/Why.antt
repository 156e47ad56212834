-- The reasons of a fault, as a connection and a sender tell them.
use Rattle.http_edge.specs.declared.fault.HttpWhy.{HttpWhy}
use Rattle.http_edge.specs.declared.fault.HttpWhy.TheVariants.{BadHead, BadLength, TooLong, BadChunk}
use Rattle.event_form.specs.declared.talk.Why.{Why}
use Rattle.event_form.specs.declared.talk.Why.TheVariants as why

-- the reason of the same name
abbrev pub why_of : HttpWhy → Why
why_of BadHead = why.BadHead
why_of BadLength = why.BadLength
why_of TooLong = why.TooLong
why_of BadChunk = why.BadChunk
