-- The settings of a session with the receiver that the words name.
use Rattle.std.specs.Prelude.{ℕ}
use Rattle.edge_io.specs.declared.proto.Proto.{Proto}
use Rattle.edge_io.specs.declared.proto.Proto.TheVariants as protocol
use Rattle.bridge_words.specs.declared.command.Receiver.{Receiver}
use Rattle.bridge_words.specs.declared.command.Receiver.TheVariants.{Relp, Lumberjack, Hec}
use Rattle.forward_core.specs.declared.outward.Outward.{Outward}

-- by a protocol that has no token and no channel, and asks for nothing again: the numbers that stand there are not used
abbrev pub plain : Proto → Outward
plain proto = record { proto = proto; token = 0; channel = 0; polls = 1 }

-- with the collector, by this token and on this channel, which is asked so often at most
abbrev pub collector : ℕ → ℕ → ℕ → Outward
collector token channel polls = record { proto = protocol.Hec; token = token; channel = channel; polls = polls }

-- By its protocol; to the collector with the token and the channel that the words name, and asking as often as they say.
abbrev pub outward_of : Receiver → Outward
outward_of Relp = plain protocol.Relp
outward_of Lumberjack = plain protocol.Lumberjack
outward_of (Hec token channel polls) = collector token channel polls
