-- Texts of events, by the protocol that they are forwarded by.
use Rattle.std.specs.Prelude.{ℕ, List}
use Rattle.edge_io.specs.declared.proto.Proto.{Proto}
use Rattle.edge_io.specs.declared.proto.Proto.TheVariants.{Relp, Lumberjack, Hec}
use Rattle.event_form.specs.declared.event.Event.{Event}
use Rattle.event_map.specs.Maps.{IsText, IsJsonObject, IsHecObject}

-- the bytes are what a message of RELP, a payload of Lumberjack or a request of the collector has of the event
abbrev pub IsTextBy : Proto → Event → List ℕ → Type 0
IsTextBy Relp event text = IsText event text
IsTextBy Lumberjack event text = IsJsonObject event text
IsTextBy Hec event text = IsHecObject event text
