use Rattle.std.proofs.Common.{◌≡◌, drop}
use Rattle.edge_net.specs.TokenPlaces.{line_of}
use Rattle.edge_net.proofs.token_places.line_of.Given as goal

-- the line is that of the first place that wasn't looked at
abbrev pub invariant-loop-place : goal.invariant-loop-place
invariant-loop-place l = line_of l.guid l.places ≡ line_of l.guid (drop l.place-index l.places)
