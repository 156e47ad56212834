use Rattle.std.proofs.Common.{◌+◌, ◌≤◌, length}
use Rattle.std.specs.List.{All}
use Rattle.hec_body.specs.Limits.{IsShort}
use Rattle.hec_body.specs.Events.{BeginsEvents}
use Rattle.hec_body.proofs.events.event_pieces.Given as goal

abbrev pub invariant-loop-object : goal.invariant-loop-object
invariant-loop-object l = record {
  begins : BeginsEvents l.body l.pieces.items l.rest;
  few : length l.pieces.items ≤ 10000;
  short : All IsShort l.pieces.items;
  bounded : length l.pieces.items + length l.rest ≤ length l.body;
}

abbrev pub decreases-loop-object : goal.decreases-loop-object
decreases-loop-object l = length l.rest
