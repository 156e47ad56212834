use Rattle.std.proofs.Common.{◌≡◌, ◌+◌, ◌≤◌, ◌++◌, length}
use Rattle.std.specs.List.{All}
use Rattle.hec_body.specs.Limits.{IsShort}
use Rattle.hec_body.specs.Lines.{filled_lines}
use Rattle.hec_body.proofs.lines.raw_lines.Given as goal

abbrev pub invariant-loop-rest : goal.invariant-loop-rest
invariant-loop-rest l = record {
  lines : filled_lines l.body ≡ l.texts.items ++ filled_lines l.rest;
  few : length l.texts.items ≤ 10000;
  short : All IsShort l.texts.items;
  bounded : length l.texts.items + length l.rest ≤ length l.body;
}

abbrev pub decreases-loop-rest : goal.decreases-loop-rest
decreases-loop-rest l = length l.rest
