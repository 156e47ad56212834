use Rattle.std.proofs.Common.{All, ◌≡◌, ◌*◌, ◌≤◌, length, take, vec_capacity}
use Rattle.spool_state.specs.Cells.{stretches_text}
use Rattle.disk_cell.specs.Content.{HasRoomInCell}
use Rattle.disk_cell.proofs.text.take_stretches.Given as goal

abbrev pub invariant-loop-i : goal.invariant-loop-i
invariant-loop-i l = record {
  text : stretches_text l.known.items ≡ take (16 * l.i) l.text;
  fits : All HasRoomInCell l.known.items;
  count : length l.known.items ≡ l.i;
  room : 240 ≤ vec_capacity l.known;
}
