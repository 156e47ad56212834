use Rattle.std.proofs.Common.{◌≡◌, ◌-◌, ◌*◌, ◌≤◌, length, take}
use Rattle.conn_serve.specs.Runs.{answers_of}
use Rattle.conn_serve.proofs.relp.run.answers_len.Given as goal

abbrev pub invariant-loop-at : goal.invariant-loop-at
invariant-loop-at l = record {
  within : l.at ≤ length l.entries;
  counted : l.len ≡ length (answers_of (take l.at l.entries));
  few : l.len ≤ 64 * l.at;
}

abbrev pub decreases-loop-at : goal.decreases-loop-at
decreases-loop-at l = length l.entries - l.at
