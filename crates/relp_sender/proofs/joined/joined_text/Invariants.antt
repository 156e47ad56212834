use Rattle.std.proofs.Common.{◌≡◌, ◌<◌, ◌≤◌, length, take}
use Rattle.std.specs.Prelude.{◌⊎◌}
use Rattle.relp_sender.specs.Texts.{frames_text}
use Rattle.relp_sender.proofs.joined.joined_text.Given as goal

abbrev pub invariant-loop-count : goal.invariant-loop-count
invariant-loop-count l = record {
  text : l.out.items ≡ frames_text l.place (take l.count l.entries.items);
  bytes : 0 < l.count → 0 < length l.out.items;
  bound : (l.count ≤ 1) ⊎ (length l.out.items ≤ 65536);
}
