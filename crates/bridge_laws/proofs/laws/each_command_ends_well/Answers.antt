use Rattle.bridge_laws.proofs.Complete.{format_ends_well, list_ends_well, load_ends_well}
use Rattle.bridge_laws.proofs.CompleteDrain.{drain_ends_well, drain_there_ends_well}
use Rattle.bridge_laws.proofs.CompleteReplay.{replay_ends_well}
use Rattle.bridge_laws.proofs.laws.each_command_ends_well.Goals as goal

pub returns : goal.returns
returns g c = λ disk disk' input input' output output' net net' doors. record {
  format = format_ends_well _;
  list = list_ends_well _;
  load = load_ends_well _;
  replay = replay_ends_well c.runs_of_one.ensures _;
  drain = drain_ends_well _;
  drain_there = drain_there_ends_well _;
}
