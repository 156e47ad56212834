use Rattle.bridge_core.proofs.Alone as law
use Rattle.bridge_laws.proofs.alone.each_command_leaves_alone.Goals as goal

pub returns : goal.returns
returns g c = λ disk disk' input input' output output' net net' doors words note is. record {
  usage = law.usage_is_of_words words _ note is;
  no_command = law.no_command_is_told words _ note is;
  wrong_length = law.wrong_length_is_left words _ note is;
  disk_unused = law.load_uses_no_disk words _ note is;
  doors = λ never. (law.no_doors_are_bound words _ note is never, law.nothing_is_bound words _ note is never);
  unused = law.streams_are_left words _ note is;
  unread = law.input_is_left words _ note is;
  net_unused = law.net_is_left words _ note is;
  net_undialed = law.nothing_is_dialed words _ note is;
}
