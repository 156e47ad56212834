-- A net over TCP.
use Rattle.std.specs.Prelude.{None}
use Rattle.edge_io.specs.Net.{NetState}
use Rattle.edge_net.specs.declared.net.TcpNet.{TcpNet}

-- what it tells: its counts of faults
abbrev pub state_of : {R : Type 0} → TcpNet R → NetState
state_of net = record {
  bound = None;
  hung = None;
  net_faults = net.errors;
  read_faults = net.read_errors;
  write_faults = net.write_errors;
}
