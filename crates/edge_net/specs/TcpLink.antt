-- A connection over TCP.
use Rattle.std.specs.Prelude.{◌≡◌, ℕ, List, Option}
use Rattle.std.specs.Option.{option_map}
use Rattle.std.specs.String.{string_bytes}
use Rattle.edge_net.specs.declared.link.TcpLink.{TcpLink}

-- the place at which it was dialed, or none
abbrev pub place_of : {R : Type 0} → TcpLink R → Option (List ℕ)
place_of link = option_map string_bytes link.place

-- how many reads have failed
abbrev pub read_errors_of : {R : Type 0} → TcpLink R → ℕ
read_errors_of link = link.read_errors

-- how many writes have failed
abbrev pub write_errors_of : {R : Type 0} → TcpLink R → ℕ
write_errors_of link = link.write_errors

-- no read and no write has failed yet
pub record IsUnfailed {R : Type 0} (link : TcpLink R) : Type 0 where
  pub reads : read_errors_of link ≡ 0
  pub writes : write_errors_of link ≡ 0

-- the same place, and no further read or write has failed
pub record IsUnharmed {R : Type 0} (old new : TcpLink R) : Type 0 where
  pub reads : read_errors_of new ≡ read_errors_of old
  pub writes : write_errors_of new ≡ write_errors_of old
  pub place : place_of new ≡ place_of old
