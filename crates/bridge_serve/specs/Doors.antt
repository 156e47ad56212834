-- The doors of a server, and where it forwards to.
use Rattle.std.specs.Prelude.{◌≡◌, ℕ, ◌+◌, List, [], ◌∷◌, ◌++◌, length, map, All, slice_get, Option, None, Some}
use Rattle.foundation.specs.Faults.{Rose}
use Rattle.edge_io.specs.declared.proto.Proto.{Proto}
use Rattle.edge_io.specs.declared.proto.Proto.TheVariants.{Relp, Lumberjack, Hec}
use Rattle.edge_io.specs.Door.{DoorState, IsNewDoor}
use Rattle.edge_io.specs.Net.{Bound, NetState}
use Rattle.conn_serve.specs.declared.rules.Rules.{Rules}
use Rattle.serve_workers.specs.declared.crew.Post.{Post}
use Rattle.bridge_words.specs.declared.command.Relay.{Relay}
use Rattle.bridge_words.specs.declared.command.Server.{Server}
use Rattle.bridge_parts.specs.Receivers.{outward_of}
use Rattle.serve_forwarder.specs.declared.destination.Destination.{Destination}

-- the rules by which connections of that protocol are served: events of RELP that came together are stored together where the words say so
abbrev pub rules_of : Server → Proto → Rules
rules_of server proto = record { proto = proto; token = server.token; ack_token = server.ack_token; listed = server.listed; group = server.group }

-- the place at which the server serves that protocol, if its words name one
abbrev pub place_for : Server → Proto → Option (List ℕ)
place_for server Relp = server.relp
place_for server Lumberjack = server.lumberjack
place_for server Hec = server.hec

-- how many workers serve at a place, if there is one
abbrev pub workers_at : Server → Option (List ℕ) → ℕ
workers_at server None = 0
workers_at server (Some place) = server.workers

-- The number of the first worker that serves the protocol: the workers at the places that are bound before its own come first.
abbrev pub first_worker : Server → Proto → ℕ
first_worker server Relp = 0
first_worker server Lumberjack = workers_at server server.relp
first_worker server Hec = workers_at server server.relp + workers_at server server.lumberjack

-- What is bound at a place, if there is one: a door for each worker.
abbrev pub binds_at : ℕ → Option (List ℕ) → List Bound
binds_at workers None = []
binds_at workers (Some place) = record { place = place; doors = workers } ∷ []

-- What is bound for these words: RELP's doors, then Lumberjack's, then the collector's.
abbrev pub binds_of : Server → List Bound
binds_of server = binds_at server.workers server.relp ++ (binds_at server.workers server.lumberjack ++ binds_at server.workers server.hec)

-- What is told of binds, where that is told, has these more at its end.
abbrev pub TellsBound : List Bound → Option (List Bound) → Option (List Bound) → Type 0
TellsBound more None new = new ≡ None
TellsBound more (Some old) new = new ≡ Some (old ++ more)

-- the net as it was, but for what it tells of binds
abbrev pub with_bound : NetState → Option (List Bound) → NetState
with_bound net bound =
    record { bound = bound; hung = net.hung; net_faults = net.net_faults; read_faults = net.read_faults; write_faults = net.write_faults }

-- the doors that were bound so, each new
abbrev pub AreNewAt : List Bound → List DoorState → Type 0
AreNewAt [] doors = doors ≡ []
AreNewAt (bound ∷ more) doors =
    (first : List DoorState) × (rest : List DoorState) × (doors ≡ first ++ rest)
    × (length first ≡ bound.doors) × All (IsNewDoor bound.place) first × AreNewAt more rest

-- Of what is bound for these words a first part was, as is told, and the doors are new: no link came in at one.
pub record AreUnused (server : Server) (bound bound' : Option (List Bound)) (doors : List DoorState) : Type 0 where
  pub made : List Bound
  pub rest : List Bound
  pub parts : binds_of server ≡ made ++ rest
  pub told : TellsBound made bound bound'
  pub new : AreNewAt made doors

-- at a place as many doors as it has workers, each new; none where there is no place
abbrev pub AreAt : ℕ → Option (List ℕ) → List DoorState → Type 0
AreAt workers None doors = doors ≡ []
AreAt workers (Some place) doors = (length doors ≡ workers) × All (IsNewDoor place) doors

-- The doors that were bound, with the rules of each: those at the place of RELP, then those at Lumberjack's, then those at the
-- collector's.
pub record AreBound (server : Server) (doors : List DoorState) (rules : List Rules) : Type 0 where
  pub relp : List DoorState
  pub lumberjack : List DoorState
  pub hec : List DoorState
  pub relp_at : AreAt server.workers server.relp relp
  pub lumberjack_at : AreAt server.workers server.lumberjack lumberjack
  pub hec_at : AreAt server.workers server.hec hec
  pub doors_are : doors ≡ relp ++ (lumberjack ++ hec)
  pub rules_are : rules ≡ map (λ door. rules_of server Relp) relp
      ++ (map (λ door. rules_of server Lumberjack) lumberjack ++ map (λ door. rules_of server Hec) hec)

-- doors, with the rules of each
pub record Ruled : Type 0 where
  pub doors : List DoorState
  pub rules : List Rules

abbrev pub ruled_as : List DoorState → List Rules → Ruled
ruled_as doors rules = record { doors = doors; rules = rules }

-- those of posts, where a door tells this
abbrev pub ruled_by : {P L : Type 0} → (P → DoorState) → List (Post P L) → Ruled
ruled_by told posts = ruled_as (map (λ post. told post.door) posts) (map (λ post. post.rules) posts)

-- Doors at one place were added after others, with the rules of each.
pub record AddsDoors (server : Server) (proto : Proto) (place : Option (List ℕ)) (old new : Ruled) : Type 0 where
  pub made : List DoorState
  pub made_at : AreAt server.workers place made
  pub doors_are : new.doors ≡ old.doors ++ made
  pub rules_are : new.rules ≡ old.rules ++ map (λ door. rules_of server proto) made

-- the place that is dialed, and how a session speaks there
abbrev pub destination_at : Relay → Destination
destination_at relay = record { place = relay.place; outward = outward_of relay.receiver }

-- the same where the words may name no such place
abbrev pub destination_of : Option Relay → Option Destination
destination_of None = None
destination_of (Some relay) = Some (destination_at relay)

-- at one of the doors the count of its accepts that failed rose
abbrev pub SomeRose : List DoorState → List DoorState → Type 0
SomeRose doors doors' =
    (k : ℕ) × (old : DoorState) × (new : DoorState) × (slice_get doors k ≡ Some old) × (slice_get doors' k ≡ Some new)
    × Rose 1 old.accept_faults new.accept_faults
