-- The head that a proxy puts before the first byte of a connection.
use Rattle.std.specs.Prelude.{◌≡◌, ◌≢◌, ℕ, Bool, true, false, List, [], ◌∷◌, ◌++◌, Option, Some, None, Result, Ok, Err, IsErr}
use Rattle.std.specs.List.{Contains}
use Rattle.std.specs.Io.KnownBytes.{Consumes, IsAtEnd}
use Rattle.std.specs.Net.Socket.{socket_ip, socket_port}
use Rattle.std.specs.declared.io.Error.{Error}
use Rattle.std.specs.declared.net.ip_addr.IpAddr.{IpAddr}
use Rattle.proxy_head.specs.declared.head.Head.{Head}
use Rattle.proxy_head.specs.declared.head.Reading.TheVariants.{Whole as WholeHead, More}
use Rattle.proxy_head.specs.declared.head.Source.{Source}
use Rattle.proxy_head.specs.Head.{IsBeginning, Reads}
use Rattle.edge_net.specs.Proxies.{canonical, named}
use Rattle.edge_net.specs.declared.heading.Due.{Due}
use Rattle.edge_net.specs.declared.heading.Due.TheVariants.{Nothing, Head as HeadIsDue, Refused, Ended}
use Rattle.edge_net.specs.declared.heading.Headed.{Headed}
use Rattle.edge_net.specs.declared.heading.Headed.TheVariants.{Whole, Empty, Not}
use Rattle.edge_net.specs.declared.heading.Unheaded.TheVariants.{Stranger, Cut, Wrong}
use Rattle.edge_net.specs.declared.proxies.Proxies.{Proxies}
use Rattle.edge_net.specs.declared.watch.Peer.{Peer}

-- what is due before the first byte of a connection from that address: nothing where no proxies are named, a head where it is one of
-- them, and else the connection is refused
abbrev pub IsDue : Proxies → IpAddr → Due → Type 0
IsDue proxies address Nothing = named proxies ≡ []
IsDue proxies address HeadIsDue = Contains (named proxies) (canonical address)
IsDue proxies address Refused = (named proxies ≢ []) × (Contains (named proxies) (canonical address) → ⊥)
IsDue proxies address Ended = ⊥

-- without their last byte the bytes were too few to tell
abbrev pub IsJustRead : List ℕ → Type 0
IsJustRead bytes = (before : List ℕ) × (byte : ℕ) × (bytes ≡ before ++ byte ∷ []) × IsBeginning before

-- What the bytes are that were read from a stream where a head is due, by what is left in it: a head and no byte more, none since it
-- ended, too few since it ended, or no head.
abbrev pub IsHeaded : List ℕ → Option (List ℕ) → Headed → Type 0
IsHeaded bytes left (Whole source) = (head : Head) × Reads bytes (Ok (WholeHead head)) × (head.source ≡ source) × IsJustRead bytes
IsHeaded bytes left Empty = (bytes ≡ []) × IsAtEnd left
IsHeaded bytes left (Not Stranger) = ⊥
IsHeaded bytes left (Not Cut) = (bytes ≢ []) × IsBeginning bytes × IsAtEnd left
IsHeaded bytes left (Not (Wrong fault)) = Reads bytes (Err fault) × IsJustRead bytes

-- the same of a stream that had some bytes and has others now
abbrev pub TakesHead : Option (List ℕ) → Option (List ℕ) → Headed → Type 0
TakesHead old new headed = (bytes : List ℕ) × Consumes old new bytes × IsHeaded bytes new headed

-- What is due after a read asked for what was due before, by whether the connection goes on: it goes on where nothing was due or a head
-- came, it has ended where no byte came, and else it is never read again.
abbrev pub IsPassed : Due → Due → Result Bool Error → Type 0
IsPassed Nothing new passed = (new ≡ Nothing) × (passed ≡ Ok true)
IsPassed HeadIsDue new (Ok true) = new ≡ Nothing
IsPassed HeadIsDue new (Ok false) = new ≡ HeadIsDue
IsPassed HeadIsDue new (Err error) = new ≡ Ended
IsPassed Refused new passed = (new ≡ Refused) × IsErr passed
IsPassed Ended new passed = (new ≡ Ended) × IsErr passed

-- what is due after this came, and whether the connection goes on
abbrev pub IsTaken : Headed → Due → Due → Result Bool Error → Type 0
IsTaken (Whole source) old new passed = (new ≡ Nothing) × (passed ≡ Ok true)
IsTaken Empty old new passed = (new ≡ HeadIsDue) × (passed ≡ Ok false)
IsTaken (Not why) old new (Ok goes_on) = ⊥
IsTaken (Not why) old new (Err error) = new ≡ old

-- whose connection it is after a head told this: that of the sender whom it tells, and else the same peer's
abbrev pub IsSentBy : Option Source → Option Peer → Option Peer → Type 0
IsSentBy None old new = new ≡ old
IsSentBy (Some source) None new = new ≡ None
IsSentBy (Some source) (Some old) None = ⊥
IsSentBy (Some source) (Some old) (Some new) = (socket_ip new.address ≡ source.ip) × (socket_port new.address ≡ source.port) × (new.conn ≡ old.conn)

-- the sender that a head tells, or none where none came or it tells none
abbrev pub source_of : Headed → Option Source
source_of (Whole source) = source
source_of Empty = None
source_of (Not why) = None
