-- A head of version 2: a signature, two bytes that say what follows, its length, and that many bytes.
use Rattle.std.specs.Prelude.{◌≡◌, ℕ, ◌+◌, ◌*◌, ◌≤◌, ◌==◌, ◌||◌, if◌then◌else◌, List, [], ◌∷◌, length, slice_index, Option, Some, None}
use Rattle.std.specs.Net.Addr.{HasPrefix, IsV4And, IsV6And, ipv4_octets, ipv6_segments}
use Rattle.proxy_head.specs.declared.limits.TheConstants.{SIGNATURE, MOST_BLOCK}
use Rattle.proxy_head.specs.declared.head.Source.{Source}
use Rattle.proxy_head.specs.declared.head.Kind.{Kind}
use Rattle.proxy_head.specs.declared.head.Kind.TheVariants.{Ipv4, Ipv6, Skipped}

-- which addresses a block has that a proxy sends for another node, by its family and protocol: TCP over IPv4 or IPv6, or one that is
-- skipped, as none, UDP or sockets of a file system; others are refused
unfoldable pub family_kind : ℕ → Option Kind
family_kind family =
    if family == 0x11 then Some Ipv4 else (if family == 0x21 then Some Ipv6 else
    (if (family == 0x00) || ((family == 0x12) || ((family == 0x22) || ((family == 0x31) || (family == 0x32)))) then Some Skipped else None))

-- the same of any block: version 2 with LOCAL, whose family is ignored, or version 2 with PROXY
unfoldable pub kind_of : ℕ → ℕ → Option Kind
kind_of command family = if command == 0x20 then Some Skipped else (if command == 0x21 then family_kind family else None)

-- how many bytes the addresses take
abbrev pub least_of : Kind → ℕ
least_of Ipv4 = 12
least_of Ipv6 = 36
least_of Skipped = 0

-- two bytes at an offset as a number in network order
abbrev pub number_at : List ℕ → ℕ → ℕ
number_at bytes at = slice_index bytes at * 256 + slice_index bytes (at + 1)

-- The bytes begin with a signature, a byte for version and command, one for family and protocol, two for the length, and that many bytes.
pub record HasBlock (bytes : List ℕ) (kind : Kind) (len : ℕ) : Type 0 where
  pub starts : HasPrefix bytes SIGNATURE
  pub kind_is : kind_of (slice_index bytes 12) (slice_index bytes 13) ≡ Some kind
  pub room : least_of kind ≤ number_at bytes 14
  pub few : number_at bytes 14 ≤ MOST_BLOCK
  pub len_is : len ≡ number_at bytes 14 + 16
  pub inside : len ≤ length bytes

-- the source of a block of IPv4: four bytes of its address, four of the destination's, and its port
pub record TellsIpv4 (bytes : List ℕ) (source : Source) : Type 0 where
  pub ip : IsV4And source.ip (λ ip. ipv4_octets ip ≡ slice_index bytes 16 ∷ slice_index bytes 17 ∷ slice_index bytes 18 ∷ slice_index bytes 19 ∷ [])
  pub port : source.port ≡ number_at bytes 24

-- the source of a block of IPv6: eight numbers of its address, eight of the destination's, and its port
pub record TellsIpv6 (bytes : List ℕ) (source : Source) : Type 0 where
  pub ip : IsV6And source.ip (λ ip. ipv6_segments ip ≡ number_at bytes 16 ∷ number_at bytes 18 ∷ number_at bytes 20 ∷ number_at bytes 22 ∷ number_at bytes 24 ∷ number_at bytes 26 ∷ number_at bytes 28 ∷ number_at bytes 30 ∷ [])
  pub port : source.port ≡ number_at bytes 48

-- what a block tells of its source
abbrev pub BlockTells : Kind → List ℕ → Option Source → Type 0
BlockTells Ipv4 bytes None = ⊥
BlockTells Ipv4 bytes (Some source) = TellsIpv4 bytes source
BlockTells Ipv6 bytes None = ⊥
BlockTells Ipv6 bytes (Some source) = TellsIpv6 bytes source
BlockTells Skipped bytes source = source ≡ None
