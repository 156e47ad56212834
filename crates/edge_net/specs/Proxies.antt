-- The proxies through which senders come.
use Rattle.std.specs.Prelude.{ℕ, List, [], ◌∷◌, take, Bool, ◌==◌, if◌then◌else◌}
use Rattle.std.specs.List.{starts_with}
use Rattle.std.specs.Net.Addr.{ipv6_segments, low_octets}
use Rattle.std.specs.declared.net.ip_addr.IpAddr.{IpAddr}
use Rattle.std.specs.declared.net.ip_addr.IpAddr.TheVariants.{V4, V6}
use Rattle.edge_net.specs.declared.proxies.Proxies.{Proxies}

-- an address of IPv6 that writes one of IPv4, as ::ffff:a.b.c.d
abbrev pub is_mapped : List ℕ → Bool
is_mapped segments = starts_with (λ x y. x == y) segments (0 ∷ 0 ∷ 0 ∷ 0 ∷ 0 ∷ 0xffff ∷ [])

-- an address in its one form: the one of IPv4 where it writes that in IPv6, and else itself
abbrev pub canonical : IpAddr → IpAddr
canonical (V4 ip) = V4 ip
canonical (V6 ip) = if is_mapped (ipv6_segments ip) then V4 (record { octets = low_octets ip }) else V6 ip

-- the addresses that are named, each in its one form, in the order in which they were
abbrev pub named : Proxies → List IpAddr
named proxies = take proxies.count proxies.addresses
