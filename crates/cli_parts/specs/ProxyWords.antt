-- The words that name proxies.
use Rattle.std.specs.Prelude.{◌≡◌, ◌⊎◌, ◌==◌, ◌<◌, ◌≤◌, ⊤, ℕ, List, [], ◌∷◌, ◌++◌, length, map}
use Rattle.std.specs.List.{slice_split}
use Rattle.std.specs.Net.Grammar.{IsIpText}
use Rattle.std.specs.declared.net.ip_addr.IpAddr.{IpAddr}
use Rattle.edge_net.specs.declared.proxies.Proxies.{Proxies}
use Rattle.edge_net.specs.Proxies.{canonical, named}

-- the texts between the commas of a word; of one without a comma, the word
abbrev pub between_commas : List ℕ → List (List ℕ)
between_commas word = slice_split (λ b. b == 44) word

-- each text writes the address in its place, of IPv4 or IPv6
abbrev pub WriteAddresses : List (List ℕ) → List IpAddr → Type 0
WriteAddresses [] [] = ⊤
WriteAddresses (text ∷ texts) (address ∷ addresses) = IsIpText text address × WriteAddresses texts addresses
WriteAddresses texts addresses = ⊥

-- the word writes these addresses with commas between them, of which there are eight at most
pub record AreAddresses (word : List ℕ) (addresses : List IpAddr) : Type 0 where
  pub written : WriteAddresses (between_commas word) addresses
  pub few : length addresses ≤ 8

-- the word writes the addresses of these proxies, in their order
pub record AreProxies (word : List ℕ) (proxies : Proxies) : Type 0 where
  pub addresses : List IpAddr
  pub are : AreAddresses word addresses
  pub named_are : named proxies ≡ map canonical addresses

-- it writes those of none
abbrev pub AreNoProxies : List ℕ → Type 0
AreNoProxies word = (addresses : List IpAddr) → AreAddresses word addresses → ⊥

-- the word writes no address
abbrev pub IsNoAddress : List ℕ → Type 0
IsNoAddress word = (address : IpAddr) → IsIpText word address → ⊥

-- after these proxies the one whose address the word writes is named too
pub record NamesNext (old : Proxies) (word : List ℕ) (new : Proxies) : Type 0 where
  pub address : IpAddr
  pub written : IsIpText word address
  pub room : length (named old) < 8
  pub named_are : named new ≡ named old ++ canonical address ∷ []

-- it can't be: the word writes no address, or eight are named
abbrev pub NamesNoNext : Proxies → List ℕ → Type 0
NamesNoNext proxies word = IsNoAddress word ⊎ (8 ≤ length (named proxies))
