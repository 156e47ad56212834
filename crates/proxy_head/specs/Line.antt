-- A head of version 1: one line of text, and what it tells.
use Rattle.std.specs.Prelude.{◌≡◌, ◌≢◌, ℕ, ◌+◌, ◌<◌, ◌≤◌, ◌==◌, Bool, ◌⊎◌, List, length, slice_index, slice_range, Option, Some, None, codes}
use Rattle.std.specs.List.{before_first, after_first}
use Rattle.std.specs.declared.net.ip_addr.IpAddr.{IpAddr}
use Rattle.std.specs.declared.net.ip_addr.IpAddr.TheVariants as Ip
use Rattle.std.specs.Net.Addr.{HasPrefix}
use Rattle.std.specs.Net.Grammar.{IsNumber, IsIpv4Text, IsIpv6Text}
use Rattle.proxy_head.specs.declared.limits.TheConstants.{LINE, LAST_CR}
use Rattle.proxy_head.specs.declared.fault.HeadFault.{HeadFault}
use Rattle.proxy_head.specs.declared.fault.HeadWhy.{HeadWhy}
use Rattle.proxy_head.specs.declared.fault.HeadWhy.TheVariants as why
use Rattle.proxy_head.specs.declared.head.Source.{Source}
use Rattle.proxy_head.specs.declared.head.Family.{Family}
use Rattle.proxy_head.specs.declared.head.Family.TheVariants.{V4, V6}

-- CR and LF stand at this offset
pub record EndsAt (bytes : List ℕ) (at : ℕ) : Type 0 where
  pub inside : at + 1 < length bytes
  pub cr : slice_index bytes at ≡ 13
  pub lf : slice_index bytes (at + 1) ≡ 10

-- none at an offset where those of a line may stand
pub record NoEnd (bytes : List ℕ) : Type 0 where
  pub none : (at : ℕ) → at ≤ LAST_CR → EndsAt bytes at → ⊥

-- The bytes begin with `PROXY`, a space, and a text up to their first CR and LF, which stand at this offset and are among the first 107 bytes.
pub record HasLine (bytes : List ℕ) (end : ℕ) : Type 0 where
  pub starts : HasPrefix bytes LINE
  pub ends : EndsAt bytes end
  pub first : (at : ℕ) → EndsAt bytes at → end ≤ at
  pub short : end ≤ LAST_CR

-- the text of a line that ends there
abbrev pub text_of : List ℕ → ℕ → List ℕ
text_of bytes end = slice_range bytes 6 end

-- a space
abbrev pub is_space : ℕ → Bool
is_space c = c == 32

-- the word before the first space, or all where there is none
unfoldable pub first_word : List ℕ → List ℕ
first_word text = before_first is_space text

-- what stands after the first space, or nothing
unfoldable pub more_words : List ℕ → List ℕ
more_words text = after_first is_space text

-- the family's name, as the line's first word
abbrev pub name_of : Family → List ℕ
name_of V4 = codes "TCP4"
name_of V6 = codes "TCP6"

-- the text writes this address of the family
abbrev pub IsAddress : Family → List ℕ → IpAddr → Type 0
IsAddress V4 text (Ip.V4 ip) = IsIpv4Text text ip
IsAddress V4 text (Ip.V6 ip) = ⊥
IsAddress V6 text (Ip.V4 ip) = ⊥
IsAddress V6 text (Ip.V6 ip) = IsIpv6Text text ip

-- an address of the family
abbrev pub IsAddressWord : Family → List ℕ → Type 0
IsAddressWord family text = (ip : IpAddr) × IsAddress family text ip

-- decimal digits that write this number, which is at most 65535
pub record IsNumberUpTo (text : List ℕ) (n : ℕ) : Type 0 where
  pub number : IsNumber 10 text n
  pub fits : n ≤ 65535

-- the same without leading zeros
pub record IsPort (text : List ℕ) (port : ℕ) : Type 0 where
  pub number : IsNumberUpTo text port
  pub canonical : slice_index text 0 ≡ 48 → length text ≡ 1

-- a port
abbrev pub IsPortWord : List ℕ → Type 0
IsPortWord text = (port : ℕ) × IsPort text port

-- the words after the protocol: the source's address, the destination's, the source's port and the destination's, each after one space
abbrev pub destination_on : List ℕ → List ℕ
destination_on words = more_words words

-- from the third word on
abbrev pub ports_on : List ℕ → List ℕ
ports_on words = more_words (more_words words)

-- from the fourth word on: it ends the line
abbrev pub last_port : List ℕ → List ℕ
last_port words = more_words (more_words (more_words words))

-- two addresses of the family and two ports, of which the first of each is the source's
pub record TellsAddresses (family : Family) (words : List ℕ) (source : Source) : Type 0 where
  pub source_is : IsAddress family (first_word words) source.ip
  pub destination_is : IsAddressWord family (first_word (destination_on words))
  pub source_port_is : IsPort (first_word (ports_on words)) source.port
  pub destination_port_is : IsPortWord (last_port words)

-- A line tells the source, or that it isn't known.
abbrev pub LineTells : List ℕ → Option Source → Type 0
LineTells text None = first_word text ≡ codes "UNKNOWN"
LineTells text (Some source) = (family : Family) × (first_word text ≡ name_of family) × TellsAddresses family (more_words text) source

-- the fault at an offset
abbrev pub fault_of : ℕ → HeadWhy → HeadFault
fault_of at why = record { at = at; why = why }

-- A word is wrong, and the fault is this one; or it is right, and the fault is one after it.
abbrev pub AtOrAfter : Type 0 → HeadFault → HeadFault → Type 0 → Type 0
AtOrAfter IsRight own fault IsAfter = ((IsRight → ⊥) × (fault ≡ own)) ⊎ (IsRight × IsAfter)

-- the first of the words after the protocol that is not what is due, at its offset in the head
abbrev pub AddressFault : Family → List ℕ → HeadFault → Type 0
AddressFault family words fault =
    let source = first_word words in
    let destination = first_word (destination_on words) in
    let source_port = first_word (ports_on words) in
    AtOrAfter (IsAddressWord family source) (fault_of 11 why.Source) fault
    (AtOrAfter (IsAddressWord family destination) (fault_of (length source + 12) why.Destination) fault
    (AtOrAfter (IsPortWord source_port) (fault_of (length source + length destination + 13) why.SourcePort) fault
    ((IsPortWord (last_port words) → ⊥) × (fault ≡ fault_of (length source + length destination + length source_port + 14) why.DestinationPort))))

-- none of the protocols
pub record IsUnknownProtocol (word : List ℕ) : Type 0 where
  pub no_family : (family : Family) → word ≢ name_of family
  pub no_unknown : word ≢ codes "UNKNOWN"

-- what is wrong with a line's text
abbrev pub LineFault : List ℕ → HeadFault → Type 0
LineFault text fault =
    (IsUnknownProtocol (first_word text) × (fault ≡ fault_of 6 why.Protocol))
    ⊎ ((family : Family) × (first_word text ≡ name_of family) × AddressFault family (more_words text) fault)
