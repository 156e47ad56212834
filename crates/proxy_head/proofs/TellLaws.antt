-- A line or a block tells one thing.
use Rattle.std.proofs.Common.{◌≡◌, ℕ, ◌<◌, ◌≤◌, ◌∙◌, ◌⊎◌, List, [], ◌∷◌, ◌++◌, Option, Some, None, length, get_or, inl, inr, refl, sym, ap, subst, arith}
use Rattle.std.proofs.lemmas.List.{get_or_append_left}
use Rattle.std.specs.Prelude.{codes}
use Rattle.std.specs.declared.net.ip_addr.IpAddr.{IpAddr}
use Rattle.std.specs.declared.net.ip_addr.IpAddr.TheVariants as Ip
use Rattle.std.specs.Net.Addr.{IsV4And, IsV6And, ipv4_octets, ipv6_segments}
use Rattle.std.proofs.NetLemmas.Theorems.{IsIpv4Text_unique, IsIpv6Text_unique}
use Rattle.proxy_head.specs.declared.fault.HeadFault.{HeadFault}
use Rattle.proxy_head.specs.declared.head.Source.{Source}
use Rattle.proxy_head.specs.declared.head.Family.{Family}
use Rattle.proxy_head.specs.declared.head.Family.TheVariants.{V4, V6}
use Rattle.proxy_head.specs.declared.head.Kind.{Kind}
use Rattle.proxy_head.specs.declared.head.Kind.TheVariants.{Ipv4, Ipv6, Skipped}
use Rattle.proxy_head.specs.Line.{first_word, more_words, name_of, IsAddress, IsPort, TellsAddresses, LineTells, AddressFault, LineFault}
use Rattle.proxy_head.specs.Block.{HasBlock, BlockTells, TellsIpv4, TellsIpv6, number_at}
use Rattle.proxy_head.proofs.Cuts.{number_cut}

-- an address and a port
source_one : (one other : Source) → one.ip ≡ other.ip → one.port ≡ other.port → one ≡ other
source_one one other e p = λ i. record { ip = e i; port = p i }

address_one : (family : Family) (text : List ℕ) (one other : IpAddr) → IsAddress family text one → IsAddress family text other → one ≡ other
address_one V4 text (Ip.V4 a) (Ip.V4 b) h k = ap Ip.V4 (IsIpv4Text_unique text a b h k)
address_one V4 text (Ip.V4 a) (Ip.V6 b) h k = absurd k
address_one V4 text (Ip.V6 a) other h k = absurd h
address_one V6 text (Ip.V6 a) (Ip.V6 b) h k = ap Ip.V6 (IsIpv6Text_unique text a b h k)
address_one V6 text (Ip.V6 a) (Ip.V4 b) h k = absurd k
address_one V6 text (Ip.V4 a) other h k = absurd h

port_one : (text : List ℕ) (one other : ℕ) → IsPort text one → IsPort text other → one ≡ other
port_one text one other h k = sym h.number.number.1 ∙ k.number.number.1

family_one : (one other : Family) → name_of one ≡ name_of other → one ≡ other
family_one V4 V4 e = refl
family_one V4 V6 e = let k : 52 ≡ 54 = ap (λ (xs : List ℕ). get_or xs 3 0) e in absurd (omega (arith, k))
family_one V6 V4 e = let k : 54 ≡ 52 = ap (λ (xs : List ℕ). get_or xs 3 0) e in absurd (omega (arith, k))
family_one V6 V6 e = refl

no_family : (family : Family) (word : List ℕ) → word ≡ codes "UNKNOWN" → word ≡ name_of family → ⊥
no_family V4 word h k = let e : 85 ≡ 84 = ap (λ (xs : List ℕ). get_or xs 0 0) (sym h ∙ k) in omega (arith, e)
no_family V6 word h k = let e : 85 ≡ 84 = ap (λ (xs : List ℕ). get_or xs 0 0) (sym h ∙ k) in omega (arith, e)

addresses_one : (family : Family) (words : List ℕ) (one other : Source) → TellsAddresses family words one → TellsAddresses family words other → one ≡ other
addresses_one family words one other h k =
    source_one one other (address_one family (first_word words) one.ip other.ip h.source_is k.source_is) (port_one _ one.port other.port h.source_port_is k.source_port_is)

pub tells_one : (text : List ℕ) (one other : Option Source) → LineTells text one → LineTells text other → one ≡ other
tells_one text None None h k = refl
tells_one text None (Some b) h k = absurd (no_family k.0 (first_word text) h k.1)
tells_one text (Some a) None h k = absurd (no_family h.0 (first_word text) k h.1)
tells_one text (Some a) (Some b) h k =
    let same : k.0 ≡ h.0 = family_one k.0 h.0 (sym k.1 ∙ h.1) in
    let P : Family → Type 0 = λ f. TellsAddresses f (more_words text) b in
    ap Some (addresses_one h.0 (more_words text) a b h.2 (subst P same k.2))

-- one fault of a word or of one after it
after_one : {Is L M : Type 0} {own : HeadFault} (one other : HeadFault) → ((Is → ⊥) × (one ≡ own)) ⊎ (Is × L) → ((Is → ⊥) × (other ≡ own)) ⊎ (Is × M) → (L → M → one ≡ other) → one ≡ other
after_one one other (inl h) (inl k) on = h.1 ∙ sym k.1
after_one one other (inl h) (inr k) on = absurd (h.0 k.0)
after_one one other (inr h) (inl k) on = absurd (k.0 h.0)
after_one one other (inr h) (inr k) on = on h.1 k.1

address_fault_one : (family : Family) (words : List ℕ) (one other : HeadFault) → AddressFault family words one → AddressFault family words other → one ≡ other
address_fault_one family words one other h k =
    after_one one other h k (λ h1 k1. after_one one other h1 k1 (λ h2 k2. after_one one other h2 k2 (λ h3 k3. h3.1 ∙ sym k3.1)))

pub line_fault_one : (text : List ℕ) (one other : HeadFault) → LineFault text one → LineFault text other → one ≡ other
line_fault_one text one other (inl h) (inl k) = h.1 ∙ sym k.1
line_fault_one text one other (inl h) (inr k) = absurd (h.0.no_family k.0 k.1)
line_fault_one text one other (inr h) (inl k) = absurd (k.0.no_family h.0 h.1)
line_fault_one text one other (inr h) (inr k) =
    let same : k.0 ≡ h.0 = family_one k.0 h.0 (sym k.1 ∙ h.1) in
    let P : Family → Type 0 = λ f. AddressFault f (more_words text) other in
    address_fault_one h.0 (more_words text) one other h.2 (subst P same k.2)

addresses_no_fault : (family : Family) (words : List ℕ) (source : Source) (fault : HeadFault) → TellsAddresses family words source → AddressFault family words fault → ⊥
addresses_no_fault family words source fault h k = elim k [
  | inl a ↦ a.0 (source.ip, h.source_is)
  | inr a ↦ elim a.1 [
    | inl b ↦ b.0 h.destination_is
    | inr b ↦ elim b.1 [ inl c ↦ c.0 (source.port, h.source_port_is) | inr c ↦ c.1.0 h.destination_port_is ]
  ]
]

pub tells_no_fault : (text : List ℕ) (source : Option Source) (fault : HeadFault) → LineTells text source → LineFault text fault → ⊥
tells_no_fault text None fault h (inl k) = k.0.no_unknown h
tells_no_fault text None fault h (inr k) = no_family k.0 (first_word text) h k.1
tells_no_fault text (Some a) fault h (inl k) = k.0.no_family h.0 h.1
tells_no_fault text (Some a) fault h (inr k) =
    let same : k.0 ≡ h.0 = family_one k.0 h.0 (sym k.1 ∙ h.1) in
    let P : Family → Type 0 = λ f. AddressFault f (more_words text) fault in
    addresses_no_fault h.0 (more_words text) a fault h.2 (subst P same k.2)

ipv4_one : (one other : IpAddr) (octets : List ℕ) → IsV4And one (λ ip. ipv4_octets ip ≡ octets) → IsV4And other (λ ip. ipv4_octets ip ≡ octets) → one ≡ other
ipv4_one (Ip.V4 a) (Ip.V4 b) octets h k = let e : ipv4_octets a ≡ ipv4_octets b = h ∙ sym k in ap Ip.V4 (λ i. record { octets = e i })
ipv4_one (Ip.V4 a) (Ip.V6 b) octets h k = absurd k
ipv4_one (Ip.V6 a) other octets h k = absurd h

ipv6_one : (one other : IpAddr) (segments : List ℕ) → IsV6And one (λ ip. ipv6_segments ip ≡ segments) → IsV6And other (λ ip. ipv6_segments ip ≡ segments) → one ≡ other
ipv6_one (Ip.V6 a) (Ip.V6 b) segments h k = let e : ipv6_segments a ≡ ipv6_segments b = h ∙ sym k in ap Ip.V6 (λ i. record { segments = e i })
ipv6_one (Ip.V6 a) (Ip.V4 b) segments h k = absurd k
ipv6_one (Ip.V4 a) other segments h k = absurd h

pub block_tells_one : (kind : Kind) (bytes : List ℕ) (one other : Option Source) → BlockTells kind bytes one → BlockTells kind bytes other → one ≡ other
block_tells_one Ipv4 bytes (Some a) (Some b) h k = ap Some (source_one a b (ipv4_one a.ip b.ip _ h.ip k.ip) (h.port ∙ sym k.port))
block_tells_one Ipv4 bytes (Some a) None h k = absurd k
block_tells_one Ipv4 bytes None other h k = absurd h
block_tells_one Ipv6 bytes (Some a) (Some b) h k = ap Some (source_one a b (ipv6_one a.ip b.ip _ h.ip k.ip) (h.port ∙ sym k.port))
block_tells_one Ipv6 bytes (Some a) None h k = absurd k
block_tells_one Ipv6 bytes None other h k = absurd h
block_tells_one Skipped bytes one other h k = h ∙ sym k

ipv4_cut : (bytes more : List ℕ) (source : Source) → 28 ≤ length bytes → TellsIpv4 bytes source → TellsIpv4 (bytes ++ more) source
ipv4_cut bytes more source l h =
    let at : (i : ℕ) → i < 28 → get_or bytes i 0 ≡ get_or (bytes ++ more) i 0 = λ i m. sym (get_or_append_left bytes more 0 i (omega (arith, l, m))) in
    let a = at 16 (omega arith) in
    let b = at 17 (omega arith) in
    let c = at 18 (omega arith) in
    let d = at 19 (omega arith) in
    let x = bytes ++ more in
    let same : get_or bytes 16 0 ∷ get_or bytes 17 0 ∷ get_or bytes 18 0 ∷ get_or bytes 19 0 ∷ [] ≡ get_or x 16 0 ∷ get_or x 17 0 ∷ get_or x 18 0 ∷ get_or x 19 0 ∷ [] = λ i. a i ∷ b i ∷ c i ∷ d i ∷ [] in
    let P : List ℕ → Type 0 = λ octets. IsV4And source.ip (λ ip. ipv4_octets ip ≡ octets) in
    record { ip = subst P same h.ip; port = h.port ∙ sym (number_cut bytes more 24 (omega (arith, l))) }

ipv6_cut : (bytes more : List ℕ) (source : Source) → 52 ≤ length bytes → TellsIpv6 bytes source → TellsIpv6 (bytes ++ more) source
ipv6_cut bytes more source l h =
    let at : (i : ℕ) → i < 50 → number_at bytes i ≡ number_at (bytes ++ more) i = λ i m. sym (number_cut bytes more i (omega (arith, l, m))) in
    let a = at 16 (omega arith) in
    let b = at 18 (omega arith) in
    let c = at 20 (omega arith) in
    let d = at 22 (omega arith) in
    let e = at 24 (omega arith) in
    let f = at 26 (omega arith) in
    let g = at 28 (omega arith) in
    let j = at 30 (omega arith) in
    let P : List ℕ → Type 0 = λ segments. IsV6And source.ip (λ ip. ipv6_segments ip ≡ segments) in
    record { ip = subst P (λ i. a i ∷ b i ∷ c i ∷ d i ∷ e i ∷ f i ∷ g i ∷ j i ∷ []) h.ip; port = h.port ∙ at 48 (omega arith) }

pub block_tells_cut : (kind : Kind) (bytes more : List ℕ) (len : ℕ) (source : Option Source) → HasBlock bytes kind len → BlockTells kind bytes source → BlockTells kind (bytes ++ more) source
block_tells_cut Ipv4 bytes more len (Some a) b h = ipv4_cut bytes more a (omega (arith, b.room, b.len_is, b.inside)) h
block_tells_cut Ipv4 bytes more len None b h = absurd h
block_tells_cut Ipv6 bytes more len (Some a) b h = ipv6_cut bytes more a (omega (arith, b.room, b.len_is, b.inside)) h
block_tells_cut Ipv6 bytes more len None b h = absurd h
block_tells_cut Skipped bytes more len source b h = h
