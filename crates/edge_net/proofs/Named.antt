-- An address in its one form, and whether it is among those that are named.
use Rattle.std.proofs.Common.{◌≡◌, ℕ, ◌<◌, List, [], ◌∷◌, take, length, get_or, Bool, true, false, refl, sym, ap, ◌∙◌, min, arith}
use Rattle.std.specs.Bool.{Decides}
use Rattle.std.specs.List.{Contains}
use Rattle.std.specs.Net.Addr.{MatchIp, IsCanonicalOf, IsIpv4Mapped, ipv4_octets, ipv6_segments, low_octets}
use Rattle.std.specs.declared.net.ip_addr.IpAddr.{IpAddr}
use Rattle.std.specs.declared.net.ip_addr.IpAddr.TheVariants.{V4, V6}
use Rattle.std.proofs.lemmas.Bool.{cond-true, cond-false}
use Rattle.std.proofs.lemmas.Bool.Decides.{Decides-eqb}
use Rattle.std.proofs.lemmas.List.{get_or-take, length-take}
use Rattle.std.proofs.lemmas.Slice.Eq.{slice_eq-Decides}
use Rattle.edge_net.specs.Proxies.{is_mapped, canonical}

mapped_decides : (segments : List ℕ) → Decides (is_mapped segments) (IsIpv4Mapped segments)
mapped_decides segments =
    let d = slice_eq-Decides Decides-eqb (0 ∷ 0 ∷ 0 ∷ 0 ∷ 0 ∷ 0xffff ∷ []) (take 6 segments) (is_mapped segments) refl in
    ((λ t. sym (d.0 t)), (λ e. d.1 (sym e)))

not_so : (b : Bool) → (b ≡ true → ⊥) → b ≡ false
not_so true never = absurd (never refl)
not_so false never = refl

-- what std says of the canonical form
pub canonical_is : (given c : IpAddr) → MatchIp given (λ _. c ≡ given) (λ a. IsCanonicalOf a c) → c ≡ canonical given
canonical_is (V4 ip) c same = same
canonical_is (V6 a) (V4 ip) same = (λ i. V4 (record { octets = same.1 i })) ∙ sym (cond-true (is_mapped (ipv6_segments a)) _ _ ((mapped_decides (ipv6_segments a)).1 same.0))
canonical_is (V6 a) (V6 ip) same = ap V6 same.1 ∙ sym (cond-false (is_mapped (ipv6_segments a)) _ _ (not_so _ (λ t. same.0 ((mapped_decides (ipv6_segments a)).0 t))))

-- it stands before the n-th place
pub found : {X : Type 0} (xs : List X) (n k : ℕ) (x : X) → k < n → k < length xs → get_or xs k x ≡ x → Contains (take n xs) x
found xs n k x below inside same = (k, omega (arith, length-take n xs), get_or-take n xs k x below ∙ same)

-- it stands in none of them
pub lacking : {X : Type 0} (xs : List X) (n : ℕ) (x : X) → ((k : ℕ) → k < min n (length xs) → get_or xs k x ≡ x → ⊥) → Contains (take n xs) x → ⊥
lacking xs n x never here =
    let few : here.0 < min n (length xs) = omega (arith, here.1, length-take n xs) in
    never here.0 few (sym (get_or-take n xs here.0 x (omega (arith, few))) ∙ here.2)
