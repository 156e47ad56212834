-- How a word is read that names proxies.
use Rattle.std.proofs.Common.{◌≡◌, ◌≢◌, ◌∙◌, ◌<◌, ◌==◌, ℕ, suc, Option, None, Some, List, [], ◌∷◌, ◌++◌, length, get_or, map, false, inl, inr, refl, sym, ap, subst, arith, append_assoc, length-append}
use Rattle.std.specs.Prelude.{MatchOption}
use Rattle.std.specs.List.{All}
use Rattle.std.specs.Net.Grammar.{IsIpText}
use Rattle.std.specs.declared.net.ip_addr.IpAddr.{IpAddr}
use Rattle.std.proofs.lemmas.List.{get_or_default, length-map, map-append}
use Rattle.std.proofs.lemmas.List.Splits.{slice_split_at, slice_split_none}
use Rattle.std.proofs.lemmas.Bool.{ne_eqb}
use Rattle.edge_net.specs.declared.proxies.Proxies.{Proxies}
use Rattle.edge_net.specs.Proxies.{canonical, named}
use Rattle.cli_parts.specs.ProxyWords.{AreNoProxies, AreProxies, NamesNext, NamesNoNext, WriteAddresses, between_commas}

-- ---- the texts between the commas

-- none of the bytes is a comma
lacks_comma : (text : List ℕ) → ((i : ℕ) → i < length text → get_or text i 0 ≢ 44) → All (λ b. (b == 44) ≡ false) text
lacks_comma text none = λ k d within. ne_eqb (get_or text k d) 44 (λ is. none k within (get_or_default text k 0 d within ∙ is))

pub first_text : (word first more : List ℕ) → word ≡ first ++ 44 ∷ more → ((i : ℕ) → i < length first → get_or first i 0 ≢ 44)
    → between_commas word ≡ first ∷ between_commas more
first_text word first more is none = ap between_commas is ∙ slice_split_at (λ b. b == 44) first 44 more (lacks_comma first none) refl

pub last_text : (word : List ℕ) → ((i : ℕ) → i < length word → get_or word i 0 ≢ 44) → between_commas word ≡ word ∷ []
last_text word none = slice_split_none (λ b. b == 44) word (lacks_comma word none)

-- ---- the addresses that texts write

write_more : (texts more : List (List ℕ)) (these those : List IpAddr) → WriteAddresses texts these → WriteAddresses more those
    → WriteAddresses (texts ++ more) (these ++ those)
write_more [] more [] those one two = two
write_more [] more (a ∷ these) those one two = absurd one
write_more (t ∷ texts) more [] those one two = absurd one
write_more (t ∷ texts) more (a ∷ these) those one two = (one.0, write_more texts more these those one.1 two)

as_many : (texts : List (List ℕ)) (these : List IpAddr) → WriteAddresses texts these → length texts ≡ length these
as_many [] [] written = refl
as_many [] (a ∷ these) written = absurd written
as_many (t ∷ texts) [] written = absurd written
as_many (t ∷ texts) (a ∷ these) written = ap suc (as_many texts these written.1)

-- each of the texts writes one
text_writes : (texts more : List (List ℕ)) (text : List ℕ) (these : List IpAddr) → WriteAddresses (texts ++ text ∷ more) these
    → (address : IpAddr) × IsIpText text address
text_writes [] more text [] written = absurd written
text_writes [] more text (a ∷ these) written = (a, written.0)
text_writes (t ∷ texts) more text [] written = absurd written
text_writes (t ∷ texts) more text (a ∷ these) written = text_writes texts more text these written.1

-- ---- a word up to some place

pub record Naming (word left : List ℕ) (proxies : Proxies) : Type 0 where
  pub texts : List (List ℕ)
  pub addresses : List IpAddr
  pub parts : between_commas word ≡ texts ++ between_commas left
  pub written : WriteAddresses texts addresses
  pub named_are : named proxies ≡ map canonical addresses

pub naming_none : (word : List ℕ) (proxies : Proxies) → named proxies ≡ [] → Naming word word proxies
naming_none word proxies none = record { texts = []; addresses = []; parts = refl; written = tt; named_are = none }

-- one address more
pub naming_next : (word left text more : List ℕ) (old new : Proxies) → Naming word left old → between_commas left ≡ text ∷ between_commas more
    → NamesNext old text new → Naming word more new
naming_next word left text more old new so_far are next = record {
  texts = so_far.texts ++ text ∷ [];
  addresses = so_far.addresses ++ next.address ∷ [];
  parts = so_far.parts ∙ ap (λ (l : List (List ℕ)). so_far.texts ++ l) are ∙ sym (append_assoc so_far.texts (text ∷ []) (between_commas more));
  written = write_more so_far.texts (text ∷ []) so_far.addresses (next.address ∷ []) so_far.written (next.written, tt);
  named_are = next.named_are ∙ ap (λ (l : List IpAddr). l ++ canonical next.address ∷ []) so_far.named_are ∙ sym (map-append canonical so_far.addresses (next.address ∷ []));
}

-- the last one
pub naming_all : (word left : List ℕ) (old new : Proxies) → Naming word left old → between_commas left ≡ left ∷ [] → NamesNext old left new
    → AreProxies word new
naming_all word left old new so_far are next = record {
  addresses = so_far.addresses ++ next.address ∷ [];
  are = record {
    written = subst (λ (l : List (List ℕ)). WriteAddresses l (so_far.addresses ++ next.address ∷ [])) (sym (so_far.parts ∙ ap (λ (l : List (List ℕ)). so_far.texts ++ l) are))
        (write_more so_far.texts (left ∷ []) so_far.addresses (next.address ∷ []) so_far.written (next.written, tt));
    few = omega (arith, next.room, ap length so_far.named_are, length-map so_far.addresses canonical, length-append so_far.addresses (next.address ∷ []));
  };
  named_are = next.named_are ∙ ap (λ (l : List IpAddr). l ++ canonical next.address ∷ []) so_far.named_are ∙ sym (map-append canonical so_far.addresses (next.address ∷ []));
}

-- the next text writes none, or is one too many
pub naming_stops : (word left text : List ℕ) (more : List (List ℕ)) (proxies : Proxies) → Naming word left proxies → between_commas left ≡ text ∷ more
    → NamesNoNext proxies text → AreNoProxies word
naming_stops word left text more proxies so_far are (inl none) = λ addresses is.
    let whole = so_far.parts ∙ ap (λ (l : List (List ℕ)). so_far.texts ++ l) are in
    let one = text_writes so_far.texts more text addresses (subst (λ (l : List (List ℕ)). WriteAddresses l addresses) whole is.written) in
    none one.0 one.1
naming_stops word left text more proxies so_far are (inr full) = λ addresses is.
    let whole = so_far.parts ∙ ap (λ (l : List (List ℕ)). so_far.texts ++ l) are in
    let many = as_many (so_far.texts ++ text ∷ more) addresses (subst (λ (l : List (List ℕ)). WriteAddresses l addresses) whole is.written) in
    absurd (omega (
      arith,
      full,
      is.few,
      many,
      as_many so_far.texts so_far.addresses so_far.written,
      ap length so_far.named_are,
      length-map so_far.addresses canonical,
      length-append so_far.texts (text ∷ more),
    ))

-- all of it
pub naming_ends : (word left : List ℕ) (proxies : Proxies) (r : Option Proxies) → Naming word left proxies → between_commas left ≡ left ∷ []
    → MatchOption r (NamesNoNext proxies left) (λ more. NamesNext proxies left more) → MatchOption r (AreNoProxies word) (λ all. AreProxies word all)
naming_ends word left proxies None so_far are next = naming_stops word left left [] proxies so_far are next
naming_ends word left proxies (Some new) so_far are next = naming_all word left proxies new so_far are next
