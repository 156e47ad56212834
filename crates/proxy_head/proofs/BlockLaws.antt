-- Bytes that begin as a block does and are none yet, or never are one.
use Rattle.std.proofs.Common.{◌≡◌, ◌≢◌, ℕ, ◌+◌, ◌-◌, ◌*◌, ◌<◌, ◌≤◌, ◌∙◌, ◌⊎◌, List, [], ◌∷◌, ◌++◌, Some, None, length, take, get_or, replicate, inl, inr, refl, sym, ap, subst, arith, length-append, length-take-le, ne_eqb}
use Rattle.std.proofs.lemmas.List.{get_or_append_left, get_or-append_right, get_or-take, length-replicate}
use Rattle.std.specs.Net.Addr.{HasPrefix}
use Rattle.proxy_head.specs.declared.limits.TheConstants.{SIGNATURE}
use Rattle.proxy_head.specs.declared.fault.HeadWhy.TheVariants as why
use Rattle.proxy_head.specs.declared.head.Kind.{Kind}
use Rattle.proxy_head.specs.declared.head.Kind.TheVariants.{Ipv4, Ipv6, Skipped}
use Rattle.proxy_head.specs.Line.{fault_of}
use Rattle.proxy_head.specs.Block.{HasBlock, kind_of, family_kind, least_of, number_at}
use Rattle.proxy_head.specs.Head.{IsBeginning, BeginsNothing, IsFault, reason_at}
use Rattle.proxy_head.proofs.Cuts.{cut_index, prefix_cut, prefix_take, not_both}

-- LOCAL ignores the family
local_kind : (family : ℕ) → kind_of 0x20 family ≡ Some Skipped
unfolding kind_of
local_kind family = refl

-- a family that tells no addresses
unspecified_kind : kind_of 0x21 0 ≡ Some Skipped
unfolding kind_of family_kind
unspecified_kind = refl

-- no other command
no_kind : (command family : ℕ) → command ≢ 0x20 → command ≢ 0x21 → kind_of command family ≡ None
unfolding kind_of
no_kind command family local proxy = rw (ne_eqb command 0x20 local, ne_eqb command 0x21 proxy) refl

-- a command, and that family
pub command_kind : (command : ℕ) → (command ≡ 0x20) ⊎ (command ≡ 0x21) → kind_of command 0 ≡ Some Skipped
command_kind command (inl e) = ap (λ (c : ℕ). kind_of c 0) e ∙ local_kind 0
command_kind command (inr e) = ap (λ (c : ℕ). kind_of c 0) e ∙ unspecified_kind

least_few : (kind : Kind) → least_of kind ≤ 36
least_few Ipv4 = omega arith
least_few Ipv6 = omega arith
least_few Skipped = omega arith

-- a block from its bytes
make_block : (x : List ℕ) (kind : Kind) (c f hi lo : ℕ) → HasPrefix x SIGNATURE → get_or x 12 0 ≡ c → get_or x 13 0 ≡ f → get_or x 14 0 ≡ hi → get_or x 15 0 ≡ lo → kind_of c f ≡ Some kind → least_of kind ≤ hi * 256 + lo → hi * 256 + lo ≤ 4095 → hi * 256 + lo + 16 ≤ length x → HasBlock x kind (hi * 256 + lo + 16)
make_block x kind c f hi lo starts ec ef eh el is room few inside = record {
  starts = starts;
  kind_is = ap (λ (v : ℕ). kind_of v (get_or x 13 0)) ec ∙ ap (λ (v : ℕ). kind_of c v) ef ∙ is;
  room = omega (arith, eh, el, room);
  few = omega (arith, eh, el, few);
  len_is = omega (arith, eh, el);
  inside = inside;
}

block_begins : (bytes more : List ℕ) (kind : Kind) (len : ℕ) → HasBlock (bytes ++ more) kind len → length bytes < len → IsBeginning bytes
block_begins bytes more kind len h l = record { more = more; len = len; frame = inr (kind, h); longer = l }

-- the signature alone
pub signature_begins : (bytes : List ℕ) → HasPrefix bytes SIGNATURE → length bytes ≡ 12 → IsBeginning bytes
signature_begins bytes h n =
    let more : List ℕ = 0x20 ∷ 0 ∷ 0 ∷ 0 ∷ [] in
    let x = bytes ++ more in
    let size : length x ≡ 16 = length-append bytes more ∙ omega (arith, n) in
    let at : (i : ℕ) → 12 ≤ i → get_or x i 0 ≡ get_or more (i - 12) 0 = λ i l. get_or-append_right bytes more 12 i 0 n l in
    let block = make_block x Skipped 0x20 0 0 0 (prefix_cut bytes more SIGNATURE h) (at 12 (omega arith)) (at 13 (omega arith)) (at 14 (omega arith)) (at 15 (omega arith)) (local_kind 0) (omega arith) (omega arith) (omega (arith, size)) in
    block_begins bytes more Skipped 16 block (omega (arith, n))

-- and a command
pub command_begins : (bytes : List ℕ) → HasPrefix bytes SIGNATURE → length bytes ≡ 13 → (get_or bytes 12 0 ≡ 0x20) ⊎ (get_or bytes 12 0 ≡ 0x21) → IsBeginning bytes
command_begins bytes h n is =
    let more : List ℕ = 0 ∷ 0 ∷ 0 ∷ [] in
    let x = bytes ++ more in
    let size : length x ≡ 16 = length-append bytes more ∙ omega (arith, n) in
    let at : (i : ℕ) → 13 ≤ i → get_or x i 0 ≡ get_or more (i - 13) 0 = λ i l. get_or-append_right bytes more 13 i 0 n l in
    let block = make_block x Skipped (get_or bytes 12 0) 0 0 0 (prefix_cut bytes more SIGNATURE h) (get_or_append_left bytes more 0 12 (omega (arith, n))) (at 13 (omega arith)) (at 14 (omega arith)) (at 15 (omega arith)) (command_kind (get_or bytes 12 0) is) (omega arith) (omega arith) (omega (arith, size)) in
    block_begins bytes more Skipped 16 block (omega (arith, n))

-- and a family
pub family_begins : (bytes : List ℕ) (kind : Kind) → HasPrefix bytes SIGNATURE → length bytes ≡ 14 → kind_of (get_or bytes 12 0) (get_or bytes 13 0) ≡ Some kind → IsBeginning bytes
family_begins bytes kind h n is =
    let more : List ℕ = 0 ∷ 36 ∷ replicate 36 0 in
    let x = bytes ++ more in
    let size : length x ≡ 52 = length-append bytes more ∙ omega (arith, n) in
    let at : (i : ℕ) → 14 ≤ i → get_or x i 0 ≡ get_or more (i - 14) 0 = λ i l. get_or-append_right bytes more 14 i 0 n l in
    let left : (i : ℕ) → i < 14 → get_or x i 0 ≡ get_or bytes i 0 = λ i l. get_or_append_left bytes more 0 i (omega (arith, n, l)) in
    let block = make_block x kind (get_or bytes 12 0) (get_or bytes 13 0) 0 36 (prefix_cut bytes more SIGNATURE h) (left 12 (omega arith)) (left 13 (omega arith)) (at 14 (omega arith)) (at 15 (omega arith)) is (least_few kind) (omega arith) (omega (arith, size)) in
    block_begins bytes more kind 52 block (omega (arith, n))

-- and the first byte of a length
pub length_begins : (bytes : List ℕ) (kind : Kind) → HasPrefix bytes SIGNATURE → length bytes ≡ 15 → kind_of (get_or bytes 12 0) (get_or bytes 13 0) ≡ Some kind → get_or bytes 14 0 ≤ 15 → IsBeginning bytes
length_begins bytes kind h n is few =
    let hi = get_or bytes 14 0 in
    let rest : List ℕ = replicate (hi * 256 + 36) 0 in
    let more : List ℕ = 36 ∷ rest in
    let x = bytes ++ more in
    let zeros : length rest ≡ hi * 256 + 36 = length-replicate (hi * 256 + 36) 0 in
    let size : length x ≡ 15 + length more = length-append bytes more ∙ ap (λ (k : ℕ). k + length more) n in
    let one : length more ≡ length rest + 1 = omega arith in
    let last : get_or x 15 0 ≡ 36 = get_or-append_right bytes more 15 15 0 n (omega arith) in
    let left : (i : ℕ) → i < 15 → get_or x i 0 ≡ get_or bytes i 0 = λ i l. get_or_append_left bytes more 0 i (omega (arith, n, l)) in
    let least = least_few kind in
    let block = make_block x kind (get_or bytes 12 0) (get_or bytes 13 0) hi 36 (prefix_cut bytes more SIGNATURE h) (left 12 (omega arith)) (left 13 (omega arith)) (left 14 (omega arith)) last is (omega (arith, least)) (omega (arith, few)) (omega (arith, size, one, zeros)) in
    block_begins bytes more kind (hi * 256 + 36 + 16) block (omega (arith, n))

-- and some of the bytes that follow the length
pub part_begins : (bytes : List ℕ) (kind : Kind) → HasPrefix bytes SIGNATURE → 16 ≤ length bytes → kind_of (get_or bytes 12 0) (get_or bytes 13 0) ≡ Some kind → least_of kind ≤ number_at bytes 14 → number_at bytes 14 ≤ 4095 → length bytes < number_at bytes 14 + 16 → IsBeginning bytes
part_begins bytes kind h long is room few short =
    let hi = get_or bytes 14 0 in
    let lo = get_or bytes 15 0 in
    let lack = hi * 256 + lo + 16 - length bytes in
    let more : List ℕ = replicate lack 0 in
    let x = bytes ++ more in
    let zeros : length more ≡ lack = length-replicate lack 0 in
    let size : length x ≡ length bytes + length more = length-append bytes more in
    let left : (i : ℕ) → i < 16 → get_or x i 0 ≡ get_or bytes i 0 = λ i l. get_or_append_left bytes more 0 i (omega (arith, long, l)) in
    let block = make_block x kind (get_or bytes 12 0) (get_or bytes 13 0) hi lo (prefix_cut bytes more SIGNATURE h) (left 12 (omega arith)) (left 13 (omega arith)) (left 14 (omega arith)) (left 15 (omega arith)) is room few (omega (arith, size, zeros)) in
    block_begins bytes more kind (hi * 256 + lo + 16) block short

-- a byte after the signature with which no block can begin
block_breaks : (bytes : List ℕ) (at : ℕ) → 12 ≤ at → at < length bytes → HasPrefix bytes SIGNATURE → IsBeginning (take at bytes) → ((more : List ℕ) (kind : Kind) (len : ℕ) → HasBlock (take (at + 1) bytes ++ more) kind len → ⊥) → IsFault bytes (fault_of at (reason_at at))
block_breaks bytes at late inside h before never =
    let here = prefix_take bytes SIGNATURE at late h in
    let next : (more : List ℕ) → HasPrefix (take (at + 1) bytes ++ more) SIGNATURE = λ more. prefix_cut (take (at + 1) bytes) more SIGNATURE (prefix_take bytes SIGNATURE (at + 1) (omega (arith, late)) h) in
    let broken : BeginsNothing (take (at + 1) bytes) = λ more len f. elim f [ inl p ↦ not_both (take (at + 1) bytes ++ more) p.1.starts (next more) | inr p ↦ never more p.0 len p.1 ] in
    inl (record { inside = inside; before = before; broken = broken }, inr ((λ line. not_both (take at bytes) line here), refl))

-- the 13th byte is no command
pub wrong_command : (bytes : List ℕ) → HasPrefix bytes SIGNATURE → 12 < length bytes → get_or bytes 12 0 ≢ 0x20 → get_or bytes 12 0 ≢ 0x21 → IsFault bytes (fault_of 12 why.Command)
wrong_command bytes h long local proxy =
    let n : length (take 12 bytes) ≡ 12 = length-take-le 12 bytes (omega (arith, long)) in
    let before = signature_begins (take 12 bytes) (prefix_take bytes SIGNATURE 12 (omega arith) h) n in
    let never : (more : List ℕ) (kind : Kind) (len : ℕ) → HasBlock (take 13 bytes ++ more) kind len → ⊥ = λ more kind len b.
    let x = take 13 bytes ++ more in
    let c : get_or x 12 0 ≡ get_or bytes 12 0 = cut_index bytes more 13 12 (omega arith) (omega (arith, long)) in
    let none : kind_of (get_or x 12 0) (get_or x 13 0) ≡ None = ap (λ (v : ℕ). kind_of v (get_or x 13 0)) c ∙ no_kind (get_or bytes 12 0) (get_or x 13 0) local proxy in
    let e : None ≡ Some kind = sym none ∙ b.kind_is in
    cc in
    block_breaks bytes 12 (omega arith) long h before never

-- the command of a kind
kind_command : (bytes : List ℕ) (n : ℕ) (more : List ℕ) → 14 ≤ n → n ≤ length bytes → kind_of (get_or (take n bytes ++ more) 12 0) (get_or (take n bytes ++ more) 13 0) ≡ kind_of (get_or bytes 12 0) (get_or bytes 13 0)
kind_command bytes n more l m =
    let x = take n bytes ++ more in
    let c : get_or x 12 0 ≡ get_or bytes 12 0 = cut_index bytes more n 12 (omega (arith, l)) m in
    let f : get_or x 13 0 ≡ get_or bytes 13 0 = cut_index bytes more n 13 (omega (arith, l)) m in
    ap (λ (v : ℕ). kind_of v (get_or x 13 0)) c ∙ ap (λ (v : ℕ). kind_of (get_or bytes 12 0) v) f

-- the 14th byte is no family
pub wrong_family : (bytes : List ℕ) → HasPrefix bytes SIGNATURE → 13 < length bytes → (get_or bytes 12 0 ≡ 0x20) ⊎ (get_or bytes 12 0 ≡ 0x21) → kind_of (get_or bytes 12 0) (get_or bytes 13 0) ≡ None → IsFault bytes (fault_of 13 why.Family)
wrong_family bytes h long command is =
    let n : length (take 13 bytes) ≡ 13 = length-take-le 13 bytes (omega (arith, long)) in
    let same : get_or (take 13 bytes) 12 0 ≡ get_or bytes 12 0 = get_or-take 13 bytes 12 0 (omega arith) in
    let P : ℕ → Type 0 = λ c. (c ≡ 0x20) ⊎ (c ≡ 0x21) in
    let before = command_begins (take 13 bytes) (prefix_take bytes SIGNATURE 13 (omega arith) h) n (subst P (sym same) command) in
    let never : (more : List ℕ) (kind : Kind) (len : ℕ) → HasBlock (take 14 bytes ++ more) kind len → ⊥ = λ more kind len b.
    let e : None ≡ Some kind = sym is ∙ sym (kind_command bytes 14 more (omega arith) (omega (arith, long))) ∙ b.kind_is in
    cc in
    block_breaks bytes 13 (omega arith) long h before never

-- the kind of the first bytes
kind_take : (bytes : List ℕ) (n : ℕ) (kind : Kind) → 14 ≤ n → kind_of (get_or bytes 12 0) (get_or bytes 13 0) ≡ Some kind → kind_of (get_or (take n bytes) 12 0) (get_or (take n bytes) 13 0) ≡ Some kind
kind_take bytes n kind l is =
    let c : get_or (take n bytes) 12 0 ≡ get_or bytes 12 0 = get_or-take n bytes 12 0 (omega (arith, l)) in
    let f : get_or (take n bytes) 13 0 ≡ get_or bytes 13 0 = get_or-take n bytes 13 0 (omega (arith, l)) in
    ap (λ (v : ℕ). kind_of v (get_or (take n bytes) 13 0)) c ∙ ap (λ (v : ℕ). kind_of (get_or bytes 12 0) v) f ∙ is

-- the 15th byte makes a length of 4,096 or more
pub too_many : (bytes : List ℕ) (kind : Kind) → HasPrefix bytes SIGNATURE → 14 < length bytes → kind_of (get_or bytes 12 0) (get_or bytes 13 0) ≡ Some kind → 15 < get_or bytes 14 0 → IsFault bytes (fault_of 14 why.TooLong)
too_many bytes kind h long is many =
    let n : length (take 14 bytes) ≡ 14 = length-take-le 14 bytes (omega (arith, long)) in
    let before = family_begins (take 14 bytes) kind (prefix_take bytes SIGNATURE 14 (omega arith) h) n (kind_take bytes 14 kind (omega arith) is) in
    let never : (more : List ℕ) (other : Kind) (len : ℕ) → HasBlock (take 15 bytes ++ more) other len → ⊥ = λ more other len b.
    let hi : get_or (take 15 bytes ++ more) 14 0 ≡ get_or bytes 14 0 = cut_index bytes more 15 14 (omega arith) (omega (arith, long)) in
    omega (arith, hi, many, b.few) in
    block_breaks bytes 14 (omega arith) long h before never

-- the 16th byte makes a length that is shorter than the addresses
pub too_short : (bytes : List ℕ) (kind : Kind) → HasPrefix bytes SIGNATURE → 15 < length bytes → kind_of (get_or bytes 12 0) (get_or bytes 13 0) ≡ Some kind → get_or bytes 14 0 ≤ 15 → number_at bytes 14 < least_of kind → IsFault bytes (fault_of 15 why.Short)
too_short bytes kind h long is few short =
    let n : length (take 15 bytes) ≡ 15 = length-take-le 15 bytes (omega (arith, long)) in
    let high : get_or (take 15 bytes) 14 0 ≡ get_or bytes 14 0 = get_or-take 15 bytes 14 0 (omega arith) in
    let before = length_begins (take 15 bytes) kind (prefix_take bytes SIGNATURE 15 (omega arith) h) n (kind_take bytes 15 kind (omega arith) is) (omega (arith, high, few)) in
    let never : (more : List ℕ) (other : Kind) (len : ℕ) → HasBlock (take 16 bytes ++ more) other len → ⊥ = λ more other len b.
    let m : 16 ≤ length bytes = omega (arith, long) in
    let hi : get_or (take 16 bytes ++ more) 14 0 ≡ get_or bytes 14 0 = cut_index bytes more 16 14 (omega arith) m in
    let lo : get_or (take 16 bytes ++ more) 15 0 ≡ get_or bytes 15 0 = cut_index bytes more 16 15 (omega arith) m in
    let e : Some kind ≡ Some other = sym is ∙ sym (kind_command bytes 16 more (omega arith) m) ∙ b.kind_is in
    let same : kind ≡ other = cc in
    let least : least_of kind ≡ least_of other = ap least_of same in
    omega (arith, hi, lo, least, short, b.room) in
    block_breaks bytes 15 (omega arith) long h before never
