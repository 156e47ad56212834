-- GUIDs as texts: their bytes are visible ones of ASCII, and they read back.
use Rattle.std.proofs.Common.{◌≡◌, inl, ℕ, ◌<◌, ◌≤◌, ◌^◌, Bool, true, false, IsTrue, List, [], ◌∷◌, ◌++◌, length, reverse, get_or, refl, sym, ◌∙◌, ap, subst, arith, ◌&&◌, ◌==◌, not, if◌then◌else◌}
use Rattle.std.specs.Prelude.{All, Option, Some, codes, nat_le, option_map, zero, suc}
use Rattle.std.specs.Int.{byte_at, bytes_high_first, from_be_bytes, to_be_bytes, w128}
use Rattle.std.proofs.lemmas.Bool.{and_from, le-leb, ne_eqb, not_from_false, or_from, or_right}
use Rattle.std.proofs.lemmas.Bool.Decides.{nat_tests}
use Rattle.std.proofs.lemmas.List.{append-nil, length-reverse, reverse-append}
use Rattle.std.proofs.lemmas.List.Elements.{All-cons, All-from_get_or, All-head, All-nil}
use Rattle.httparse.specs.Grammar.{AllPass, is_ows, is_value_byte, skip_ows, trim_ows}
use Rattle.httparse.proofs.TrimLemmas.{AllPass-reverse, trim_ows_space}
use Rattle.uuid.specs.Text.{digit_place, hex_digit, is_hyphen_place, lower, nibble, parsed}
use Rattle.uuid.proofs.OrderLemmas.{from_be_bytes-to_be_bytes_16}
use Rattle.uuid.proofs.RoundTrips.{parses_hyphenated}
use Rattle.uuid.proofs.TextLemmas.{by_index_at, by_index_length, nibble_small}
use Rattle.hec_sender.specs.Texts.{guid_text}
use Rattle.hec_session.specs.Checks.{guid}

pub guid_length : (n : ℕ) → length (guid_text n) ≡ 36
guid_length n = by_index_length 36 (λ k. if is_hyphen_place k then 45 else hex_digit lower (nibble (to_be_bytes w128 n) (digit_place k)))

-- ---- its bytes

abbrev IsMark : ℕ → Type 0
IsMark c = (45 ≤ c) × (c < 103)

digit_mark : (d : ℕ) → d < 16 → IsMark (hex_digit lower d)
digit_mark d small = (grind (arith, nat_tests), grind (arith, nat_tests))

hyphen_or : (b : Bool) (c : ℕ) → IsMark c → IsMark (if b then 45 else c)
hyphen_or true c is = (omega arith, omega arith)
hyphen_or false c is = is

mark_at : (n k : ℕ) → k < 36 → IsMark (get_or (guid_text n) k 0)
mark_at n k low =
    let xs = to_be_bytes w128 n in
    let f : ℕ → ℕ = λ (j : ℕ). if is_hyphen_place j then 45 else hex_digit lower (nibble xs (digit_place j)) in
    subst IsMark (sym (by_index_at 36 f k 0 low)) (hyphen_or (is_hyphen_place k) (hex_digit lower (nibble xs (digit_place k))) (digit_mark (nibble xs (digit_place k)) (nibble_small xs (digit_place k))))

-- what each mark passes, a GUID does
pub guid_passes : (test : ℕ → Bool) → ((c : ℕ) → 45 ≤ c → c < 103 → test c ≡ true) → (n : ℕ) → AllPass test (guid_text n)
guid_passes test each n =
    All-from_get_or (λ (b : ℕ). IsTrue (test b)) (guid_text n) 0 (λ i inside. let m = mark_at n i (omega (arith, inside, guid_length n)) in each (get_or (guid_text n) i 0) m.0 m.1)

mark_value : (c : ℕ) → 45 ≤ c → c < 103 → is_value_byte c ≡ true
mark_value c low high =
    let visible : not (c == 127) ≡ true = not_from_false (c == 127) (ne_eqb c 127 (λ is. omega (arith, is, high))) in
    or_right (c == 9) (nat_le 32 c && not (c == 127)) (and_from (nat_le 32 c) (not (c == 127)) (le-leb 32 c (omega (arith, low))) visible)

pub guid_value : (n : ℕ) → AllPass is_value_byte (guid_text n)
guid_value n = guid_passes is_value_byte mark_value n

-- ---- no white space is trimmed

abbrev is_solid : ℕ → Bool
is_solid c = not (is_ows c)

mark_solid : (c : ℕ) → 45 ≤ c → c < 103 → is_solid c ≡ true
mark_solid c low high = not_from_false (is_ows c) (or_from (c == 32) (c == 9) (ne_eqb c 32 (λ is. omega (arith, is, low))) (ne_eqb c 9 (λ is. omega (arith, is, low))))

solid_front : (cs more : List ℕ) → AllPass is_solid cs → 0 < length cs → skip_ows (cs ++ more) ≡ cs ++ more
solid_front [] more solid some = absurd (omega (arith, some))
solid_front (c ∷ cs) more solid some = by (is_ows c) refl (All-head (λ (b : ℕ). IsTrue (is_solid b)) c cs solid)
  where
    by : (b : Bool) → is_ows c ≡ b → IsTrue (not (is_ows c)) → skip_ows ((c ∷ cs) ++ more) ≡ (c ∷ cs) ++ more
    by true is solid = absurd (let never : not (is_ows c) ≡ false = ap not is in cc)
    by false is solid = rw is refl

solid_stays : (cs : List ℕ) → AllPass is_solid cs → 0 < length cs → skip_ows cs ≡ cs
solid_stays cs solid some = ap skip_ows (sym (append-nil cs)) ∙ solid_front cs [] solid some ∙ append-nil cs

guid_solid : (n : ℕ) → AllPass is_solid (guid_text n)
guid_solid n = guid_passes is_solid mark_solid n

-- a GUID behind a text that begins with no white space
behind : (c : ℕ) (cs : List ℕ) (n : ℕ) → is_ows c ≡ false → trim_ows (32 ∷ ((c ∷ cs) ++ guid_text n)) ≡ (c ∷ cs) ++ guid_text n
behind c cs n solid =
    let g = guid_text n in
    let back : reverse ((c ∷ cs) ++ g) ≡ reverse g ++ reverse (c ∷ cs) = reverse-append (c ∷ cs) g in
    let end : skip_ows (reverse g ++ reverse (c ∷ cs)) ≡ reverse g ++ reverse (c ∷ cs) =
    solid_front (reverse g) (reverse (c ∷ cs)) (AllPass-reverse is_solid g (guid_solid n)) (omega (arith, length-reverse g, guid_length n)) in
    let front : skip_ows ((c ∷ cs) ++ g) ≡ (c ∷ cs) ++ g = rw solid refl in
    trim_ows_space ((c ∷ cs) ++ g) front (ap skip_ows back ∙ end ∙ sym back)

pub token_trimmed : (n : ℕ) → trim_ows (32 ∷ (codes "Splunk " ++ guid_text n)) ≡ codes "Splunk " ++ guid_text n
token_trimmed n = behind 83 (codes "plunk ") n refl

pub guid_trimmed : (n : ℕ) → trim_ows (32 ∷ guid_text n) ≡ guid_text n
guid_trimmed n = trim_ows_space (guid_text n) (solid_stays (guid_text n) (guid_solid n) (omega (arith, guid_length n)))
    (solid_stays (reverse (guid_text n)) (AllPass-reverse is_solid (guid_text n) (guid_solid n)) (omega (arith, length-reverse (guid_text n), guid_length n)))

-- ---- it reads back

byte_small : (k n : ℕ) → byte_at k n < 256
byte_small zero n = omega arith
byte_small (suc k) n = omega arith

bytes_fit : (k n : ℕ) → All (λ (b : ℕ). b < 256) (bytes_high_first k n)
bytes_fit zero n = All-nil (λ (b : ℕ). b < 256)
bytes_fit (suc k) n = All-cons (λ (b : ℕ). b < 256) (byte_at k n) (bytes_high_first k n) (byte_small k n) (bytes_fit k n)

pub guid_back : (n : ℕ) → n < 2 ^ 128 → guid (guid_text n) ≡ Some n
guid_back n few =
    let xs = to_be_bytes w128 n in
    let back : Some xs ≡ parsed (guid_text n) = parses_hyphenated lower xs (inl refl) refl (bytes_fit 16 n) in
    ap (λ (o : Option (List ℕ)). option_map (from_be_bytes w128) o) (sym back) ∙ ap Some (from_be_bytes-to_be_bytes_16 n few)
