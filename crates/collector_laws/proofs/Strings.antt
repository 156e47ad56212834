-- What is written of a text as a string is a string by RFC 8259, whatever the text.
use Rattle.std.proofs.Common.{◌≡◌, inl, inr, ℕ, ◌<◌, true, List, [], ◌∷◌, ◌++◌, length, refl, sym, ◌∙◌, ap, subst, arith, append_assoc, length-append}
use Rattle.std.specs.Prelude.{encode_utf8_all, flat_map}
use Rattle.std.specs.Char.{encode_utf8}
use Rattle.std.specs.Str.{all_scalars}
use Rattle.std.specs.Str.Lossy.{utf8_lossy}
use Rattle.std.proofs.lemmas.Bool.{and_parts, cases_lt}
use Rattle.std.proofs.Math.Utf8.{scalar}
use Rattle.json.specs.Print.{escape_byte}
use Rattle.json_span.specs.Strings.{CharKind, EndsString, IsString, Long, Plain, Short, Wide}
use Rattle.event_map.specs.Strings.{string_of}
use Rattle.collector_laws.proofs.Characters.{IsOne, ascii_one, high_byte, scalar_one}
use Rattle.collector_laws.proofs.Lossy.{lossy_some, lossy_text}

flat-append : (x y : List ℕ) → flat_map escape_byte (x ++ y) ≡ flat_map escape_byte x ++ flat_map escape_byte y
flat-append [] y = refl
flat-append (c ∷ x) y = ap (λ (l : List ℕ). escape_byte c ++ l) (flat-append x y) ∙ sym (append_assoc (escape_byte c) (flat_map escape_byte x) (flat_map escape_byte y))

ends : (cs : List ℕ) → all_scalars cs ≡ true → (ks : List CharKind) × EndsString ks (flat_map escape_byte (encode_utf8_all cs) ++ 34 ∷ [])
ends [] all = ([], refl)
ends (c ∷ cs) all =
    let both = and_parts (scalar c) (all_scalars cs) all in
    let one = scalar_one c both.0 in
    let rest = ends cs both.1 in
    let x = flat_map escape_byte (encode_utf8 c) in
    let y = flat_map escape_byte (encode_utf8_all cs) in
    (one.0 ∷ rest.0, (x, y ++ 34 ∷ [], one.1, ap (λ (l : List ℕ). l ++ 34 ∷ []) (flat-append (encode_utf8 c) (encode_utf8_all cs)) ∙ append_assoc x y (34 ∷ []), rest.1))

pub string_is : (text : List ℕ) → IsString (string_of text)
string_is text =
    let u = lossy_text text in
    let e = ends u.0 u.1.0 in
    (flat_map escape_byte (utf8_lossy text) ++ 34 ∷ [], e.0, refl, subst (λ (l : List ℕ). EndsString e.0 (flat_map escape_byte l ++ 34 ∷ [])) u.1.1 e.1)

-- ---- no text but the empty one is written as the empty string

one_some : (x : List ℕ) → IsOne x → 0 < length x
one_some [] (Plain, h) = absurd (let e = h.1 in cc)
one_some [] (Wide, h) = absurd (let e = h.3 in cc)
one_some [] (Short, h) = absurd (let e = h.1 in cc)
one_some [] (Long, h) = absurd (let e = h.1 in cc)
one_some (c ∷ x) one = omega arith

byte_some : (c : ℕ) → 0 < length (escape_byte c)
byte_some c = elim (cases_lt c 128) [
  | inl low ↦ omega (arith, one_some (escape_byte c) (ascii_one c low))
  | inr high ↦ omega (arith, ap length (high_byte c high))
]

flat_some : (x : List ℕ) → 0 < length x → 0 < length (flat_map escape_byte x)
flat_some [] some = absurd (omega (arith, some))
flat_some (c ∷ x) some = omega (arith, byte_some c, length-append (escape_byte c) (flat_map escape_byte x))

pub string_some : (text : List ℕ) → 0 < length text → 2 < length (string_of text)
string_some text some = omega (arith, flat_some (utf8_lossy text) (lossy_some text some), length-append (flat_map escape_byte (utf8_lossy text)) (34 ∷ []))
