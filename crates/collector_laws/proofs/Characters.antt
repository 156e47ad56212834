-- A character as it stands in a JSON string is one character of RFC 8259, section 7.
use Rattle.std.proofs.Common.{◌≡◌, ◌⊎◌, inl, inr, ℕ, ◌+◌, ◌/◌, ◌%◌, ◌<◌, ◌≤◌, Bool, true, false, List, [], ◌∷◌, ◌++◌, refl, sym, ◌∙◌, ap, subst, arith, append-nil, ◌&&◌, ◌||◌, ◌==◌}
use Rattle.std.specs.Prelude.{Some, flat_map, nat_le}
use Rattle.std.specs.Char.{IsScalar, digit_char, encode_utf8}
use Rattle.std.proofs.lemmas.Bool.{and_from, cases_lt, eqb-false, eqb-true, le-leb, le-ltb, lt-leb, lt-ltb, ne_eqb, or_left, or_right}
use Rattle.std.proofs.Math.Utf8.{scalar_cases}
use Rattle.std.proofs.lemmas.Bool.Decides.{nat_tests}
use Rattle.json.specs.Print.{escape_byte}
use Rattle.json.proofs.Printed.Strings.{escape_byte_plain}
use Rattle.json_span.specs.Strings.{Any, Bounds, CharKind, From90, FromA0, IsChar, Long, Plain, Short, To8F, To9F, Wide, is_escape, is_hex, is_plain, lead, within}
use Rattle.json_span.specs.Numbers.{between}

-- ---- one character

-- one character of a string, of some kind
abbrev pub IsOne : List ℕ → Type 0
IsOne x = (k : CharKind) × IsChar k x

yes : (low high c : ℕ) → low ≤ c → c ≤ high → between low high c ≡ true
yes low high c l h = and_from (nat_le low c) (nat_le c high) (le-leb low c l) (le-leb c high h)

plain_one : (c : ℕ) → 32 ≤ c → c < 128 → (c ≡ 34 → ⊥) → (c ≡ 92 → ⊥) → is_plain c ≡ true
plain_one c low high mark slash = elim (cases_lt c 34) [
  | inl below ↦ or_left (between 32 33 c) (between 35 91 c || between 93 127 c) (yes 32 33 c low (omega (arith, below)))
  | inr above ↦ or_right (between 32 33 c) (between 35 91 c || between 93 127 c) (elim (cases_lt c 92) [
    | inl under ↦ or_left (between 35 91 c) (between 93 127 c) (yes 35 91 c (omega (arith, above, mark)) (omega (arith, under)))
    | inr over ↦ or_right (between 35 91 c) (between 93 127 c) (yes 93 127 c (omega (arith, over, slash)) (omega (arith, high)))
  ])
]

hex_one : (d : ℕ) → d < 16 → is_hex (digit_char d) ≡ true
hex_one d small = grind (arith, nat_tests)

-- a control byte that has no short escape
control_text : (c : ℕ) → c < 32 → (c ≡ 8 → ⊥) → (c ≡ 12 → ⊥) → (c ≡ 10 → ⊥) → (c ≡ 13 → ⊥) → (c ≡ 9 → ⊥)
    → escape_byte c ≡ 92 ∷ 117 ∷ 48 ∷ 48 ∷ digit_char (c / 16) ∷ digit_char (c % 16) ∷ []
unfolding escape_byte
control_text c low b f n r t =
    rw (
      ne_eqb c 34 (λ e. omega (arith, e, low)),
      ne_eqb c 92 (λ e. omega (arith, e, low)),
      ne_eqb c 8 b,
      ne_eqb c 12 f,
      ne_eqb c 10 n,
      ne_eqb c 13 r,
      ne_eqb c 9 t,
      lt-ltb c 32 low,
    )

long_one : (high low : ℕ) → high < 16 → low < 16 → IsChar Long (92 ∷ 117 ∷ 48 ∷ 48 ∷ digit_char high ∷ digit_char low ∷ [])
long_one high low h l = (
  48 ∷ 48 ∷ digit_char high ∷ digit_char low ∷ [],
  refl,
  (
    48,
    48 ∷ digit_char high ∷ digit_char low ∷ [],
    refl,
    refl,
    (
      48,
      digit_char high ∷ digit_char low ∷ [],
      refl,
      refl,
      (
        digit_char high,
        digit_char low ∷ [],
        refl,
        hex_one high h,
        (digit_char low, [], refl, hex_one low l, refl),
      ),
    ),
  ),
)

short_one : (c letter : ℕ) → escape_byte c ≡ 92 ∷ letter ∷ [] → is_escape letter ≡ true → IsOne (escape_byte c)
short_one c letter is escape = (Short, (letter, is, escape))

quote_text : escape_byte 34 ≡ 92 ∷ 34 ∷ []
unfolding escape_byte
quote_text = refl

slash_text : escape_byte 92 ≡ 92 ∷ 92 ∷ []
unfolding escape_byte
slash_text = refl

b_text : escape_byte 8 ≡ 92 ∷ 98 ∷ []
unfolding escape_byte
b_text = refl

f_text : escape_byte 12 ≡ 92 ∷ 102 ∷ []
unfolding escape_byte
f_text = refl

n_text : escape_byte 10 ≡ 92 ∷ 110 ∷ []
unfolding escape_byte
n_text = refl

r_text : escape_byte 13 ≡ 92 ∷ 114 ∷ []
unfolding escape_byte
r_text = refl

t_text : escape_byte 9 ≡ 92 ∷ 116 ∷ []
unfolding escape_byte
t_text = refl

-- it is this number, or not
same_number : (c n : ℕ) → (c ≡ n) ⊎ (c ≡ n → ⊥)
same_number c n = by (c == n) refl
  where
    by : (b : Bool) → (c == n) ≡ b → (c ≡ n) ⊎ (c ≡ n → ⊥)
    by true is = inl (eqb-true c n is)
    by false is = inr (eqb-false c n is)

-- a byte that has a short escape, and one that is written otherwise
or_short : (c n letter : ℕ) → escape_byte n ≡ 92 ∷ letter ∷ [] → is_escape letter ≡ true → ((c ≡ n → ⊥) → IsOne (escape_byte c)) → IsOne (escape_byte c)
or_short c n letter text escape others = elim (same_number c n) [
  | inl is ↦ short_one c letter (ap escape_byte is ∙ text) escape
  | inr isnt ↦ others isnt
]

control_one : (c : ℕ) → c < 32 → IsOne (escape_byte c)
control_one c low =
    or_short c 8 98 b_text refl (λ b. or_short c 12 102 f_text refl (λ f. or_short c 10 110 n_text refl (λ n. or_short c 13 114 r_text refl (λ r. or_short c 9 116 t_text refl
    (λ t. (Long, subst (IsChar Long) (sym (control_text c low b f n r t)) (long_one (c / 16) (c % 16) (omega (arith, low)) (omega arith))))))))

visible_one : (c : ℕ) → 32 ≤ c → c < 128 → IsOne (escape_byte c)
visible_one c low high =
    or_short c 34 34 quote_text refl (λ mark. or_short c 92 92 slash_text refl (λ slash. (Plain, (c, escape_byte_plain c mark slash low, plain_one c low high mark slash))))

pub ascii_one : (c : ℕ) → c < 128 → IsOne (escape_byte c)
ascii_one c high = elim (cases_lt c 32) [ inl below ↦ control_one c below | inr above ↦ visible_one c above high ]

-- a byte that isn't of ASCII
pub high_byte : (c : ℕ) → 128 ≤ c → escape_byte c ≡ c ∷ []
high_byte c high = escape_byte_plain c (λ e. omega (arith, e, high)) (λ e. omega (arith, e, high)) (omega (arith, high))

-- ---- characters of several bytes

and_false : (a : Bool) → (a && false) ≡ false
and_false true = refl
and_false false = refl

above : (low high c : ℕ) → high < c → between low high c ≡ false
above low high c over = ap (λ (b : Bool). nat_le low c && b) (lt-leb c high over) ∙ and_false (nat_le low c)

lead_two : (c : ℕ) → 194 ≤ c → c ≤ 223 → lead c ≡ Some (record { bounds = Any; more = 0 })
unfolding lead
lead_two c low high = rw (yes 194 223 c low high)

lead_three : (c : ℕ) → 225 ≤ c → c ≤ 239 → (c ≡ 237 → ⊥) → lead c ≡ Some (record { bounds = Any; more = 1 })
unfolding lead
lead_three c low high isnt = rw (above 194 223 c (omega (arith, low)), ne_eqb c 224 (λ e. omega (arith, e, low)), ne_eqb c 237 isnt, yes 225 239 c low high)

lead_four : (c : ℕ) → 241 ≤ c → c ≤ 243 → lead c ≡ Some (record { bounds = Any; more = 2 })
unfolding lead
lead_four c low high =
    rw (
      above 194 223 c (omega (arith, low)),
      ne_eqb c 224 (λ e. omega (arith, e, low)),
      ne_eqb c 237 (λ e. omega (arith, e, low)),
      above 225 239 c (omega (arith, low)),
      ne_eqb c 240 (λ e. omega (arith, e, low)),
      yes 241 243 c low high,
    )

lead_E0 : lead 224 ≡ Some (record { bounds = FromA0; more = 1 })
unfolding lead
lead_E0 = refl

lead_ED : lead 237 ≡ Some (record { bounds = To9F; more = 1 })
unfolding lead
lead_ED = refl

lead_F0 : lead 240 ≡ Some (record { bounds = From90; more = 2 })
unfolding lead
lead_F0 = refl

lead_F4 : lead 244 ≡ Some (record { bounds = To8F; more = 2 })
unfolding lead
lead_F4 = refl

two_is : (a b : ℕ) → lead a ≡ Some (record { bounds = Any; more = 0 }) → within Any b ≡ true → IsOne (a ∷ b ∷ [])
two_is a b first second = (Wide, (a, b ∷ [], record { bounds = Any; more = 0 }, refl, first, (b, refl, second)))

three_is : (bounds : Bounds) (a b c : ℕ) → lead a ≡ Some (record { bounds = bounds; more = 1 }) → within bounds b ≡ true → within Any c ≡ true → IsOne (a ∷ b ∷ c ∷ [])
three_is bounds a b c first second third = (Wide, (a, b ∷ c ∷ [], record { bounds = bounds; more = 1 }, refl, first, (b, c ∷ [], refl, second, (c, refl, third))))

four_is : (bounds : Bounds) (a b c d : ℕ) → lead a ≡ Some (record { bounds = bounds; more = 2 }) → within bounds b ≡ true → within Any c ≡ true → within Any d ≡ true → IsOne (a ∷ b ∷ c ∷ d ∷ [])
four_is bounds a b c d first second third fourth =
    (Wide, (a, b ∷ c ∷ d ∷ [], record { bounds = bounds; more = 2 }, refl, first, (b, c ∷ d ∷ [], refl, second, (c, d ∷ [], refl, third, (d, refl, fourth)))))

-- a byte with six bits of a character
tail : (n : ℕ) → within Any (128 + n % 64) ≡ true
tail n = yes 128 191 (128 + n % 64) (omega arith) (omega arith)

two_one : (c : ℕ) → 128 ≤ c → c < 2048 → IsOne ((192 + c / 64) ∷ (128 + c % 64) ∷ [])
two_one c low high = two_is (192 + c / 64) (128 + c % 64) (lead_two (192 + c / 64) (omega (arith, low)) (omega (arith, high))) (tail c)

three_one : (c : ℕ) → 2048 ≤ c → c < 65536 → (c < 55296) ⊎ ((57344 ≤ c) × (c < 1114112)) → IsOne ((224 + c / 4096) ∷ (128 + (c / 64) % 64) ∷ (128 + c % 64) ∷ [])
three_one c low high range = elim (same_number (c / 4096) 0) [
  | inl none ↦ three_is FromA0 (224 + c / 4096) (128 + (c / 64) % 64) (128 + c % 64) (ap (λ (n : ℕ). lead (224 + n)) none ∙ lead_E0) (yes 160 191 (128 + (c / 64) % 64) (omega (arith, none, low)) (omega arith)) (tail c)
  | inr some ↦ elim (same_number (c / 4096) 13) [
    | inl there ↦ three_is To9F (224 + c / 4096) (128 + (c / 64) % 64) (128 + c % 64) (ap (λ (n : ℕ). lead (224 + n)) there ∙ lead_ED)
        (yes 128 159 (128 + (c / 64) % 64) (omega arith) (elim range [ inl under ↦ omega (arith, there, under) | inr over ↦ absurd (omega (arith, there, over.0)) ])) (tail c)
    | inr isnt ↦ three_is Any (224 + c / 4096) (128 + (c / 64) % 64) (128 + c % 64) (lead_three (224 + c / 4096) (omega (arith, some)) (omega (arith, high)) (λ e. isnt (omega (arith, e)))) (tail (c / 64)) (tail c)
  ]
]

four_one : (c : ℕ) → 65536 ≤ c → c < 1114112 → IsOne ((240 + c / 262144) ∷ (128 + (c / 4096) % 64) ∷ (128 + (c / 64) % 64) ∷ (128 + c % 64) ∷ [])
four_one c low high =
    let a = 240 + c / 262144 in
    let b = 128 + (c / 4096) % 64 in
    let d = 128 + (c / 64) % 64 in
    elim (same_number (c / 262144) 0) [
      | inl none ↦ four_is From90 a b d (128 + c % 64) (ap (λ (n : ℕ). lead (240 + n)) none ∙ lead_F0) (yes 144 191 b (omega (arith, none, low)) (omega arith)) (tail (c / 64)) (tail c)
      | inr some ↦ elim (same_number (c / 262144) 4) [
        | inl there ↦ four_is To8F a b d (128 + c % 64) (ap (λ (n : ℕ). lead (240 + n)) there ∙ lead_F4) (yes 128 143 b (omega arith) (omega (arith, there, high))) (tail (c / 64)) (tail c)
        | inr isnt ↦ four_is Any a b d (128 + c % 64) (lead_four a (omega (arith, some)) (omega (arith, high, isnt))) (tail (c / 4096)) (tail (c / 64)) (tail c)
      ]
    ]

-- ---- any character

one_text : (c : ℕ) → c < 128 → encode_utf8 c ≡ c ∷ []
unfolding encode_utf8
one_text c low = rw (lt-ltb c 128 low)

two_text : (c : ℕ) → 128 ≤ c → c < 2048 → encode_utf8 c ≡ (192 + c / 64) ∷ (128 + c % 64) ∷ []
unfolding encode_utf8
two_text c low high = rw (le-ltb c 128 low, lt-ltb c 2048 high)

three_text : (c : ℕ) → 2048 ≤ c → c < 65536 → encode_utf8 c ≡ (224 + c / 4096) ∷ (128 + (c / 64) % 64) ∷ (128 + c % 64) ∷ []
unfolding encode_utf8
three_text c low high = rw (le-ltb c 128 (omega (arith, low)), le-ltb c 2048 low, lt-ltb c 65536 high)

four_text : (c : ℕ) → 65536 ≤ c → encode_utf8 c ≡ (240 + c / 262144) ∷ (128 + (c / 4096) % 64) ∷ (128 + (c / 64) % 64) ∷ (128 + c % 64) ∷ []
unfolding encode_utf8
four_text c low = rw (le-ltb c 128 (omega (arith, low)), le-ltb c 2048 (omega (arith, low)), le-ltb c 65536 low)

-- bytes that aren't of ASCII are written as they are
two_same : (a b : ℕ) → 128 ≤ a → 128 ≤ b → flat_map escape_byte (a ∷ b ∷ []) ≡ a ∷ b ∷ []
two_same a b p q = λ i. high_byte a p i ++ (high_byte b q i ++ [])

three_same : (a b c : ℕ) → 128 ≤ a → 128 ≤ b → 128 ≤ c → flat_map escape_byte (a ∷ b ∷ c ∷ []) ≡ a ∷ b ∷ c ∷ []
three_same a b c p q r = λ i. high_byte a p i ++ (high_byte b q i ++ (high_byte c r i ++ []))

four_same : (a b c d : ℕ) → 128 ≤ a → 128 ≤ b → 128 ≤ c → 128 ≤ d → flat_map escape_byte (a ∷ b ∷ c ∷ d ∷ []) ≡ a ∷ b ∷ c ∷ d ∷ []
four_same a b c d p q r s = λ i. high_byte a p i ++ (high_byte b q i ++ (high_byte c r i ++ (high_byte d s i ++ [])))

-- what these bytes are written as is one character
written_one : (x y z : List ℕ) → x ≡ y → flat_map escape_byte y ≡ z → IsOne z → IsOne (flat_map escape_byte x)
written_one x y z same text one = subst IsOne (sym (ap (flat_map escape_byte) same ∙ text)) one

pub scalar_one : (c : ℕ) → IsScalar c → IsOne (flat_map escape_byte (encode_utf8 c))
scalar_one c is =
    let range = scalar_cases c is in
    elim (cases_lt c 128) [
      | inl low ↦ written_one (encode_utf8 c) (c ∷ []) (escape_byte c) (one_text c low) (append-nil (escape_byte c)) (ascii_one c low)
      | inr over ↦ elim (cases_lt c 2048) [
        | inl low ↦ written_one (encode_utf8 c) ((192 + c / 64) ∷ (128 + c % 64) ∷ []) ((192 + c / 64) ∷ (128 + c % 64) ∷ []) (two_text c over low) (two_same (192 + c / 64) (128 + c % 64) (omega arith) (omega arith)) (two_one c over low)
        | inr past ↦ elim (cases_lt c 65536) [
          | inl low ↦
              let x : List ℕ = (224 + c / 4096) ∷ (128 + (c / 64) % 64) ∷ (128 + c % 64) ∷ [] in
              written_one (encode_utf8 c) x x (three_text c past low) (three_same (224 + c / 4096) (128 + (c / 64) % 64) (128 + c % 64) (omega arith) (omega arith) (omega arith)) (three_one c past low range)
          | inr far ↦
              let x : List ℕ = (240 + c / 262144) ∷ (128 + (c / 4096) % 64) ∷ (128 + (c / 64) % 64) ∷ (128 + c % 64) ∷ [] in
              written_one (encode_utf8 c) x x (four_text c far) (four_same (240 + c / 262144) (128 + (c / 4096) % 64) (128 + (c / 64) % 64) (128 + c % 64) (omega arith) (omega arith) (omega arith) (omega arith))
              (four_one c far (elim range [ inl under ↦ omega (arith, under) | inr within ↦ omega (arith, within.1) ]))
        ]
      ]
    ]
