-- Strings: RFC 8259, section 7. Their characters are in UTF-8 (section 8.1), of which RFC 3629, section 4, has the table.
use Rattle.std.specs.Prelude.{◌≡◌, ◌≢◌, ℕ, zero, suc, Bool, true, ◌==◌, ◌||◌, if◌then◌else◌, List, [], ◌∷◌, ◌++◌, Option, Some, None}
use Rattle.json_span.specs.Numbers.{between, is_digit}

-- bounds of a character's second byte: 80-BF (UTF8-tail), A0-BF, 80-9F, 90-BF, 80-8F
pub data Bounds : Type 0 where
  Any FromA0 To9F From90 To8F : Bounds

abbrev pub within : Bounds → ℕ → Bool
within Any c = between 128 191 c
within FromA0 c = between 160 191 c
within To9F c = between 128 159 c
within From90 c = between 144 191 c
within To8F c = between 128 143 c

-- what stands after the first byte of a character of several bytes: a byte within the bounds, and so many more of UTF8-tail
pub record Lead : Type 0 where
  pub bounds : Bounds
  pub more : ℕ

abbrev pub lead_of : Bounds → ℕ → Option Lead
lead_of bounds more = Some (record { bounds = bounds; more = more })

-- UTF8-2 / UTF8-3 / UTF8-4, by the first byte
unfoldable pub lead : ℕ → Option Lead
lead c =
    if between 194 223 c then lead_of Any 0 else  -- %xC2-DF UTF8-tail
    (if c == 224 then lead_of FromA0 1 else  -- %xE0 %xA0-BF UTF8-tail
    (if c == 237 then lead_of To9F 1 else  -- %xED %x80-9F UTF8-tail
    (if between 225 239 c then lead_of Any 1 else  -- %xE1-EC 2( UTF8-tail ) / %xEE-EF 2( UTF8-tail )
    (if c == 240 then lead_of From90 2 else  -- %xF0 %x90-BF 2( UTF8-tail )
    (if between 241 243 c then lead_of Any 2 else  -- %xF1-F3 3( UTF8-tail )
    (if c == 244 then lead_of To8F 2 else None))))))  -- %xF4 %x80-8F 2( UTF8-tail )

-- one byte within the bounds, then n of UTF8-tail
abbrev pub AreTail : Bounds → ℕ → List ℕ → Type 0
AreTail bounds zero x = (c : ℕ) × (x ≡ c ∷ []) × (within bounds c ≡ true)
AreTail bounds (suc n) x = (c : ℕ) × (y : List ℕ) × (x ≡ c ∷ y) × (within bounds c ≡ true) × AreTail Any n y

-- the part of unescaped that is one byte: %x20-21 / %x23-5B / %x5D-7F
abbrev pub is_plain : ℕ → Bool
is_plain c = between 32 33 c || (between 35 91 c || between 93 127 c)

-- what may stand after a backslash, but u: " \ / b f n r t
abbrev pub is_escape : ℕ → Bool
is_escape c = ((c == 34) || ((c == 92) || (c == 47))) || (((c == 98) || (c == 102)) || ((c == 110) || ((c == 114) || (c == 116))))

-- HEXDIG, of either case
abbrev pub is_hex : ℕ → Bool
is_hex c = is_digit c || (between 65 70 c || between 97 102 c)

-- n of HEXDIG
abbrev pub AreHex : ℕ → List ℕ → Type 0
AreHex zero x = x ≡ []
AreHex (suc n) x = (c : ℕ) × (y : List ℕ) × (x ≡ c ∷ y) × (is_hex c ≡ true) × AreHex n y

-- char = unescaped / escape ( %x22 / %x5C / .. / %x75 4HEXDIG ): unescaped of one byte or of several, a short escape or a long one
pub data CharKind : Type 0 where
  Plain Wide Short Long : CharKind

abbrev pub IsChar : CharKind → List ℕ → Type 0
IsChar Plain x = (c : ℕ) × (x ≡ c ∷ []) × (is_plain c ≡ true)
IsChar Wide x = (c : ℕ) × (y : List ℕ) × (l : Lead) × (x ≡ c ∷ y) × (lead c ≡ Some l) × AreTail l.bounds l.more y
IsChar Short x = (c : ℕ) × (x ≡ 92 ∷ (c ∷ [])) × (is_escape c ≡ true)
IsChar Long x = (y : List ℕ) × (x ≡ 92 ∷ (117 ∷ y)) × AreHex 4 y

-- characters of these kinds, and quotation-mark
abbrev pub EndsString : List CharKind → List ℕ → Type 0
EndsString [] x = x ≡ 34 ∷ []
EndsString (k ∷ ks) x = (y : List ℕ) × (z : List ℕ) × IsChar k y × (x ≡ y ++ z) × EndsString ks z

-- string = quotation-mark *char quotation-mark
abbrev pub IsString : List ℕ → Type 0
IsString x = (y : List ℕ) × (ks : List CharKind) × (x ≡ 34 ∷ y) × EndsString ks y

-- a character of several bytes that is begun and not ended
abbrev pub IsBegun : List ℕ → Type 0
IsBegun x = (rest : List ℕ) × IsChar Wide (x ++ rest) × (x ≢ []) × (rest ≢ [])
