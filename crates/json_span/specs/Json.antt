-- JSON texts: RFC 8259, sections 2 to 5. A value's own text has no white space round it.
use Rattle.std.specs.Prelude.{◌≡◌, ℕ, zero, suc, ◌⊎◌, Bool, true, ◌==◌, ◌||◌, List, [], ◌∷◌, ◌++◌}
use Rattle.std.specs.List.{AllByRecursion}
use Rattle.json_span.specs.Numbers.{IsNumber}
use Rattle.json_span.specs.Strings.{IsString}

-- ws = *( %x20 / %x09 / %x0A / %x0D )
abbrev pub is_space : ℕ → Bool
is_space c = ((c == 32) || (c == 9)) || ((c == 10) || (c == 13))

abbrev pub AreSpaces : List ℕ → Type 0
AreSpaces w = AllByRecursion (λ c. is_space c ≡ true) w

-- white space, and then what P says
abbrev pub Spaced : (List ℕ → Type 0) → List ℕ → Type 0
Spaced P x = (w : List ℕ) × (y : List ℕ) × AreSpaces w × (x ≡ w ++ y) × P y

-- the byte c, and then what P says
abbrev pub Byte : ℕ → (List ℕ → Type 0) → List ℕ → Type 0
Byte c P x = (y : List ℕ) × (x ≡ c ∷ y) × P y

-- what P says, and then what Q says
abbrev pub Then : (List ℕ → Type 0) → (List ℕ → Type 0) → List ℕ → Type 0
Then P Q x = (y : List ℕ) × (z : List ℕ) × P y × (x ≡ y ++ z) × Q z

abbrev pub IsEmpty : List ℕ → Type 0
IsEmpty x = x ≡ []

-- false / true / null
abbrev pub IsLiteral : List ℕ → Type 0
IsLiteral x = (x ≡ 116 ∷ (114 ∷ (117 ∷ (101 ∷ [])))) ⊎ ((x ≡ 102 ∷ (97 ∷ (108 ∷ (115 ∷ (101 ∷ []))))) ⊎ (x ≡ 110 ∷ (117 ∷ (108 ∷ (108 ∷ [])))))

-- the values with no value in them: string / number / false / true / null
abbrev pub IsScalar : List ℕ → Type 0
IsScalar x = IsString x ⊎ (IsNumber x ⊎ IsLiteral x)

-- n of ( value-separator item ), and the closing bracket: ws %x2C ws, ws %x5D or ws %x7D
abbrev pub Further : (List ℕ → Type 0) → ℕ → ℕ → List ℕ → Type 0
Further Item close zero x = Spaced (Byte close IsEmpty) x
Further Item close (suc n) x = Spaced (Byte 44 (Spaced (Then Item (Further Item close n)))) x

-- *( value-separator item ) and the closing bracket
abbrev pub Items : (List ℕ → Type 0) → ℕ → List ℕ → Type 0
Items Item close x = (n : ℕ) × Further Item close n x

-- the opening bracket, [ item *( value-separator item ) ], and the closing bracket
abbrev pub IsGroup : ℕ → ℕ → (List ℕ → Type 0) → List ℕ → Type 0
IsGroup opening close Item x = Byte opening (Spaced (λ y. Byte close IsEmpty y ⊎ Then Item (Items Item close) y)) x

-- member = string name-separator value, name-separator = ws %x3A ws
abbrev pub IsMember : (List ℕ → Type 0) → List ℕ → Type 0
IsMember Value x = Then IsString (Spaced (Byte 58 (Spaced Value))) x

-- array = begin-array [ value *( value-separator value ) ] end-array
abbrev pub IsArray : (List ℕ → Type 0) → List ℕ → Type 0
IsArray Value x = IsGroup 91 93 Value x

-- object = begin-object [ member *( value-separator member ) ] end-object
abbrev pub IsObject : (List ℕ → Type 0) → List ℕ → Type 0
IsObject Value x = IsGroup 123 125 (IsMember Value) x

-- a value of at most so many levels: a level is an array or an object, with what stands in it
abbrev pub Json : ℕ → List ℕ → Type 0
Json zero x = IsScalar x
Json (suc levels) x = IsScalar x ⊎ (IsArray (Json levels) x ⊎ IsObject (Json levels) x)

-- an object of at most so many levels
abbrev pub JsonObject : ℕ → List ℕ → Type 0
JsonObject zero x = ⊥
JsonObject (suc levels) x = IsObject (Json levels) x
