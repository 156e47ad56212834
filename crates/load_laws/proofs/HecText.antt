-- The text of a load in an event object: its bytes stand for themselves, and it is one event of a body.
use Rattle.std.proofs.Common.{◌≡◌, ℕ, zero, suc, ◌<◌, ◌≤◌, ◌^◌, List, [], ◌∷◌, ◌++◌, refl, ◌∙◌, ap, arith}
use Rattle.std.specs.Prelude.{codes, flat_map}
use Rattle.std.specs.Fmt.{decimal}
use Rattle.std.specs.Str.{IsAscii}
use Rattle.std.specs.Str.Lossy.{utf8_lossy}
use Rattle.std.specs.Str.Parse.{AllDigits}
use Rattle.std.proofs.lemmas.Fmt.{decimal_is_IsNumeral}
use Rattle.std.proofs.lemmas.Str.{IsUtf8-from_ascii, utf8_lossy-IsUtf8}
use Rattle.std.proofs.lemmas.Str.Parse.{digit_from_value}
use Rattle.json.specs.Print.{escape_byte}
use Rattle.json.proofs.Printed.Strings.{escape_byte_plain}
use Rattle.event_map.specs.Objects.{event_object}
use Rattle.event_map.specs.Strings.{event_string, string_of}

-- ---- bytes that stand for themselves

-- a space, or a visible byte of ASCII but the quotation mark and the backslash
pub record IsClear (c : ℕ) : Type 0 where
  pub low : 32 ≤ c
  pub high : c < 127
  pub mark : c ≡ 34 → ⊥
  pub slash : c ≡ 92 → ⊥

abbrev pub AreClear : List ℕ → Type 0
AreClear [] = Unit {0}
AreClear (c ∷ cs) = IsClear c × AreClear cs

pub clear_then : (xs ys : List ℕ) → AreClear xs → AreClear ys → AreClear (xs ++ ys)
clear_then [] ys clear more = more
clear_then (x ∷ xs) ys clear more = (clear.0, clear_then xs ys clear.1 more)

digit_clear : (c : ℕ) → 48 ≤ c → c ≤ 57 → IsClear c
digit_clear c low high = record { low = omega (arith, low); high = omega (arith, high); mark = λ is. omega (arith, is, low); slash = λ is. omega (arith, is, high) }

pub letter_clear : (c : ℕ) → 93 ≤ c → c ≤ 122 → IsClear c
letter_clear c low high = record { low = omega (arith, low); high = omega (arith, high); mark = λ is. omega (arith, is, low); slash = λ is. omega (arith, is, low) }

space_clear : IsClear 32
space_clear = record { low = omega arith; high = omega arith; mark = λ is. omega (arith, is); slash = λ is. omega (arith, is) }

digits_clear : (ds : List ℕ) → AllDigits 10 ds → AreClear ds
digits_clear [] all = tt
digits_clear (d ∷ ds) all = let k = digit_from_value d all.0 in (digit_clear d k.0 k.1, digits_clear ds all.1)

pub decimal_clear : (n : ℕ) → n < 2 ^ 64 → AreClear (decimal n)
decimal_clear n few = digits_clear (decimal n) (decimal_is_IsNumeral n few).0.1

-- the text of a load is of such bytes
abbrev word : List ℕ
word = codes "load "

word_clear : AreClear (codes "load ")
word_clear =
    let letter : (c : ℕ) → 93 ≤ c → c ≤ 122 → IsClear c = letter_clear in
    (letter 108 (omega arith) (omega arith), (letter 111 (omega arith) (omega arith), (letter 97 (omega arith) (omega arith), (letter 100 (omega arith) (omega arith), (space_clear, tt)))))

pub text_clear : (place x : ℕ) → place < 2 ^ 64 → x < 2 ^ 64 → AreClear (codes "load " ++ (decimal place ++ (codes " " ++ decimal x)))
text_clear place x low few =
    clear_then (codes "load ") (decimal place ++ (codes " " ++ decimal x)) word_clear
    (clear_then (decimal place) (codes " " ++ decimal x) (decimal_clear place low) (clear_then (codes " ") (decimal x) (space_clear, tt) (decimal_clear x few)))

-- ---- as a JSON string

clear_ascii : (cs : List ℕ) → AreClear cs → IsAscii cs
clear_ascii [] clear i = omega arith
clear_ascii (c ∷ cs) clear zero = omega (arith, clear.0.high)
clear_ascii (c ∷ cs) clear (suc i) = clear_ascii cs clear.1 i

same_text : (cs : List ℕ) → AreClear cs → utf8_lossy cs ≡ cs
same_text cs clear = utf8_lossy-IsUtf8 cs (IsUtf8-from_ascii cs (clear_ascii cs clear))

same_escaped : (cs : List ℕ) → AreClear cs → flat_map escape_byte cs ≡ cs
same_escaped [] clear = refl
same_escaped (c ∷ cs) clear = λ i. escape_byte_plain c clear.0.mark clear.0.slash clear.0.low i ++ same_escaped cs clear.1 i

pub string_clear : (cs : List ℕ) → AreClear cs → string_of cs ≡ 34 ∷ (cs ++ 34 ∷ [])
string_clear cs clear = ap (λ (l : List ℕ). 34 ∷ (flat_map escape_byte l ++ 34 ∷ [])) (same_text cs clear) ∙ ap (λ (l : List ℕ). 34 ∷ (l ++ 34 ∷ [])) (same_escaped cs clear)

pub object_clear : (c : ℕ) (cs : List ℕ) → AreClear (c ∷ cs) → event_object (event_string (c ∷ cs)) ≡ codes "{\"event\":" ++ ((34 ∷ ((c ∷ cs) ++ 34 ∷ [])) ++ codes "}")
object_clear c cs clear = ap (λ (l : List ℕ). codes "{\"event\":" ++ (l ++ codes "}")) (string_clear (c ∷ cs) clear)
