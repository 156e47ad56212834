-- The texts of a load are short, and as many as there are events.
use Rattle.std.proofs.Common.{◌≡◌, ℕ, zero, suc, ◌+◌, ◌<◌, ◌≤◌, ◌^◌, List, [], ◌∷◌, ◌++◌, length, refl, ap, arith, length-append}
use Rattle.std.specs.Prelude.{codes, Result, Ok, Err, IfOk}
use Rattle.std.specs.Fmt.{decimal}
use Rattle.std.proofs.lemmas.Fmt.{length-decimal-le}
use Rattle.load_run.specs.Events.{next_number, load_text, load_texts}

-- each of the texts has at most 21 bytes
abbrev pub AreShort : List (List ℕ) → Type 0
AreShort [] = Unit {0}
AreShort (text ∷ texts) = (length text ≤ 21) × AreShort texts

pub next_low : (x : ℕ) → next_number x < 2147483648
next_low x = omega arith

pub load_text_short : (place x : ℕ) → place < 100000 → x < 2147483648 → length (load_text place x) ≤ 21
load_text_short place x low small =
    omega (
      arith,
      length-append (codes "load ") (decimal place ++ (codes " " ++ decimal x)),
      length-append (decimal place) (codes " " ++ decimal x),
      length-append (codes " ") (decimal x),
      length-decimal-le 5 place (omega arith) (omega arith) (omega arith),
      length-decimal-le 10 x (omega arith) (omega arith) (omega arith),
    )

pub load_text_limit : (place x : ℕ) → place < 2 ^ 32 → x < 2 ^ 32 → length (load_text place x) ≤ 131072
load_text_limit place x low small =
    omega (
      arith,
      length-append (codes "load ") (decimal place ++ (codes " " ++ decimal x)),
      length-append (decimal place) (codes " " ++ decimal x),
      length-append (codes " ") (decimal x),
      length-decimal-le 10 place (omega arith) (omega arith) (omega arith),
      length-decimal-le 10 x (omega arith) (omega arith) (omega arith),
    )

pub limit_of : {T E : Type 0} (view : T → List ℕ) (r : Result T E) (place x : ℕ) → place < 2 ^ 32 → x < 2 ^ 32 → IfOk r (λ text. view text ≡ load_text place x) → IfOk r (λ text. length (view text) ≤ 131072)
limit_of view (Ok text) place x low small is = omega (arith, ap length is, load_text_limit place x low small)
limit_of view (Err e) place x low small is = tt

pub texts_short : (place x n : ℕ) → place + n ≤ 100000 → AreShort (load_texts place x n)
texts_short place x zero few = tt
texts_short place x (suc n) few = (load_text_short place (next_number x) (omega arith) (next_low x), texts_short (place + 1) (next_number x) n (omega arith))

pub length-texts : (place x n : ℕ) → length (load_texts place x n) ≡ n
length-texts place x zero = refl
length-texts place x (suc n) = ap suc (length-texts (place + 1) (next_number x) n)
