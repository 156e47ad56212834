-- Ranges of two lists of bytes joined.
use Rattle.std.proofs.Common.{◌≡◌, ℕ, ◌+◌, ◌-◌, ◌≤◌, List, ◌++◌, length, take, drop, refl, sym, ◌∙◌, ap, arith, append_assoc, length-drop}
use Rattle.std.proofs.Math.Seq.{drop-append-add, take-append-add, take-add}
use Rattle.std.proofs.lemmas.List.{drop-append-le}

-- a range that lies in the second one
pub range_back : (a b : List ℕ) (from to : ℕ) → length a ≤ from → from ≤ to → take (to - length a - (from - length a)) (drop (from - length a) b) ≡ take (to - from) (drop from (a ++ b))
range_back a b from to m n =
    let e : length a + (from - length a) ≡ from = omega arith in
    let d : drop from (a ++ b) ≡ drop (from - length a) b = ap (λ k. drop k (a ++ b)) (sym e) ∙ drop-append-add a b (from - length a) in
    let f : to - length a - (from - length a) ≡ to - from = omega arith in
    rw (f, d) refl

-- one that begins in the first and ends in the second
pub range_over : (a b : List ℕ) (from to : ℕ) → from ≤ length a → length a ≤ to → drop from a ++ take (to - length a) b ≡ take (to - from) (drop from (a ++ b))
range_over a b from to m n =
    let d : drop from (a ++ b) ≡ drop from a ++ b = drop-append-le from a b m in
    let f : length (drop from a) + (to - length a) ≡ to - from = omega (arith, length-drop from a) in
    sym (ap (take (to - from)) d ∙ ap (λ k. take k (drop from a ++ b)) (sym f) ∙ take-append-add (drop from a) b (to - length a))

-- what was read of a piece after what was held, with more of the piece
pub join_more : (held piece spelt rest more : List ℕ) (i n : ℕ) → held ++ take i piece ≡ spelt ++ rest → take n (drop i piece) ≡ more → held ++ take (i + n) piece ≡ spelt ++ (rest ++ more)
join_more held piece spelt rest more i n joined is = ap (λ v. held ++ v) (take-add i n piece ∙ ap (λ v. take i piece ++ v) is) ∙ sym (append_assoc held (take i piece) more) ∙ ap (λ v. v ++ more) joined ∙ append_assoc spelt rest more
