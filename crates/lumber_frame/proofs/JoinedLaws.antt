-- Ranges of two lists joined.
use Rattle.std.proofs.Common.{◌≡◌, ℕ, ◌+◌, ◌-◌, ◌≤◌, ◌∙◌, List, ◌++◌, length, take, drop, get_or, sym, ap, arith}
use Rattle.std.proofs.lemmas.List.{drop-drop, drop-take, drop_at, take_at, get_or-take, get_or-drop}

-- the first byte of a range of one
pub first_of_range : (xs b : List ℕ) (from : ℕ) → b ≡ take (from + 1 - from) (drop from xs) → get_or xs from 0 ≡ get_or b 0 0
first_of_range xs b from w =
    let e : from + 1 - from ≡ 1 = omega arith in
    let z : from + 0 ≡ from = omega arith in
    sym (ap (λ v. get_or v 0 0) (w ∙ ap (λ k. take k (drop from xs)) e) ∙ get_or-take 1 (drop from xs) 0 0 (omega arith) ∙ get_or-drop from xs 0 0 ∙ ap (λ k. get_or xs k 0) z)

-- what stands ten bytes and more after the beginning of a range
pub range_behind : (xs : List ℕ) (begin end : ℕ) → 10 ≤ end - begin → drop 10 (take (end - begin) (drop begin xs)) ≡ take (end - (begin + 10)) (drop (begin + 10) xs)
range_behind xs begin end l =
    let e : end - begin ≡ 10 + (end - (begin + 10)) = omega arith in
    ap (λ k. drop 10 (take k (drop begin xs))) e ∙ drop-take 10 (end - (begin + 10)) (drop begin xs) ∙ ap (take (end - (begin + 10))) (drop-drop 10 begin xs)

-- a range between two others
pub range_middle : (a b c xs : List ℕ) (from to : ℕ) → xs ≡ a ++ (b ++ c) → length a ≡ from → from + length b ≡ to → b ≡ take (to - from) (drop from xs)
range_middle a b c xs from to w l m =
    let d : drop from xs ≡ b ++ c = ap (drop from) w ∙ drop_at a (b ++ c) from l in
    sym (ap (take (to - from)) d ∙ take_at b c (to - from) (omega (arith, m)))
