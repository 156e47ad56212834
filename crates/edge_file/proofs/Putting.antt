-- Pieces that are put over bytes, one after another.
use Rattle.std.proofs.Common.{◌≡◌, inl, inr, ℕ, ◌+◌, ◌-◌, ◌<◌, ◌≤◌, List, [], ◌++◌, length, length-append, take, drop, get_or, sym, ◌∙◌, ap, subst, arith}
use Rattle.std.proofs.lemmas.Bool.{cases_lt}
use Rattle.std.proofs.lemmas.Grind.{common_steps}
use Rattle.std.proofs.lemmas.List.{ext_get_or, places, take-append-drop}
use Rattle.foundation.specs.Bytes.{put, SameBut}
use Rattle.foundation.proofs.Bytes.{length-put, put_below, put_above, put_at, put_same, same_but_then}

-- no byte
pub put_none : (at : ℕ) (b : List ℕ) → put at [] b ≡ b
put_none at b = grind (arith, common_steps)

-- one piece, and another where it ends
pub put_append : (at : ℕ) (x y b : List ℕ) → at + length x + length y ≤ length b → put (at + length x) y (put at x b) ≡ put at (x ++ y) b
put_append at x y b room =
    let l1 = length-put at x b (omega arith) in
    let l2 = length-put (at + length x) y (put at x b) (omega arith) in
    let lxy : length (x ++ y) ≡ length x + length y = grind (arith, common_steps) in
    let l3 = length-put at (x ++ y) b (omega arith) in
    ext_get_or 0 _ _ (l2 ∙ l1 ∙ sym l3) (λ i lt. elim (cases_lt i (at + length x)) [
      | inl before ↦
          put_below (at + length x) y (put at x b) i (omega arith) before ∙ elim (cases_lt i at) [
            | inl below ↦ put_below at x b i (omega arith) below ∙ sym (put_below at (x ++ y) b i (omega arith) below)
            | inr ge ↦ put_at at x b (i - at) i (omega arith) (omega arith) (omega arith) ∙ sym (put_at at (x ++ y) b (i - at) i (omega arith) (omega arith) (omega arith) ∙ grind (arith, places))
          ]
      | inr ge ↦ elim (cases_lt i (at + length x + length y)) [
        | inl within ↦
            put_at (at + length x) y (put at x b) (i - (at + length x)) i (omega arith) (omega arith) (omega arith)
            ∙ sym (put_at at (x ++ y) b (i - at) i (omega arith) (omega arith) (omega arith) ∙ grind (arith, places))
        | inr past ↦
            put_above (at + length x) y (put at x b) i (omega arith) (omega arith) ∙ put_above at x b i (omega arith) (omega arith) ∙ sym (put_above at (x ++ y) b i (omega arith) (omega arith))
      ]
    ])

-- over a range that a write has torn
pub put_torn : (at : ℕ) (piece a b : List ℕ) → at + length piece ≤ length a → SameBut at (length piece) a b → put at piece b ≡ put at piece a
put_torn at piece a b room same =
    let l1 = length-put at piece a room in
    let l2 = length-put at piece b (omega (arith, same.len)) in
    ext_get_or 0 _ _ (l2 ∙ same.len ∙ sym l1) (λ i lt. elim (cases_lt i at) [
      | inl below ↦ put_below at piece b i (omega (arith, same.len)) below ∙ same.below i below ∙ sym (put_below at piece a i room below)
      | inr ge ↦ elim (cases_lt i (at + length piece)) [
        | inl within ↦ put_at at piece b (i - at) i (omega (arith, same.len)) (omega arith) (omega arith) ∙ sym (put_at at piece a (i - at) i room (omega arith) (omega arith))
        | inr past ↦ put_above at piece b i (omega (arith, same.len)) past ∙ same.above i past ∙ sym (put_above at piece a i room past)
      ]
    ])

-- A write has torn the range of a piece and what comes behind it, and the piece is put over that again.
pub torn_behind : (at n : ℕ) (piece a b : List ℕ) → at + length piece ≤ length a → SameBut at (length piece + n) a b → SameBut (at + length piece) n (put at piece a) (put at piece b)
torn_behind at n piece a b room same =
    let roomb : at + length piece ≤ length b = omega (arith, same.len) in
    record {
      len = length-put at piece b roomb ∙ same.len ∙ sym (length-put at piece a room);
      below = λ i lt. elim (cases_lt i at) [
        | inl below ↦ put_below at piece b i roomb below ∙ same.below i below ∙ sym (put_below at piece a i room below)
        | inr ge ↦ put_at at piece b (i - at) i roomb (omega arith) (omega arith) ∙ sym (put_at at piece a (i - at) i room (omega arith) (omega arith))
      ];
      above = λ i ge. put_above at piece b i roomb (omega arith) ∙ same.above i (omega arith) ∙ sym (put_above at piece a i room (omega arith));
    }

-- a piece in two parts
pub put_parts : (at : ℕ) (front back piece b : List ℕ) → front ++ back ≡ piece → at + length piece ≤ length b → put (at + length front) back (put at front b) ≡ put at piece b
put_parts at front back piece b is room =
    let long : length front + length back ≡ length piece = omega (arith, length-append front back, ap length is) in
    put_append at front back b (omega arith) ∙ ap (λ whole. put at whole b) is

-- an empty piece
pub put_empty : (at : ℕ) (piece b : List ℕ) → piece ≡ [] → put at piece b ≡ b
put_empty at piece b none = ap (λ p. put at p b) none ∙ put_none at b

-- the same of equal lists
pub same_but_along : (at n : ℕ) (a b a' b' : List ℕ) → a' ≡ a → b' ≡ b → SameBut at n a b → SameBut at n a' b'
same_but_along at n a b a' b' ea eb same = subst (λ x. SameBut at n x b') (sym ea) (subst (λ y. SameBut at n a y) (sym eb) same)

-- a piece in two parts, the first of n bytes
pub put_cut : (at n : ℕ) (piece b : List ℕ) → n ≤ length piece → at + length piece ≤ length b → put (at + n) (drop n piece) (put at (take n piece) b) ≡ put at piece b
put_cut at n piece b le room =
    let long : length (take n piece) ≡ n = grind (arith, common_steps) in
    let whole : take n piece ++ drop n piece ≡ piece = take-append-drop n piece in
    ap (λ m. put (at + m) (drop n piece) (put at (take n piece) b)) (sym long) ∙ put_parts at (take n piece) (drop n piece) piece b whole room
