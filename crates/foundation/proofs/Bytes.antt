-- Parts of lists of bytes that a write leaves alone.
use Rattle.std.proofs.Common.{◌≡◌, ◌⊎◌, inl, inr, ℕ, suc, ◌+◌, ◌-◌, ◌<◌, ◌≤◌, List, ◌∷◌, length, take, get_or, refl, sym, ◌∙◌, ap, arith}
use Rattle.std.proofs.lemmas.Bool.{cases_lt}
use Rattle.std.proofs.lemmas.Grind.{common_steps}
use Rattle.std.proofs.lemmas.List.{ext_get_or, get_or-take, places}
use Rattle.foundation.specs.Bytes.{part, put, SameBut}

pub same_but_refl : (at n : ℕ) (b : List ℕ) → SameBut at n b b
same_but_refl at n b = record { len = refl; below = λ i h. refl; above = λ i h. refl }

-- a change within a change
pub same_but_then : (at n i m j k : ℕ) (a b c : List ℕ) → SameBut i m a b → SameBut j k b c → at ≤ i → i + m ≤ at + n → at ≤ j → j + k ≤ at + n → SameBut at n a c
same_but_then at n i m j k a b c p q h1 h2 h3 h4 = record {
  len = q.len ∙ p.len;
  below = λ x h. q.below x (omega arith) ∙ p.below x (omega arith);
  above = λ x h. q.above x (omega arith) ∙ p.above x (omega arith);
}

pub same_but_wider : (at n i m : ℕ) (a b : List ℕ) → SameBut i m a b → at ≤ i → i + m ≤ at + n → SameBut at n a b
same_but_wider at n i m a b p h1 h2 = record {
  len = p.len;
  below = λ x h. p.below x (omega arith);
  above = λ x h. p.above x (omega arith);
}

pub length-put : (at : ℕ) (piece b : List ℕ) → at + length piece ≤ length b → length (put at piece b) ≡ length b
length-put at piece b h = grind (arith, common_steps)

pub put_below : (at : ℕ) (piece b : List ℕ) (i : ℕ) → at + length piece ≤ length b → i < at → get_or (put at piece b) i 0 ≡ get_or b i 0
put_below at piece b i h lt = grind (arith, places)

pub put_above : (at : ℕ) (piece b : List ℕ) (i : ℕ) → at + length piece ≤ length b → at + length piece ≤ i → get_or (put at piece b) i 0 ≡ get_or b i 0
put_above at piece b i h le = grind (arith, places)

pub put_at : (at : ℕ) (piece b : List ℕ) (i k : ℕ) → at + length piece ≤ length b → i < length piece → k ≡ at + i → get_or (put at piece b) k 0 ≡ get_or piece i 0
put_at at piece b i k h lt is = grind (arith, places)

-- one piece whose head is put before the others
pub put_head : (at x : ℕ) (piece b : List ℕ) (i : ℕ) → at + length piece + 1 ≤ length b → at + 1 ≤ i → get_or (put at (x ∷ piece) b) i 0 ≡ get_or (put (at + 1) piece b) i 0
put_head at x piece b i h le = elim (cases_lt i (at + 1 + length piece)) [
  | inl lt ↦
      let j = i - (at + 1) in
      put_at at (x ∷ piece) b (suc j) i (omega arith) (omega arith) (omega arith) ∙ sym (put_at (at + 1) piece b j i (omega arith) (omega arith) (omega arith))
  | inr ge ↦
      put_above at (x ∷ piece) b i (omega arith) (omega arith) ∙ sym (put_above (at + 1) piece b i (omega arith) (omega arith))
]

pub get_or-part : (at n : ℕ) (b : List ℕ) (k i : ℕ) → k < n → i ≡ at + k → get_or (part at n b) k 0 ≡ get_or b i 0
get_or-part at n b k i lt is = grind (arith, places)

pub length-part : (at n : ℕ) (b : List ℕ) → at + n ≤ length b → length (part at n b) ≡ n
length-part at n b h = grind (arith, common_steps)

-- a part that a change doesn't meet
pub same_part : (at n i m : ℕ) (a b : List ℕ) → SameBut at n a b → (i + m ≤ at) ⊎ (at + n ≤ i) → i + m ≤ length a → part i m b ≡ part i m a
same_part at n i m a b same away room =
    ext_get_or 0 _ _ (length-part i m b (omega (arith, same.len)) ∙ sym (length-part i m a room)) (λ k lt.
    let lt : k < m = omega (arith, length-part i m b (omega (arith, same.len))) in
    get_or-part i m b k (i + k) lt refl
    ∙ elim away [ inl before ↦ same.below (i + k) (omega arith) | inr behind ↦ same.above (i + k) (omega arith) ]
    ∙ sym (get_or-part i m a k (i + k) lt refl))

-- the piece that was put
pub part_put : (at n : ℕ) (piece b : List ℕ) → at + length piece ≤ length b → n ≡ length piece → part at n (put at piece b) ≡ piece
part_put at n piece b room is =
    let long = length-part at n (put at piece b) (omega (arith, length-put at piece b room)) in
    ext_get_or 0 _ _ (long ∙ is) (λ k lt. get_or-part at n (put at piece b) k (at + k) (omega arith) refl ∙ put_at at piece b k (at + k) room (omega arith) refl)

-- a part without its first byte
pub part_rest : (at n x : ℕ) (piece b : List ℕ) → at + n + 1 ≤ length b → part at (n + 1) b ≡ x ∷ piece → part (at + 1) n b ≡ piece
part_rest at n x piece b room is =
    let long = length-part (at + 1) n b (omega arith) in
    let whole : n + 1 ≡ length piece + 1 = omega (arith, length-part at (n + 1) b (omega arith), ap length is) in
    ext_get_or 0 _ _ (omega arith) (λ k lt. get_or-part (at + 1) n b k (at + 1 + k) (omega arith) refl ∙ sym (get_or-part at (n + 1) b (suc k) (at + 1 + k) (omega arith) (omega arith)) ∙ ap (λ (l : List ℕ). get_or l (suc k) 0) is)

-- what is read after a write, of the whole piece or of its first part
pub put_same : (at n : ℕ) (piece b : List ℕ) → at + n ≤ length b → length piece ≤ n → SameBut at n b (put at piece b)
put_same at n piece b h le = record {
  len = length-put at piece b (omega arith);
  below = λ i lt. put_below at piece b i (omega arith) lt;
  above = λ i ge. put_above at piece b i (omega arith) (omega arith);
}

length-front : (at n k : ℕ) (b : List ℕ) → k ≤ n → at + n ≤ length b → length (take k (part at n b)) ≡ k
length-front at n k b le h = grind (arith, common_steps)

get_or-front : (at n k : ℕ) (b : List ℕ) (i : ℕ) → k ≤ n → i < k → get_or (take k (part at n b)) i 0 ≡ get_or b (at + i) 0
get_or-front at n k b i le lt = get_or-take k (part at n b) i 0 lt ∙ get_or-part at n b i (at + i) (omega arith) refl

-- the front of a part that a change doesn't meet
pub take-part : (at n k : ℕ) (b c : List ℕ) → k ≤ n → at + n ≤ length b → length c ≡ length b → ((i : ℕ) → i < at + k → get_or c i 0 ≡ get_or b i 0) → take k (part at n c) ≡ take k (part at n b)
take-part at n k b c le room same h =
    let lc = length-front at n k c le (omega arith) in
    let lb = length-front at n k b le room in
    ext_get_or 0 _ _ (lc ∙ sym lb) (λ i lt. get_or-front at n k c i le (omega arith) ∙ h (at + i) (omega arith) ∙ sym (get_or-front at n k b i le (omega arith)))

-- a part in which a piece was put
pub part-put_within : (at n k : ℕ) (piece b : List ℕ) → at + n ≤ length b → k + length piece ≤ n → part at n (put (at + k) piece b) ≡ put k piece (part at n b)
part-put_within at n k piece b room le =
    let l1 = length-put (at + k) piece b (omega arith) in
    let l2 = length-part at n (put (at + k) piece b) (omega arith) in
    let l3 = length-part at n b room in
    let l4 = length-put k piece (part at n b) (omega arith) in
    ext_get_or 0 _ _ (l2 ∙ sym l3 ∙ sym l4) (λ i lt. get_or-part at n (put (at + k) piece b) i (at + i) (omega arith) refl ∙ elim (cases_lt i k) [
      | inl below ↦ put_below (at + k) piece b (at + i) (omega arith) (omega arith) ∙ sym (get_or-part at n b i (at + i) (omega arith) refl) ∙ sym (put_below k piece (part at n b) i (omega arith) below)
      | inr ge ↦ elim (cases_lt i (k + length piece)) [
        | inl within ↦ put_at (at + k) piece b (i - k) (at + i) (omega arith) (omega arith) (omega arith) ∙ sym (put_at k piece (part at n b) (i - k) i (omega arith) (omega arith) (omega arith))
        | inr past ↦ put_above (at + k) piece b (at + i) (omega arith) (omega arith) ∙ sym (get_or-part at n b i (at + i) (omega arith) refl) ∙ sym (put_above k piece (part at n b) i (omega arith) past)
      ]
    ])
