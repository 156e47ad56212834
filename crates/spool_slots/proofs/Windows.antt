-- Parts of a part that was read.
use Rattle.std.proofs.Common.{◌≡◌, inl, inr, ℕ, ◌+◌, ◌-◌, ◌<◌, ◌≤◌, List, ◌++◌, length, take, drop, get_or, refl, sym, ◌∙◌, ap, arith, take-append-drop}
use lib.Seq.{paste}
use Rattle.std.specs.Prelude.{min}
use Rattle.std.proofs.lemmas.Bool.{cases_lt}
use Rattle.std.proofs.lemmas.List.{drop-take, take-take, drop-drop, length-drop}
use Rattle.std.proofs.lemmas.List.Edits.{take-paste}
use Rattle.foundation.specs.Bytes.{part}
use Rattle.foundation.proofs.Bytes.{get_or-part}

-- a part of a part
pub part-part : (at n i m : ℕ) (c : List ℕ) → i + m ≤ n → take m (drop i (part at n c)) ≡ part (at + i) m c
part-part at n i m c le =
    let split : n ≡ i + (n - i) = omega arith in
    ap (λ (k : ℕ). take m (drop i (take k (drop at c)))) split
    ∙ ap (take m) (drop-take i (n - i) (drop at c))
    ∙ take-take m (n - i) (drop i (drop at c)) (omega arith)
    ∙ ap (take m) (drop-drop i at c)

-- the rest of a part
pub drop-part : (p n k : ℕ) (c : List ℕ) → n ≤ k → drop n (part p k c) ≡ part (p + n) (k - n) c
drop-part p n k c le =
    let split : k ≡ n + (k - n) = omega arith in
    ap (λ (m : ℕ). drop n (take m (drop p c))) split ∙ drop-take n (k - n) (drop p c) ∙ ap (take (k - n)) (drop-drop n p c)

-- a part of two parts
pub part_split : (p n k q m : ℕ) (c : List ℕ) → q ≡ p + n → k ≡ n + m → part p k c ≡ part p n c ++ part q m c
part_split p n k q m c q_is k_is =
    let le : n ≤ k = omega arith in
    sym (take-append-drop n (part p k c))
    ∙ ap (λ (l : List ℕ). l ++ drop n (part p k c)) (take-take n k (drop p c) le)
    ∙ ap (λ (l : List ℕ). part p n c ++ l) (drop-part p n k c le)
    ∙ ap (λ (j : ℕ). part p n c ++ part j (k - n) c) (sym q_is)
    ∙ ap (λ (j : ℕ). part p n c ++ part q j c) (omega arith)

-- the same field of two parts that begin at one place
pub same_field : (p n k i m : ℕ) (c : List ℕ) → i + m ≤ n → i + m ≤ k → part i m (part p n c) ≡ part i m (part p k c)
same_field p n k i m c h l = part-part p n i m c h ∙ sym (part-part p k i m c l)

-- and their first byte
pub same_gate : (p n k : ℕ) (c : List ℕ) → 0 < n → 0 < k → get_or (part p n c) 0 0 ≡ get_or (part p k c) 0 0
same_gate p n k c some more = get_or-part p n c 0 p some (omega arith) ∙ sym (get_or-part p k c 0 p more (omega arith))

-- what is due past the end is due at the end
pub clipped : (at size from : ℕ) (c : List ℕ) → part (at + min from size) (at + size - (at + min from size)) c ≡ part (at + from) (size - from) c
clipped at size from c = elim (cases_lt from size) [
  | inl lt ↦
      let same : min from size ≡ from = omega arith in
      let left : at + size - (at + from) ≡ size - from = omega arith in
      ap (λ (n : ℕ). part (at + n) (at + size - (at + n)) c) same ∙ ap (λ (k : ℕ). part (at + from) k c) left
  | inr ge ↦
      let none : at + size - (at + min from size) ≡ 0 = omega arith in
      let nothing : size - from ≡ 0 = omega arith in
      ap (λ (k : ℕ). part (at + min from size) k c) none ∙ sym (ap (λ (k : ℕ). part (at + from) k c) nothing)
]

-- ---- the bytes of a window

pub window_part : (at from filled place n : ℕ) (bytes held c : List ℕ) → take filled bytes ≡ part (at + from) filled c → held ≡ bytes → from ≤ place → place + n ≤ from + filled
    → take (place - from + n - (place - from)) (drop (place - from) held) ≡ part (at + place) n c
window_part at from filled place n bytes held c is same begins ends =
    let i = place - from in
    let le : i + n ≤ filled = omega arith in
    let short : i + n - i ≡ n = omega arith in
    let here : at + from + i ≡ at + place = omega arith in
    let split : filled ≡ i + (filled - i) = omega arith in
    ap (λ (k : ℕ). take k (drop i held)) short
    ∙ ap (λ (l : List ℕ). take n (drop i l)) same
    ∙ sym (take-take n (filled - i) (drop i bytes) (omega arith))
    ∙ ap (take n) (sym (drop-take i (filled - i) bytes))
    ∙ ap (λ (k : ℕ). take n (drop i (take k bytes))) (sym split)
    ∙ ap (λ (l : List ℕ). take n (drop i l)) is
    ∙ part-part (at + from) filled i n c le
    ∙ ap (λ (k : ℕ). part k n c) here

slides : (at from filled next held : ℕ) (bytes c : List ℕ) → take filled bytes ≡ part (at + from) filled c → filled ≤ length bytes → from ≤ next → next + held ≡ from + filled
    → take held (paste bytes 0 (drop (filled - held) bytes) (filled - (filled - held))) ≡ part (at + next) held c
slides at from filled next held bytes c is room le ends =
    let i = filled - held in
    let n = filled - i in
    let place : next - from ≡ i = omega arith in
    ap (λ (k : ℕ). take k (paste bytes 0 (drop i bytes) n)) (omega arith)
    ∙ take-paste bytes 0 (drop i bytes) n (omega arith) (omega (arith, length-drop i bytes))
    ∙ ap (λ (k : ℕ). take k (drop i bytes)) (omega arith)
    ∙ ap (λ (j : ℕ). take (j + held - j) (drop j bytes)) (sym place)
    ∙ window_part at from filled next held bytes bytes c is refl le (omega arith)

-- the last bytes, moved to the front
pub window_slides : (at from filled next held : ℕ) (bytes c : List ℕ) → take filled bytes ≡ part (at + from) filled c → filled ≤ length bytes → (0 < held → from ≤ next) → (0 < held → next + held ≡ from + filled)
    → take held (paste bytes 0 (drop (filled - held) bytes) (filled - (filled - held))) ≡ part (at + next) held c
window_slides at from filled next held bytes c is room le ends = elim (cases_lt 0 held) [
  | inl some ↦ slides at from filled next held bytes c is room (le some) (ends some)
  | inr none ↦
      let zero : held ≡ 0 = omega arith in
      ap (λ (k : ℕ). take k (paste bytes 0 (drop (filled - held) bytes) (filled - (filled - held)))) zero ∙ sym (ap (λ (k : ℕ). part (at + next) k c) zero)
]

-- a window that was read on
pub window_more : (at from held end : ℕ) (old new c : List ℕ) → take held old ≡ part (at + from) held c → held ≤ end → take end new ≡ take held old ++ part (at + from + held) (end - held) c → take end new ≡ part (at + from) end c
window_more at from held end old new c is le read =
    read ∙ ap (λ (l : List ℕ). l ++ part (at + from + held) (end - held) c) is ∙ sym (part_split (at + from) held end (at + from + held) (end - held) c refl (omega arith))
