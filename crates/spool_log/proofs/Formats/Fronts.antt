-- Writes after the first bytes of a device.
use Rattle.std.proofs.Common.{◌≡◌, ◌≢◌, inl, inr, ℕ, ◌+◌, ◌<◌, ◌≤◌, List, [], ◌∷◌, ◌++◌, length, get_or, refl, sym, ◌∙◌, ap, arith}
use Rattle.std.specs.Int.{to_be_bytes}
use mir.Syntax.{w32, w64}
use Rattle.std.proofs.lemmas.Bool.{cases_lt}
use Rattle.std.proofs.lemmas.List.{get_or_past}
use Rattle.std.proofs.lemmas.Nat.{row_fits}
use Rattle.foundation.specs.Bytes.{part, put, SameBut}
use Rattle.foundation.proofs.Bytes.{same_part, part_put, put_same, length-put, put_at, put_below}
use Rattle.edge_disk.specs.Disk.{Moment, IsLawful, IsTorn, LeavesOnly}
use Rattle.edge_disk.specs.Gate.{ComesFrom}
use Rattle.edge_disk.proofs.Moments.{started, torn_more, both}
use Rattle.spool_state.specs.Segment.{head_text}
use Rattle.spool_state.specs.Cells.{content_text, cell_text}
use Rattle.spool_state.specs.Image.{slot_at}
use Rattle.spool_state.specs.Empty.{IsFront}
use Rattle.spool_log.specs.Making.Format.{KeepsFront}

pub keeps_refl : (n : ℕ) (b : List ℕ) → KeepsFront n b b
keeps_refl n b = record { len = refl; front = λ i lt. refl }

pub keeps_then : (n : ℕ) (a b c : List ℕ) → KeepsFront n a b → KeepsFront n b c → KeepsFront n a c
keeps_then n a b c p q = record { len = q.len ∙ p.len; front = λ i lt. q.front i lt ∙ p.front i lt }

pub keeps_less : (n k : ℕ) (a b : List ℕ) → k ≤ n → KeepsFront n a b → KeepsFront k a b
keeps_less n k a b le p = record { len = p.len; front = λ i lt. p.front i (omega arith) }

-- a change after them
pub keeps_change : (n at m : ℕ) (a b : List ℕ) → n ≤ at → SameBut at m a b → KeepsFront n a b
keeps_change n at m a b le same = record { len = same.len; front = λ i lt. same.below i (omega arith) }

-- what lies in them stays
pub kept_part : (n i m : ℕ) (a b : List ℕ) → KeepsFront n a b → i + m ≤ n → n ≤ length a → part i m b ≡ part i m a
kept_part n i m a b keeps le room =
    same_part n (length a) i m a b (record { len = keeps.len; below = keeps.front; above = λ k ge. get_or_past b k 0 (omega (arith, keeps.len)) ∙ sym (get_or_past a k 0 (omega arith)) }) (inl le) (omega arith)

-- ---- the images

abbrev P : Moment → List ℕ → Type 0
P m = ComesFrom m (KeepsFront 8)

pub come_start : (m : Moment) → IsLawful m → LeavesOnly (P m) m m
come_start m lawful = started (P m) m lawful (λ c i. (c, i, keeps_refl 8 c))

-- one write more
pub come_more : (m mid new : Moment) (at n : ℕ) → 8 ≤ at → LeavesOnly (P m) m mid → IsTorn at n mid new → LeavesOnly (P m) m new
come_more m mid new at n le run write = torn_more (P m) m mid new at n run write (λ d c from same. (from.0, from.1, keeps_then 8 from.0 d c from.2 (keeps_change 8 at n d c le same)))

-- other writes after some
pub come_then : (m mid new : Moment) → LeavesOnly (P m) m mid → LeavesOnly (P mid) mid new → LeavesOnly (P m) m new
come_then m mid new first second = both (P m) (P mid) (P m) m mid new first second (λ c p. p) (λ c from.
    let before = first.now from.0 from.1 in (before.0, before.1, keeps_then 8 before.0 from.0 c before.2 from.2))

-- ---- what is written

-- the numbers, the cells and the first slot
pub front_written : (slots size : ℕ) (b numbers cell head : List ℕ) → 16384 ≤ length b → numbers ≡ to_be_bytes w32 slots ++ to_be_bytes w64 size → cell ≡ cell_text 1 (content_text 0 0 []) → head ≡ head_text 1 0 ++ 0 ∷ []
    → length numbers ≡ 12 → length cell ≡ 32 → length head ≡ 18 → IsFront slots size (put 12288 head (put 8192 (0 ∷ []) (put 4096 cell (put 8 numbers b))))
front_written slots size b numbers cell head room numbers_is cell_is head_is ln lc lh =
    let one = put 8 numbers b in
    let two = put 4096 cell one in
    let three = put 8192 (0 ∷ []) two in
    let four = put 12288 head three in
    let l1 : length one ≡ length b = length-put 8 numbers b (omega arith) in
    let l2 : length two ≡ length one = length-put 4096 cell one (omega arith) in
    let l3 : length three ≡ length two = length-put 8192 (0 ∷ []) two (omega arith) in
    let s2 : SameBut 4096 32 one two = put_same 4096 32 cell one (omega arith) (omega arith) in
    let s3 : SameBut 8192 1 two three = put_same 8192 1 (0 ∷ []) two (omega arith) (omega arith) in
    let s4 : SameBut 12288 18 three four = put_same 12288 18 head three (omega arith) (omega arith) in
    record {
      numbers = same_part 12288 18 8 12 three four s4 (inl (omega arith)) (omega arith) ∙ same_part 8192 1 8 12 two three s3 (inl (omega arith)) (omega arith) ∙ same_part 4096 32 8 12 one two s2 (inl (omega arith)) (omega arith)
          ∙ part_put 8 12 numbers b (omega arith) (sym ln) ∙ numbers_is;
      cell = same_part 12288 18 4096 32 three four s4 (inl (omega arith)) (omega arith) ∙ same_part 8192 1 4096 32 two three s3 (inl (omega arith)) (omega arith) ∙ part_put 4096 32 cell one (omega arith) (sym lc) ∙ cell_is;
      other = λ is.
          let zero_there : get_or four 8192 0 ≡ 0 = s4.below 8192 (omega arith) ∙ put_at 8192 (0 ∷ []) two 0 8192 (omega arith) (omega arith) (omega arith) in
          absurd (omega (arith, zero_there, is));
      slot = part_put 12288 18 head three (omega arith) (sym lh) ∙ head_is;
    }

-- and the other slots closed after them
pub front_kept : (slots size : ℕ) (a b : List ℕ) → 16384 ≤ length a → 4096 ≤ size → KeepsFront (slot_at size 1) a b → slot_at size 1 ≤ length a → IsFront slots size a → IsFront slots size b
front_kept slots size a b room large keeps fits front = record {
  numbers = kept_part (slot_at size 1) 8 12 a b keeps (omega arith) fits ∙ front.numbers;
  cell = kept_part (slot_at size 1) 4096 32 a b keeps (omega arith) fits ∙ front.cell;
  other = λ one. front.other (sym (keeps.front 8192 (omega arith)) ∙ one);
  slot = kept_part (slot_at size 1) 12288 18 a b keeps (omega arith) fits ∙ front.slot;
}

same_place : (k place : ℕ) → place ≤ k → k < place + 1 → k ≡ place
same_place k place ge lt = omega arith

plus_zero : (n : ℕ) → n + 0 ≡ n
plus_zero n = omega arith

-- one slot more closed
pub closed_more : (size place : ℕ) (b c : List ℕ) → 0 < size → slot_at size place < length b → c ≡ put (slot_at size place) (0 ∷ []) b → ((k : ℕ) → 1 ≤ k → k < place → get_or b (slot_at size k) 0 ≢ 1)
    → (k : ℕ) → 1 ≤ k → k < place + 1 → get_or c (slot_at size k) 0 ≢ 1
closed_more size place b c some room is before k ge lt = elim (cases_lt k place) [
  | inl less ↦ λ one. before k ge less (sym (put_below (slot_at size place) (0 ∷ []) b (slot_at size k) (omega arith) (omega (arith, row_fits k size place size less (omega arith)))) ∙ ap (λ (l : List ℕ). get_or l (slot_at size k) 0) (sym is) ∙ one)
  | inr same ↦ λ one.
      let here : slot_at size k ≡ slot_at size place + 0 = ap (λ (n : ℕ). slot_at size n) (same_place k place same lt) ∙ sym (plus_zero (slot_at size place)) in
      let closed : get_or (put (slot_at size place) (0 ∷ []) b) (slot_at size k) 0 ≡ 0 = put_at (slot_at size place) (0 ∷ []) b 0 (slot_at size k) (omega arith) (omega arith) here in
      absurd (omega (arith, closed, ap (λ (l : List ℕ). get_or l (slot_at size k) 0) (sym is) ∙ one))
]
