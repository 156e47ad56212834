-- Where the fields of a cell stand.
use Rattle.std.proofs.Common.{◌≡◌, ℕ, ◌+◌, ◌*◌, ◌^◌, ◌<◌, ◌≤◌, Bool, List, [], ◌∷◌, ◌++◌, length, take, drop, get_or, refl, sym, ◌∙◌, ap, arith, length-append}
use Rattle.std.specs.Prelude.{All, if◌then◌else◌}
use Rattle.std.proofs.lemmas.Bool.{eq-eqb, ne_eqb}
use Rattle.std.proofs.lemmas.List.{ext_get_or, get_or_append_left, get_or-append-add, take-take, drop-take, drop-drop, take_at, drop_at}
use Rattle.std.proofs.lemmas.List.Elements.{All-head, All-tail}
use Rattle.std.proofs.lemmas.Nat.{from_be_bytes-to_be_bytes_2, from_be_bytes-to_be_bytes_4, from_be_bytes-to_be_bytes_8}
use Rattle.std.proofs.lemmas.Grind.{common_steps}
use Rattle.std.proofs.Math.Seq.{take-add}
use Rattle.std.specs.Int.{to_be_bytes, from_be_bytes}
use mir.Syntax.{w16, w32, w64}
use Rattle.foundation.specs.Bytes.{part}
use Rattle.foundation.proofs.Bytes.{length-part, get_or-part}
use Rattle.known_numbers.specs.declared.stretch.Stretch.{Stretch}
use Rattle.spool_state.specs.Cells.{stretch_text, stretches_text, known_text, content_text, content_text_1, body_text, cell_text, fields_text, number_at, ordinal_at, length_at, version_at, run_at, cursor_at, count_at, stretches_at, known_at}

-- ---- parts of parts

reaches : (at n k : ℕ) (c : List ℕ) → k ≤ length (part at n c) → 0 < k → at + k ≤ length c
reaches at n k c h some = grind (arith, common_steps)

-- a part of a part
pub part_inside : (at n from k : ℕ) (a b rest c : List ℕ) → part at n c ≡ (a ++ b) ++ rest → from ≡ at + length a → k ≡ length b → 0 < k → length a + k ≤ n → part from k c ≡ b
part_inside at n from k a b rest c is from_is k_is some le =
    let whole : length a + length b ≤ length (part at n c) = omega (arith, ap length is, length-append (a ++ b) rest, length-append a b) in
    let room : from + k ≤ length c = omega (arith, reaches at n (length a + k) c (omega (arith, whole)) (omega arith)) in
    ext_get_or 0 _ _ (length-part from k c room ∙ k_is) (λ i lt.
    let lt : i < k = omega (arith, length-part from k c room) in
    get_or-part from k c i (from + i) lt refl
    ∙ sym (get_or-part at n c (length a + i) (from + i) (omega arith) (omega arith))
    ∙ ap (λ (l : List ℕ). get_or l (length a + i) 0) is
    ∙ get_or_append_left (a ++ b) rest 0 (length a + i) (omega (arith, length-append a b))
    ∙ get_or-append-add a b i 0)

-- the front of a part, and what stands after it
pub front_of : (at n m : ℕ) (c : List ℕ) → n ≤ m → take n (part at m c) ≡ part at n c
front_of at n m c le = take-take n m (drop at c) le

pub rest_of : (at n m : ℕ) (c : List ℕ) → drop n (part at (n + m) c) ≡ part (at + n) m c
rest_of at n m c = drop-take n m (drop at c) ∙ ap (λ (l : List ℕ). take m l) (drop-drop n at c)

pub part_split : (at n m : ℕ) (c : List ℕ) → part at (n + m) c ≡ part at n c ++ part (at + n) m c
part_split at n m c = take-add n m (drop at c) ∙ ap (λ (l : List ℕ). part at n c ++ take m l) (drop-drop n at c)

-- ---- the texts of a cell by their fields

pub length-content_text_1 : (run cursor : ℕ) → length (content_text_1 run cursor) ≡ 17
unfolding content_text_1
length-content_text_1 run cursor = refl

pub length-stretches_text : (known : List Stretch) → length (stretches_text known) ≡ 16 * length known
length-stretches_text [] = refl
length-stretches_text (stretch ∷ known) = omega (arith, length-append (stretch_text stretch) (stretches_text known), length-stretches_text known)

pub length-known_text : (known : List Stretch) → length (known_text known) ≡ 2 + 16 * length known
unfolding known_text
length-known_text known = omega (arith, length-stretches_text known)

pub length-content_text : (run cursor : ℕ) (known : List Stretch) → length (content_text run cursor known) ≡ 19 + 16 * length known
unfolding content_text
length-content_text run cursor known = omega (arith, length-known_text known)

pub cell_fields_1 : (ordinal run cursor : ℕ) → cell_text ordinal (content_text_1 run cursor) ≡ fields_text 1 ordinal 17 1 run cursor
unfolding content_text_1 body_text fields_text
cell_fields_1 ordinal run cursor = refl

pub cell_fields : (ordinal run cursor : ℕ) (known : List Stretch) → cell_text ordinal (content_text run cursor known) ≡ fields_text 1 ordinal (19 + 16 * length known) 2 run cursor ++ known_text known
unfolding content_text body_text fields_text
cell_fields ordinal run cursor known =
    ap (λ (n : ℕ). (1 ∷ to_be_bytes w64 ordinal ++ to_be_bytes w32 n ++ 2 ∷ to_be_bytes w64 run ++ to_be_bytes w64 cursor) ++ known_text known) (length-content_text run cursor known)

pub length-fields : (gate ordinal len version run cursor : ℕ) → length (fields_text gate ordinal len version run cursor) ≡ 30
unfolding fields_text
length-fields gate ordinal len version run cursor = refl

pub length-cell_1 : (run cursor : ℕ) → 13 + length (content_text_1 run cursor) ≡ 30
length-cell_1 run cursor = omega (arith, length-content_text_1 run cursor)

pub length-cell : (run cursor : ℕ) (known : List Stretch) → 13 + length (content_text run cursor known) ≡ 30 + (2 + 16 * length known)
length-cell run cursor known = omega (arith, length-content_text run cursor known)

-- ---- the fields that stand in a cell of such a text

module _ (cell gate ordinal len version run cursor : ℕ) (c : List ℕ) (is : part cell 30 c ≡ fields_text gate ordinal len version run cursor) where
  pub gate_is : get_or c cell 0 ≡ gate
  unfolding fields_text
  gate_is = sym (get_or-part cell 30 c 0 cell (omega arith) (omega arith)) ∙ ap (λ (l : List ℕ). get_or l 0 0) is

  pub version_is : version_at cell c ≡ version
  unfolding fields_text
  version_is = sym (get_or-part cell 30 c 13 (cell + 13) (omega arith) refl) ∙ ap (λ (l : List ℕ). get_or l 13 0) is

  pub ordinal_is : ordinal < 2 ^ 64 → ordinal_at cell c ≡ ordinal
  unfolding fields_text
  ordinal_is fits =
      ap (λ (l : List ℕ). from_be_bytes w64 l) (part_inside cell 30 (cell + 1) 8 (gate ∷ []) (to_be_bytes w64 ordinal) (to_be_bytes w32 len ++ version ∷ to_be_bytes w64 run ++ to_be_bytes w64 cursor) c is refl refl (omega arith) (omega arith))
      ∙ from_be_bytes-to_be_bytes_8 ordinal fits

  pub length_is : len < 2 ^ 32 → length_at cell c ≡ len
  unfolding fields_text
  length_is fits =
      ap (λ (l : List ℕ). from_be_bytes w32 l) (part_inside cell 30 (cell + 9) 4 (gate ∷ to_be_bytes w64 ordinal) (to_be_bytes w32 len) (version ∷ to_be_bytes w64 run ++ to_be_bytes w64 cursor) c is refl refl (omega arith) (omega arith))
      ∙ from_be_bytes-to_be_bytes_4 len fits

  pub run_is : run < 2 ^ 64 → run_at cell c ≡ run
  unfolding fields_text
  run_is fits =
      ap (λ (l : List ℕ). from_be_bytes w64 l) (part_inside cell 30 (cell + 14) 8 (gate ∷ to_be_bytes w64 ordinal ++ to_be_bytes w32 len ++ version ∷ []) (to_be_bytes w64 run) (to_be_bytes w64 cursor) c is refl refl (omega arith) (omega arith))
      ∙ from_be_bytes-to_be_bytes_8 run fits

  pub cursor_is : cursor < 2 ^ 64 → cursor_at cell c ≡ cursor
  unfolding fields_text
  cursor_is fits =
      ap (λ (l : List ℕ). from_be_bytes w64 l) (part_inside cell 30 (cell + 22) 8 (gate ∷ to_be_bytes w64 ordinal ++ to_be_bytes w32 len ++ version ∷ to_be_bytes w64 run) (to_be_bytes w64 cursor) [] c is refl refl (omega arith) (omega arith))
      ∙ from_be_bytes-to_be_bytes_8 cursor fits

-- ---- the stretches

-- both numbers of a stretch fit in eight bytes
pub record FitsBytes (stretch : Stretch) : Type 0 where
  pub from : stretch.from < 2 ^ 64
  pub to : stretch.to < 2 ^ 64

first_stretch : (at n : ℕ) (stretch : Stretch) (rest c : List ℕ) → 16 ≤ n → part at n c ≡ stretch_text stretch ++ rest → FitsBytes stretch → (number_at at c ≡ stretch.from) × (number_at (at + 8) c ≡ stretch.to)
first_stretch at n stretch rest c le is fits = (
  ap (λ (l : List ℕ). from_be_bytes w64 l) (part_inside at n at 8 [] (to_be_bytes w64 stretch.from) (to_be_bytes w64 stretch.to ++ rest) c is (omega arith) refl (omega arith) (omega arith)) ∙ from_be_bytes-to_be_bytes_8 stretch.from fits.from,
  ap (λ (l : List ℕ). from_be_bytes w64 l) (part_inside at n (at + 8) 8 (to_be_bytes w64 stretch.from) (to_be_bytes w64 stretch.to) rest c is refl refl (omega arith) (omega arith)) ∙ from_be_bytes-to_be_bytes_8 stretch.to fits.to,
)

-- stretches whose text stands there are those that stand there
pub stretches_are : (known : List Stretch) (at : ℕ) (c : List ℕ) → All FitsBytes known → part at (16 * length known) c ≡ stretches_text known → stretches_at (length known) at c ≡ known
stretches_are [] at c fits is = refl
stretches_are (stretch ∷ known) at c fits is =
    let wide : 16 * length (stretch ∷ known) ≡ 16 + 16 * length known = omega arith in
    let text : part at (16 + 16 * length known) c ≡ stretch_text stretch ++ stretches_text known = ap (λ (n : ℕ). part at n c) (sym wide) ∙ is in
    let first = first_stretch at (16 + 16 * length known) stretch (stretches_text known) c (omega arith) text (All-head FitsBytes stretch known fits) in
    let rest : part (at + 16) (16 * length known) c ≡ stretches_text known = sym (rest_of at 16 (16 * length known) c) ∙ ap (drop 16) text in
    let others = stretches_are known (at + 16) c (All-tail FitsBytes stretch known fits) rest in
    λ i. record { from = first.0 i; to = first.1 i } ∷ others i

-- the count and the stretches after the fields of a cell of version 2
module _ (cell : ℕ) (known : List Stretch) (c : List ℕ) (is : part (cell + 30) (2 + 16 * length known) c ≡ known_text known) where
  pub count_is : length known < 2 ^ 16 → count_at cell c ≡ length known
  unfolding known_text
  count_is few =
      ap (λ (l : List ℕ). from_be_bytes w16 l) (sym (front_of (cell + 30) 2 (2 + 16 * length known) c (omega arith)) ∙ ap (take 2) is) ∙ from_be_bytes-to_be_bytes_2 (length known) few

  stretches_there : part (cell + 32) (16 * length known) c ≡ stretches_text known
  unfolding known_text
  stretches_there =
      let at : cell + 30 + 2 ≡ cell + 32 = omega arith in
      ap (λ (n : ℕ). part n (16 * length known) c) (sym at) ∙ sym (rest_of (cell + 30) 2 (16 * length known) c) ∙ ap (drop 2) is

  pub known_is : length known < 2 ^ 16 → All FitsBytes known → (version_at cell c ≡ 1 → ⊥) → known_at cell c ≡ known
  known_is few fits version =
      ap (λ (b : Bool). if b then [] else stretches_at (count_at cell c) (cell + 32) c) (ne_eqb (version_at cell c) 1 version)
      ∙ ap (λ (n : ℕ). stretches_at n (cell + 32) c) (count_is few)
      ∙ stretches_are known (cell + 32) c fits stretches_there

-- a cell of version 1 has no stretch
pub none_is : (cell : ℕ) (c : List ℕ) → version_at cell c ≡ 1 → known_at cell c ≡ []
none_is cell c version = ap (λ (b : Bool). if b then [] else stretches_at (count_at cell c) (cell + 32) c) (eq-eqb (version_at cell c) 1 version)

-- ---- the fields of a text make a cell

pub holds_1 : (here ordinal run cursor : ℕ) (c : List ℕ) → part here 30 c ≡ fields_text 1 ordinal 17 1 run cursor → part here (13 + length (content_text_1 run cursor)) c ≡ cell_text ordinal (content_text_1 run cursor)
holds_1 here ordinal run cursor c is = ap (λ (n : ℕ). part here n c) (length-cell_1 run cursor) ∙ is ∙ sym (cell_fields_1 ordinal run cursor)

pub holds_2 : (here ordinal run cursor : ℕ) (known : List Stretch) (c : List ℕ) → part here 30 c ≡ fields_text 1 ordinal (19 + 16 * length known) 2 run cursor → part (here + 30) (2 + 16 * length known) c ≡ known_text known
    → part here (13 + length (content_text run cursor known)) c ≡ cell_text ordinal (content_text run cursor known)
holds_2 here ordinal run cursor known c fields more =
    ap (λ (n : ℕ). part here n c) (length-cell run cursor known)
    ∙ part_split here 30 (2 + 16 * length known) c
    ∙ (λ i. fields i ++ more i)
    ∙ sym (cell_fields ordinal run cursor known)

-- and those of a cell are these
module _ (here ordinal run cursor : ℕ) (c : List ℕ) where
  pub fields_1 : part here (13 + length (content_text_1 run cursor)) c ≡ cell_text ordinal (content_text_1 run cursor) → part here 30 c ≡ fields_text 1 ordinal 17 1 run cursor
  fields_1 is = ap (λ (n : ℕ). part here n c) (sym (length-cell_1 run cursor)) ∙ is ∙ cell_fields_1 ordinal run cursor

  module _ (known : List Stretch) (is : part here (13 + length (content_text run cursor known)) c ≡ cell_text ordinal (content_text run cursor known)) where
    whole : part here (30 + (2 + 16 * length known)) c ≡ fields_text 1 ordinal (19 + 16 * length known) 2 run cursor ++ known_text known
    whole = ap (λ (n : ℕ). part here n c) (sym (length-cell run cursor known)) ∙ is ∙ cell_fields ordinal run cursor known

    pub fields_2 : part here 30 c ≡ fields_text 1 ordinal (19 + 16 * length known) 2 run cursor
    fields_2 =
        sym (front_of here 30 (30 + (2 + 16 * length known)) c (omega arith)) ∙ ap (take 30) whole
        ∙ take_at (fields_text 1 ordinal (19 + 16 * length known) 2 run cursor) (known_text known) 30 (length-fields 1 ordinal (19 + 16 * length known) 2 run cursor)

    pub known_2 : part (here + 30) (2 + 16 * length known) c ≡ known_text known
    known_2 =
        sym (rest_of here 30 (2 + 16 * length known) c) ∙ ap (drop 30) whole
        ∙ drop_at (fields_text 1 ordinal (19 + 16 * length known) 2 run cursor) (known_text known) 30 (length-fields 1 ordinal (19 + 16 * length known) 2 run cursor)
