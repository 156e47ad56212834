-- What a cell that breaks no rule says is what it holds.
use Rattle.std.proofs.Common.{◌≡◌, ◌⊎◌, inl, inr, ℕ, zero, suc, ◌+◌, ◌-◌, ◌*◌, ◌≤◌, Bool, List, [], ◌∷◌, ◌++◌, length, drop, get_or, refl, sym, ◌∙◌, ap, subst, arith}
use Rattle.std.specs.Prelude.{if◌then◌else◌}
use Rattle.std.specs.Int.{to_be_bytes}
use mir.Syntax.{w16, w32, w64}
use Rattle.std.proofs.lemmas.Bool.{cases_eq, cases_lt, ne_eqb}
use Rattle.std.proofs.lemmas.List.{ext_get_or}
use Rattle.std.proofs.lemmas.Nat.{be_bytes_2}
use Rattle.foundation.specs.Bytes.{part}
use Rattle.foundation.proofs.Bytes.{length-part, get_or-part}
use Rattle.event_form.proofs.Numbers.{IsBytes, IsBytes-drop, IsBytes-take, four_again, eight_again}
use Rattle.known_numbers.specs.declared.stretch.TheConstants.{MOST_STRETCHES}
use Rattle.known_numbers.specs.declared.stretch.Stretch.{Stretch}
use Rattle.spool_state.specs.Layout.{first_cell, second_cell, cell_length, first_slot, most_run, most_number}
use Rattle.spool_state.specs.Cells.{stretch_text, stretches_text, known_text, content_text, content_text_1, fields_text, IsContentOf, number_at, ordinal_at, length_at, version_at, run_at, cursor_at, count_at, stretches_at, known_at, Counts, RegisterHas, IsCounting, HasForm, HasBadContent}
use Rattle.spool_state.specs.Rules.{RegisterIsAt}
use Rattle.spool_state.proofs.Places.{front_of, rest_of, part_split, holds_1, holds_2, none_is}

-- ---- bytes of parts

bytes_within : (at n k m : ℕ) (c : List ℕ) → k + m ≤ n → IsBytes (part at n c) → IsBytes (part (at + k) m c)
bytes_within at n k m c le bytes =
    let whole : n ≡ k + (n - k) = omega arith in
    let behind : IsBytes (part (at + k) (n - k) c) = subst IsBytes (rest_of at k (n - k) c) (IsBytes-drop k (part at (k + (n - k)) c) (subst (λ (j : ℕ). IsBytes (part at j c)) whole bytes)) in
    subst IsBytes (front_of (at + k) m (n - k) c (omega arith)) (IsBytes-take m (part (at + k) (n - k) c) behind)

one_byte : (at : ℕ) (c : List ℕ) → at + 1 ≤ length c → get_or c at 0 ∷ [] ≡ part at 1 c
one_byte at c room =
    ext_get_or 0 _ _ (sym (length-part at 1 c room)) (λ i lt.
    let none : i ≡ 0 = omega arith in
    ap (λ (k : ℕ). get_or (get_or c at 0 ∷ []) k 0) none ∙ sym (get_or-part at 1 c 0 at (omega arith) (omega arith)) ∙ ap (λ (k : ℕ). get_or (part at 1 c) k 0) (sym none))

eight : (at : ℕ) (c : List ℕ) → at + 8 ≤ length c → IsBytes (part at 8 c) → to_be_bytes w64 (number_at at c) ≡ part at 8 c
eight at c room bytes = eight_again (part at 8 c) (length-part at 8 c room) bytes

-- ---- the fields of a cell

pub told_fields : (cell : ℕ) (c : List ℕ) → cell + 30 ≤ length c → IsBytes (part cell 30 c) → part cell 30 c ≡ fields_text (get_or c cell 0) (ordinal_at cell c) (length_at cell c) (version_at cell c) (run_at cell c) (cursor_at cell c)
unfolding fields_text
told_fields cell c room bytes =
    let p = one_byte cell c (omega arith) in
    let q = eight (cell + 1) c (omega arith) (bytes_within cell 30 1 8 c (omega arith) bytes) in
    let r = four_again (part (cell + 9) 4 c) (length-part (cell + 9) 4 c (omega arith)) (bytes_within cell 30 9 4 c (omega arith) bytes) in
    let v = one_byte (cell + 13) c (omega arith) in
    let s = eight (cell + 14) c (omega arith) (bytes_within cell 30 14 8 c (omega arith) bytes) in
    let t = eight (cell + 22) c (omega arith) (bytes_within cell 30 22 8 c (omega arith) bytes) in
    let b : part cell 30 c ≡ part cell 22 c ++ part (cell + 22) 8 c = part_split cell 22 8 c in
    let d : part cell 22 c ≡ part cell 14 c ++ part (cell + 14) 8 c = part_split cell 14 8 c in
    let e : part cell 14 c ≡ part cell 13 c ++ part (cell + 13) 1 c = part_split cell 13 1 c in
    let f : part cell 13 c ≡ part cell 9 c ++ part (cell + 9) 4 c = part_split cell 9 4 c in
    let g : part cell 9 c ≡ part cell 1 c ++ part (cell + 1) 8 c = part_split cell 1 8 c in
    b
    ∙ (λ i. d i ++ t' t i)
    ∙ (λ i. (e i ++ t' s i) ++ to_be_bytes w64 (cursor_at cell c))
    ∙ (λ i. ((f i ++ t' v i) ++ to_be_bytes w64 (run_at cell c)) ++ to_be_bytes w64 (cursor_at cell c))
    ∙ (λ i. (((g i ++ t' r i) ++ get_or c (cell + 13) 0 ∷ []) ++ to_be_bytes w64 (run_at cell c)) ++ to_be_bytes w64 (cursor_at cell c))
    ∙ (λ i. ((((t' p i ++ t' q i) ++ to_be_bytes w32 (length_at cell c)) ++ get_or c (cell + 13) 0 ∷ []) ++ to_be_bytes w64 (run_at cell c)) ++ to_be_bytes w64 (cursor_at cell c))
  where
    t' : {x y : List ℕ} → x ≡ y → y ≡ x
    t' e = sym e

-- ---- the stretches

pub told_stretches : (n at : ℕ) (c : List ℕ) → at + 16 * n ≤ length c → IsBytes (part at (16 * n) c) → stretches_text (stretches_at n at c) ≡ part at (16 * n) c
told_stretches zero at c room bytes = refl
told_stretches (suc n) at c room bytes =
    let wide : 16 * suc n ≡ 16 + 16 * n = omega arith in
    let all : IsBytes (part at (16 + 16 * n) c) = subst (λ (k : ℕ). IsBytes (part at k c)) wide bytes in
    let front : part at 16 c ≡ part at 8 c ++ part (at + 8) 8 c = part_split at 8 8 c in
    let here : stretch_text (record { from = number_at at c; to = number_at (at + 8) c }) ≡ part at 16 c =
    (λ i. eight at c (omega arith) (subst IsBytes (front_of at 8 (16 + 16 * n) c (omega arith)) (IsBytes-take 8 (part at (16 + 16 * n) c) all)) i ++ eight (at + 8) c (omega arith) (bytes_within at (16 + 16 * n) 8 8 c (omega arith) all) i) ∙ sym front in
    let rest = told_stretches n (at + 16) c (omega arith) (bytes_within at (16 + 16 * n) 16 (16 * n) c (omega arith) all) in
    (λ i. here i ++ rest i) ∙ sym (part_split at 16 (16 * n) c) ∙ ap (λ (k : ℕ). part at k c) (sym wide)

pub length-stretches_at : (n at : ℕ) (c : List ℕ) → length (stretches_at n at c) ≡ n
length-stretches_at zero at c = refl
length-stretches_at (suc n) at c = ap suc (length-stretches_at n (at + 16) c)

-- in any version but the first the stretches are those that stand after the count
pub known_there : (cell : ℕ) (c : List ℕ) → (version_at cell c ≡ 1 → ⊥) → known_at cell c ≡ stretches_at (count_at cell c) (cell + 32) c
known_there cell c version = ap (λ (b : Bool). if b then [] else stretches_at (count_at cell c) (cell + 32) c) (ne_eqb (version_at cell c) 1 version)

-- the count and the stretches of a cell of version 2
module _ (cell : ℕ) (c : List ℕ) (room : cell + 32 + 16 * count_at cell c ≤ length c) (bytes : IsBytes (part (cell + 30) (2 + 16 * count_at cell c) c)) where
  there : List Stretch
  there = stretches_at (count_at cell c) (cell + 32) c

  told_text : part (cell + 30) (2 + 16 * length there) c ≡ known_text there
  unfolding known_text there
  told_text =
      let n = count_at cell c in
      let many : length (stretches_at n (cell + 32) c) ≡ n = length-stretches_at n (cell + 32) c in
      let at : cell + 30 + 2 ≡ cell + 32 = omega arith in
      let count : to_be_bytes w16 n ≡ part (cell + 30) 2 c =
      be_bytes_2 (part (cell + 30) 2 c) n (length-part (cell + 30) 2 c (omega arith)) (subst IsBytes (front_of (cell + 30) 2 (2 + 16 * n) c (omega arith)) (IsBytes-take 2 (part (cell + 30) (2 + 16 * n) c) bytes)) refl in
      let behind : IsBytes (part (cell + 32) (16 * n) c) = subst (λ (k : ℕ). IsBytes (part k (16 * n) c)) at (bytes_within (cell + 30) (2 + 16 * n) 2 (16 * n) c (omega arith) bytes) in
      ap (λ (k : ℕ). part (cell + 30) (2 + 16 * k) c) many
      ∙ part_split (cell + 30) 2 (16 * n) c
      ∙ ap (λ (k : ℕ). part (cell + 30) 2 c ++ part k (16 * n) c) at
      ∙ (λ i. sym count i ++ sym (told_stretches n (cell + 32) c (omega arith) behind) i)
      ∙ ap (λ (k : ℕ). to_be_bytes w16 k ++ stretches_text (stretches_at n (cell + 32) c)) (sym many)

  pub told_known : (version_at cell c ≡ 1 → ⊥) → part (cell + 30) (2 + 16 * length (known_at cell c)) c ≡ known_text (known_at cell c)
  unfolding there
  told_known version = subst (λ (l : List Stretch). part (cell + 30) (2 + 16 * length l) c ≡ known_text l) (sym (known_there cell c version)) told_text

-- ---- the whole cell

-- A cell that counts and is of a good form holds a content of that version, with the numbers that it says.
module _ (here other : ℕ) (c : List ℕ) (room : here + cell_length ≤ length c) (bytes : IsBytes c) (counting : IsCounting here other c) where
  part_bytes : (at n : ℕ) → IsBytes (part at n c)
  part_bytes at n = IsBytes-take n (drop at c) (IsBytes-drop at c bytes)

  fields : part here 30 c ≡ fields_text 1 (ordinal_at here c) (length_at here c) (version_at here c) (run_at here c) (cursor_at here c)
  fields = told_fields here c (omega arith) (part_bytes here 30) ∙ ap (λ (gate : ℕ). fields_text gate (ordinal_at here c) (length_at here c) (version_at here c) (run_at here c) (cursor_at here c)) counting.is_open

  fields_of : (len version : ℕ) → length_at here c ≡ len → version_at here c ≡ version → part here 30 c ≡ fields_text 1 (ordinal_at here c) len version (run_at here c) (cursor_at here c)
  fields_of len version is_len is_version = fields ∙ (λ i. fields_text 1 (ordinal_at here c) (is_len i) (is_version i) (run_at here c) (cursor_at here c))

  pub told : HasForm here c → (content : List ℕ) × IsContentOf (run_at here c) (cursor_at here c) (known_at here c) content × Counts here other (ordinal_at here c) content c
  told (inl old) = (
    content_text_1 (run_at here c) (cursor_at here c),
    inr (refl, none_is here c old.0),
    record { holds = holds_1 here (ordinal_at here c) (run_at here c) (cursor_at here c) c (fields_of 17 1 old.1 old.0); other_less = counting.other_less },
  )
  told (inr form) =
      let version : version_at here c ≡ 1 → ⊥ = λ one. absurd (omega (arith, form.0, one)) in
      let space : here + 32 + 16 * count_at here c ≤ length c = omega (arith, form.1) in
      let known = known_at here c in
      let many : length known ≡ count_at here c = ap length (known_there here c version) ∙ length-stretches_at (count_at here c) (here + 32) c in
      let len : length_at here c ≡ 19 + 16 * length known = form.2 ∙ ap (λ (n : ℕ). 19 + 16 * n) (sym many) in (
        content_text (run_at here c) (cursor_at here c) known,
        inl refl,
        record {
          holds = holds_2 here (ordinal_at here c) (run_at here c) (cursor_at here c) known c (fields_of (19 + 16 * length known) 2 len form.0) (told_known here c space (part_bytes (here + 30) (2 + 16 * count_at here c)) version);
          other_less = counting.other_less;
        },
      )

-- a form is good or not
pub form_or_not : (cell : ℕ) (c : List ℕ) → HasForm cell c ⊎ (HasForm cell c → ⊥)
form_or_not cell c = elim (cases_eq (version_at cell c) 1) [
  | inl old ↦ elim (cases_eq (length_at cell c) 17) [
    | inl len ↦ inl (inl (old, len))
    | inr off ↦ inr (λ form. elim form [ inl is ↦ off is.1 | inr is ↦ absurd (omega (arith, old, is.0)) ])
  ]
  | inr not_old ↦ elim (cases_eq (version_at cell c) 2) [
    | inl new ↦ elim (cases_lt MOST_STRETCHES (count_at cell c)) [
      | inl many ↦ inr (λ form. elim form [ inl is ↦ not_old is.0 | inr is ↦ absurd (omega (arith, is.1)) ])
      | inr few ↦ elim (cases_eq (length_at cell c) (19 + 16 * count_at cell c)) [
        | inl len ↦ inl (inr (new, few, len))
        | inr off ↦ inr (λ form. elim form [ inl is ↦ not_old is.0 | inr is ↦ off is.2 ])
      ]
    ]
    | inr not_new ↦ inr (λ form. elim form [ inl is ↦ not_old is.0 | inr is ↦ not_new is.0 ])
  ]
]

-- what a good content keeps
pub record IsGood (cell : ℕ) (c : List ℕ) : Type 0 where
  pub form : HasForm cell c
  pub run : run_at cell c ≤ most_run
  pub ordinal : ordinal_at cell c ≤ most_number

pub good_from : (cell : ℕ) (c : List ℕ) → (HasBadContent cell c → ⊥) → IsGood cell c
good_from cell c good = record {
  form = elim (form_or_not cell c) [ inl is ↦ is | inr off ↦ absurd (good (inl off)) ];
  run = elim (cases_lt most_run (run_at cell c)) [ inl more ↦ absurd (good (inr (inl more))) | inr le ↦ le ];
  ordinal = elim (cases_lt most_number (ordinal_at cell c)) [ inl more ↦ absurd (good (inr (inr more))) | inr le ↦ le ];
}

-- it has few enough stretches
pub told_few : (cell : ℕ) (c : List ℕ) → HasForm cell c → length (known_at cell c) ≤ MOST_STRETCHES
told_few cell c (inl old) = omega (arith, ap length (none_is cell c old.0))
told_few cell c (inr form) = omega (arith, ap length (known_there cell c (λ one. absurd (omega (arith, form.0, one)))), length-stretches_at (count_at cell c) (cell + 32) c, form.1)

-- Where the cells keep their rules, the register has the numbers that the counting cell says.
pub register_told : (cell : ℕ) (c : List ℕ) → first_slot ≤ length c → IsBytes c → RegisterIsAt cell c → IsGood cell c × RegisterHas (ordinal_at cell c) (run_at cell c) (cursor_at cell c) (known_at cell c) c
register_told cell c room bytes (inl at) =
    let good = good_from first_cell c at.1.good in
    let content = told first_cell second_cell c (omega arith) bytes at.1.counting good.form in
    subst (λ (n : ℕ). IsGood n c × RegisterHas (ordinal_at n c) (run_at n c) (cursor_at n c) (known_at n c) c) (sym at.0) (good, (content.0, content.1, inl content.2))
register_told cell c room bytes (inr at) =
    let good = good_from second_cell c at.1.good in
    let content = told second_cell first_cell c (omega arith) bytes at.1.counting good.form in
    subst (λ (n : ℕ). IsGood n c × RegisterHas (ordinal_at n c) (run_at n c) (cursor_at n c) (known_at n c) c) (sym at.0) (good, (content.0, content.1, inr content.2))
