-- What a register's content excludes, and which changes it doesn't see.
use Rattle.std.proofs.Common.{◌≡◌, ◌≢◌, ◌⊎◌, inl, inr, ℕ, ◌+◌, ◌*◌, ◌^◌, ◌<◌, ◌≤◌, List, [], ◌∷◌, ◌++◌, length, get_or, refl, sym, ◌∙◌, ap, subst, arith}
use Rattle.std.specs.Prelude.{All}
use Rattle.std.specs.Int.{to_be_bytes, from_be_bytes}
use mir.Syntax.{w32, w64}
use Rattle.std.proofs.lemmas.List.Elements.{All-nil, All-cons}
use Rattle.std.proofs.lemmas.Nat.{from_be_bytes-to_be_bytes_8}
use Rattle.foundation.specs.Bytes.{part, SameBut}
use Rattle.foundation.proofs.Bytes.{get_or-part, same_part}
use Rattle.known_numbers.specs.declared.stretch.TheConstants.{MOST_STRETCHES}
use Rattle.known_numbers.specs.declared.stretch.Stretch.{Stretch}
use Rattle.known_numbers.specs.Numbers.{AreApart, EndBy}
use Rattle.spool_state.specs.Layout.{first_cell, second_cell, cell_length, cell_head, most_run, most_number}
use Rattle.spool_state.specs.Cells.{content_text, content_text_1, body_text, cell_text, IsContentOf, ordinal_at, run_at, cursor_at, known_at, Counts, RegisterHas, NoCellCounts, IsCounting, HasForm, HasBadContent, CellsBreak}
use Rattle.spool_state.proofs.Places.{FitsBytes, part_inside, length-content_text, length-content_text_1, version_is, ordinal_is, length_is, run_is, cursor_is, count_is, known_is, none_is, fields_1, fields_2, known_2}

-- ---- whatever the content is

-- the gate and the ordinal of a cell with an ordinal and a content
module _ (here ordinal : ℕ) (content c : List ℕ) (holds : part here (13 + length content) c ≡ cell_text ordinal content) where
  pub opened : get_or c here 0 ≡ 1
  opened = sym (get_or-part here (13 + length content) c 0 here (omega arith) (omega arith)) ∙ ap (λ (l : List ℕ). get_or l 0 0) holds

  pub ordinal_there : ordinal < 2 ^ 64 → ordinal_at here c ≡ ordinal
  unfolding body_text
  ordinal_there fits =
      ap (λ (l : List ℕ). from_be_bytes w64 l) (part_inside here (13 + length content) (here + 1) 8 (1 ∷ []) (to_be_bytes w64 ordinal) (to_be_bytes w32 (length content) ++ content) c holds refl refl (omega arith) (omega arith))
      ∙ from_be_bytes-to_be_bytes_8 ordinal fits

pub is_counting : (here other ordinal : ℕ) (content c : List ℕ) → ordinal ≤ most_number → Counts here other ordinal content c → IsCounting here other c
is_counting here other ordinal content c few counts = record {
  is_open = opened here ordinal content c counts.holds;
  other_less = subst (λ (n : ℕ). (get_or c other 0 ≢ 1) ⊎ (ordinal_at other c < n)) (sym (ordinal_there here ordinal content c counts.holds (omega arith))) counts.other_less;
}

-- two cells don't both count
pub one_counts : (here other : ℕ) (c : List ℕ) → IsCounting here other c → IsCounting other here c → ⊥
one_counts here other c p q = elim p.other_less [
  | inl shut ↦ shut q.is_open
  | inr less ↦ elim q.other_less [ inl shut ↦ shut p.is_open | inr more ↦ omega arith ]
]

none_first : (c : List ℕ) → NoCellCounts c → IsCounting first_cell second_cell c → ⊥
none_first c (inl shut) p = shut.0 p.is_open
none_first c (inr same) p = elim p.other_less [ inl shut ↦ shut same.1 | inr less ↦ omega (arith, same.2) ]

none_second : (c : List ℕ) → NoCellCounts c → IsCounting second_cell first_cell c → ⊥
none_second c (inl shut) p = shut.1 p.is_open
none_second c (inr same) p = elim p.other_less [ inl shut ↦ shut same.0 | inr less ↦ omega (arith, same.2) ]

-- a change that meets neither the cell that counts nor the head of the other one
pub counts_stay : (here other ordinal : ℕ) (content : List ℕ) (at n : ℕ) (a b : List ℕ) → SameBut at n a b → (here + 13 + length content ≤ at) ⊎ (at + n ≤ here) → (other + 9 ≤ at) ⊎ (at + n ≤ other)
    → here + 13 + length content ≤ length a → other + 9 ≤ length a → Counts here other ordinal content a → Counts here other ordinal content b
counts_stay here other ordinal content at n a b same off_here off_other long_here long_other counts = record {
  holds = same_part at n here (13 + length content) a b same (elim off_here [ inl le ↦ inl (omega arith) | inr le ↦ inr le ]) (omega arith) ∙ counts.holds;
  other_less = elim counts.other_less [
    | inl shut ↦ inl (λ is. shut (sym (elim off_other [ inl le ↦ same.below other (omega arith) | inr le ↦ same.above other le ]) ∙ is))
    | inr less ↦ inr (subst (λ (l : List ℕ). from_be_bytes w64 l < ordinal) (sym (same_part at n (other + 1) 8 a b same (elim off_other [ inl le ↦ inl (omega arith) | inr le ↦ inr (omega arith) ]) (omega arith))) less)
  ];
}

-- ---- the numbers of a content

-- numbers that a cell has room for
pub record HasRoom (ordinal run cursor : ℕ) (known : List Stretch) : Type 0 where
  pub ordinal_room : ordinal ≤ most_number
  pub run_room : run < 2 ^ 64
  pub cursor_room : cursor < 2 ^ 64
  pub few : length known ≤ MOST_STRETCHES
  pub known_room : All FitsBytes known

-- the numbers of stretches that are apart and end at or below 2^63 fit in eight bytes
pub fitting : (below end : ℕ) (known : List Stretch) → AreApart below known → EndBy end known → end ≤ most_number → All FitsBytes known
fitting below end [] apart ends few = All-nil FitsBytes
fitting below end (stretch ∷ known) apart ends few =
    All-cons FitsBytes stretch known (record { from = omega (arith, apart.1, ends.0); to = omega (arith, ends.0) }) (fitting stretch.to end known apart.2 ends.1 few)

-- The cell there has a good form, and says these numbers.
pub record Says (cell ordinal run cursor : ℕ) (known : List Stretch) (c : List ℕ) : Type 0 where
  pub form : HasForm cell c
  pub ordinal_said : ordinal_at cell c ≡ ordinal
  pub run_said : run_at cell c ≡ run
  pub cursor_said : cursor_at cell c ≡ cursor
  pub known_said : known_at cell c ≡ known

-- a content is never longer than this
pub content_short : (run cursor : ℕ) (known : List Stretch) (content : List ℕ) → length known ≤ MOST_STRETCHES → IsContentOf run cursor known content → cell_head + length content ≤ cell_length
content_short run cursor known content few (inl is) = omega (arith, ap length is, length-content_text run cursor known)
content_short run cursor known content few (inr old) = omega (arith, ap length old.0, length-content_text_1 run cursor)

-- the cell that holds a content says its numbers
module _ (here ordinal run cursor : ℕ) (known : List Stretch) (c : List ℕ) (room : HasRoom ordinal run cursor known) where
  says_1 : part here (13 + length (content_text_1 run cursor)) c ≡ cell_text ordinal (content_text_1 run cursor) → known ≡ [] → Says here ordinal run cursor known c
  says_1 holds none =
      let text = fields_1 here ordinal run cursor c holds in
      let version = version_is here 1 ordinal 17 1 run cursor c text in
      record {
        form = inl (version, length_is here 1 ordinal 17 1 run cursor c text (omega arith));
        ordinal_said = ordinal_is here 1 ordinal 17 1 run cursor c text (omega (arith, room.ordinal_room));
        run_said = run_is here 1 ordinal 17 1 run cursor c text room.run_room;
        cursor_said = cursor_is here 1 ordinal 17 1 run cursor c text room.cursor_room;
        known_said = none_is here c version ∙ sym none;
      }

  says_2 : part here (13 + length (content_text run cursor known)) c ≡ cell_text ordinal (content_text run cursor known) → Says here ordinal run cursor known c
  says_2 holds =
      let len = 19 + 16 * length known in
      let text = fields_2 here ordinal run cursor c known holds in
      let more = known_2 here ordinal run cursor c known holds in
      let version = version_is here 1 ordinal len 2 run cursor c text in
      let count = count_is here known c more (omega (arith, room.few)) in
      record {
        form = inr (version, omega (arith, count, room.few), length_is here 1 ordinal len 2 run cursor c text (omega (arith, room.few)) ∙ ap (λ (n : ℕ). 19 + 16 * n) (sym count));
        ordinal_said = ordinal_is here 1 ordinal len 2 run cursor c text (omega (arith, room.ordinal_room));
        run_said = run_is here 1 ordinal len 2 run cursor c text room.run_room;
        cursor_said = cursor_is here 1 ordinal len 2 run cursor c text room.cursor_room;
        known_said = known_is here known c more (omega (arith, room.few)) room.known_room (λ one. absurd (omega (arith, version, one)));
      }

  pub says : (content : List ℕ) → IsContentOf run cursor known content → part here (13 + length content) c ≡ cell_text ordinal content → Says here ordinal run cursor known c
  says content (inl is) holds = says_2 (subst (λ (l : List ℕ). part here (13 + length l) c ≡ cell_text ordinal l) is holds)
  says content (inr old) holds = says_1 (subst (λ (l : List ℕ). part here (13 + length l) c ≡ cell_text ordinal l) old.0 holds) old.1

-- so with a run and an ordinal in their ranges it is good
pub is_good : (cell ordinal run cursor : ℕ) (known : List Stretch) (c : List ℕ) → ordinal ≤ most_number → run ≤ most_run → Says cell ordinal run cursor known c → HasBadContent cell c → ⊥
is_good cell ordinal run cursor known c few runs said (inl form) = form said.form
is_good cell ordinal run cursor known c few runs said (inr (inl run_bad)) = omega (arith, said.run_said)
is_good cell ordinal run cursor known c few runs said (inr (inr ordinal_bad)) = omega (arith, said.ordinal_said)

-- Where the register has numbers in their ranges, no rule of the cells is broken.
pub holds_unbroken : (at ordinal run cursor : ℕ) (known : List Stretch) (c : List ℕ) → HasRoom ordinal run cursor known → run ≤ most_run → RegisterHas ordinal run cursor known c → CellsBreak at c → ⊥
holds_unbroken at ordinal run cursor known c room runs (content, is, inl p) (inl none) = none_first c none.1 (is_counting first_cell second_cell ordinal content c room.ordinal_room p)
holds_unbroken at ordinal run cursor known c room runs (content, is, inl p) (inr (inl bad)) = is_good first_cell ordinal run cursor known c room.ordinal_room runs (says first_cell ordinal run cursor known c room content is p.holds) bad.2
holds_unbroken at ordinal run cursor known c room runs (content, is, inl p) (inr (inr bad)) = one_counts first_cell second_cell c (is_counting first_cell second_cell ordinal content c room.ordinal_room p) bad.1
holds_unbroken at ordinal run cursor known c room runs (content, is, inr p) (inl none) = none_second c none.1 (is_counting second_cell first_cell ordinal content c room.ordinal_room p)
holds_unbroken at ordinal run cursor known c room runs (content, is, inr p) (inr (inl bad)) = one_counts second_cell first_cell c (is_counting second_cell first_cell ordinal content c room.ordinal_room p) bad.1
holds_unbroken at ordinal run cursor known c room runs (content, is, inr p) (inr (inr bad)) = is_good second_cell ordinal run cursor known c room.ordinal_room runs (says second_cell ordinal run cursor known c room content is p.holds) bad.2

-- the same ordinal, run, cursor and stretches
pub record IsSameContent (ordinal run cursor : ℕ) (known : List Stretch) (ordinal' run' cursor' : ℕ) (known' : List Stretch) : Type 0 where
  pub ordinal_is_same : ordinal ≡ ordinal'
  pub run_is_same : run ≡ run'
  pub cursor_is_same : cursor ≡ cursor'
  pub known_is_same : known ≡ known'

pub says_one : (cell ordinal run cursor : ℕ) (known : List Stretch) (ordinal' run' cursor' : ℕ) (known' : List Stretch) (c : List ℕ) → Says cell ordinal run cursor known c → Says cell ordinal' run' cursor' known' c → IsSameContent ordinal run cursor known ordinal' run' cursor' known'
says_one cell ordinal run cursor known ordinal' run' cursor' known' c p q = record {
  ordinal_is_same = sym p.ordinal_said ∙ q.ordinal_said;
  run_is_same = sym p.run_said ∙ q.run_said;
  cursor_is_same = sym p.cursor_said ∙ q.cursor_said;
  known_is_same = sym p.known_said ∙ q.known_said;
}

-- A register has one content: its numbers are the same, whatever version each was read in.
pub holds_one : (ordinal run cursor : ℕ) (known : List Stretch) (ordinal' run' cursor' : ℕ) (known' : List Stretch) (c : List ℕ) → HasRoom ordinal run cursor known → HasRoom ordinal' run' cursor' known'
    → RegisterHas ordinal run cursor known c → RegisterHas ordinal' run' cursor' known' c → IsSameContent ordinal run cursor known ordinal' run' cursor' known'
holds_one ordinal run cursor known ordinal' run' cursor' known' c room room' (content, is, inl p) (content', is', inl q) =
    says_one first_cell ordinal run cursor known ordinal' run' cursor' known' c (says first_cell ordinal run cursor known c room content is p.holds) (says first_cell ordinal' run' cursor' known' c room' content' is' q.holds)
holds_one ordinal run cursor known ordinal' run' cursor' known' c room room' (content, is, inr p) (content', is', inr q) =
    says_one second_cell ordinal run cursor known ordinal' run' cursor' known' c (says second_cell ordinal run cursor known c room content is p.holds) (says second_cell ordinal' run' cursor' known' c room' content' is' q.holds)
holds_one ordinal run cursor known ordinal' run' cursor' known' c room room' (content, is, inl p) (content', is', inr q) =
    absurd (one_counts first_cell second_cell c (is_counting first_cell second_cell ordinal content c room.ordinal_room p) (is_counting second_cell first_cell ordinal' content' c room'.ordinal_room q))
holds_one ordinal run cursor known ordinal' run' cursor' known' c room room' (content, is, inr p) (content', is', inl q) =
    absurd (one_counts second_cell first_cell c (is_counting second_cell first_cell ordinal content c room.ordinal_room p) (is_counting first_cell second_cell ordinal' content' c room'.ordinal_room q))
