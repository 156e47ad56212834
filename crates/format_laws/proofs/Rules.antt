-- The first rule that the bytes of a device break, and its place: one.
use Rattle.std.proofs.Common.{◌≡◌, ◌⊎◌, inl, inr, ℕ, ◌^◌, ◌<◌, List, sym, ◌∙◌, subst, arith}
use Rattle.spool_state.specs.Layout.{first_cell, second_cell}
use Rattle.spool_state.specs.SpoolState.{OpenSlot}
use Rattle.spool_state.specs.Cells.{NoCellCounts, CellsBreak, IsCounting}
use Rattle.spool_state.specs.Order.{AreOpenSlots}
use Rattle.spool_state.specs.Rules.{slots_told, size_told, IsNamed, IsMeasured, RegisterIsAt, HasHead, GroupBreaks, OrderBreaks, SlotsBreak, KnownBreak, Breaks}
use Rattle.spool_state.proofs.Registers.{one_counts}
use Rattle.spool_state.proofs.Sorting.{one_list}
use Rattle.format_laws.proofs.Groups.{one_group_break, break_has_no_list}
use Rattle.format_laws.proofs.Orders.{one_order_break, chain_no_break}

-- ---- the cells

-- where no cell counts, neither does
none_first : (c : List ℕ) → NoCellCounts c → IsCounting first_cell second_cell c → ⊥
none_first c (inl shut) p = shut.0 p.is_open
none_first c (inr same) p = elim p.other_less [ inl shut ↦ shut same.1 | inr less ↦ omega (arith, same.2) ]

none_second : (c : List ℕ) → NoCellCounts c → IsCounting second_cell first_cell c → ⊥
none_second c (inl shut) p = shut.1 p.is_open
none_second c (inr same) p = elim p.other_less [ inl shut ↦ shut same.0 | inr less ↦ omega (arith, same.2) ]

one_cell_break : (p q : ℕ) (c : List ℕ) → CellsBreak p c → CellsBreak q c → p ≡ q
one_cell_break p q c (inl a) (inl b) = a.0 ∙ sym b.0
one_cell_break p q c (inl a) (inr (inl b)) = a.0 ∙ sym b.0
one_cell_break p q c (inl a) (inr (inr b)) = absurd (none_second c a.1 b.1)
one_cell_break p q c (inr (inl a)) (inl b) = a.0 ∙ sym b.0
one_cell_break p q c (inr (inl a)) (inr (inl b)) = a.0 ∙ sym b.0
one_cell_break p q c (inr (inl a)) (inr (inr b)) = absurd (one_counts first_cell second_cell c a.1 b.1)
one_cell_break p q c (inr (inr a)) (inl b) = absurd (none_second c b.1 a.1)
one_cell_break p q c (inr (inr a)) (inr (inl b)) = absurd (one_counts first_cell second_cell c b.1 a.1)
one_cell_break p q c (inr (inr a)) (inr (inr b)) = a.0 ∙ sym b.0

register_no_break : (cell p : ℕ) (c : List ℕ) → RegisterIsAt cell c → CellsBreak p c → ⊥
register_no_break cell p c (inl a) (inl b) = none_first c b.1 a.1.counting
register_no_break cell p c (inl a) (inr (inl b)) = a.1.good b.2
register_no_break cell p c (inl a) (inr (inr b)) = one_counts first_cell second_cell c a.1.counting b.1
register_no_break cell p c (inr a) (inl b) = none_second c b.1 a.1.counting
register_no_break cell p c (inr a) (inr (inl b)) = one_counts first_cell second_cell c b.1 a.1.counting
register_no_break cell p c (inr a) (inr (inr b)) = a.1.good b.2

one_register : (p q : ℕ) (c : List ℕ) → RegisterIsAt p c → RegisterIsAt q c → p ≡ q
one_register p q c (inl a) (inl b) = a.0 ∙ sym b.0
one_register p q c (inl a) (inr b) = absurd (one_counts first_cell second_cell c a.1.counting b.1.counting)
one_register p q c (inr a) (inl b) = absurd (one_counts first_cell second_cell c b.1.counting a.1.counting)
one_register p q c (inr a) (inr b) = a.0 ∙ sym b.0

-- ---- the rules after one another

abbrev Last : ℕ → List ℕ → Type 0
Last at c = HasHead at c × KnownBreak at c

abbrev Slots : ℕ → List ℕ → Type 0
Slots at c = ((cell : ℕ) × HasHead cell c × SlotsBreak at c) ⊎ Last at c

abbrev Groups : ℕ → List ℕ → Type 0
Groups at c = ((cell : ℕ) × HasHead cell c × GroupBreaks (slots_told c) (size_told c) at c) ⊎ Slots at c

abbrev Cells : ℕ → List ℕ → Type 0
Cells at c = (IsNamed c × IsMeasured c × CellsBreak at c) ⊎ Groups at c

abbrev Measures : ℕ → List ℕ → Type 0
Measures at c = ((at ≡ 8) × IsNamed c × (IsMeasured c → ⊥)) ⊎ Cells at c

some_size : (c : List ℕ) → IsMeasured c → 0 < size_told c
some_size c is = omega (arith, is.large)

small_size : (c : List ℕ) → IsMeasured c → size_told c < 2 ^ 32
small_size c is = omega (arith, is.small)

same_slots : (c : List ℕ) (xs ys : List OpenSlot) → IsMeasured c → AreOpenSlots (slots_told c) (size_told c) c xs → AreOpenSlots (slots_told c) (size_told c) c ys → xs ≡ ys
same_slots c xs ys is ox oy = one_list (slots_told c) (size_told c) c is.long (some_size c is) (small_size c is) xs ys ox oy

slots_or_known : (p q : ℕ) (c : List ℕ) → IsMeasured c → SlotsBreak p c → KnownBreak q c → ⊥
slots_or_known p q c is (xs, ox, breaks) (ys, oy, chain, off) = chain_no_break (size_told c) p ys chain (subst (OrderBreaks p (size_told c)) (same_slots c xs ys is ox oy) breaks)

one_slots_break : (p q : ℕ) (c : List ℕ) → IsMeasured c → SlotsBreak p c → SlotsBreak q c → p ≡ q
one_slots_break p q c is (xs, ox, breaks) (ys, oy, others) = one_order_break (size_told c) p q ys (subst (OrderBreaks p (size_told c)) (same_slots c xs ys is ox oy) breaks) others

one_in_slots : (p q : ℕ) (c : List ℕ) → Slots p c → Slots q c → p ≡ q
one_in_slots p q c (inl (cell, head, breaks)) (inl (other, same, others)) = one_slots_break p q c head.measured breaks others
one_in_slots p q c (inl (cell, head, breaks)) (inr (same, known)) = absurd (slots_or_known p q c head.measured breaks known)
one_in_slots p q c (inr (head, known)) (inl (cell, same, breaks)) = absurd (slots_or_known q p c head.measured breaks known)
one_in_slots p q c (inr (head, known)) (inr (same, others)) = one_register p q c head.register same.register

-- from there on the open slots are a list
list_of : (p : ℕ) (c : List ℕ) → Slots p c → (opened : List OpenSlot) × AreOpenSlots (slots_told c) (size_told c) c opened
list_of p c (inl (cell, head, (opened, has, breaks))) = (opened, has)
list_of p c (inr (head, (opened, has, chain, off))) = (opened, has)

no_list : (p q : ℕ) (c : List ℕ) → IsMeasured c → GroupBreaks (slots_told c) (size_told c) p c → Slots q c → ⊥
no_list p q c is a b =
    let opened = list_of q c b in
    break_has_no_list (slots_told c) (size_told c) c is.long (some_size c is) (small_size c is) p opened.0 a opened.1

-- from there on the header and the cells keep their rules
head_of : (p : ℕ) (c : List ℕ) → Groups p c → (cell : ℕ) × HasHead cell c
head_of p c (inl (cell, head, breaks)) = (cell, head)
head_of p c (inr (inl (cell, head, breaks))) = (cell, head)
head_of p c (inr (inr (head, known))) = (p, head)

one_in_groups : (p q : ℕ) (c : List ℕ) → Groups p c → Groups q c → p ≡ q
one_in_groups p q c (inl (cell, head, breaks)) (inl (other, same, others)) =
    let is = head.measured in
    one_group_break (slots_told c) (size_told c) c is.long (some_size c is) (small_size c is) p q breaks others
one_in_groups p q c (inl (cell, head, breaks)) (inr b) = absurd (no_list p q c head.measured breaks b)
one_in_groups p q c (inr a) (inl (cell, head, breaks)) = absurd (no_list q p c head.measured breaks a)
one_in_groups p q c (inr a) (inr b) = one_in_slots p q c a b

one_in_cells : (p q : ℕ) (c : List ℕ) → Cells p c → Cells q c → p ≡ q
one_in_cells p q c (inl (named, measured, breaks)) (inl (name, size, others)) = one_cell_break p q c breaks others
one_in_cells p q c (inl (named, measured, breaks)) (inr b) = absurd (register_no_break (head_of q c b).0 p c (head_of q c b).1.register breaks)
one_in_cells p q c (inr a) (inl (named, measured, breaks)) = absurd (register_no_break (head_of p c a).0 q c (head_of p c a).1.register breaks)
one_in_cells p q c (inr a) (inr b) = one_in_groups p q c a b

measured_of : (p : ℕ) (c : List ℕ) → Cells p c → IsMeasured c
measured_of p c (inl (named, measured, breaks)) = measured
measured_of p c (inr a) = (head_of p c a).1.measured

one_in_measures : (p q : ℕ) (c : List ℕ) → Measures p c → Measures q c → p ≡ q
one_in_measures p q c (inl (a, named, not)) (inl (b, name, off)) = a ∙ sym b
one_in_measures p q c (inl (a, named, not)) (inr b) = absurd (not (measured_of q c b))
one_in_measures p q c (inr a) (inl (b, named, not)) = absurd (not (measured_of p c a))
one_in_measures p q c (inr a) (inr b) = one_in_cells p q c a b

named_of : (p : ℕ) (c : List ℕ) → Measures p c → IsNamed c
named_of p c (inl (a, named, not)) = named
named_of p c (inr (inl (named, measured, breaks))) = named
named_of p c (inr (inr a)) = (head_of p c a).1.named

pub one_place : (p q : ℕ) (c : List ℕ) → Breaks p c → Breaks q c → p ≡ q
one_place p q c (inl (a, not)) (inl (b, off)) = a ∙ sym b
one_place p q c (inl (a, not)) (inr b) = absurd (not (named_of q c b))
one_place p q c (inr a) (inl (b, not)) = absurd (not (named_of p c a))
one_place p q c (inr a) (inr b) = one_in_measures p q c a b
