-- Slots in memory, one after another, and the open slots whose numbers they are.
use Rattle.std.proofs.Common.{◌≡◌, ◌⊎◌, ◌↔◌, inl, inr, ℕ, zero, suc, ◌+◌, ◌-◌, ◌<◌, ◌≤◌, Bool, nat_eq, false, Option, Some, None, List, [], ◌∷◌, length, get_or, drop, refl, sym, ◌∙◌, ap, subst, arith, add-one, length-drop, length-append, drop-cons}
use Rattle.std.proofs.lemmas.Bool.Decides.{eqb_tells}
use Rattle.std.proofs.lemmas.List.{drop_all}
use Rattle.spool_state.specs.SpoolState.{OpenSlot, entries_in, ordinal_of, first_of}
use Rattle.spool_state.specs.Order.{count_of, IsInOrder, AreInOrder}
use Rattle.spool_state.specs.Segment.{entries_of}
use Rattle.known_numbers.specs.declared.stretch.Stretch.{Stretch}
use Rattle.known_numbers.specs.Numbers.{Numbers, AreApart, EndBy}
use Rattle.spool_state.specs.Rules.{OrderBreaks, IsChain, AreAmong}
use Rattle.spool_slots.specs.declared.slot.Slot.{Slot}
use Rattle.spool_log.specs.Knows.{KnowsSlot, KnowsSlots}
use Rattle.spool_log.specs.Reading.Judging.{HasDueNumbers, IsOrderOf, IsJudgementOf}

pub length-known : (size : ℕ) (slots : List OpenSlot) (known : List Slot) → KnowsSlots size slots known → length slots ≡ length known
length-known size [] [] h = refl
length-known size [] (k ∷ known) h = absurd h
length-known size (s ∷ slots) [] h = absurd h
length-known size (s ∷ slots) (k ∷ known) h = omega (arith, length-known size slots known h.1)

-- the numbers of a slot in order
pub due : (size : ℕ) (slot : OpenSlot) (behind : List OpenSlot) (known : Slot) (is_last : Bool) (ordinal first : ℕ) → KnowsSlot size slot known → (is_last ≡ false → 0 < length behind) → (0 < length behind → is_last ≡ false)
    → (HasDueNumbers is_last ordinal first known → IsInOrder slot behind ordinal first) × (IsInOrder slot behind ordinal first → HasDueNumbers is_last ordinal first known)
due size slot behind known is_last ordinal first knows more less = (
  (λ numbers. record {
    ordinal_due = sym knows.ordinal_is ∙ numbers.ordinal_due;
    first_due = sym knows.first_is ∙ numbers.first_due;
    some = λ some. omega (arith, knows.count_is, numbers.some (less some));
    early = omega (arith, knows.ordinal_is, knows.first_is, numbers.sound.early);
    ends = omega (arith, knows.first_is, knows.count_is, numbers.sound.ends);
  }),
  (λ in_order. record {
    ordinal_due = knows.ordinal_is ∙ in_order.ordinal_due;
    first_due = knows.first_is ∙ in_order.first_due;
    some = λ not_last. omega (arith, knows.count_is, in_order.some (more not_last));
    sound = record { early = omega (arith, knows.ordinal_is, knows.first_is, in_order.early); ends = omega (arith, knows.first_is, knows.count_is, in_order.ends) };
  }),
)

-- What is judged of the rest is judged of all.
pub record IsRest (size : ℕ) (slots : List OpenSlot) (due_ordinal due_first : ℕ) (rest : List Slot) (ordinal first : ℕ) : Type 0 where
  pub behind : List OpenSlot
  pub known : KnowsSlots size behind rest
  pub order : (answer : Option ℕ) → IsOrderOf size behind ordinal first answer → IsOrderOf size slots due_ordinal due_first answer

-- one slot more that is in order
one_more : (size : ℕ) (slot : OpenSlot) (behind : List OpenSlot) (ordinal first : ℕ) (answer : Option ℕ) → IsInOrder slot behind ordinal first
    → IsOrderOf size behind (slot.segment.ordinal + 1) (slot.segment.first + count_of slot) answer → IsOrderOf size (slot ∷ behind) ordinal first answer
one_more size slot behind ordinal first None i later = (i, later)
one_more size slot behind ordinal first (Some at) i later = (later.0, later.1, inr (i, later.2))

module _ (size : ℕ) (slots : List OpenSlot) (o f : ℕ) (known : Slot) (rest : List Slot) (is_last : Bool) (ordinal first : ℕ)
    (more : is_last ≡ false → 0 < length rest) (less : 0 < length rest → is_last ≡ false) where
  next : (behind : List OpenSlot) → KnowsSlots size behind (known ∷ rest) → ((answer : Option ℕ) → IsOrderOf size behind ordinal first answer → IsOrderOf size slots o f answer)
      → HasDueNumbers is_last ordinal first known → IsRest size slots o f rest (known.ordinal + 1) (known.first + known.count)
  next [] knows order numbers = absurd knows
  next (slot ∷ behind) knows order numbers =
      let long = length-known size behind rest knows.1 in
      let i = (due size slot behind known is_last ordinal first knows.0 (λ e. omega (arith, long, more e)) (λ lt. less (omega (arith, long)))).0 numbers in
      record {
        behind = behind;
        known = knows.1;
        order = λ answer later. order answer (one_more size slot behind ordinal first answer i
            (subst (λ (n : ℕ). IsOrderOf size behind n (slot.segment.first + count_of slot) answer) (ap (λ (n : ℕ). n + 1) knows.0.ordinal_is)
            (subst (λ (n : ℕ). IsOrderOf size behind (known.ordinal + 1) n answer) (cc (knows.0.first_is, knows.0.count_is)) later)));
      }

  here : (behind : List OpenSlot) → KnowsSlots size behind (known ∷ rest) → ((answer : Option ℕ) → IsOrderOf size behind ordinal first answer → IsOrderOf size slots o f answer)
      → (HasDueNumbers is_last ordinal first known → ⊥) → IsOrderOf size slots o f (Some known.at)
  here [] knows order not_due = absurd knows
  here (slot ∷ behind) knows order not_due =
      let long = length-known size behind rest knows.1 in
      let i = due size slot behind known is_last ordinal first knows.0 (λ e. omega (arith, long, more e)) (λ lt. less (omega (arith, long))) in
      order (Some known.at) (slot.place, knows.0.at_is, inl (refl, λ in_order. not_due (i.1 in_order)))

at_end : (size : ℕ) (behind : List OpenSlot) (ordinal first : ℕ) → KnowsSlots size behind [] → IsOrderOf size behind ordinal first None
at_end size [] ordinal first knows = tt
at_end size (slot ∷ behind) ordinal first knows = absurd knows

-- ---- by place in the list of all

module _ (size : ℕ) (slots : List OpenSlot) (o f : ℕ) (items : List Slot) (k : ℕ) (known : Slot) (lt : k < length items) (is : known ≡ get_or items k known) (ordinal first : ℕ) (rest : IsRest size slots o f (drop k items) ordinal first) where
  split : drop k items ≡ known ∷ drop (k + 1) items
  split = drop-cons items k known lt ∙ cc (sym is, ap (λ (n : ℕ). drop n items) (sym (add-one k)))

  knows : KnowsSlots size rest.behind (known ∷ drop (k + 1) items)
  knows = subst (KnowsSlots size rest.behind) split rest.known

  abbrev is_last : Bool
  is_last = nat_eq (k + 1) (length items)

  more : is_last ≡ false → 0 < length (drop (k + 1) items)
  more off = elim (eqb_tells (k + 1) (length items)) [ inl last ↦ absurd (cc (last.0, off)) | inr other ↦ omega (arith, other.1, length-drop (k + 1) items) ]

  less : 0 < length (drop (k + 1) items) → is_last ≡ false
  less some = elim (eqb_tells (k + 1) (length items)) [ inl last ↦ absurd (omega (arith, last.1, length-drop (k + 1) items)) | inr off ↦ off.0 ]

  pub rest_next : HasDueNumbers is_last ordinal first known → IsRest size slots o f (drop (k + 1) items) (known.ordinal + 1) (known.first + known.count)
  rest_next = next size slots o f known (drop (k + 1) items) is_last ordinal first more less rest.behind knows rest.order

  pub rest_here : (HasDueNumbers is_last ordinal first known → ⊥) → IsOrderOf size slots o f (Some known.at)
  rest_here = here size slots o f known (drop (k + 1) items) is_last ordinal first more less rest.behind knows rest.order

pub rest_end : (size : ℕ) (slots : List OpenSlot) (o f : ℕ) (items : List Slot) (k ordinal first : ℕ) → length items ≤ k → IsRest size slots o f (drop k items) ordinal first → IsOrderOf size slots o f None
rest_end size slots o f items k ordinal first le rest = rest.order None (at_end size rest.behind ordinal first (subst (KnowsSlots size rest.behind) (drop_all k items le) rest.known))

pub rest_start : (size : ℕ) (slots : List OpenSlot) (o f : ℕ) (items : List Slot) → KnowsSlots size slots items → IsRest size slots o f (drop 0 items) o f
rest_start size slots o f items knows = record { behind = slots; known = knows; order = λ answer h. h }

-- ---- the whole judgement

-- the entries end where those of the last slot do
pub end_known : (size : ℕ) (slots : List OpenSlot) (items : List Slot) (o f k : ℕ) (known : Slot) → KnowsSlots size slots items → AreInOrder slots o f → k + 1 ≡ length items → known ≡ get_or items k known
    → f + length (entries_in slots) ≡ known.first + known.count
end_known size [] [] o f k known knows order lt is = absurd (omega (arith, lt))
end_known size [] (i ∷ items) o f k known knows order lt is = absurd knows
end_known size (s ∷ slots) [] o f k known knows order lt is = absurd knows
end_known size (s ∷ []) (i ∷ []) o f zero known knows order lt is =
    let same : known ≡ i = is in
    omega (arith, order.0.first_due, knows.0.first_is, knows.0.count_is, ap (λ (x : Slot). x.first) same, ap (λ (x : Slot). x.count) same, length-append (entries_of s.segment) [])
end_known size (s ∷ []) (i ∷ []) o f (suc k) known knows order lt is = absurd (omega (arith, lt))
end_known size (s ∷ []) (i ∷ j ∷ items) o f k known knows order lt is = absurd knows.1
end_known size (s ∷ t ∷ slots) (i ∷ []) o f k known knows order lt is = absurd knows.1
end_known size (s ∷ t ∷ slots) (i ∷ j ∷ items) o f zero known knows order lt is = absurd (omega (arith, lt))
end_known size (s ∷ t ∷ slots) (i ∷ j ∷ items) o f (suc k) known knows order lt is =
    omega (
      arith,
      order.0.first_due,
      length-append (entries_of s.segment) (entries_in (t ∷ slots)),
      end_known size (t ∷ slots) (j ∷ items) (s.segment.ordinal + 1) (s.segment.first + count_of s) k known knows.1 order.1 (omega (arith, lt)) is,
    )

-- no slot at all
pub judged_none : (size : ℕ) (slots : List OpenSlot) (items : List Slot) (numbers : Numbers) (cell : ℕ) → KnowsSlots size slots items → length items ≡ 0 → IsJudgementOf size slots numbers cell (Some 12288)
judged_none size [] items numbers cell knows none = inl (omega arith)
judged_none size (s ∷ slots) items numbers cell knows none = absurd (omega (arith, length-known size (s ∷ slots) items knows))

module _ (size : ℕ) (slots : List OpenSlot) (items : List Slot) (known : Numbers) (cell : ℕ) (knows : KnowsSlots size slots items) (oldest : Slot) (some : 0 < length items) (oldest_is : oldest ≡ get_or items 0 oldest) where
  due_numbers : (slots : List OpenSlot) (items : List Slot) → KnowsSlots size slots items → 0 < length items → oldest ≡ get_or items 0 oldest → (oldest.ordinal ≡ ordinal_of slots 0) × (oldest.first ≡ first_of slots 0)
  due_numbers [] [] knows some is = absurd (omega arith)
  due_numbers [] (i ∷ items) knows some is = absurd knows
  due_numbers (s ∷ slots) [] knows some is = absurd knows
  due_numbers (s ∷ slots) (i ∷ items) knows some is = (ap (λ (x : Slot). x.ordinal) is ∙ knows.0.ordinal_is, ap (λ (x : Slot). x.first) is ∙ knows.0.first_is)

  numbers : (oldest.ordinal ≡ ordinal_of slots 0) × (oldest.first ≡ first_of slots 0)
  numbers = due_numbers slots items knows some oldest_is

  order_breaks : (slots : List OpenSlot) (at : ℕ) → IsOrderOf size slots (ordinal_of slots 0) (first_of slots 0) (Some at) → OrderBreaks at size slots
  order_breaks [] at order = absurd order.2
  order_breaks (s ∷ slots) at order = order

  due_order : (answer : Option ℕ) → IsOrderOf size slots oldest.ordinal oldest.first answer → IsOrderOf size slots (ordinal_of slots 0) (first_of slots 0) answer
  due_order answer order = subst (λ (n : ℕ). IsOrderOf size slots n (first_of slots 0) answer) numbers.0 (subst (λ (n : ℕ). IsOrderOf size slots oldest.ordinal n answer) numbers.1 order)

  pub judged_order : (at : ℕ) → IsOrderOf size slots oldest.ordinal oldest.first (Some at) → IsJudgementOf size slots known cell (Some at)
  judged_order at order = inl (order_breaks slots at (due_order (Some at) order))

  module _ (order : IsOrderOf size slots oldest.ordinal oldest.first None) (active : Slot) (active_is : active ≡ get_or items (length items - 1) active) where
    chain : IsChain slots
    chain = record { some = omega (arith, length-known size slots items knows); all = due_order None order }

    ends : first_of slots 0 + length (entries_in slots) ≡ active.first + active.count
    ends = end_known size slots items (ordinal_of slots 0) (first_of slots 0) (length items - 1) active knows chain.all (omega arith) active_is

    -- the known numbers aren't among those of the entries, or they are
    pub judged_outside : (AreAmong known.cursor known.stretches slots → ⊥) → IsJudgementOf size slots known cell (Some cell)
    judged_outside off = inr (refl, chain, off)

    pub judged_cursor : (known.cursor < oldest.first) ⊎ (active.first + active.count < known.cursor) → IsJudgementOf size slots known cell (Some cell)
    judged_cursor off = judged_outside (λ among. elim off [ inl below ↦ omega (arith, below, numbers.1, among.from_first) | inr above ↦ omega (arith, above, ends, among.to_end) ])

    pub judged_known : (AreApart known.cursor known.stretches × EndBy (active.first + active.count) known.stretches → ⊥) → IsJudgementOf size slots known cell (Some cell)
    judged_known off = judged_outside (λ among. off (among.apart, subst (λ (e : ℕ). EndBy e known.stretches) ends among.known_to_end))

    pub judged_well : oldest.first ≤ known.cursor → known.cursor ≤ active.first + active.count → AreApart known.cursor known.stretches × EndBy (active.first + active.count) known.stretches → IsJudgementOf size slots known cell None
    judged_well ge le apart = (
      chain,
      record {
        from_first = omega (arith, ge, numbers.1);
        to_end = omega (arith, le, ends);
        apart = apart.0;
        known_to_end = subst (λ (e : ℕ). EndBy e known.stretches) (sym ends) apart.1;
      },
    )

-- one more stretch found apart from those before
pub apart_more : (end below : ℕ) (stretches : List Stretch) (i : ℕ) (d : Stretch) → i < length stretches → below < (get_or stretches i d).from → (get_or stretches i d).from < (get_or stretches i d).to → (get_or stretches i d).to ≤ end
    → (AreApart below (drop i stretches) × EndBy end (drop i stretches)) ↔ (AreApart (get_or stretches i d).to (drop (i + 1) stretches) × EndBy end (drop (i + 1) stretches))
apart_more end below stretches i d lt above some within =
    let one = get_or stretches i d in
    let split : drop i stretches ≡ one ∷ drop (i + 1) stretches = drop-cons stretches i d lt ∙ ap (λ (n : ℕ). one ∷ drop n stretches) (sym (add-one i)) in
    subst (λ (l : List Stretch). (AreApart below l × EndBy end l) ↔ (AreApart one.to (drop (i + 1) stretches) × EndBy end (drop (i + 1) stretches))) (sym split)
    ((λ h. (h.0.2, h.1.1)), (λ h. ((above, some, h.0), (within, h.1))))

-- at the end
pub apart_end : (end below : ℕ) (stretches : List Stretch) (i : ℕ) → length stretches ≤ i → AreApart below (drop i stretches) × EndBy end (drop i stretches)
apart_end end below stretches i le = subst (λ (l : List Stretch). AreApart below l × EndBy end l) (sym (drop_all i stretches le)) (tt, tt)

-- or not
pub apart_off : (end below : ℕ) (stretches : List Stretch) (i : ℕ) (d : Stretch) → i < length stretches → ((below < (get_or stretches i d).from) × ((get_or stretches i d).from < (get_or stretches i d).to) × ((get_or stretches i d).to ≤ end) → ⊥)
    → AreApart below (drop i stretches) × EndBy end (drop i stretches) → ⊥
apart_off end below stretches i d lt off h =
    let split : drop i stretches ≡ get_or stretches i d ∷ drop (i + 1) stretches = drop-cons stretches i d lt ∙ ap (λ (n : ℕ). get_or stretches i d ∷ drop n stretches) (sym (add-one i)) in
    let here = subst (λ (l : List Stretch). AreApart below l × EndBy end l) split h in
    off (here.0.0, here.0.1, here.1.0)

pub some_items : (items : List Slot) → nat_eq (length items) 0 ≡ false → 0 < length items
some_items items off = elim (eqb_tells (length items) 0) [ inl none ↦ absurd (cc (none.0, off)) | inr other ↦ omega (arith, other.1) ]
