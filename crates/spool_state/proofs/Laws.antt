-- The laws of the whole device: its bytes stand for one state at most, and none where they break a rule.
use Rattle.std.proofs.Common.{◌≡◌, inl, inr, ℕ, ◌+◌, ◌<◌, ◌≤◌, List, [], ◌∷◌, ◌++◌, length, get_or, refl, sym, ◌∙◌, ap, subst, arith, append_assoc, length-append}
use Rattle.std.proofs.lemmas.List.Elements.{All-contains}
use Rattle.foundation.proofs.Bytes.{get_or-part}
use Rattle.known_numbers.specs.declared.stretch.Stretch.{Stretch}
use Rattle.spool_state.specs.Segment.{entries_of, head_text, groups_text}
use Rattle.spool_state.specs.SpoolState.{OpenSlot, SpoolState, entries_in, list, first_of, ordinal_of, base, end}
use Rattle.spool_state.specs.Cells.{known_at}
use Rattle.spool_state.specs.Image.{slot_at, HoldsSegment, StandsFor}
use Rattle.spool_state.specs.Broken.{BreaksAt}
use Rattle.spool_state.specs.Order.{IsFound, AreOpenSlots, AreInOrder}
use Rattle.spool_state.specs.Rules.{slots_told, size_told, IsMeasured, OrderBreaks, AreAmong, end_in, Breaks}
use Rattle.spool_state.proofs.Adding.{end_later}
use Rattle.spool_state.proofs.Registers.{holds_unbroken, holds_one}
use Rattle.spool_state.proofs.Once.{broken_holds_none}
use Rattle.spool_state.proofs.Frames.{inside}
use Rattle.spool_state.proofs.Segments.{head_open}
use Rattle.spool_state.proofs.Sorting.{slot_of_place, one_list}
use Rattle.spool_state.proofs.Chains.{some-push, first_of-push, length-entries_in-push, in_order_no_fault}
use Rattle.spool_state.proofs.Standing.{state_of, all_slots, name_is, state_room, says_there, state_in_order, state_open_slots, state_slots, state_size}

-- ---- bytes that stand for a state break no rule

-- a slot that breaks the rule of its groups has an open gate
breaks_open : (at size place : ℕ) (c : List ℕ) → at + size ≤ length c → 0 < size → BreaksAt at size place c → get_or c at 0 ≡ 1
breaks_open at size place c room some breaks =
    let text = breaks.text in
    sym (get_or-part at size c 0 at some (omega arith))
    ∙ ap (λ (l : List ℕ). get_or l 0 0) (text ∙ append_assoc (head_text breaks.before.ordinal breaks.before.first) (groups_text breaks.before.groups) breaks.rest)
    ∙ head_open breaks.before.ordinal breaks.before.first (groups_text breaks.before.groups ++ breaks.rest)

module _ (s : SpoolState) (c : List ℕ) (stands : StandsFor s c) where
  some : 0 < s.size
  some = omega (arith, stands.sound.large)

  state_slot_whole : (slot at : ℕ) → slot < s.slots → BreaksAt (slot_at s.size slot) s.size at c → ⊥
  state_slot_whole slot at lt breaks =
      let opened = state_open_slots s c stands in
      let room : slot_at s.size slot + s.size ≤ length c = omega (arith, stands.long, inside s.size slot s.slots lt) in
      elim (slot_of_place slot (all_slots s)) [
        | inl none ↦ opened.others slot lt none (breaks_open (slot_at s.size slot) s.size at c room some breaks)
        | inr there ↦
            let f = All-contains (IsFound s.slots s.size c) (all_slots s) there.0 opened.found there.1 in
            broken_holds_none (slot_at s.size slot) s.size at there.0.segment c room (omega (arith, stands.sound.small)) f.groups breaks
            (subst (λ (p : ℕ). HoldsSegment (slot_at s.size p) s.size there.0.segment c) there.2 f.holds)
      ]

  measured : IsMeasured c
  measured =
      let slots = state_slots s c stands in
      let size = state_size s c stands in
      record {
        some = omega (arith, slots, stands.sound.some);
        few = omega (arith, slots, stands.sound.few);
        large = omega (arith, size, stands.sound.large);
        small = omega (arith, size, stands.sound.small);
        long = stands.long ∙ sym (ap (λ (n : ℕ). slot_at n (slots_told c)) size ∙ ap (slot_at s.size) slots);
      }

  -- the open slots that the told numbers give are those of the state
  told : (opened : List OpenSlot) → AreOpenSlots (slots_told c) (size_told c) c opened → opened ≡ all_slots s
  told opened has =
      let here : AreOpenSlots s.slots s.size c opened = subst (λ (n : ℕ). AreOpenSlots n s.size c opened) (state_slots s c stands) (subst (λ (n : ℕ). AreOpenSlots (slots_told c) n c opened) (state_size s c stands) has) in
      one_list s.slots s.size c stands.long some (omega (arith, stands.sound.small)) opened (all_slots s) here (state_open_slots s c stands)

  order_kept : (at size : ℕ) (opened : List OpenSlot) → opened ≡ all_slots s → OrderBreaks at size opened → ⊥
  order_kept at size [] is breaks = omega (arith, ap length is, some-push s.older s.active)
  order_kept at size (slot ∷ slots) is breaks =
      in_order_no_fault (slot ∷ slots) slot.segment.ordinal slot.segment.first breaks.0
      (subst (λ (l : List OpenSlot). AreInOrder l (ordinal_of l 0) (first_of l 0)) (sym is) (state_in_order s c stands)) breaks.2

  known_kept : (opened : List OpenSlot) → opened ≡ all_slots s → AreAmong s.cursor s.known opened
  known_kept opened is =
      let first : first_of opened 0 ≡ base s = ap (λ (l : List OpenSlot). first_of l 0) is ∙ first_of-push s.older s.active 0 in
      let many : length (entries_in opened) ≡ length (list s) = ap (λ (l : List OpenSlot). length (entries_in l)) is ∙ length-entries_in-push s.older s.active ∙ sym (length-append (entries_in s.older) (entries_of s.active.segment)) in
      record {
        from_first = omega (arith, first, stands.sound.from_base);
        to_end = omega (arith, first, many, stands.sound.to_end);
        apart = stands.sound.known.apart;
        known_to_end = end_later (end s) (end_in opened) s.known (omega (arith, first, many)) stands.sound.known_to_end;
      }

  -- Bytes that stand for a state break no rule.
  pub stands_unbroken : (at : ℕ) → Breaks at c → ⊥
  stands_unbroken at (inl b) = b.1 (record { room = omega (arith, stands.long); name = name_is s.slots s.size c stands.header })
  stands_unbroken at (inr (inl b)) = b.2 measured
  stands_unbroken at (inr (inr (inl b))) = holds_unbroken at s.ordinal s.run s.cursor s.known c (state_room s stands.sound) stands.sound.run stands.register b.2
  stands_unbroken at (inr (inr (inr (inl b)))) =
      let groups = b.2 in
      state_slot_whole groups.slot at (omega (arith, groups.within, state_slots s c stands)) (subst (λ (n : ℕ). BreaksAt (slot_at n groups.slot) n at c) (state_size s c stands) groups.breaks)
  stands_unbroken at (inr (inr (inr (inr (inl b))))) =
      let opened = b.2 in
      order_kept at (size_told c) opened.0 (told opened.0 opened.1) opened.2
  stands_unbroken at (inr (inr (inr (inr (inr b))))) =
      let opened = b.1 in
      let said = says_there at s.ordinal s.run s.cursor s.known c (state_room s stands.sound) stands.register b.0.register in
      opened.3 (subst (λ (n : ℕ). AreAmong n (known_at at c) opened.0) (sym said.cursor_said) (subst (λ (l : List Stretch). AreAmong s.cursor l opened.0) (sym said.known_said) (known_kept opened.0 (told opened.0 opened.1))))

-- ---- one state

-- the last slot of a list, and those before it
same_push : (xs ys : List OpenSlot) (x y : OpenSlot) → xs ++ x ∷ [] ≡ ys ++ y ∷ [] → (xs ≡ ys) × (x ≡ y)
same_push [] [] x y is = (refl, cc is)
same_push [] (b ∷ ys) x y is = absurd (omega (arith, ap length is, length-append ys (y ∷ [])))
same_push (a ∷ xs) [] x y is = absurd (omega (arith, ap length is, length-append xs (x ∷ [])))
same_push (a ∷ xs) (b ∷ ys) x y is =
    let first : a ≡ b = cc is in
    let rest : xs ++ x ∷ [] ≡ ys ++ y ∷ [] = cc is in
    let others = same_push xs ys x y rest in
    (cc (first, others.0), others.1)

-- The bytes of a device stand for one state at most.
pub one_state : (s t : SpoolState) (c : List ℕ) → StandsFor s c → StandsFor t c → s ≡ t
one_state s t c p q =
    let slots = sym (state_slots s c p) ∙ state_slots t c q in
    let size = sym (state_size s c p) ∙ state_size t c q in
    let numbers = holds_one s.ordinal s.run s.cursor s.known t.ordinal t.run t.cursor t.known c (state_room s p.sound) (state_room t q.sound) p.register q.register in
    let opened : AreOpenSlots t.slots t.size c (all_slots s) =
    subst (λ (n : ℕ). AreOpenSlots n t.size c (all_slots s)) slots (subst (λ (n : ℕ). AreOpenSlots s.slots n c (all_slots s)) size (state_open_slots s c p)) in
    let rows = same_push s.older t.older s.active t.active
    (one_list t.slots t.size c q.long (omega (arith, q.sound.large)) (omega (arith, q.sound.small)) (all_slots s) (all_slots t) opened (state_open_slots t c q)) in
    ap (λ (n : ℕ). state_of n s.size s.run s.cursor s.known s.ordinal s.older s.active) slots
    ∙ ap (λ (n : ℕ). state_of t.slots n s.run s.cursor s.known s.ordinal s.older s.active) size
    ∙ ap (λ (n : ℕ). state_of t.slots t.size n s.cursor s.known s.ordinal s.older s.active) numbers.run_is_same
    ∙ ap (λ (n : ℕ). state_of t.slots t.size t.run n s.known s.ordinal s.older s.active) numbers.cursor_is_same
    ∙ ap (λ (l : List Stretch). state_of t.slots t.size t.run t.cursor l s.ordinal s.older s.active) numbers.known_is_same
    ∙ ap (λ (n : ℕ). state_of t.slots t.size t.run t.cursor t.known n s.older s.active) numbers.ordinal_is_same
    ∙ ap (λ (l : List OpenSlot). state_of t.slots t.size t.run t.cursor t.known t.ordinal l s.active) rows.0
    ∙ ap (state_of t.slots t.size t.run t.cursor t.known t.ordinal t.older) rows.1
