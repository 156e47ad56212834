-- The state that a header, a register and open slots in order make.
use Rattle.std.proofs.Common.{◌≡◌, ◌≢◌, ℕ, ◌^◌, ◌<◌, ◌≤◌, List, [], ◌∷◌, ◌++◌, length, get_or, sym, ◌∙◌, arith, length-append}
use Rattle.std.specs.Prelude.{All}
use Rattle.std.proofs.lemmas.List.Elements.{All-nil, All-cons, All-head, All-tail, All-push}
use Rattle.foundation.specs.Bytes.{part}
use Rattle.known_numbers.specs.declared.stretch.TheConstants.{MOST_STRETCHES}
use Rattle.known_numbers.specs.declared.stretch.Stretch.{Stretch}
use Rattle.spool_state.specs.Layout.{most_slots, least_size, most_size, most_run, most_number}
use Rattle.spool_state.specs.Segment.{entries_of}
use Rattle.spool_state.specs.SpoolState.{OpenSlot, entries_in, list, first_of, base, end, AreElsewhere, AreApart}
use Rattle.spool_state.specs.Cells.{RegisterHas}
use Rattle.spool_state.specs.Image.{slot_at, header_text, StandsFor}
use Rattle.spool_state.specs.Order.{ComesBefore, AreSorted, IsFound, AreOpenSlots, AreInOrder}
use Rattle.spool_state.specs.Rules.{AreAmong, end_in}
use Rattle.spool_state.proofs.Sorting.{apart_found}
use Rattle.spool_state.proofs.Chains.{first_of-push, length-entries_in-push, last_in_order, consecutive, all_early}
use Rattle.spool_state.proofs.Texts.{end_active}
use Rattle.spool_state.proofs.Standing.{state_of}
use Rattle.spool_state.proofs.Adding.{end_later}

-- the numbers of a state of so many slots of this size
pub record AreNumbers (slots size run ordinal : ℕ) : Type 0 where
  pub some : 1 ≤ slots
  pub few : slots ≤ most_slots
  pub large : least_size ≤ size
  pub small : size ≤ most_size
  pub run_few : run ≤ most_run
  pub ordinal_few : ordinal ≤ most_number

all_before : (P : OpenSlot → Type 0) (slots : List OpenSlot) (last : OpenSlot) → All P (slots ++ last ∷ []) → All P slots × P last
all_before P [] last all = (All-nil P, All-head P last [] all)
all_before P (slot ∷ slots) last all =
    let others = all_before P slots last (All-tail P slot (slots ++ last ∷ []) all) in
    (All-cons P slot slots (All-head P slot (slots ++ last ∷ []) all) others.0, others.1)

-- a device of so many slots
module _ (slots size : ℕ) (c : List ℕ) (long : length c ≡ slot_at size slots) (some : 0 < size) (small : size < 2 ^ 32) where
  apart_push : (older : List OpenSlot) (last : OpenSlot) → All (IsFound slots size c) (older ++ last ∷ []) → AreSorted (older ++ last ∷ []) → AreApart older × AreElsewhere last.place older
  apart_push [] last found sorted = (tt, All-nil (λ slot. slot.place ≢ last.place))
  apart_push (slot ∷ older) last found sorted =
      let here = All-head (IsFound slots size c) slot (older ++ last ∷ []) found in
      let behind = All-tail (IsFound slots size c) slot (older ++ last ∷ []) found in
      let split = all_before (IsFound slots size c) older last behind in
      let after = all_before (ComesBefore slot) older last sorted.0 in
      let others = apart_push older last behind sorted.1 in (
        ((λ k d lt. apart_found slots size c long some small slot (get_or older k d) here (split.0 k d lt) (after.0 k d lt)), others.0),
        All-cons (λ s. s.place ≢ last.place) slot older (λ is. apart_found slots size c long some small slot last here split.1 after.1 (sym is)) others.1,
      )

pub state_stands : (slots size run cursor : ℕ) (known : List Stretch) (ordinal : ℕ) (older : List OpenSlot) (active : OpenSlot) (c : List ℕ) (o f : ℕ) → AreNumbers slots size run ordinal → length known ≤ MOST_STRETCHES
    → length c ≡ slot_at size slots → part 0 20 c ≡ header_text slots size → RegisterHas ordinal run cursor known c
    → AreOpenSlots slots size c (older ++ active ∷ []) → AreInOrder (older ++ active ∷ []) o f → AreAmong cursor known (older ++ active ∷ [])
    → StandsFor (state_of slots size run cursor known ordinal older active) c
state_stands slots size run cursor known ordinal older active c o f numbers few long header register opened in_order among =
    let made = state_of slots size run cursor known ordinal older active in
    let split = all_before (IsFound slots size c) older active opened.found in
    let apart = apart_push slots size c long (omega (arith, numbers.large)) (omega (arith, numbers.small)) older active opened.found opened.sorted in
    let early = all_early older active o f in_order in
    let last = last_in_order older active o f in_order in
    let chain = consecutive older active o f in_order in
    let first : first_of (older ++ active ∷ []) 0 ≡ base made = first_of-push older active 0 in
    let many : length (entries_in (older ++ active ∷ [])) ≡ length (list made) = length-entries_in-push older active ∙ sym (length-append (entries_in older) (entries_of active.segment)) in
    record {
      long = long;
      header = header;
      register = register;
      older = λ k d lt. (split.0 k d lt).holds;
      active = split.1.holds;
      closed = λ place lt off none. opened.others place lt (All-push (λ slot. slot.place ≢ place) older active none off);
      sound = record {
        some = numbers.some;
        few = numbers.few;
        large = numbers.large;
        small = numbers.small;
        run = numbers.run_few;
        ordinal = numbers.ordinal_few;
        older = λ k d lt. record { place = (split.0 k d lt).place; groups = (split.0 k d lt).groups; early = early k d lt };
        active = record { place = split.1.place; groups = split.1.groups; early = last.0 };
        apart = apart.0;
        apart_active = apart.1;
        consecutive = chain;
        ends = omega (arith, end_active made chain, last.1);
        from_base = omega (arith, first, among.from_first);
        to_end = omega (arith, first, many, among.to_end);
        known = record { apart = among.apart; few = few };
        known_to_end = end_later (end_in (older ++ active ∷ [])) (end made) known (omega (arith, first, many)) among.known_to_end;
      };
    }
