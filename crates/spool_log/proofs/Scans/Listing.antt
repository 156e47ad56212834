-- Entries read slot by slot.
use Rattle.std.proofs.Common.{◌≡◌, ◌⊎◌, inl, inr, ℕ, zero, suc, ◌+◌, ◌-◌, ◌<◌, ◌≤◌, max, List, [], ◌∷◌, ◌++◌, length, take, drop, get_or, sym, ◌∙◌, ap, subst, arith, length-append, append_assoc}
use Rattle.std.proofs.lemmas.Bool.{cases_lt}
use Rattle.std.proofs.lemmas.List.{append-nil, length-map, take-append-le, take_all, take_more, length-take}
use Rattle.std.proofs.lemmas.List.Concat.{flat_map-append}
use Rattle.std.proofs.Math.Seq.{take-append-add}
use Rattle.known_numbers.specs.Numbers.{Numbers, IsKnown}
use Rattle.event_form.specs.declared.event.Entry.{Entry}
use Rattle.spool_state.specs.Segment.{entries_of}
use Rattle.spool_state.specs.SpoolState.{OpenSlot, SpoolState, entries_in, list, first_of, base, AreConsecutive}
use Rattle.spool_state.specs.Left.{NumberedEntry, numbered, unknown}
use Rattle.spool_state.specs.Image.{slot_at, StandsFor}
use Rattle.spool_state.proofs.Texts.{end_active}
use Rattle.spool_state.proofs.Unknown.{numbered_append}
use Rattle.spool_slots.specs.declared.slot.Slot.{Slot}
use Rattle.spool_slots.specs.declared.fault.ScanFault.{ScanFault}
use Rattle.spool_slots.specs.declared.fault.ScanFault.TheVariants as Scan
use Rattle.spool_slots.specs.Fault as Slot_faults
use Rattle.spool_slots.specs.Slot as Slots
use Rattle.spool_answers.specs.declared.numbered.Numbered.{Numbered}
use Rattle.spool_slots.specs.Fault.{of_scan}
use Rattle.spool_answers.specs.Pend.{given_entries, IsNotBroken}
use Rattle.spool_log.specs.Knows.{KnowsSlot, KnowsSlots}
use Rattle.spool_log.specs.Reading.Wanted.{wanted_from}
use Rattle.spool_log.proofs.Changes.Added.{holds_from}
use Rattle.spool_log.proofs.Changes.Lowest.{length-knows}
use Rattle.spool_log.proofs.Scans.Known.{none_wanted, all_wanted, wanted_append, wanted_split}

pub length-given : (given : List Numbered) → length (given_entries given) ≡ length given
length-given given = length-map given (λ one. record { number = one.number; entry = one.entry })

-- a fault of a slot that says nothing of the device
pub scan_not_broken : (fault : ScanFault) → Slot_faults.IsNotBroken fault → IsNotBroken (of_scan fault)
scan_not_broken (Scan.NotSpool at) h = h
scan_not_broken Scan.DiskFault h = tt
scan_not_broken Scan.NoMemory h = tt

-- ---- the first so many of two lists

pub take_two : (m : ℕ) (xs ys : List NumberedEntry) → take m (xs ++ ys) ≡ take m xs ++ take (m - length xs) ys
take_two m xs ys = elim (cases_lt m (length xs)) [
  | inl lt ↦
      let none : m - length xs ≡ 0 = omega arith in
      take-append-le m xs ys (omega arith) ∙ sym (append-nil (take m xs)) ∙ ap (λ (k : ℕ). take m xs ++ take k ys) (sym none)
  | inr ge ↦
      let more : m ≡ length xs + (m - length xs) = omega arith in
      ap (λ (k : ℕ). take k (xs ++ ys)) more ∙ take-append-add xs ys (m - length xs) ∙ ap (λ (l : List NumberedEntry). l ++ take (m - length xs) ys) (sym (take_all m xs ge))
]

-- those of the second where the first are given
pub take_next : (m : ℕ) (given xs ys : List NumberedEntry) → given ≡ take m xs → given ++ take (m - length given) ys ≡ take m (xs ++ ys)
take_next m given xs ys is =
    let left : m - length given ≡ m - length xs = omega (arith, ap length is, length-take m xs) in
    (λ i. is i ++ take (left i) ys) ∙ sym (take_two m xs ys)

-- all that are wanted of two lists, where of the second none is or no more are asked for
pub take_first : (m : ℕ) (old xs ys : List NumberedEntry) → length (old ++ xs) ≤ m → (ys ≡ []) ⊎ (m ≤ length (old ++ xs)) → old ++ xs ≡ old ++ take (m - length old) (xs ++ ys)
take_first m old xs ys le why =
    let few : length xs ≤ m - length old = omega (arith, le, length-append old xs) in
    let none : take (m - length old - length xs) ys ≡ [] = elim why [
      | inl empty ↦ ap (λ (l : List NumberedEntry). take (m - length old - length xs) l) empty ∙ take_all (m - length old - length xs) [] (omega arith)
      | inr full ↦ let zero_left : m - length old - length xs ≡ 0 = omega (arith, full, length-append old xs) in ap (λ (k : ℕ). take k ys) zero_left
    ] in
    ap (λ (l : List NumberedEntry). old ++ l) (sym (take_two (m - length old) xs ys ∙ (λ i. take_all (m - length old) xs few i ++ none i) ∙ append-nil xs))

-- ---- one slot

part_same : (n : ℕ) (entries part : List Entry) → part ≡ take n entries → part ≡ take (length part) entries
part_same n entries part is = elim (cases_lt (length entries) n) [
  | inl lt ↦
      let all : take n entries ≡ entries = take_all n entries (omega arith) in
      let long : length entries ≡ length part = sym (ap length (is ∙ all)) in
      is ∙ all ∙ sym (take_all (length part) entries (omega (arith, long)))
  | inr ge ↦
      let long : n ≡ length part = omega (arith, ap length is, length-take n entries) in
      is ∙ ap (λ (k : ℕ). take k entries) long
]

module _ (numbers : Numbers) (from first : ℕ) (entries : List Entry) where
  -- those that are wanted of its first so many
  abbrev pub wanted_in : ℕ → List NumberedEntry
  wanted_in n = wanted_from numbers from (numbered first (take n entries))

  -- before the numbers from which it is read none is wanted
  pub read_start : (mark : ℕ) (old : List NumberedEntry) → first ≤ mark → mark ≤ max from first → old ≡ old ++ wanted_in (mark - first)
  read_start mark old begins low =
      let none : wanted_in (mark - first) ≡ [] = none_wanted numbers from first (take (mark - first) entries) (λ n ge lt. inl (omega (arith, lt, ge, begins, low, length-take (mark - first) entries))) in
      sym (ap (λ (l : List NumberedEntry). old ++ l) none ∙ append-nil old)

  -- None is wanted from one number up to another, and from there on some are read.
  pub read_on : (old given next : List NumberedEntry) (mark number n : ℕ) (part : List Entry) → first ≤ mark → mark ≤ number → number ≤ first + length entries → from ≤ number
      → ((k : ℕ) → mark ≤ k → k < number → (k < from) ⊎ IsKnown numbers k)
      → part ≡ take n (drop (number - first) entries) → next ≡ given ++ unknown numbers (numbered number part)
      → given ≡ old ++ wanted_in (mark - first) → next ≡ old ++ wanted_in (number + length part - first)
  read_on old given next mark number n part begins order ends above passed part_is next_is given_is =
      let skipped = take (number - mark) (drop (mark - first) entries) in
      let place : first + (mark - first) ≡ mark = omega (arith, begins) in
      let there : first + (number - first) ≡ number = omega (arith, begins, order) in
      let upto : mark - first + (number - mark) ≡ number - first = omega (arith, begins, order) in
      let after : number - first + length part ≡ number + length part - first = omega (arith, begins, order) in
      let none : wanted_from numbers from (numbered (first + (mark - first)) skipped) ≡ [] = none_wanted numbers from (first + (mark - first)) skipped (λ k ge lt. passed k (omega (arith, ge, place)) (omega (arith, lt, place, length-take (number - mark) (drop (mark - first) entries)))) in
      let before : wanted_in (number - first) ≡ wanted_in (mark - first) =
      ap wanted_in (sym upto) ∙ wanted_split numbers from first entries (mark - first) (number - mark) (omega (arith, order, ends))
      ∙ ap (λ (l : List NumberedEntry). wanted_in (mark - first) ++ l) none ∙ append-nil (wanted_in (mark - first)) in
      let same : part ≡ take (length part) (drop (number - first) entries) = part_same n (drop (number - first) entries) part part_is in
      let new : wanted_from numbers from (numbered (first + (number - first)) (take (length part) (drop (number - first) entries))) ≡ unknown numbers (numbered number part) =
      (λ i. wanted_from numbers from (numbered (there i) (sym same i))) ∙ all_wanted numbers from number part above in
      next_is
      ∙ ap (λ (l : List NumberedEntry). l ++ unknown numbers (numbered number part)) (given_is ∙ ap (λ (l : List NumberedEntry). old ++ l) (sym before))
      ∙ append_assoc old (wanted_in (number - first)) (unknown numbers (numbered number part))
      ∙ ap (λ (l : List NumberedEntry). old ++ (wanted_in (number - first) ++ l)) (sym new)
      ∙ ap (λ (l : List NumberedEntry). old ++ l) (sym (wanted_split numbers from first entries (number - first) (length part) (omega (arith, ends))) ∙ ap wanted_in after)

  -- the slot was read far enough
  pub read_enough : (most mark : ℕ) (old given : List NumberedEntry) → first ≤ mark → mark ≤ first + length entries → length given ≤ most
      → ((k : ℕ) → mark ≤ k → k < first + length entries → (k < from) ⊎ IsKnown numbers k) ⊎ (most ≤ length given)
      → given ≡ old ++ wanted_in (mark - first) → given ≡ old ++ take (most - length old) (wanted_from numbers from (numbered first entries))
  read_enough most mark old given begins ends few why is =
      let rest = take (first + length entries - mark) (drop (mark - first) entries) in
      let place : first + (mark - first) ≡ mark = omega (arith, begins) in
      let whole : mark - first + (first + length entries - mark) ≡ length entries = omega (arith, begins, ends) in
      let all : wanted_from numbers from (numbered first entries) ≡ wanted_in (mark - first) ++ wanted_from numbers from (numbered (first + (mark - first)) rest) =
      ap (λ (l : List Entry). wanted_from numbers from (numbered first l)) (sym (take_all (length entries) entries (omega arith))) ∙ ap wanted_in (sym whole)
      ∙ wanted_split numbers from first entries (mark - first) (first + length entries - mark) (omega (arith, ends)) in
      let enough : (wanted_from numbers from (numbered (first + (mark - first)) rest) ≡ []) ⊎ (most ≤ length (old ++ wanted_in (mark - first))) = elim why [
        | inl passed ↦ inl (none_wanted numbers from (first + (mark - first)) rest (λ k ge lt. passed k (omega (arith, ge, place)) (omega (arith, lt, place, ends, length-take (first + length entries - mark) (drop (mark - first) entries)))))
        | inr full ↦ inr (omega (arith, full, ap length is))
      ] in
      is ∙ take_first most old (wanted_in (mark - first)) (wanted_from numbers from (numbered (first + (mark - first)) rest)) (omega (arith, few, ap length is)) enough
      ∙ ap (λ (l : List NumberedEntry). old ++ take (most - length old) l) (sym all)

-- ---- the slots that memory knows, one by one

-- the first number of the slot at a place of the list
first_at : (slots : List OpenSlot) (ordinal first : ℕ) (i : ℕ) (d : OpenSlot) → AreConsecutive slots ordinal first → i < length slots → (get_or slots i d).segment.first ≡ first_of slots first + length (entries_in (take i slots))
first_at [] ordinal first i d h lt = absurd (omega arith)
first_at (slot ∷ slots) ordinal first zero d h lt = omega arith
first_at (slot ∷ slots) ordinal first (suc i) d h lt = omega (arith, first_at slots ordinal first i d h.3 (omega arith), h.1, length-append (entries_of slot.segment) (entries_in (take i slots)))

knows_at : (size : ℕ) (slots : List OpenSlot) (known : List Slot) (i : ℕ) (d : OpenSlot) (k : Slot) → KnowsSlots size slots known → i < length known → KnowsSlot size (get_or slots i d) (get_or known i k)
knows_at size [] [] i d k h lt = absurd (omega arith)
knows_at size [] (x ∷ known) i d k h lt = absurd h
knows_at size (slot ∷ slots) [] i d k h lt = absurd h
knows_at size (slot ∷ slots) (x ∷ known) zero d k h lt = h.0
knows_at size (slot ∷ slots) (x ∷ known) (suc i) d k h lt = knows_at size slots known i d k h.1 (omega arith)

entries_in-more : (slots : List OpenSlot) (i : ℕ) (d : OpenSlot) → i < length slots → entries_in (take (i + 1) slots) ≡ entries_in (take i slots) ++ entries_of (get_or slots i d).segment
entries_in-more slots i d lt =
    ap entries_in (take_more slots i d lt)
    ∙ flat_map-append (λ slot. entries_of slot.segment) (take i slots) (get_or slots i d ∷ [])
    ∙ ap (λ (l : List Entry). entries_in (take i slots) ++ l) (append-nil (entries_of (get_or slots i d).segment))

-- what is given where so many of the older slots are read
abbrev pub wanted_so_far : SpoolState → Numbers → ℕ → ℕ → ℕ → List NumberedEntry
wanted_so_far s numbers from most i = take most (wanted_from numbers from (numbered (base s) (entries_in (take i s.older))))

-- where none is read
pub wanted_none : (s : SpoolState) (numbers : Numbers) (from most : ℕ) → wanted_so_far s numbers from most 0 ≡ []
wanted_none s numbers from most = take_all most [] (omega arith)

module _ (s : SpoolState) (older : List Slot) (c : List ℕ) (stands : StandsFor s c) (knows : KnowsSlots s.size s.older older) (numbers : Numbers) (from most : ℕ) where
  -- two lists of entries that go on
  two_wanted : (before here : List Entry) (first : ℕ) → first ≡ base s + length before → wanted_from numbers from (numbered (base s) before) ++ wanted_from numbers from (numbered first here) ≡ wanted_from numbers from (numbered (base s) (before ++ here))
  two_wanted before here first is =
      ap (λ (n : ℕ). wanted_from numbers from (numbered (base s) before) ++ wanted_from numbers from (numbered n here)) is
      ∙ sym (ap (λ (l : List NumberedEntry). wanted_from numbers from l) (numbered_append (base s) before here) ∙ wanted_append numbers from (numbered (base s) before) (numbered (base s + length before) here))

  -- the slot of memory at a place
  pub knows_slot : (i : ℕ) (k : Slot) → i < length older → k ≡ get_or older i k → Slots.Knows k (get_or s.older i s.active).segment c
  knows_slot i k lt is =
      let lt' : i < length s.older = omega (arith, length-knows s.size s.older older knows) in
      let number = subst (KnowsSlot s.size (get_or s.older i s.active)) (sym is) (knows_at s.size s.older older i s.active k knows lt) in
      record {
        holds = holds_from (slot_at s.size (get_or s.older i s.active).place) s.size (get_or s.older i s.active).segment k c number.at_is number.size_is (stands.older i s.active lt');
        sound = (stands.sound.older i s.active lt').groups;
        ordinal = number.ordinal_is;
        first = number.first_is;
        gate = number.gate_is;
        count = number.count_is;
      }

  pub read_next : (i : ℕ) (given : List NumberedEntry) → i < length older → given ≡ wanted_so_far s numbers from most i
      → given ++ take (most - length given) (wanted_from numbers from (numbered (get_or s.older i s.active).segment.first (entries_of (get_or s.older i s.active).segment))) ≡ wanted_so_far s numbers from most (i + 1)
  read_next i given lt is =
      let lt' : i < length s.older = omega (arith, length-knows s.size s.older older knows) in
      let before = entries_in (take i s.older) in
      let slot = get_or s.older i s.active in
      take_next most given (wanted_from numbers from (numbered (base s) before)) (wanted_from numbers from (numbered slot.segment.first (entries_of slot.segment))) is
      ∙ ap (λ (l : List NumberedEntry). take most l) (two_wanted before (entries_of slot.segment) slot.segment.first (first_at s.older s.active.segment.ordinal s.active.segment.first i s.active stands.sound.consecutive lt'))
      ∙ ap (λ (l : List Entry). take most (wanted_from numbers from (numbered (base s) l))) (sym (entries_in-more s.older i s.active lt'))

  pub read_last : (given : List NumberedEntry) → given ≡ wanted_so_far s numbers from most (length older)
      → given ++ take (most - length given) (wanted_from numbers from (numbered s.active.segment.first (entries_of s.active.segment))) ≡ take most (wanted_from numbers from (numbered (base s) (list s)))
  read_last given is =
      let all : take (length older) s.older ≡ s.older = take_all (length older) s.older (omega (arith, length-knows s.size s.older older knows)) in
      let first : s.active.segment.first ≡ base s + length (entries_in s.older) = omega (arith, end_active s stands.sound.consecutive, length-append (entries_in s.older) (entries_of s.active.segment)) in
      let whole : given ≡ take most (wanted_from numbers from (numbered (base s) (entries_in s.older))) = is ∙ ap (λ (l : List OpenSlot). take most (wanted_from numbers from (numbered (base s) (entries_in l)))) all in
      take_next most given (wanted_from numbers from (numbered (base s) (entries_in s.older))) (wanted_from numbers from (numbered s.active.segment.first (entries_of s.active.segment))) whole
      ∙ ap (λ (l : List NumberedEntry). take most l) (two_wanted (entries_in s.older) (entries_of s.active.segment) s.active.segment.first first)

  -- the active slot in memory
  pub knows_active : (k : Slot) → KnowsSlot s.size s.active k → Slots.Knows k s.active.segment c
  knows_active k number = record {
    holds = holds_from (slot_at s.size s.active.place) s.size s.active.segment k c number.at_is number.size_is stands.active;
    sound = stands.sound.active.groups;
    ordinal = number.ordinal_is;
    first = number.first_is;
    gate = number.gate_is;
    count = number.count_is;
  }
