-- What the parts of a device that were read say of the whole.
use Rattle.std.proofs.Common.{◌≡◌, inl, inr, ℕ, ◌+◌, ◌^◌, ◌<◌, ◌≤◌, List, [], ◌∷◌, ◌++◌, Some, None, refl, sym, ◌∙◌, ap, subst, arith}
use Rattle.std.specs.Prelude.{All}
use Rattle.std.proofs.lemmas.List.Elements.{All-head, All-same}
use Rattle.edge_disk.specs.Disk.{Moment, IsLawful, IsUntouched}
use Rattle.edge_disk.proofs.Moments.{untouched_then}
use Rattle.spool_state.specs.SpoolState.{OpenSlot, SpoolState, ordinal_of, first_of}
use Rattle.known_numbers.specs.declared.stretch.Stretch.{Stretch}
use Rattle.spool_state.specs.Layout.{first_cell, second_cell}
use Rattle.spool_state.specs.Cells.{IsContentOf, Counts, cursor_at, known_at}
use Rattle.spool_state.specs.Image.{StandsFor}
use Rattle.spool_state.specs.Order.{AreOpenSlots, AreInOrder}
use Rattle.spool_state.specs.Rules.{slots_told, size_told, IsNamed, IsLayout, IsMeasured, RegisterIsAt, HasHead, GroupBreaks, OrderBreaks, AreAmong, Breaks}
use Rattle.spool_state.proofs.Registers.{HasRoom}
use Rattle.spool_state.proofs.Standing.{state_of, counts_register, says_there}
use Rattle.spool_state.proofs.Making.{AreNumbers, state_stands}
use Rattle.spool_state.proofs.Laws.{stands_unbroken, one_state}
use Rattle.disk_cell.specs.declared.cell.Cell.{Cell}
use Rattle.disk_cell.specs.declared.cell.Cell.TheVariants.{First, Second}
use Rattle.disk_cell.specs.declared.register.Register.{Register}
use Rattle.disk_cell.specs.declared.fault.LoadFault.{LoadFault}
use Rattle.disk_cell.specs.declared.fault.LoadFault.TheVariants as Load
use Rattle.disk_cell.specs.Cell.{place_of, other_of}
use Rattle.disk_cell.specs.Fault.{IsBroken}
use Rattle.disk_cell.specs.Content.{text_of, HasRoomInCell}
use Rattle.disk_cell.specs.Register as Cells
use Rattle.disk_cell.proofs.Contents.{text_is}
use Rattle.disk_cell.proofs.Frames.{knows_holds}
use Rattle.spool_slots.specs.declared.slot.Slot.{Slot}
use Rattle.spool_log.specs.declared.reading.header.Header.{Header}
use Rattle.spool_faults.specs.declared.fault.PendFault.{PendFault}
use Rattle.spool_faults.specs.declared.fault.PendFault.TheVariants.{NotSpool, DiskFault, NoMemory}
use Rattle.spool_log.specs.declared.memory.Memory.{Memory}
use Rattle.spool_log.specs.Knows.{KnowsSlot, KnowsSlots, IsStored}
use Rattle.spool_log.specs.Reading.Header.{HasHeader}
use Rattle.spool_log.specs.Reading.Judging.{HasSoundNumbers, IsJudgementOf}
use Rattle.spool_log.specs.Reading.Marked.{IsMarked}
use Rattle.disk_cell.specs.Fault.{of_load}
use Rattle.spool_log.specs.Reading.{IsReadFault, IsSlotsFault, IsPlaced, KnowsOpened, KnowsState}
use Rattle.spool_log.specs.Device.{LiesIn, numbers_in}
use Rattle.spool_log.proofs.Scans.Headers.{header_kept}
use Rattle.spool_log.proofs.Scans.Marked.{marked_none}
use Rattle.spool_log.proofs.Scans.Scanned.{all_split}

-- the slots whose numbers these are, with the last one apart
pub record HasLast (size : ℕ) (slots : List OpenSlot) (items : List Slot) (last : Slot) : Type 0 where
  pub older : List OpenSlot
  pub active : OpenSlot
  pub whole : slots ≡ older ++ active ∷ []
  pub older_known : KnowsSlots size older items
  pub active_known : KnowsSlot size active last

last_known : (size : ℕ) (slots : List OpenSlot) (items : List Slot) (last : Slot) → KnowsSlots size slots (items ++ last ∷ []) → HasLast size slots items last
last_known size [] [] last knows = absurd knows
last_known size [] (i ∷ items) last knows = absurd knows
last_known size (s ∷ []) [] last knows = record { older = []; active = s; whole = refl; older_known = tt; active_known = knows.0 }
last_known size (s ∷ t ∷ slots) [] last knows = absurd knows.1
last_known size (s ∷ slots) (i ∷ items) last knows =
    let rest = last_known size slots items last knows.1 in
    record { older = s ∷ rest.older; active = rest.active; whole = ap (λ (l : List OpenSlot). s ∷ l) rest.whole; older_known = (knows.0, rest.older_known); active_known = rest.active_known }

-- the numbers of a register fit in its cell
pub has_room : (register : Register) → register.content.cursor < 2 ^ 64 → All HasRoomInCell register.content.known.items → HasRoom register.ordinal register.content.run register.content.cursor register.content.known.items
has_room register cursor fits = record {
  ordinal_room = register.last;
  run_room = omega (arith, register.run);
  cursor_room = cursor;
  few = register.few;
  known_room = λ i d lt. record { from = (fits i d lt).0; to = (fits i d lt).1 };
}

-- the register's cell
register_there : (cell : Cell) (ordinal run cursor : ℕ) (known : List Stretch) (content c : List ℕ) → HasRoom ordinal run cursor known → run ≤ 2097151 → IsContentOf run cursor known content → Counts (place_of cell) (place_of (other_of cell)) ordinal content c → RegisterIsAt (place_of cell) c
register_there First ordinal run cursor known content c room runs is counts = inl (refl, counts_register first_cell second_cell ordinal run cursor known content c room runs is counts)
register_there Second ordinal run cursor known content c room runs is counts = inr (refl, counts_register second_cell first_cell ordinal run cursor known content c room runs is counts)

module _ (header : Header) (m : Moment) (lawful : IsLawful m) (layout : IsLayout header.slots header.size m.size) (has : HasHeader header m.reads) where
  kept : IsNamed m.reads × IsMeasured m.reads
  kept = header_kept header m lawful layout has

  -- the cells break a rule
  pub load_breaks : (fault : LoadFault) → IsBroken fault m.reads → IsReadFault m.reads (of_load fault)
  load_breaks (Load.NotSpool at) breaks = inr (inr (inl (kept.0, kept.1, breaks)))
  load_breaks Load.DiskFault breaks = tt
  load_breaks Load.NoMemory breaks = tt

  -- with the register known
  module _ (register : Register) (knows : Cells.Knows register m.reads) (room : HasRoom register.ordinal register.content.run register.content.cursor register.content.known.items) where
    abbrev cell : ℕ
    cell = place_of register.counting

    head : HasHead cell m.reads
    head = record {
      named = kept.0;
      measured = kept.1;
      register = register_there register.counting register.ordinal register.content.run register.content.cursor register.content.known.items (text_of register.content) m.reads room register.run (text_is register.content register.version) knows.counts;
    }

    -- a slot breaks the rule of its groups
    pub slots_break : (fault : PendFault) → IsSlotsFault header.slots header.size m.reads fault → IsReadFault m.reads fault
    slots_break (NotSpool at) breaks =
        inr (inr (inr (inl (cell, head, subst (λ (n : ℕ). GroupBreaks n (size_told m.reads) at m.reads) (sym has.slots) (subst (λ (n : ℕ). GroupBreaks header.slots n at m.reads) (sym has.size) breaks)))))
    slots_break DiskFault breaks = tt
    slots_break NoMemory breaks = tt

    told_slots : (opened : List OpenSlot) → AreOpenSlots header.slots header.size m.reads opened → AreOpenSlots (slots_told m.reads) (size_told m.reads) m.reads opened
    told_slots opened all = subst (λ (n : ℕ). AreOpenSlots n (size_told m.reads) m.reads opened) (sym has.slots) (subst (λ (n : ℕ). AreOpenSlots header.slots n m.reads opened) (sym has.size) all)

    -- with the open slots known
    module _ (items : List Slot) (known : KnowsOpened header.slots header.size items m.reads) where
      -- the slots are not in order, or the cursor isn't among them
      breaks_at : (at : ℕ) → IsJudgementOf header.size known.opened (numbers_in register.content) cell (Some at) → Breaks at m.reads
      breaks_at at (inl order) = inr (inr (inr (inr (inl (cell, head, (known.opened, told_slots known.opened known.all, subst (λ (n : ℕ). OrderBreaks at n known.opened) (sym has.size) order))))))
      breaks_at at (inr outside) =
          let there : HasHead at m.reads = subst (λ (n : ℕ). HasHead n m.reads) (sym outside.0) head in
          let said = says_there at register.ordinal register.content.run register.content.cursor register.content.known.items m.reads room (knows_holds register m.reads knows) there.register in
          let off : AreAmong (cursor_at at m.reads) (known_at at m.reads) known.opened → ⊥ = λ among. outside.2 (subst (λ (n : ℕ). AreAmong n register.content.known.items known.opened) said.cursor_said (subst (λ (l : List Stretch). AreAmong (cursor_at at m.reads) l known.opened) said.known_said among)) in
          inr (inr (inr (inr (inr (there, (known.opened, told_slots known.opened known.all, outside.1, off))))))

      pub judged_breaks : (at : ℕ) → ((size : ℕ) (slots : List OpenSlot) → KnowsSlots size slots items → IsJudgementOf size slots (numbers_in register.content) cell (Some at)) → IsReadFault m.reads (NotSpool at)
      judged_breaks at judged = breaks_at at (judged header.size known.opened known.numbers)

      -- all is well
      pub state_known : (older : List Slot) (active : Slot) (memory : Memory) → items ≡ older ++ active ∷ []
          → memory.size ≡ header.size → memory.slots ≡ header.slots → memory.register ≡ register → memory.older.items ≡ older → memory.active ≡ active → memory.bookmark ≡ None
          → ((size : ℕ) (slots : List OpenSlot) → KnowsSlots size slots items → IsJudgementOf size slots (numbers_in register.content) cell None) → KnowsState m.reads memory
      state_known older active memory items_is size_is slots_is register_is older_is active_is bookmark_is judged =
          let has_last = last_known header.size known.opened older active (subst (KnowsSlots header.size known.opened) items_is known.numbers) in
          let well = judged header.size known.opened known.numbers in
          let opened : AreOpenSlots header.slots header.size m.reads (has_last.older ++ has_last.active ∷ []) = subst (AreOpenSlots header.slots header.size m.reads) has_last.whole known.all in
          let in_order : AreInOrder (has_last.older ++ has_last.active ∷ []) (ordinal_of known.opened 0) (first_of known.opened 0) = subst (λ (l : List OpenSlot). AreInOrder l (ordinal_of known.opened 0) (first_of known.opened 0)) has_last.whole well.0.all in
          let numbers : AreNumbers header.slots header.size register.content.run register.ordinal = record {
            some = layout.some;
            few = layout.few;
            large = layout.large;
            small = layout.small;
            run_few = register.run;
            ordinal_few = register.last;
          } in (
            state_of header.slots header.size register.content.run register.content.cursor register.content.known.items register.ordinal has_last.older has_last.active,
            record {
              stands = state_stands header.slots header.size register.content.run register.content.cursor register.content.known.items register.ordinal has_last.older has_last.active m.reads (ordinal_of known.opened 0) (first_of known.opened 0) numbers register.few
                  (lawful.reads_size ∙ layout.long) has.text (knows_holds register m.reads knows) opened in_order
                  (subst (AreAmong register.content.cursor register.content.known.items) has_last.whole well.1);
              knows = record {
                size = size_is;
                slots = slots_is;
                run = ap (λ (r : Register). r.content.run) register_is;
                cursor = ap (λ (r : Register). r.content.cursor) register_is;
                known = ap (λ (r : Register). r.content.known.items) register_is;
                ordinal = ap (λ (r : Register). r.ordinal) register_is;
                older = subst (KnowsSlots header.size has_last.older) (sym older_is) has_last.older_known;
                active = subst (KnowsSlot header.size has_last.active) (sym active_is) has_last.active_known;
                bookmark = subst (IsMarked has_last.older has_last.active) (sym bookmark_is) (marked_none has_last.older has_last.active);
              };
              register = subst (λ (r : Register). Cells.Knows r m.reads) (sym register_is) knows;
            },
          )

-- ---- what holds on any disk

-- slots that lie on the device, with sound numbers
pub all_lie : (slots size : ℕ) (items older : List Slot) (active : Slot) → All (IsPlaced slots size) items → All HasSoundNumbers items → items ≡ older ++ active ∷ []
    → All (LiesIn slots size) older × LiesIn slots size active × (active.ordinal ≤ active.first + active.count + 1)
all_lie slots size items older active placed sound is =
    let p = all_split (IsPlaced slots size) older (active ∷ []) (All-same (IsPlaced slots size) (older ++ active ∷ []) items (sym is) placed) in
    let s = all_split HasSoundNumbers older (active ∷ []) (All-same HasSoundNumbers (older ++ active ∷ []) items (sym is) sound) in
    let p' = All-head (IsPlaced slots size) active [] p.1 in
    let s' = All-head HasSoundNumbers active [] s.1 in (
      (λ k d lt. record { wide = (p.0 k d lt).wide; inside = (p.0 k d lt).inside; ends = (s.0 k d lt).ends }),
      record { wide = p'.wide; inside = p'.inside; ends = s'.ends },
      omega (arith, s'.early),
    )

-- three calls that only read
pub three_told : (m a b c : Moment) → IsLawful m → IsUntouched m a → IsUntouched a b → IsUntouched b c → IsUntouched m c
three_told m a b c lawful one two three = untouched_then m b c lawful (untouched_then m a b lawful one two) three

-- ---- for callers that know what the device stands for

-- what was read is that state
pub stored_state : (s : SpoolState) (known : Memory) (c : List ℕ) → StandsFor s c → KnowsState c known → IsStored s known c
stored_state s known c stands has = subst (λ (t : SpoolState). IsStored t known c) (one_state has.0 s c has.1.stands stands) has.1

-- and it is never said to be no spool
pub stored_no_fault : (s : SpoolState) (c : List ℕ) (at : ℕ) → StandsFor s c → IsReadFault c (NotSpool at) → ⊥
stored_no_fault s c at stands fault = stands_unbroken s c stands at fault
