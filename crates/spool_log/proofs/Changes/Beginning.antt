-- A segment begun in a closed slot, seen from the disk.
use Rattle.std.proofs.Common.{◌⊎◌, inl, inr, ℕ, ◌+◌, ◌≤◌, ◌^◌, List, [], ◌∷◌, length, sym, ◌∙◌, subst, arith}
use Rattle.foundation.specs.Bytes.{SameBut}
use Rattle.foundation.proofs.Bytes.{same_but_then}
use Rattle.event_form.specs.declared.event.Entry.{Entry}
use Rattle.spool_state.specs.Segment.{IsGroup, Segment, empty_segment, need_of, with_group}
use Rattle.spool_state.specs.SpoolState.{SpoolState, end}
use Rattle.spool_state.specs.Change.{added, begun}
use Rattle.spool_state.specs.Image.{slot_at, StandsFor}
use Rattle.spool_state.proofs.Segments.{empty_length}
use Rattle.edge_disk.specs.Disk.{Moment, IsLawful, IsSettled, LeavesOnly}
use Rattle.edge_disk.specs.Gate.{ComesFrom}
use Rattle.edge_disk.proofs.Moments.{weaker, both, from_settled, reads_have}
use Rattle.spool_slots.specs.declared.slot.Slot.{Slot}
use Rattle.spool_slots.specs.Slot as Slots
use Rattle.spool_slots.specs.Slot.{IsSlot, IsClosedOrHolds, HoldsOldOrNew}
use Rattle.spool_log.specs.Knows.{KnowsSlot}
use Rattle.spool_log.specs.declared.changing.begin.Head.{Head}
use Rattle.spool_log.specs.Changing.Next.{IsNext}
use Rattle.spool_answers.specs.Stages.{StandsForOne, begin_stages}
use Rattle.spool_state.proofs.Begun.{end-begun}
use Rattle.spool_log.proofs.Changes.Begun.{begun_stands, beginning_stands}
use Rattle.spool_log.proofs.Changes.Added.{holds_at, holds_images, add_moments, add_knows, add_stands}

-- a state on a settled disk, and the numbers of the next segment
module _ (s : SpoolState) (place : ℕ) (head : Head) (next : IsNext s place head) (m : Moment) (settled : IsSettled m) (stands : StandsFor s m.reads) where
  segment : Segment
  segment = empty_segment (s.active.segment.ordinal + 1) (end s)

  module _ (new : Moment) (run : LeavesOnly (ComesFrom m (IsClosedOrHolds head.at head.size (empty_segment head.ordinal head.first))) m new) where
    step : (c : List ℕ) → IsClosedOrHolds head.at head.size (empty_segment head.ordinal head.first) m.reads c → IsClosedOrHolds (slot_at s.size place) s.size (empty_segment (s.active.segment.ordinal + 1) (end s)) m.reads c
    step c h =
        subst (λ (x : ℕ). IsClosedOrHolds x s.size (empty_segment (s.active.segment.ordinal + 1) (end s)) m.reads c) next.at_is
        (subst (λ (y : ℕ). IsClosedOrHolds head.at y (empty_segment (s.active.segment.ordinal + 1) (end s)) m.reads c) next.size_is
        (subst (λ (o : ℕ). IsClosedOrHolds head.at head.size (empty_segment o (end s)) m.reads c) next.ordinal_is
        (subst (λ (f : ℕ). IsClosedOrHolds head.at head.size (empty_segment head.ordinal f) m.reads c) next.first_is h)))

    run_settled : LeavesOnly (IsClosedOrHolds head.at head.size (empty_segment head.ordinal head.first) m.reads) m new
    run_settled = from_settled (IsClosedOrHolds head.at head.size (empty_segment head.ordinal head.first)) m new settled run

    -- at all moments
    begin_moments : LeavesOnly (λ c. StandsFor s c ⊎ StandsFor (begun s place) c) m new
    begin_moments =
        weaker _ (λ c. StandsFor s c ⊎ StandsFor (begun s place) c) m new run_settled (λ c h. let at = step c h in beginning_stands s place m.reads c stands next.closed at.outside next.some at.inside)

    -- where nothing was done after them
    pub begin_alone : (group : List Entry) → LeavesOnly (StandsForOne s (begin_stages s place group)) m new
    begin_alone group = weaker _ (StandsForOne s (begin_stages s place group)) m new begin_moments (λ c h. elim h [ inl here ↦ inl here | inr there ↦ inr (inl there) ])

    -- where the group was added after them
    pub begin_then : (group : List Entry) (last : Moment) → LeavesOnly (StandsForOne (begun s place) (added (begun s place) group ∷ [])) new last → LeavesOnly (StandsForOne s (begin_stages s place group)) m last
    begin_then group last later = both _ _ (StandsForOne s (begin_stages s place group)) m new last begin_moments later (λ c h. elim h [ inl here ↦ inl here | inr there ↦ inr (inl there) ]) (λ c h. inr h)

    module _ (lawful : IsLawful new) where
      pub begin_outside : SameBut (slot_at s.size place) s.size m.reads new.reads
      begin_outside = (step new.reads (reads_have (IsClosedOrHolds head.at head.size (empty_segment head.ordinal head.first) m.reads) m new lawful run_settled)).outside

      -- when all is done
      module _ (slot : Slot) (is : IsSlot head.at head.size head.ordinal head.first 17 0 slot) where
        pub begin_knows : KnowsSlot s.size (begun s place).active slot
        begin_knows = record {
          at_is = is.at_is ∙ next.at_is;
          size_is = is.size_is ∙ next.size_is;
          ordinal_is = is.ordinal_is ∙ next.ordinal_is;
          first_is = is.first_is ∙ next.first_is;
          gate_is = is.gate_is ∙ sym (empty_length (s.active.segment.ordinal + 1) (end s));
          count_is = is.count_is;
        }

        pub begin_stands : Slots.Knows slot (empty_segment head.ordinal head.first) new.reads → StandsFor (begun s place) new.reads
        begin_stands there =
            begun_stands s place m.reads new.reads stands next.closed begin_outside next.some
            (holds_at (slot_at s.size place) s.size (empty_segment (s.active.segment.ordinal + 1) (end s)) slot new.reads (is.at_is ∙ next.at_is) (is.size_is ∙ next.size_is)
            (subst (λ (o : ℕ). Slots.Knows slot (empty_segment o (end s)) new.reads) next.ordinal_is (subst (λ (f : ℕ). Slots.Knows slot (empty_segment head.ordinal f) new.reads) next.first_is there)).holds)

-- Both steps of it: the segment begun, and the group added.
module _ (s : SpoolState) (place : ℕ) (head : Head) (next : IsNext s place head) (m mid : Moment) (settled : IsSettled m) (stands : StandsFor s m.reads)
    (run : LeavesOnly (ComesFrom m (IsClosedOrHolds head.at head.size (empty_segment head.ordinal head.first))) m mid) (lawful : IsLawful mid) (durable : IsSettled mid)
    (slot : Slot) (is : IsSlot head.at head.size head.ordinal head.first 17 0 slot) (there : Slots.Knows slot (empty_segment head.ordinal head.first) mid.reads)
    (group : List Entry) (sound : IsGroup group) (fits : end s + length group ≤ 2 ^ 63) where
  known : KnowsSlot s.size (begun s place).active slot
  known = begin_knows s place head next m settled stands mid run lawful slot is

  stood : StandsFor (begun s place) mid.reads
  stood = begin_stands s place head next m settled stands mid run lawful slot is there

  numbers : end (begun s place) + length group ≤ 2 ^ 63
  numbers = omega (arith, end-begun s place, fits)

  pub images : (c : List ℕ) → mid.image c → Slots.Knows slot (empty_segment (s.active.segment.ordinal + 1) (end s)) c
  images = holds_images (begun s place) slot mid durable stood known

  module _ (last : Moment) (added_run : LeavesOnly (ComesFrom mid (HoldsOldOrNew slot.at slot.size (empty_segment (s.active.segment.ordinal + 1) (end s)) group)) mid last) where
    pub both_moments : LeavesOnly (StandsForOne s (begin_stages s place group)) m last
    both_moments = begin_then s place head next m settled stands mid run group last (add_moments (begun s place) slot mid durable stood known group sound numbers last added_run)

    module _ (lawful_last : IsLawful last) (after : Slot) (moved : IsSlot slot.at slot.size slot.ordinal slot.first (slot.gate + need_of group) (slot.count + length group) after)
        (holds : Slots.Knows after (with_group (empty_segment (s.active.segment.ordinal + 1) (end s)) group) last.reads) where
      pub both_stand : StandsFor (added (begun s place) group) last.reads
      both_stand = add_stands (begun s place) slot mid durable stood known group sound numbers last added_run lawful_last after moved holds

      pub both_known : KnowsSlot s.size (added (begun s place) group).active after
      both_known = add_knows (begun s place) slot mid durable stood known group sound numbers last added_run lawful_last after moved

-- outside the slot nothing changed
pub both_outside : (at size ordinal first : ℕ) (m mid last : Moment) → IsSettled m → LeavesOnly (ComesFrom m (IsClosedOrHolds at size (empty_segment ordinal first))) m mid → IsLawful mid → IsSettled mid → IsLawful last
    → (slot : Slot) → IsSlot at size ordinal first 17 0 slot → (group : List Entry) → LeavesOnly (ComesFrom mid (HoldsOldOrNew slot.at slot.size (empty_segment ordinal first) group)) mid last → SameBut at size m.reads last.reads
both_outside at size ordinal first m mid last settled run lawful durable lawful_last slot is group added_run =
    let one = (reads_have (IsClosedOrHolds at size (empty_segment ordinal first) m.reads) m mid lawful (from_settled (IsClosedOrHolds at size (empty_segment ordinal first)) m mid settled run)).outside in
    let two = (reads_have (HoldsOldOrNew slot.at slot.size (empty_segment ordinal first) group mid.reads) mid last lawful_last (from_settled (HoldsOldOrNew slot.at slot.size (empty_segment ordinal first) group) mid last durable added_run)).outside in
    same_but_then at size at size slot.at slot.size m.reads mid.reads last.reads one two (omega arith) (omega arith) (omega (arith, is.at_is)) (omega (arith, is.at_is, is.size_is))
