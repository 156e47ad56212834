-- A group added to the active slot, seen from the disk.
use Rattle.std.proofs.Common.{◌≡◌, ◌≢◌, ℕ, ◌+◌, ◌^◌, ◌≤◌, List, [], ◌∷◌, length, get_or, sym, ◌∙◌, ap, subst, arith, length-append}
use Rattle.foundation.specs.Bytes.{SameBut}
use Rattle.event_form.specs.declared.event.Entry.{Entry}
use Rattle.spool_state.specs.Segment.{IsGroup, Segment, need_of, with_group, entries_of}
use Rattle.spool_state.specs.SpoolState.{SpoolState, end}
use Rattle.spool_state.specs.Change.{added, slot_with}
use Rattle.spool_state.specs.Image.{slot_at, HoldsSegment, StandsFor}
use Rattle.spool_state.proofs.Texts.{entries_of-with_group, length-segment_text-with_group}
use Rattle.spool_state.proofs.Adding.{adding, with_active, sound-added}
use Rattle.spool_state.proofs.Segments.{holds_closed}
use Rattle.edge_disk.specs.Disk.{Moment, IsLawful, IsSettled, LeavesOnly}
use Rattle.edge_disk.specs.Gate.{ComesFrom}
use Rattle.edge_disk.proofs.Moments.{weaker, from_settled, reads_have}
use Rattle.spool_slots.specs.declared.slot.Slot.{Slot}
use Rattle.spool_slots.specs.Slot as Slots
use Rattle.spool_slots.specs.Slot.{IsSlot, HoldsOldOrNew}
use Rattle.spool_log.specs.Knows.{KnowsSlot}
use Rattle.spool_answers.specs.Stages.{StandsForOne}

-- as the slot in memory says where it is
pub holds_at : (at size : ℕ) (segment : Segment) (slot : Slot) (c : List ℕ) → slot.at ≡ at → slot.size ≡ size → HoldsSegment slot.at slot.size segment c → HoldsSegment at size segment c
holds_at at size segment slot c is wide holds = subst (λ (x : ℕ). HoldsSegment x size segment c) is (subst (λ (y : ℕ). HoldsSegment slot.at y segment c) wide holds)

pub holds_from : (at size : ℕ) (segment : Segment) (slot : Slot) (c : List ℕ) → slot.at ≡ at → slot.size ≡ size → HoldsSegment at size segment c → HoldsSegment slot.at slot.size segment c
holds_from at size segment slot c is wide holds = subst (λ (x : ℕ). HoldsSegment x slot.size segment c) (sym is) (subst (λ (y : ℕ). HoldsSegment at y segment c) (sym wide) holds)

-- the closing gate of a segment that the slot holds on a settled disk
pub closed_here : (slot : Slot) (segment : Segment) (m : Moment) → IsSettled m → slot.at + slot.size ≤ length m.reads → Slots.Knows slot segment m.reads → (c : List ℕ) → m.image c → get_or c (slot.at + slot.gate) 0 ≢ 1
closed_here slot segment m settled room known c image one =
    holds_closed slot.at slot.size segment m.reads room known.holds (ap (λ (k : ℕ). get_or m.reads (slot.at + k) 0) (sym known.gate) ∙ ap (λ (l : List ℕ). get_or l (slot.at + slot.gate) 0) (sym (settled.only c image)) ∙ one)

-- a state on a settled disk, with the active slot in memory
module _ (s : SpoolState) (slot : Slot) (m : Moment) (settled : IsSettled m) (stands : StandsFor s m.reads) (knows : KnowsSlot s.size s.active slot) where
  pub holds_read : Slots.Knows slot s.active.segment m.reads
  holds_read = record {
    holds = holds_from (slot_at s.size s.active.place) s.size s.active.segment slot m.reads knows.at_is knows.size_is stands.active;
    sound = stands.sound.active.groups;
    ordinal = knows.ordinal_is;
    first = knows.first_is;
    gate = knows.gate_is;
    count = knows.count_is;
  }

  pub holds_images : (c : List ℕ) → m.image c → Slots.Knows slot s.active.segment c
  holds_images c image = subst (Slots.Knows slot s.active.segment) (sym (settled.only c image)) holds_read

  module _ (group : List Entry) (is : IsGroup group) (fits : end s + length group ≤ 2 ^ 63) (new : Moment) (run : LeavesOnly (ComesFrom m (HoldsOldOrNew slot.at slot.size s.active.segment group)) m new) where
    step : (c : List ℕ) → HoldsOldOrNew slot.at slot.size s.active.segment group m.reads c → HoldsOldOrNew (slot_at s.size s.active.place) s.size s.active.segment group m.reads c
    step c h =
        subst (λ (x : ℕ). HoldsOldOrNew x s.size s.active.segment group m.reads c) knows.at_is (subst (λ (y : ℕ). HoldsOldOrNew slot.at y s.active.segment group m.reads c) knows.size_is h)

    run_settled : LeavesOnly (HoldsOldOrNew slot.at slot.size s.active.segment group m.reads) m new
    run_settled = from_settled (HoldsOldOrNew slot.at slot.size s.active.segment group) m new settled run

    -- at all moments
    pub add_moments : LeavesOnly (StandsForOne s (added s group ∷ [])) m new
    add_moments = weaker _ (StandsForOne s (added s group ∷ [])) m new run_settled (λ c h. let at = step c h in adding s group m.reads c is fits stands at.outside at.inside)

    module _ (lawful : IsLawful new) where
      pub add_outside : SameBut (slot_at s.size s.active.place) s.size m.reads new.reads
      add_outside = (step new.reads (reads_have (HoldsOldOrNew slot.at slot.size s.active.segment group m.reads) m new lawful run_settled)).outside

      -- when all is done
      module _ (after : Slot) (moved : IsSlot slot.at slot.size slot.ordinal slot.first (slot.gate + need_of group) (slot.count + length group) after) where
        pub add_knows : KnowsSlot s.size (slot_with s.active group) after
        add_knows = record {
          at_is = moved.at_is ∙ knows.at_is;
          size_is = moved.size_is ∙ knows.size_is;
          ordinal_is = moved.ordinal_is ∙ knows.ordinal_is;
          first_is = moved.first_is ∙ knows.first_is;
          gate_is = omega (arith, moved.gate_is, knows.gate_is, length-segment_text-with_group s.active.segment group);
          count_is = omega (arith, moved.count_is, knows.count_is, ap length (entries_of-with_group s.active.segment group), length-append (entries_of s.active.segment) group);
        }

        pub add_stands : Slots.Knows after (with_group s.active.segment group) new.reads → StandsFor (added s group) new.reads
        add_stands there =
            with_active s (slot_with s.active group) m.reads new.reads (omega (arith, stands.sound.large)) (λ i. s.active.place) stands add_outside
            (holds_at (slot_at s.size s.active.place) s.size (with_group s.active.segment group) after new.reads (moved.at_is ∙ knows.at_is) (moved.size_is ∙ knows.size_is) there.holds)
            (sound-added s group stands.sound is fits)
