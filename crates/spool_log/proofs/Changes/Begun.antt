-- A segment begun in a closed slot.
use Rattle.std.proofs.Common.{◌≢◌, ◌⊎◌, inl, inr, ℕ, ◌+◌, ◌<◌, List, length, get_or, sym, ◌∙◌, ap, arith}
use Rattle.std.specs.Prelude.{All}
use Rattle.std.proofs.lemmas.Bool.{cases_eq}
use Rattle.std.proofs.lemmas.List.Elements.{All-push}
use Rattle.foundation.specs.Bytes.{SameBut}
use Rattle.spool_state.specs.Segment.{entries_of, empty_segment}
use Rattle.spool_state.specs.SpoolState.{SpoolState, end}
use Rattle.spool_state.specs.Change.{begun}
use Rattle.spool_state.specs.Free.{IsClosed}
use Rattle.spool_state.specs.Image.{slot_at, HoldsSegment, HoldsSlot, StandsFor}
use Rattle.spool_state.proofs.Begun.{sound-begun}
use Rattle.spool_state.proofs.Frames.{slot_stays, slots_stay, register_stays, header_stays, gate_stays}
use Rattle.spool_log.proofs.Lists.{all_front, all_last}

-- a change within a closed slot
module _ (s : SpoolState) (place : ℕ) (old c : List ℕ) (stands : StandsFor s old) (is : IsClosed s place) (same : SameBut (slot_at s.size place) s.size old c) where
  stay : All (λ slot. HoldsSlot s.size slot c) s.older
  stay = slots_stay s.size s.slots place old c stands.long is.within same s.older stands.sound.older is.elsewhere stands.older

  stays : HoldsSlot s.size s.active c
  stays = slot_stays s.size s.slots place old c stands.long is.within same s.active stands.sound.active.place is.inactive stands.active

  -- the segment begun there
  pub begun_stands : 0 < length (entries_of s.active.segment) → HoldsSegment (slot_at s.size place) s.size (empty_segment (s.active.segment.ordinal + 1) (end s)) c → StandsFor (begun s place) c
  begun_stands some holds = record {
    long = same.len ∙ stands.long;
    header = header_stays s.size s.slots place old c stands.long is.within same ∙ stands.header;
    register = register_stays s.size s.slots place old c stands.long is.within same s.ordinal s.run s.cursor s.known stands.sound.known.few stands.register;
    older = All-push (λ slot. HoldsSlot s.size slot c) s.older s.active stay stays;
    active = holds;
    closed = λ p within away elsewhere one.
        stands.closed p within (all_last (λ slot. slot.place ≢ p) s.older s.active elsewhere) (all_front (λ slot. slot.place ≢ p) s.older s.active elsewhere)
        (sym (gate_stays s.size s.slots place old c stands.long is.within same p (λ e. away (sym e)) (omega (arith, stands.sound.large))) ∙ one);
    sound = sound-begun s place stands.sound is some;
  }

  -- the slot still closed
  pub closed_stands : get_or c (slot_at s.size place) 0 ≢ 1 → StandsFor s c
  closed_stands still = record {
    long = same.len ∙ stands.long;
    header = header_stays s.size s.slots place old c stands.long is.within same ∙ stands.header;
    register = register_stays s.size s.slots place old c stands.long is.within same s.ordinal s.run s.cursor s.known stands.sound.known.few stands.register;
    older = stay;
    active = stays;
    closed = λ p within away elsewhere one. elim (cases_eq p place) [
      | inl at ↦ still (ap (λ (k : ℕ). get_or c (slot_at s.size k) 0) (sym at) ∙ one)
      | inr differ ↦ stands.closed p within away elsewhere (sym (gate_stays s.size s.slots place old c stands.long is.within same p differ (omega (arith, stands.sound.large))) ∙ one)
    ];
    sound = stands.sound;
  }

  -- an image while the segment is begun
  pub beginning_stands : 0 < length (entries_of s.active.segment) → (get_or c (slot_at s.size place) 0 ≢ 1) ⊎ HoldsSegment (slot_at s.size place) s.size (empty_segment (s.active.segment.ordinal + 1) (end s)) c → StandsFor s c ⊎ StandsFor (begun s place) c
  beginning_stands some (inl still) = inl (closed_stands still)
  beginning_stands some (inr holds) = inr (begun_stands some holds)
