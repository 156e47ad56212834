-- A group more in the active slot.
use Rattle.std.proofs.Common.{◌≡◌, ◌⊎◌, inl, inr, ℕ, ◌+◌, ◌<◌, ◌≤◌, List, [], ◌∷◌, length, refl, sym, ◌∙◌, arith}
use Rattle.std.proofs.lemmas.List.Elements.{All-push}
use Rattle.event_form.specs.declared.event.Entry.{Entry}
use Rattle.foundation.specs.Bytes.{SameBut}
use Rattle.known_numbers.specs.declared.stretch.Stretch.{Stretch}
use Rattle.known_numbers.specs.Numbers.{EndBy}
use Rattle.spool_state.specs.Layout.{most_number}
use Rattle.spool_state.specs.Segment.{IsGroup, with_group}
use Rattle.spool_state.specs.SpoolState.{SpoolState, OpenSlot, end, IsSound}
use Rattle.spool_state.specs.Change.{added, slot_with}
use Rattle.spool_state.specs.Image.{slot_at, HoldsSegment, HoldsSlot, StandsFor}
use Rattle.spool_state.proofs.Texts.{end-added}
use Rattle.spool_state.proofs.Frames.{slots_stay, register_stays, header_stays, gate_stays}

-- what ends at or below an end does so at a later one
pub end_later : (end later : ℕ) (known : List Stretch) → end ≤ later → EndBy end known → EndBy later known
end_later end later [] le ends = tt
end_later end later (stretch ∷ known) le ends = (omega (arith, ends.0), end_later end later known le ends.1)

pub sound-added : (s : SpoolState) (group : List Entry) → IsSound s → IsGroup group → end s + length group ≤ most_number → IsSound (added s group)
sound-added s group sound is fits = record {
  some = sound.some;
  few = sound.few;
  large = sound.large;
  small = sound.small;
  run = sound.run;
  ordinal = sound.ordinal;
  older = sound.older;
  active = record { place = sound.active.place; groups = All-push IsGroup s.active.segment.groups group sound.active.groups is; early = sound.active.early };
  apart = sound.apart;
  apart_active = sound.apart_active;
  consecutive = sound.consecutive;
  ends = omega (arith, end-added s group);
  from_base = sound.from_base;
  to_end = omega (arith, end-added s group, sound.to_end);
  known = sound.known;
  known_to_end = end_later (end s) (end (added s group)) s.known (omega (arith, end-added s group)) sound.known_to_end;
}

-- the state with another segment in the active slot, where nothing but that slot changed
pub with_active : (s : SpoolState) (slot : OpenSlot) (old c : List ℕ) → 0 < s.size → slot.place ≡ s.active.place → StandsFor s old → SameBut (slot_at s.size s.active.place) s.size old c → HoldsSlot s.size slot c
    → let d : SpoolState = record { slots = s.slots; size = s.size; run = s.run; cursor = s.cursor; known = s.known; ordinal = s.ordinal; older = s.older; active = slot } in IsSound d → StandsFor d c
with_active s slot old c some is stands same there sound =
    let lt = stands.sound.active.place in record {
      long = same.len ∙ stands.long;
      header = header_stays s.size s.slots s.active.place old c stands.long lt same ∙ stands.header;
      register = register_stays s.size s.slots s.active.place old c stands.long lt same s.ordinal s.run s.cursor s.known stands.sound.known.few stands.register;
      older = slots_stay s.size s.slots s.active.place old c stands.long lt same s.older stands.sound.older stands.sound.apart_active stands.older;
      active = there;
      closed = λ p lt' off others one. stands.closed p lt' (λ e. off (is ∙ e)) others (sym (gate_stays s.size s.slots s.active.place old c stands.long lt same p (λ e. off (is ∙ sym e)) some) ∙ one);
      sound = sound;
    }

-- where the active slot holds its segment or the one with the group more, the device stands for the state or for that with the group more
pub adding : (s : SpoolState) (group : List Entry) (old c : List ℕ) → IsGroup group → end s + length group ≤ most_number → StandsFor s old → SameBut (slot_at s.size s.active.place) s.size old c
    → HoldsSegment (slot_at s.size s.active.place) s.size s.active.segment c ⊎ HoldsSegment (slot_at s.size s.active.place) s.size (with_group s.active.segment group) c
    → StandsFor s c ⊎ StandsFor (added s group) c
adding s group old c is fits stands outside (inl stays) = inl (with_active s s.active old c (omega (arith, stands.sound.large)) refl stands outside stays stands.sound)
adding s group old c is fits stands outside (inr more) = inr (with_active s (slot_with s.active group) old c (omega (arith, stands.sound.large)) refl stands outside more (sound-added s group stands.sound is fits))
