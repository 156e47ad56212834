-- The first slot shut, where all its entries are below the cursor.
use Rattle.std.proofs.Common.{◌≡◌, ◌≢◌, ◌⊎◌, inl, inr, ℕ, ◌≤◌, ◌<◌, List, ◌∷◌, get_or, sym, ◌∙◌, ap, subst, arith}
use Rattle.std.specs.Prelude.{All}
use Rattle.std.proofs.lemmas.Bool.{cases_eq}
use Rattle.foundation.specs.Bytes.{SameBut}
use Rattle.spool_state.specs.SpoolState.{OpenSlot, SpoolState, AreElsewhere, AreApart, IsOpenSlot, IsSound}
use Rattle.spool_state.specs.Change.{shut}
use Rattle.spool_state.specs.Free.{end_of}
use Rattle.spool_state.specs.Image.{slot_at, HoldsSlot, StandsFor}
use Rattle.spool_state.proofs.Frames.{slot_stays, slots_stay, register_stays, header_stays, gate_stays}
use Rattle.spool_state.proofs.Shut.{sound-shut}
use Rattle.std.proofs.lemmas.List.Elements.{All-head, All-tail, All-cons}

-- a state with this first slot
module _ (s : SpoolState) (slot : OpenSlot) (rest : List OpenSlot) (is : s.older ≡ slot ∷ rest) (sound : IsSound s) where
  within : All (IsOpenSlot s.slots) (slot ∷ rest)
  within = subst (λ (l : List OpenSlot). All (IsOpenSlot s.slots) l) is sound.older

  elsewhere : All (λ x. x.place ≢ s.active.place) (slot ∷ rest)
  elsewhere = subst (AreElsewhere s.active.place) is sound.apart_active

  apart : AreApart (slot ∷ rest)
  apart = subst AreApart is sound.apart

  module _ (confirmed : end_of slot ≤ s.cursor) where
    -- a change within that slot
    module _ (old c : List ℕ) (stands : StandsFor s old) (same : SameBut (slot_at s.size slot.place) s.size old c) where
      lt : slot.place < s.slots
      lt = (All-head (IsOpenSlot s.slots) slot rest within).place

      stay : All (λ x. HoldsSlot s.size x c) rest
      stay = slots_stay s.size s.slots slot.place old c stands.long lt same rest (All-tail (IsOpenSlot s.slots) slot rest within) apart.0 (All-tail (λ x. HoldsSlot s.size x old) slot rest (subst (λ (l : List OpenSlot). All (λ x. HoldsSlot s.size x old) l) is stands.older))

      stays : HoldsSlot s.size s.active c
      stays = slot_stays s.size s.slots slot.place old c stands.long lt same s.active sound.active.place (λ e. All-head (λ x. x.place ≢ s.active.place) slot rest elsewhere (sym e)) stands.active

      -- the slot shut
      pub shut_stands : get_or c (slot_at s.size slot.place) 0 ≢ 1 → StandsFor (shut s rest) c
      shut_stands closed = record {
        long = same.len ∙ stands.long;
        header = header_stays s.size s.slots slot.place old c stands.long lt same ∙ stands.header;
        register = register_stays s.size s.slots slot.place old c stands.long lt same s.ordinal s.run s.cursor s.known sound.known.few stands.register;
        older = stay;
        active = stays;
        closed = λ p inside away others one. elim (cases_eq p slot.place) [
          | inl at ↦ closed (ap (λ (k : ℕ). get_or c (slot_at s.size k) 0) (sym at) ∙ one)
          | inr differ ↦ stands.closed p inside away (subst (AreElsewhere p) (sym is) (All-cons (λ x. x.place ≢ p) slot rest (λ e. differ (sym e)) others)) (sym (gate_stays s.size s.slots slot.place old c stands.long lt same p differ (omega (arith, sound.large))) ∙ one)
        ];
        sound = sound-shut s slot rest is sound confirmed;
      }

      -- the slot as it was
      pub open_stands : HoldsSlot s.size slot c → StandsFor s c
      open_stands holds = record {
        long = same.len ∙ stands.long;
        header = header_stays s.size s.slots slot.place old c stands.long lt same ∙ stands.header;
        register = register_stays s.size s.slots slot.place old c stands.long lt same s.ordinal s.run s.cursor s.known sound.known.few stands.register;
        older = subst (λ (l : List OpenSlot). All (λ x. HoldsSlot s.size x c) l) (sym is) (All-cons (λ x. HoldsSlot s.size x c) slot rest holds stay);
        active = stays;
        closed = λ p inside away others one. stands.closed p inside away others (sym (gate_stays s.size s.slots slot.place old c stands.long lt same p (λ e. All-head (λ x. x.place ≢ p) slot rest (subst (AreElsewhere p) is others) (sym e)) (omega (arith, sound.large))) ∙ one);
        sound = sound;
      }

      -- an image while the slot is shut
      pub shutting_stands : (get_or c (slot_at s.size slot.place) 0 ≢ 1) ⊎ HoldsSlot s.size slot c → StandsFor s c ⊎ StandsFor (shut s rest) c
      shutting_stands (inl closed) = inr (shut_stands closed)
      shutting_stands (inr holds) = inl (open_stands holds)
