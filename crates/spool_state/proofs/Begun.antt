-- A segment begun in a closed slot: the state after it.
use Rattle.std.proofs.Common.{◌≡◌, ◌≢◌, ℕ, ◌+◌, ◌-◌, ◌≤◌, ◌<◌, List, [], ◌∷◌, ◌++◌, length, take, drop, refl, sym, ◌∙◌, ap, subst, arith, append_assoc}
use Rattle.std.proofs.lemmas.List.{append-nil}
use Rattle.std.proofs.lemmas.List.Elements.{All-nil, All-head, All-tail, All-push}
use Rattle.event_form.specs.declared.event.Entry.{Entry}
use Rattle.spool_state.specs.Segment.{IsGroup, entries_of}
use Rattle.spool_state.specs.SpoolState.{OpenSlot, SpoolState, entries_in, list, base, end, numbers_of, Follows, AreConsecutive, AreElsewhere, AreApart, IsOpenSlot, IsSound}
use Rattle.spool_state.specs.Left.{numbered, unknown, left}
use Rattle.spool_state.specs.Free.{IsClosed}
use Rattle.spool_state.specs.Change.{begun}
use Rattle.spool_state.proofs.Adding.{end_later}
use Rattle.spool_state.proofs.Chains.{first_of-push, ordinal_of-push}
use Rattle.spool_state.proofs.Texts.{end_active}

-- ---- a slot more at the end of a list

pub entries_in-push : (slots : List OpenSlot) (slot : OpenSlot) → entries_in (slots ++ slot ∷ []) ≡ entries_in slots ++ entries_of slot.segment
entries_in-push [] slot = append-nil (entries_of slot.segment)
entries_in-push (first ∷ slots) slot =
    ap (λ (l : List Entry). entries_of first.segment ++ l) (entries_in-push slots slot) ∙ sym (append_assoc (entries_of first.segment) (entries_in slots) (entries_of slot.segment))

pub apart_push : (slots : List OpenSlot) (slot : OpenSlot) → AreApart slots → AreElsewhere slot.place slots → AreApart (slots ++ slot ∷ [])
apart_push [] slot h e = (λ k d lt. absurd (omega arith), tt)
apart_push (first ∷ slots) slot h e =
    (All-push (λ x. x.place ≢ first.place) slots slot h.0 (λ is. All-head (λ x. x.place ≢ slot.place) first slots e (sym is)), apart_push slots slot h.1 (All-tail (λ x. x.place ≢ slot.place) first slots e))

pub consecutive_push : (slots : List OpenSlot) (slot : OpenSlot) → AreConsecutive slots slot.segment.ordinal slot.segment.first → 0 < length (entries_of slot.segment)
    → AreConsecutive (slots ++ slot ∷ []) (slot.segment.ordinal + 1) (slot.segment.first + length (entries_of slot.segment))
consecutive_push [] slot h some = (refl, refl, some, tt)
consecutive_push (first ∷ slots) slot h some =
    (ordinal_of-push slots slot (slot.segment.ordinal + 1) ∙ h.0, first_of-push slots slot (slot.segment.first + length (entries_of slot.segment)) ∙ h.1, h.2, consecutive_push slots slot h.3 some)

-- ---- the state

pub list-begun : (s : SpoolState) (place : ℕ) → list (begun s place) ≡ list s
list-begun s place = append-nil (entries_in (s.older ++ s.active ∷ [])) ∙ entries_in-push s.older s.active

pub base-begun : (s : SpoolState) (place : ℕ) → base (begun s place) ≡ base s
base-begun s place = first_of-push s.older s.active (end s)

pub end-begun : (s : SpoolState) (place : ℕ) → end (begun s place) ≡ end s
end-begun s place = omega (arith, base-begun s place, ap length (list-begun s place))

pub follows_begun : (s : SpoolState) (place : ℕ) → base s ≤ s.cursor → Follows s (begun s place)
follows_begun s place h = record {
  run = omega arith;
  cursor = omega arith;
  known = λ n is. is;
  base_rises = omega (arith, base-begun s place);
  end_rises = omega (arith, end-begun s place);
  kept = λ n ge lt. ap (λ (l : List Entry). take 1 (drop (n - base (begun s place)) l)) (list-begun s place) ∙ ap (λ (k : ℕ). take 1 (drop (n - k) (list s))) (base-begun s place);
  confirmed = omega (arith, base-begun s place);
}

-- what isn't known stays what it was
pub left-begun : (s : SpoolState) (place : ℕ) → left (begun s place) ≡ left s
left-begun s place =
    ap (λ (l : List Entry). unknown (numbers_of s) (numbered (base (begun s place)) l)) (list-begun s place)
    ∙ ap (λ (k : ℕ). unknown (numbers_of s) (numbered k (list s))) (base-begun s place)

pub sound-begun : (s : SpoolState) (place : ℕ) → IsSound s → IsClosed s place → 0 < length (entries_of s.active.segment) → IsSound (begun s place)
sound-begun s place sound is some =
    let past = end_active s sound.consecutive in record {
      some = sound.some;
      few = sound.few;
      large = sound.large;
      small = sound.small;
      run = sound.run;
      ordinal = sound.ordinal;
      older = All-push (IsOpenSlot s.slots) s.older s.active sound.older sound.active;
      active = record { place = is.within; groups = All-nil IsGroup; early = omega (arith, sound.active.early, past) };
      apart = apart_push s.older s.active sound.apart sound.apart_active;
      apart_active = All-push (λ slot. slot.place ≢ place) s.older s.active is.elsewhere is.inactive;
      consecutive = subst (AreConsecutive (s.older ++ s.active ∷ []) (s.active.segment.ordinal + 1)) (sym past) (consecutive_push s.older s.active sound.consecutive some);
      ends = omega (arith, end-begun s place, sound.ends);
      from_base = omega (arith, base-begun s place, sound.from_base);
      to_end = omega (arith, end-begun s place, sound.to_end);
      known = sound.known;
      known_to_end = end_later (end s) (end (begun s place)) s.known (omega (arith, end-begun s place)) sound.known_to_end;
    }
