-- What was found of the slots, one after another.
use Rattle.std.proofs.Common.{◌≡◌, ℕ, zero, suc, ◌+◌, ◌<◌, ◌≤◌, List, [], ◌∷◌, ◌++◌, length, get_or, take, refl, sym, ◌∙◌, ap, subst, arith, append_assoc, add-one}
use Rattle.std.specs.Prelude.{Option}
use Rattle.std.proofs.lemmas.List.{append-nil, take_all}
use Rattle.event_form.specs.declared.event.Entry.{Entry}
use Rattle.spool_state.specs.Segment.{entries_of}
use Rattle.spool_state.specs.SpoolState.{OpenSlot, entries_in}
use Rattle.bridge_rescue.specs.declared.found.Found.{Found}
use Rattle.notes.specs.declared.note.Note.{Note}
use Rattle.notes.specs.declared.note.Note.TheVariants.{Fine}
use Rattle.bridge_rescue.specs.Lines.{Prints}
use Rattle.bridge_rescue.specs.Looking.{KnowsFound, AreKnown}
use Rattle.bridge_rescue.proofs.Gathering.{prints_more}

-- The slot at index `i` is known, and the entries of those before it and of it are those of one more.
pub record IsNextSlot (sound : List OpenSlot) (slot : Found) (c : List ℕ) (i : ℕ) : Type 0 where
  pub one : OpenSlot
  pub knows : KnowsFound slot one.segment c
  pub more : entries_in (take (i + 1) sound) ≡ entries_in (take i sound) ++ entries_of one.segment
  pub rest : List Entry
  pub whole : entries_in sound ≡ (entries_in (take i sound) ++ entries_of one.segment) ++ rest

next_slot_at : (sound : List OpenSlot) (items : List Found) (c : List ℕ) (i : ℕ) (d : Found) → AreKnown sound items c → i < length items
    → (one : OpenSlot) × (rest : List Entry) × KnowsFound (get_or items i d) one.segment c
    × (entries_in (take (suc i) sound) ≡ entries_in (take i sound) ++ entries_of one.segment)
    × (entries_in sound ≡ (entries_in (take i sound) ++ entries_of one.segment) ++ rest)
next_slot_at [] [] c i d known lt = absurd (omega arith)
next_slot_at [] (slot ∷ items) c i d known lt = absurd known
next_slot_at (one ∷ sound) [] c i d known lt = absurd known
next_slot_at (one ∷ sound) (slot ∷ items) c zero d known lt = (one, entries_in sound, known.0, append-nil (entries_of one.segment), refl)
next_slot_at (one ∷ sound) (slot ∷ items) c (suc i) d known lt =
    let later = next_slot_at sound items c i d known.1 (omega arith) in
    let here = entries_of one.segment in
    let before = entries_in (take i sound) in
    let its = entries_of later.0.segment in (
      later.0,
      later.1,
      later.2,
      ap (λ (l : List Entry). here ++ l) later.3 ∙ sym (append_assoc here before its),
      ap (λ (l : List Entry). here ++ l) later.4 ∙ sym (append_assoc here (before ++ its) later.1) ∙ ap (λ (l : List Entry). l ++ later.1) (sym (append_assoc here before its)),
    )

pub next_slot : (sound : List OpenSlot) (items : List Found) (c : List ℕ) (i : ℕ) (slot : Found) → AreKnown sound items c → i < length items → slot ≡ get_or items i slot → IsNextSlot sound slot c i
next_slot sound items c i slot known lt is =
    let at = next_slot_at sound items c i slot known lt in
    record {
      one = at.0;
      knows = subst (λ (s : Found). KnowsFound s at.0.segment c) (sym is) at.2;
      more = ap (λ (n : ℕ). entries_in (take n sound)) (add-one i) ∙ at.3;
      rest = at.1;
      whole = at.4;
    }

-- as many slots as memory has
pub same_count : (sound : List OpenSlot) (items : List Found) (c : List ℕ) → AreKnown sound items c → length items ≡ length sound
same_count [] [] c known = refl
same_count [] (slot ∷ items) c known = absurd known
same_count (one ∷ sound) [] c known = absurd known
same_count (one ∷ sound) (slot ∷ items) c known = ap (λ (n : ℕ). suc n) (same_count sound items c known.1)

-- all of them
pub all_slots : (sound : List OpenSlot) (items : List Found) (c : List ℕ) (i : ℕ) → AreKnown sound items c → length items ≤ i → take i sound ≡ sound
all_slots sound items c i known le = take_all i sound (omega (arith, le, same_count sound items c known))

-- what was not printed of the first ones was not printed of all
pub stopped_in : (sound : List OpenSlot) (slot : Found) (c : List ℕ) (i : ℕ) (n : IsNextSlot sound slot c i) (note : Note) (old new : Option (List ℕ)) → (note ≡ Fine → ⊥)
    → Prints note (entries_in (take i sound) ++ entries_of n.one.segment) old new → Prints note (entries_in sound) old new
stopped_in sound slot c i n note old new never p =
    subst (λ (l : List Entry). Prints note l old new) (sym n.whole) (prints_more note (entries_in (take i sound) ++ entries_of n.one.segment) n.rest old new never p)
