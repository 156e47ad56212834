-- What was found of the slots, stored one after another.
use Rattle.std.proofs.Common.{◌≡◌, ℕ, zero, suc, ◌+◌, ◌<◌, ◌≤◌, List, [], ◌∷◌, ◌++◌, length, get_or, take, refl, sym, ◌∙◌, ap, subst, arith, append_assoc, add-one}
use Rattle.std.proofs.lemmas.List.{append-nil}
use Rattle.event_form.specs.declared.event.Entry.{Entry}
use Rattle.spool_state.specs.SpoolState.{OpenSlot}
use Rattle.bridge_rescue.specs.declared.found.Found.{Found}
use Rattle.bridge_rescue.specs.Looking.{KnowsFound, AreKnown}
use Rattle.bridge_restore.specs.Told.{told_of, told}

-- The slot at index `i` is known, and what is told of those before it and of it is that of one more.
pub record IsNextTold (tag : ℕ) (slots : List OpenSlot) (found : Found) (c : List ℕ) (i : ℕ) : Type 0 where
  pub one : OpenSlot
  pub knows : KnowsFound found one.segment c
  pub more : told tag (take (i + 1) slots) ≡ told tag (take i slots) ++ told_of tag one.segment
  pub rest : List Entry
  pub whole : told tag slots ≡ (told tag (take i slots) ++ told_of tag one.segment) ++ rest

next_told_at : (tag : ℕ) (slots : List OpenSlot) (items : List Found) (c : List ℕ) (i : ℕ) (d : Found) → AreKnown slots items c → i < length items
    → (one : OpenSlot) × (rest : List Entry) × KnowsFound (get_or items i d) one.segment c
    × (told tag (take (suc i) slots) ≡ told tag (take i slots) ++ told_of tag one.segment)
    × (told tag slots ≡ (told tag (take i slots) ++ told_of tag one.segment) ++ rest)
next_told_at tag [] [] c i d known lt = absurd (omega arith)
next_told_at tag [] (slot ∷ items) c i d known lt = absurd known
next_told_at tag (one ∷ slots) [] c i d known lt = absurd known
next_told_at tag (one ∷ slots) (slot ∷ items) c zero d known lt = (one, told tag slots, known.0, append-nil (told_of tag one.segment), refl)
next_told_at tag (one ∷ slots) (slot ∷ items) c (suc i) d known lt =
    let later = next_told_at tag slots items c i d known.1 (omega arith) in
    let here = told_of tag one.segment in
    let before = told tag (take i slots) in
    let its = told_of tag later.0.segment in (
      later.0,
      later.1,
      later.2,
      ap (λ (l : List Entry). here ++ l) later.3 ∙ sym (append_assoc here before its),
      ap (λ (l : List Entry). here ++ l) later.4 ∙ sym (append_assoc here (before ++ its) later.1) ∙ ap (λ (l : List Entry). l ++ later.1) (sym (append_assoc here before its)),
    )

pub next_told : (tag : ℕ) (slots : List OpenSlot) (items : List Found) (c : List ℕ) (i : ℕ) (found : Found) → AreKnown slots items c → i < length items → found ≡ get_or items i found
    → IsNextTold tag slots found c i
next_told tag slots items c i found known lt is =
    let at = next_told_at tag slots items c i found known lt in
    record {
      one = at.0;
      knows = subst (λ (f : Found). KnowsFound f at.0.segment c) (sym is) at.2;
      more = ap (λ (n : ℕ). told tag (take n slots)) (add-one i) ∙ at.3;
      rest = at.1;
      whole = at.4;
    }
