-- Something found more, in order of the first numbers.
use Rattle.std.proofs.Common.{◌≡◌, inl, inr, ℕ, suc, ◌+◌, ◌<◌, Bool, nat_le, cond, List, [], ◌∷◌, ◌++◌, take, drop, sym, ap, subst, arith, take-append-drop}
use Rattle.std.specs.Prelude.{All}
use Rattle.std.specs.List.{prefix_len, insert}
use Rattle.std.proofs.lemmas.Bool.{cases_lt}
use Rattle.std.proofs.lemmas.Bool.Decides.{leb_tells}
use Rattle.std.proofs.lemmas.List.Elements.{All-nil, All-cons, All-head, All-tail, All-append, All-same}
use Rattle.spool_state.specs.SpoolState.{OpenSlot}
use Rattle.bridge_rescue.specs.declared.found.Found.{Found}
use Rattle.spool_log.proofs.Scans.Scanned.{All-insert, all_split}
use Rattle.bridge_rescue.specs.Slots.{ComesFirst, AreInTurn}
use Rattle.bridge_rescue.specs.Looking.{KnowsFound, AreKnown}

insert_first : {X : Type 0} (x : X) (xs : List X) (k : ℕ) (y : X) → insert (x ∷ xs) (1 + k) y ≡ x ∷ insert xs k y
insert_first x xs k y =
    let one : 1 + k ≡ suc k = omega arith in
    ap (λ (n : ℕ). insert (x ∷ xs) n y) one

-- what holds of the list with the element more holds of it and of the others
pub all_inserted : {X : Type 0} (P : X → Type 0) (xs : List X) (k : ℕ) (y : X) → All P (insert xs k y) → All P xs × P y
all_inserted P xs k y all =
    let split = all_split P (take k xs) (y ∷ drop k xs) all in (
      All-same P xs (take k xs ++ drop k xs) (sym (take-append-drop k xs)) (All-append P (take k xs) (drop k xs) split.0 (All-tail P y (drop k xs) split.1)),
      All-head P y (drop k xs) split.1,
    )

module _ (c : List ℕ) (new : OpenSlot) (item : Found) (knows : KnowsFound item new.segment c) where
  abbrev upto : Found → Bool
  upto other = nat_le other.slot.first item.slot.first

  abbrev place_in : List Found → ℕ
  place_in items = prefix_len upto items

  abbrev AreKept : List OpenSlot → List Found → ℕ → Type 0
  AreKept slots items k = AreKnown (insert slots k new) (insert items k item) c × AreInTurn (insert slots k new)

  behind_first : (s : OpenSlot) (slots : List OpenSlot) (i : Found) (items : List Found) (k : ℕ) → KnowsFound i s.segment c → All (ComesFirst s) slots → ComesFirst s new → AreKept slots items k → AreKept (s ∷ slots) (i ∷ items) (1 + k)
  behind_first s slots i items k known before first kept = (
    subst (λ (l : List OpenSlot). AreKnown l (insert (i ∷ items) (1 + k) item) c) (sym (insert_first s slots k new))
        (subst (λ (l : List Found). AreKnown (s ∷ insert slots k new) l c) (sym (insert_first i items k item)) (known, kept.0)),
    subst AreInTurn (sym (insert_first s slots k new)) (All-insert (ComesFirst s) slots k new before first, kept.1),
  )

  first_of_all : (s : OpenSlot) (slots : List OpenSlot) → new.segment.first < s.segment.first → All (ComesFirst s) slots → All (ComesFirst new) (s ∷ slots)
  first_of_all s slots lt before =
      All-cons (ComesFirst new) s slots (inl lt) (λ k d within. elim (before k d within) [ inl less ↦ inl (omega arith) | inr same ↦ inl (omega (arith, same.0)) ])

  pub kept : (slots : List OpenSlot) (items : List Found) → AreKnown slots items c → AreInTurn slots → All (λ s. s.place < new.place) slots → AreKept slots items (place_in items)
  kept [] [] known turn lower = ((knows, tt), (All-nil (ComesFirst new), tt))
  kept [] (i ∷ items) known turn lower = absurd known
  kept (s ∷ slots) [] known turn lower = absurd known
  kept (s ∷ slots) (i ∷ items) known turn lower =
      let later = kept slots items known.1 turn.1 (All-tail (λ s. s.place < new.place) s slots lower) in
      elim (leb_tells i.slot.first item.slot.first) [
        | inl le ↦
            let first : ComesFirst s new = elim (cases_lt s.segment.first new.segment.first) [
              | inl lt ↦ inl lt
              | inr ge ↦ inr (omega (arith, ge, le.1, known.0.first, knows.first), All-head (λ s. s.place < new.place) s slots lower)
            ] in
            subst (AreKept (s ∷ slots) (i ∷ items)) (ap (λ (b : Bool). cond b (1 + place_in items) 0) (sym le.0)) (behind_first s slots i items (place_in items) known.0 turn.0 first later)
        | inr gt ↦
            subst (AreKept (s ∷ slots) (i ∷ items)) (ap (λ (b : Bool). cond b (1 + place_in items) 0) (sym gt.0))
            ((knows, known), (first_of_all s slots (omega (arith, gt.1, known.0.first, knows.first)) turn.0, turn))
      ]
