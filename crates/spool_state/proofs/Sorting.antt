-- Slots in order: there is one list of the same ones.
use Rattle.std.proofs.Common.{◌≡◌, ◌≢◌, ◌⊎◌, inl, inr, ℕ, zero, suc, ◌^◌, ◌<◌, List, [], ◌∷◌, length, get_or, refl, sym, ◌∙◌, ap, subst, arith}
use Rattle.std.specs.Prelude.{All}
use Rattle.std.specs.List.{Contains}
use Rattle.std.proofs.lemmas.Bool.{cases_eq}
use Rattle.std.proofs.lemmas.List.Elements.{All-nil, All-cons, All-head, All-tail, All-contains}
use Rattle.spool_state.specs.Segment.{Segment}
use Rattle.spool_state.specs.SpoolState.{OpenSlot, AreElsewhere}
use Rattle.spool_state.specs.Image.{slot_at, HoldsSegment}
use Rattle.spool_state.specs.Order.{ComesBefore, AreSorted, IsFound, AreOpenSlots}
use Rattle.spool_state.proofs.Frames.{inside}
use Rattle.spool_state.proofs.Once.{one_segment}
use Rattle.spool_state.proofs.Segments.{holds_open}

-- ---- one order

pub not_before_itself : (slot : OpenSlot) → ComesBefore slot slot → ⊥
not_before_itself slot (inl lt) = omega arith
not_before_itself slot (inr same) = omega (arith, same.1)

pub not_both_before : (slot other : OpenSlot) → ComesBefore slot other → ComesBefore other slot → ⊥
not_both_before slot other (inl lt) (inl gt) = omega arith
not_both_before slot other (inl lt) (inr same) = omega (arith, same.0)
not_both_before slot other (inr same) (inl gt) = omega (arith, same.0)
not_both_before slot other (inr same) (inr back) = omega (arith, same.1, back.1)

pub contained : (slot : OpenSlot) (slots : List OpenSlot) (x : OpenSlot) → Contains (slot ∷ slots) x → (slot ≡ x) ⊎ Contains slots x
contained slot slots x (zero, lt, is) = inl is
contained slot slots x (suc k, lt, is) = inr (k, omega arith, is)

-- of two lists in order that have the same slots, the first is the first
same_first : (x y : OpenSlot) (xs ys : List OpenSlot) → AreSorted (x ∷ xs) → AreSorted (y ∷ ys) → Contains (y ∷ ys) x → Contains (x ∷ xs) y → x ≡ y
same_first x y xs ys sx sy cx cy = elim (contained y ys x cx) [
  | inl is ↦ sym is
  | inr behind ↦ elim (contained x xs y cy) [
    | inl is ↦ is
    | inr after ↦ absurd (not_both_before x y (All-contains (ComesBefore x) xs y sx.0 after) (All-contains (ComesBefore y) ys x sy.0 behind))
  ]
]

-- and the others are the same too
others_contained : (x y : OpenSlot) (xs ys : List OpenSlot) → x ≡ y → AreSorted (x ∷ xs) → All (Contains (y ∷ ys)) xs → All (Contains ys) xs
others_contained x y xs ys is sorted all k d lt = elim (contained y ys (get_or xs k d) (all k d lt)) [
  | inl first ↦ absurd (not_before_itself x (subst (ComesBefore x) (sym (is ∙ first)) (sorted.0 k d lt)))
  | inr behind ↦ behind
]

pub one_order : (xs ys : List OpenSlot) → AreSorted xs → AreSorted ys → All (Contains ys) xs → All (Contains xs) ys → xs ≡ ys
one_order [] [] sx sy hx hy = refl
one_order [] (y ∷ ys) sx sy hx hy = absurd (omega (arith, (All-head (Contains []) y ys hy).1))
one_order (x ∷ xs) [] sx sy hx hy = absurd (omega (arith, (All-head (Contains []) x xs hx).1))
one_order (x ∷ xs) (y ∷ ys) sx sy hx hy =
    let is = same_first x y xs ys sx sy (All-head (Contains (y ∷ ys)) x xs hx) (All-head (Contains (x ∷ xs)) y ys hy) in
    let rest = one_order xs ys sx.1 sy.1 (others_contained x y xs ys is sx (All-tail (Contains (y ∷ ys)) x xs hx)) (others_contained y x ys xs (sym is) sy (All-tail (Contains (x ∷ xs)) y ys hy)) in
    cc (is, rest)

-- ---- slots by place

-- a slot of that place, or none
pub slot_of_place : (place : ℕ) (slots : List OpenSlot) → AreElsewhere place slots ⊎ ((slot : OpenSlot) × Contains slots slot × (slot.place ≡ place))
slot_of_place place [] = inl (All-nil (λ slot. slot.place ≢ place))
slot_of_place place (slot ∷ slots) = elim (cases_eq slot.place place) [
  | inl is ↦ inr (slot, (0, omega arith, refl), is)
  | inr off ↦ elim (slot_of_place place slots) [
    | inl none ↦ inl (All-cons (λ s. s.place ≢ place) slot slots off none)
    | inr found ↦ inr (found.0, (suc found.1.0, omega (arith, found.1.1), found.1.2), found.2)
  ]
]

abbrev slot_with : ℕ → Segment → OpenSlot
slot_with place segment = record { place = place; segment = segment }

-- a device of so many slots
module _ (slots size : ℕ) (c : List ℕ) (long : length c ≡ slot_at size slots) (some : 0 < size) (small : size < 2 ^ 32) where
  -- a slot holds one segment
  pub one_found : (slot other : OpenSlot) → IsFound slots size c slot → IsFound slots size c other → slot.place ≡ other.place → slot ≡ other
  one_found slot other f g is =
      let holds : HoldsSegment (slot_at size other.place) size slot.segment c = subst (λ (p : ℕ). HoldsSegment (slot_at size p) size slot.segment c) is f.holds in
      let same = one_segment (slot_at size other.place) size slot.segment other.segment c (omega (arith, inside size other.place slots g.place)) small f.ordinal g.ordinal f.first g.first f.groups g.groups holds g.holds in
      ap (λ (p : ℕ). slot_with p slot.segment) is ∙ ap (slot_with other.place) same

  pub found_open : (slot : OpenSlot) → IsFound slots size c slot → get_or c (slot_at size slot.place) 0 ≡ 1
  found_open slot f = holds_open (slot_at size slot.place) size slot.segment c some f.holds

  -- of two in order the places differ
  pub apart_found : (slot other : OpenSlot) → IsFound slots size c slot → IsFound slots size c other → ComesBefore slot other → other.place ≢ slot.place
  apart_found slot other f g before is = not_before_itself slot (subst (ComesBefore slot) (one_found other slot g f is) before)

  all_contained : (xs ys : List OpenSlot) → AreOpenSlots slots size c xs → AreOpenSlots slots size c ys → All (Contains ys) xs
  all_contained xs ys ox oy k d lt =
      let x = get_or xs k d in
      let f = ox.found k d lt in
      elim (slot_of_place x.place ys) [
        | inl none ↦ absurd (oy.others x.place f.place none (found_open x f))
        | inr there ↦ subst (Contains ys) (one_found there.0 x (All-contains (IsFound slots size c) ys there.0 oy.found there.1) f there.2) there.1
      ]

  -- A device has one list of open slots.
  pub one_list : (xs ys : List OpenSlot) → AreOpenSlots slots size c xs → AreOpenSlots slots size c ys → xs ≡ ys
  one_list xs ys ox oy = one_order xs ys ox.sorted oy.sorted (all_contained xs ys ox oy) (all_contained ys xs oy ox)
