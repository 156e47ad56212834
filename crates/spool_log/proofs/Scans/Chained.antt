-- Slots in memory whose numbers go on from one to the next.
use Rattle.std.proofs.Common.{◌≡◌, ℕ, ◌+◌, ◌<◌, ◌≤◌, List, [], ◌∷◌, ◌++◌, length, take, drop, get_or, refl, ◌∙◌, ap, subst, sym}
use Rattle.std.proofs.lemmas.List.{take_more, take_all}
use Rattle.spool_slots.specs.declared.slot.Slot.{Slot}
use Rattle.spool_log.specs.Device.{first_in, GoOn}

first_in-push : (slots : List Slot) (last : Slot) (first : ℕ) → first_in (slots ++ last ∷ []) first ≡ first_in slots last.first
first_in-push [] last first = refl
first_in-push (slot ∷ slots) last first = refl

-- one slot more
pub go_on-push : (slots : List Slot) (last : Slot) (first : ℕ) → GoOn slots last.first → first ≡ last.first + last.count → GoOn (slots ++ last ∷ []) first
go_on-push [] last first h is = (is, tt)
go_on-push (slot ∷ slots) last first h is = (first_in-push slots last first ∙ h.0, go_on-push slots last first h.1 is)

-- all but the last
pub go_on-front : (slots : List Slot) (last : Slot) (first : ℕ) → GoOn (slots ++ last ∷ []) first → GoOn slots last.first
go_on-front [] last first h = tt
go_on-front (slot ∷ slots) last first h = (sym (first_in-push slots last first) ∙ h.0, go_on-front slots last first h.1)

-- all but the first
pub go_on-rest : (slots : List Slot) (first : ℕ) → GoOn slots first → GoOn (drop 1 slots) first
go_on-rest [] first h = tt
go_on-rest (slot ∷ slots) first h = h.1

-- a slot at its place, and those after it
pub go_on-at : (slots : List Slot) (first i : ℕ) (slot : Slot) → drop i slots ≡ slot ∷ drop (i + 1) slots → GoOn (drop i slots) first → (first_in (drop (i + 1) slots) first ≡ slot.first + slot.count) × GoOn (drop (i + 1) slots) first
go_on-at slots first i slot split h = subst (λ (l : List Slot). GoOn l first) split h

-- in a list of all, one slot after another
pub go_on-more : (items : List Slot) (k : ℕ) (slot : Slot) → k < length items → slot ≡ get_or items k slot → (first : ℕ) → GoOn (take k items) first → slot.first ≡ first → GoOn (take (k + 1) items) (slot.first + slot.count)
go_on-more items k slot lt is first h due =
    let more : take (k + 1) items ≡ take k items ++ slot ∷ [] = take_more items k slot lt ∙ ap (λ (s : Slot). take k items ++ s ∷ []) (sym is) in
    subst (λ (l : List Slot). GoOn l (slot.first + slot.count)) (sym more) (go_on-push (take k items) slot (slot.first + slot.count) (subst (GoOn (take k items)) (sym due) h) refl)

pub go_on-all : (items : List Slot) (k first : ℕ) → length items ≤ k → GoOn (take k items) first → (last : Slot) (older : List Slot) → items ≡ older ++ last ∷ [] → GoOn older last.first
go_on-all items k first le h last older is = go_on-front older last first (subst (λ (l : List Slot). GoOn l first) (take_all k items le ∙ is) h)
