-- Doors that are taken from a place, and the doors that are left at the places.
use Rattle.std.proofs.Common.{◌≡◌, ◌≢◌, ◌+◌, ◌<◌, ◌≤◌, ℕ, Bool, true, false, cond, zero, suc, List, [], ◌∷◌, ◌++◌, take, drop, length, get_or, remove, ltb, Option, Some, None, sym, ◌∙◌, refl, ap, subst, All, map, inl, inr, arith}
use Rattle.std.specs.List.{position, position_or_len}
use Rattle.std.specs.Str.{bytes_eq}
use Rattle.std.specs.String.{string_bytes}
use Rattle.std.proofs.lemmas.List.Quantifiers.{position-Some}
use Rattle.std.proofs.lemmas.List.Sums.{fails_before_first}
use Rattle.std.proofs.lemmas.Slice.Eq.{bytes_eq-Decides}
use Rattle.std.proofs.lemmas.Bool.{false_from_ne_true, ltb-false}
use Rattle.std.proofs.Math.ListN.{set}
use Rattle.std.proofs.lemmas.Result.{err_from_is_err_and}
use Rattle.std.proofs.lemmas.List.{drop-drop, get_or-drop, nil_from_length, length-take}
use Rattle.std.proofs.lemmas.List.Elements.{all_zip_more, length_all_zip, All-cons, All-head, All-tail, All-take}
use Rattle.std.specs.Prelude.{Result, Err, IsErrAnd, IfOk, OnOk, OnErr}
use Rattle.std.specs.Global.{Vec}
use Rattle.std.specs.declared.alloc.AllocError.{AllocError}
use Rattle.edge_io.specs.Told.{IsToldAs}
use Rattle.edge_io.specs.Door.{IsNewDoor, DoorState}
use Rattle.edge_io.specs.MemDoor.{IsBoundAs, IsUntouched, state_of, accepted_of, talks_of, talked_of}
use Rattle.edge_io.specs.MemPlace.{AreBoundAs, LosesDoors, is_named, doors_at, TakesDoors}
use Rattle.edge_io.specs.MemNet.{calls_of, places_of, scripts_of, BindsExactly}
use Rattle.edge_io.specs.Script.{IsFailing, Advances}
use Rattle.edge_io.specs.declared.mem_net.MemNet.{MemNet}
use Rattle.edge_io.specs.declared.net_fault.NetFault.{NetFault}
use Rattle.edge_io.specs.declared.net_fault.NetFault.TheVariants.{NoMemory}
use Rattle.edge_io.specs.declared.mem_door.MemDoor.{MemDoor}
use Rattle.edge_io.specs.declared.mem_place.MemPlace.{MemPlace}

-- one door more was taken
pub taken_more : (name : List ℕ) (old left bound : List MemDoor) (k : ℕ) (door new : MemDoor) → k < length old → left ≡ drop k old → door ≡ get_or left 0 door → IsBoundAs name door new
    → AreBoundAs name (take k old) bound → AreBoundAs name (take (k + 1) old) (bound ++ new ∷ [])
taken_more name old left bound k door new within is first made all =
    all_zip_more (IsBoundAs name) old bound k door new within (first ∙ ap (λ (l : List MemDoor). get_or l 0 door) is ∙ get_or-drop k old 0 door ∙ ap (λ i. get_or old i door) (omega arith)) all made

pub left_more : (old left : List MemDoor) (k : ℕ) → left ≡ drop k old → remove left 0 ≡ drop (k + 1) old
left_more old left k is = ap (drop 1) is ∙ drop-drop 1 k old

-- the place at this index is the first of that name
pub record IsFirst (name : List ℕ) (places : List MemPlace) (i : ℕ) (d : MemPlace) : Type 0 where
  pub within : i < length places
  pub named : is_named name (get_or places i d) ≡ true
  pub below : (k : ℕ) → k < i → is_named name (get_or places k d) ≡ false

pub first_is : (name : List ℕ) (places : List MemPlace) (i : ℕ) (d : MemPlace) → position (is_named name) places ≡ Some i → IsFirst name places i d
first_is name places i d is = let f = position-Some (is_named name) places i d is in record { within = f.0; named = f.1; below = f.2 }

-- its doors are those left at the name
pub doors_first : (name : List ℕ) (places : List MemPlace) (i : ℕ) (d : MemPlace) → IsFirst name places i d → doors_at name places ≡ (get_or places i d).doors.items
doors_first name [] i d is = absurd (omega (arith, is.within))
doors_first name (at ∷ places) zero d is = rw is.named
doors_first name (at ∷ places) (suc i) d is =
    rw (is.below 0 (omega arith)) (doors_first name places i d (record { within = omega (arith, is.within); named = is.named; below = λ k less. is.below (suc k) (omega arith) }))

-- another place of that name in its stead
pub doors_replaced : (name : List ℕ) (places : List MemPlace) (i : ℕ) (d new : MemPlace) → IsFirst name places i d → is_named name new ≡ true → doors_at name (set places i new) ≡ new.doors.items
doors_replaced name [] i d new is named = absurd (omega (arith, is.within))
doors_replaced name (at ∷ places) zero d new is named = rw named
doors_replaced name (at ∷ places) (suc i) d new is named =
    rw (is.below 0 (omega arith)) (doors_replaced name places i d new (record { within = omega (arith, is.within); named = is.named; below = λ k less. is.below (suc k) (omega arith) }) named)

-- what is left at another name stays
pub others_stay : (other : List ℕ) (places : List MemPlace) (i : ℕ) (d new : MemPlace) → i < length places → is_named other (get_or places i d) ≡ false → is_named other new ≡ false → doors_at other (set places i new) ≡ doors_at other places
others_stay other [] i d new within gone gone' = absurd (omega (arith, within))
others_stay other (at ∷ places) zero d new within gone gone' = rw (gone, gone')
others_stay other (at ∷ places) (suc i) d new within gone gone' =
    ap (λ (l : List MemDoor). cond (is_named other at) at.doors.items l) (others_stay other places i d new (omega arith) gone gone')

-- a place of one name is of no other
pub other_name : (name other : List ℕ) (at : MemPlace) → is_named name at ≡ true → other ≢ name → is_named other at ≡ false
other_name name other at named differs =
    let is : string_bytes at.place ≡ name = (bytes_eq-Decides (string_bytes at.place) name).0 named in
    false_from_ne_true _ (λ yes. differs (sym ((bytes_eq-Decides (string_bytes at.place) other).0 yes) ∙ is))

-- no place of that name, no doors
doors_none : (name : List ℕ) (places : List MemPlace) → ((k : ℕ) (d : MemPlace) → k < length places → is_named name (get_or places k d) ≡ false) → doors_at name places ≡ []
doors_none name [] none = refl
doors_none name (at ∷ places) none = rw (none 0 at (omega arith)) (doors_none name places (λ k d less. none (suc k) d (omega arith)))

none_within : (b : Bool) (n : ℕ) → cond b (Some n) None ≡ None → b ≡ false
none_within true n is = absurd cc
none_within false n is = refl

pub no_place : (name : List ℕ) (places : List MemPlace) → position (is_named name) places ≡ None → doors_at name places ≡ []
no_place name places is =
    let none = none_within (ltb (position_or_len (is_named name) places) (length places)) (position_or_len (is_named name) places) is in
    let past : length places ≤ position_or_len (is_named name) places = ltb-false _ _ none in
    doors_none name places (λ k d less. fails_before_first (is_named name) places k d (omega arith))

-- what a bind at the first place of the name does to all places
pub takes_doors : (name : List ℕ) (count : ℕ) (places : List MemPlace) (i : ℕ) (d old new : MemPlace) (result : Result (Vec MemDoor) AllocError) → IsFirst name places i d → old ≡ get_or places i d → new.place ≡ old.place
    → IfOk result (λ bound. AreBoundAs name (take count old.doors.items) bound.items) → OnOk result (new.doors.items ≡ drop count old.doors.items)
    → OnErr result (LosesDoors old.doors.items new.doors.items) → TakesDoors name count places (set places i new) result
takes_doors name count places i d old new result first is same gives left lost =
    let named : is_named name old ≡ true = ap (is_named name) is ∙ first.named in
    let named' : is_named name new ≡ true = ap (λ s. bytes_eq (string_bytes s) name) same ∙ named in
    let doors : old.doors.items ≡ doors_at name places = ap (λ (p : MemPlace). p.doors.items) is ∙ sym (doors_first name places i d first) in
    let replaced = doors_replaced name places i d new first named' in record {
      gives = subst (λ (l : List MemDoor). IfOk result (λ bound. AreBoundAs name (take count l) bound.items)) doors gives;
      left = subst (λ (l : List MemDoor). OnOk result (doors_at name (set places i new) ≡ drop count l)) doors (subst (λ (l : List MemDoor). OnOk result (l ≡ drop count old.doors.items)) (sym replaced) left);
      lost = subst (λ (l : List MemDoor). OnErr result (LosesDoors l (doors_at name (set places i new)))) doors (subst (λ (l : List MemDoor). OnErr result (LosesDoors old.doors.items l)) (sym replaced) lost);
      others = λ other differs. others_stay other places i d new first.within (ap (is_named other) (sym is) ∙ other_name name other old named differs) (other_name name other new named' differs);
    }

-- the doors that are left were not used yet
doors_untouched : (name : List ℕ) (places : List MemPlace) → All IsUntouched (doors_at name places)
doors_untouched name [] = λ k d less. absurd (omega arith)
doors_untouched name (at ∷ places) =
    either (is_named name at) at.doors.items (doors_at name places) at.untouched (doors_untouched name places)
  where
    either : (b : Bool) (xs ys : List MemDoor) → All IsUntouched xs → All IsUntouched ys → All IsUntouched (cond b xs ys)
    either true xs ys p q = p
    either false xs ys p q = q

new_door : (name : List ℕ) (old new : MemDoor) → IsBoundAs name old new → IsUntouched old → IsNewDoor name (state_of new)
new_door name old new bound untouched =
    let accepted : accepted_of new ≡ accepted_of old = let e = ap (λ (s : DoorState). s.accepted) bound.rest in cc in
    let talks : talks_of new ≡ talks_of old = let e = ap (λ (s : DoorState). s.talks) bound.rest in cc in record {
      place = subst (λ (o : Option (List ℕ)). IsToldAs o name) (sym bound.place) refl;
      accepted = accepted ∙ untouched.accepted;
      talks = talks ∙ ap (map talked_of) (nil_from_length old.talks.items untouched.talks);
    }

new_doors : (name : List ℕ) (old new : List MemDoor) → AreBoundAs name old new → All IsUntouched old → All (λ (d : MemDoor). IsNewDoor name (state_of d)) new
new_doors name [] [] bound all = λ k d less. absurd (omega arith)
new_doors name [] (y ∷ ys) bound all = absurd bound
new_doors name (x ∷ xs) [] bound all = absurd bound
new_doors name (x ∷ xs) (y ∷ ys) bound all =
    All-cons (λ (d : MemDoor). IsNewDoor name (state_of d)) y ys (new_door name x y bound.0 (All-head IsUntouched x xs all)) (new_doors name xs ys bound.1 (All-tail IsUntouched x xs all))

-- doors that are bound are new
pub bound_are_new : (name : List ℕ) (count : ℕ) (places : List MemPlace) (bound : List MemDoor) → AreBoundAs name (take count (doors_at name places)) bound → All (λ (d : MemDoor). IsNewDoor name (state_of d)) bound
bound_are_new name count places bound are = new_doors name (take count (doors_at name places)) bound are (All-take IsUntouched count (doors_at name places) (doors_untouched name places))

pub bound_count : (name : List ℕ) (count : ℕ) (doors bound : List MemDoor) → AreBoundAs name (take count doors) bound → count ≤ length doors → length bound ≡ count
bound_count name count doors bound are enough = omega (arith, length_all_zip (IsBoundAs name) (take count doors) bound are, length-take {A = MemDoor})

-- a bind that isn't to fail and ends for want of memory, where enough doors are left
pub bind_starved : (name : List ℕ) (count : ℕ) (old new : MemNet) (result : Result (Vec MemDoor) NetFault) → IsErrAnd result (λ f. f ≡ NoMemory)
    → (IsFailing (calls_of old) → ⊥) → count ≤ length (doors_at name (places_of old)) → LosesDoors (doors_at name (places_of old)) (doors_at name (places_of new))
    → ((other : List ℕ) → other ≢ name → doors_at other (places_of new) ≡ doors_at other (places_of old))
    → new.faults ≡ old.faults → Advances (calls_of old) (calls_of new) → scripts_of new ≡ scripts_of old → BindsExactly name count old new result
bind_starved name count old new result is runs enough lost others counts advances scripts =
    let p = err_from_is_err_and result is in
    let none : result ≡ Err NoMemory = p.1 ∙ ap Err p.2 in rw none record {
      fails = (λ e. absurd cc, λ h. absurd (elim h [ inl f ↦ runs f | inr few ↦ omega (arith, few, enough) ]));
      gives = tt;
      left = tt;
      lost = lost;
      unchanged = λ e. absurd cc;
      others = others;
      counts = counts;
      advances = advances;
      scripts = scripts;
    }
