-- Workers in their order.
use Rattle.std.proofs.Common.{◌≡◌, ℕ, zero, suc, ◌+◌, ◌<◌, ◌≤◌, ◌∙◌, arith, List, [], ◌∷◌, ◌++◌, length, map, take, get_or, refl, sym, ap, subst}
use Rattle.std.specs.Prelude.{All, Some, slice_get}
use Rattle.std.specs.List.{zip}
use Rattle.std.proofs.lemmas.List.{map_push, take_all, take-append-le}
use Rattle.std.proofs.lemmas.List.Elements.{All-nil, All-cons, All-head, All-tail}
use Rattle.edge_io.specs.Door.{DoorState}
use Rattle.desk_access.specs.Division.{DividedRun}
use Rattle.desk_access.specs.Desk.{DeskState}
use Rattle.conn_serve.specs.declared.rules.Rules.{Rules}
use Rattle.desk_seats.specs.Passes.{Known, fresh}
use Rattle.serve_workers.specs.declared.worker.WorkerReport.{WorkerReport}
use Rattle.serve_workers.specs.Works.{Posted, Dismissed, Worked, posted_as, dismissed_as}
use Rattle.serve_workers.specs.Crews.{AreNew, Each, IsAtDesk, IsReady, Roster, Returned, HaveWorked, roster_as, returned_as}

-- one at a place of a list of what a function has of each
at_map : {X Y : Type 0} (f : X → Y) (xs : List X) (k : ℕ) (y : Y) → slice_get (map f xs) k ≡ Some y → (x : X) × (slice_get xs k ≡ Some x) × (f x ≡ y)
at_map f [] k y is = absurd (cc)
at_map f (x ∷ xs) zero y is = (x, refl, cc)
at_map f (x ∷ xs) (suc k) y is = at_map f xs k y is

at_place : {X : Type 0} (xs : List X) (k : ℕ) (x d : X) → slice_get xs k ≡ Some x → (k < length xs) × (get_or xs k d ≡ x)
at_place [] k x d is = absurd (cc)
at_place (y ∷ ys) zero x d is = (omega arith, cc)
at_place (y ∷ ys) (suc k) x d is = let rest = at_place ys k x d is in (omega (arith, rest.0), rest.1)

-- the same of a list that equals it
in_list : {X Y : Type 0} (f : X → Y) (xs : List X) (ys : List Y) (k : ℕ) (x : X) (y : Y) → map f xs ≡ ys → slice_get ys k ≡ Some y → slice_get xs k ≡ Some x → f x ≡ y
in_list f xs ys k x y is here there =
    let found = at_map f xs k y (ap (λ l. slice_get l k) is ∙ here) in
    let same : x ≡ found.0 = cc (there, found.1) in
    ap f same ∙ found.2

-- What each worker did, where it is known by its place.
module _ {X : Type 0} (rules_of : X → Rules) (door_of : X → DoorState) (pass_of : X → Known) (report_of : X → WorkerReport) (start : DeskState → Type 0) (run : DividedRun) (talks : ℕ) (xs ys : List X)
    (each : Each (λ old new. Worked start run talks (posted_as (rules_of old) (door_of old) (pass_of old)) (dismissed_as (door_of new) (pass_of new) (report_of new))) xs ys) where
  worked_each : HaveWorked start run talks (roster_as (map rules_of xs) (map door_of xs) (map pass_of xs)) (returned_as (map door_of ys) (map pass_of ys) (map report_of ys))
  worked_each k posted dismissed is left =
      let x = at_map rules_of xs k posted.rules is.0 in
      let y = at_map report_of ys k dismissed.report left.2 in
      let x_at = at_place xs k x.0 x.0 x.1 in
      let y_at = at_place ys k y.0 x.0 y.1 in
      let old_door = ap door_of x_at.1 ∙ in_list door_of xs (map door_of xs) k x.0 posted.door refl is.1 x.1 in
      let old_pass = ap pass_of x_at.1 ∙ in_list pass_of xs (map pass_of xs) k x.0 posted.pass refl is.2 x.1 in
      let new_door = ap door_of y_at.1 ∙ in_list door_of ys (map door_of ys) k y.0 dismissed.door refl left.0 y.1 in
      let new_pass = ap pass_of y_at.1 ∙ in_list pass_of ys (map pass_of ys) k y.0 dismissed.pass refl left.1 y.1 in
      let rules = ap rules_of x_at.1 ∙ x.2 in
      let report = ap report_of y_at.1 ∙ y.2 in
      subst (λ (t : Posted × Dismissed). Worked start run talks t.0 t.1)
      (λ i. (posted_as (rules i) (old_door i) (old_pass i), dismissed_as (new_door i) (new_pass i) (report i))) (each k x.0 x_at.0)

  pub have_worked : (roster : Roster) (returned : Returned) → roster_as (map rules_of xs) (map door_of xs) (map pass_of xs) ≡ roster
      → returned_as (map door_of ys) (map pass_of ys) (map report_of ys) ≡ returned → HaveWorked start run talks roster returned
  have_worked roster returned r l = subst (λ (t : Roster × Returned). HaveWorked start run talks t.0 t.1) (λ i. (r i, l i)) worked_each

-- ---- the numbers of workers

module _ {X : Type 0} (run : DividedRun) (number_of : X → ℕ) (pass_of : X → Known) where
  -- those whose passes are new are ready
  pub all_ready : (number : ℕ) (xs : List X) → All (λ x. IsAtDesk run (number_of x) (pass_of x)) xs → AreNew number (map pass_of xs) → All (λ x. IsReady run (number_of x) (pass_of x)) xs
  all_ready number [] at new = All-nil (λ x. IsReady run (number_of x) (pass_of x))
  all_ready number (x ∷ xs) at new =
      let here = All-head (λ y. IsAtDesk run (number_of y) (pass_of y)) x xs at in
      All-cons (λ y. IsReady run (number_of y) (pass_of y)) x xs (here.0, here.1, new.1) (all_ready (number + 1) xs (All-tail (λ y. IsAtDesk run (number_of y) (pass_of y)) x xs at) new.2)

-- ---- lists side by side

pub all_more : {X : Type 0} (P : X → Type 0) (xs : List X) (x : X) → All P xs → P x → All P (xs ++ x ∷ [])
all_more P [] x all here = All-cons P x [] here (All-nil P)
all_more P (y ∷ ys) x all here = All-cons P y (ys ++ x ∷ []) (All-head P y ys all) (all_more P ys x (All-tail P y ys all) here)

pairs : {X Y : Type 0} (l : List (X × Y)) → map (λ (p : X × Y). (p.0, p.1)) l ≡ l
pairs [] = refl
pairs {X} {Y} (p ∷ l) = ap (λ (m : List (X × Y)). p ∷ m) (pairs l)

of_first : {X Y Z : Type 0} (h : X → Z) (xs : List X) (ys : List Y) → length xs ≡ length ys → map (λ (z : X × Y). h z.0) (zip xs ys) ≡ map h xs
of_first h [] ys same = refl
of_first h (x ∷ xs) [] same = absurd (omega (arith, same))
of_first {Z = Z} h (x ∷ xs) (y ∷ ys) same = ap (λ (l : List Z). h x ∷ l) (of_first h xs ys (omega (arith, same)))

of_second : {X Y Z : Type 0} (h : Y → Z) (xs : List X) (ys : List Y) → length xs ≡ length ys → map (λ (z : X × Y). h z.1) (zip xs ys) ≡ map h ys
of_second h [] [] same = refl
of_second h [] (y ∷ ys) same = absurd (omega (arith, same))
of_second h (x ∷ xs) [] same = absurd (omega (arith, same))
of_second {Z = Z} h (x ∷ xs) (y ∷ ys) same = ap (λ (l : List Z). h y ∷ l) (of_second h xs ys (omega (arith, same)))

-- of pairs that are those of two lists
pub firsts : {X Y Z : Type 0} (h : X → Z) (l : List (X × Y)) (xs : List X) (ys : List Y) → map (λ (p : X × Y). (p.0, p.1)) l ≡ zip xs ys → length xs ≡ length ys → map (λ (z : X × Y). h z.0) l ≡ map h xs
firsts {X} {Y} h l xs ys is same = ap (map (λ (z : X × Y). h z.0)) (sym (pairs l) ∙ is) ∙ of_first h xs ys same

pub seconds : {X Y Z : Type 0} (h : Y → Z) (l : List (X × Y)) (xs : List X) (ys : List Y) → map (λ (p : X × Y). (p.0, p.1)) l ≡ zip xs ys → length xs ≡ length ys → map (λ (z : X × Y). h z.1) l ≡ map h ys
seconds {X} {Y} h l xs ys is same = ap (map (λ (z : X × Y). h z.1)) (sym (pairs l) ∙ is) ∙ of_second h xs ys same

pub zip_few : {X Y : Type 0} (xs : List X) (ys : List Y) → length (zip xs ys) ≤ length xs
zip_few [] ys = omega arith
zip_few (x ∷ xs) [] = omega arith
zip_few (x ∷ xs) (y ∷ ys) = omega (arith, zip_few xs ys)

-- what a function has of each, after one more
pub pushed : {X Y Z : Type 0} (f : X → Z) (h : Y → Z) (old new : List X) (x : X) (ys : List Y) (y : Y) → new ≡ old ++ x ∷ [] → map f old ≡ map h ys → f x ≡ h y → map f new ≡ map h (ys ++ y ∷ [])
pushed {Z = Z} f h old new x ys y is so here = ap (map f) is ∙ map_push f old x ∙ (λ i. so i ++ here i ∷ []) ∙ sym (map_push h ys y)

pub ready_pushed : {X : Type 0} (P : X → Type 0) (old new : List X) (x : X) → new ≡ old ++ x ∷ [] → All P old → P x → All P new
ready_pushed P old new x is all here = subst (All P) (sym is) (all_more P old x all here)

-- the pass at a place
pub new_at : {X Y : Type 0} (know : Y → Known) (number : ℕ) (xs : List X) (passes : List Y) (k : ℕ) (d : X × Y) → AreNew number (map know passes) → k < length (zip xs passes)
    → ((know (get_or (zip xs passes) k d).1).number ≡ number + k) × ((know (get_or (zip xs passes) k d).1).own ≡ [])
new_at know number [] passes k d new lt = absurd (omega (arith, lt))
new_at know number (x ∷ xs) [] k d new lt = absurd (omega (arith, lt))
new_at know number (x ∷ xs) (pass ∷ passes) zero d new lt = (omega (arith, new.0), new.1)
new_at know number (x ∷ xs) (pass ∷ passes) (suc k) d new lt = let rest = new_at know (number + 1) xs passes k d new.2 (omega (arith, lt)) in (omega (arith, rest.0), rest.1)

-- the post at a place
pub first_at : {X Y : Type 0} (xs : List X) (ys : List Y) (k : ℕ) (d : X × Y) → k < length (zip xs ys) → slice_get xs k ≡ Some (get_or (zip xs ys) k d).0
first_at [] ys k d lt = absurd (omega (arith, lt))
first_at (x ∷ xs) [] k d lt = absurd (omega (arith, lt))
first_at (x ∷ xs) (y ∷ ys) zero d lt = refl
first_at (x ∷ xs) (y ∷ ys) (suc k) d lt = first_at xs ys k d (omega (arith, lt))

-- ---- what a function has of each, by another function

map_of : {X Y Z : Type 0} (f : X → Y) (h : Y → Z) (xs : List X) → map h (map f xs) ≡ map (λ x. h (f x)) xs
map_of f h [] = refl
map_of {Z = Z} f h (x ∷ xs) = ap (λ (l : List Z). h (f x) ∷ l) (map_of f h xs)

pub told_same : {X Y Z : Type 0} (f : X → Y) (h : Y → Z) (xs : List X) (ys : List Y) → map f xs ≡ ys → map (λ x. h (f x)) xs ≡ map h ys
told_same f h xs ys is = sym (map_of f h xs) ∙ ap (map h) is

pub told_alike : {X V Y Z : Type 0} (f : X → Y) (e : V → Y) (h : Y → Z) (xs : List X) (vs : List V) → map f xs ≡ map e vs → map (λ x. h (f x)) xs ≡ map (λ v. h (e v)) vs
told_alike f e h xs vs is = told_same f h xs (map e vs) is ∙ map_of e h vs

-- a list that was written back over one of its length
pub written_back : {X : Type 0} (n : ℕ) (ys zs : List X) → n ≡ length ys → take n (ys ++ zs) ≡ ys
written_back n ys zs same = take-append-le n ys zs (omega (arith, same)) ∙ take_all n ys (omega (arith, same))

-- ---- new passes

-- those that a shared desk gives are new,
pub fresh_new : (number count end cursor : ℕ) → AreNew number (fresh number count end cursor)
fresh_new number zero end cursor = tt
fresh_new number (suc count) end cursor = (refl, refl, subst (λ (n : ℕ). AreNew n (fresh (suc number) count end cursor)) (omega arith) (fresh_new (suc number) count end cursor))

-- and they are as many as were asked for
pub fresh_many : (number count end cursor : ℕ) → length (fresh number count end cursor) ≡ count
fresh_many number zero end cursor = refl
fresh_many number (suc count) end cursor = ap suc (fresh_many (suc number) count end cursor)

-- So are the first ones of such, and the last one, which has the number after theirs.
pub new_front : (number : ℕ) (passes : List Known) (last : Known) → AreNew number (passes ++ last ∷ []) → AreNew number passes
new_front number [] last new = tt
new_front number (pass ∷ passes) last new = (new.0, new.1, new_front (number + 1) passes last new.2)

pub new_last : (number : ℕ) (passes : List Known) (last : Known) → AreNew number (passes ++ last ∷ []) → (last.number ≡ number + length passes) × (last.own ≡ [])
new_last number [] last new = (omega (arith, new.0), new.1)
new_last number (pass ∷ passes) last new = let rest = new_last (number + 1) passes last new.2 in (omega (arith, rest.0), rest.1)
