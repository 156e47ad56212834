-- Copies of the source's entries among those that the target has.
use Rattle.std.proofs.Common.{◌≡◌, inl, inr, ℕ, zero, suc, ◌+◌, Bool, true, List, [], ◌∷◌, ◌++◌, take, drop, refl, sym, ap, subst, arith, take-append-drop}
use Rattle.std.specs.Prelude.{Any, ◌==◌, ◌&&◌, not}
use Rattle.std.specs.List.{Contains, list_any}
use Rattle.std.proofs.lemmas.Bool.{and_parts, cases_Bool, eqb-true, or_cases}
use Rattle.std.proofs.lemmas.List.Elements.{Contains-append_left}
use Rattle.spool_state.specs.SpoolState.{SpoolState, end}
use Rattle.spool_state.specs.Left.{NumberedEntry, left, numbered}
use Rattle.spool_move.specs.Moved.{connection_of, moved, all_moved, is_present, missing, IsCopy}
use Rattle.spool_move.specs.Strange.{IsPlain, NoneIsStrange}
use Rattle.spool_move.specs.Stands.{HasTaken}
use Rattle.spool_move.proofs.Looking.{cons_cases, filter_contains}

any_cons : (P : NumberedEntry → Type 0) (x : NumberedEntry) (xs : List NumberedEntry) → Any P xs → Any P (x ∷ xs)
any_cons P x xs some = (suc some.0, some.1, omega (arith, some.2), some.3, some.4)

any_left : (P : NumberedEntry → Type 0) (xs ys : List NumberedEntry) → Any P xs → Any P (xs ++ ys)
any_left P [] ys some = absurd (omega (arith, some.2))
any_left P (x ∷ xs) ys (zero, y, lt, is, p) = (zero, y, omega arith, is, p)
any_left P (x ∷ xs) ys (suc k, y, lt, is, p) = any_cons P x (xs ++ ys) (any_left P xs ys (k, y, omega arith, is, p))

any_right : (P : NumberedEntry → Type 0) (xs ys : List NumberedEntry) → Any P ys → Any P (xs ++ ys)
any_right P [] ys some = some
any_right P (x ∷ xs) ys some = any_cons P x (xs ++ ys) (any_right P xs ys some)

any_true : (p : NumberedEntry → Bool) (xs : List NumberedEntry) → list_any p xs ≡ true → Any (λ x. p x ≡ true) xs
any_true p [] is = absurd (cc)
any_true p (x ∷ xs) is = elim (or_cases (p x) (list_any p xs) is) [
  | inl here ↦ (zero, x, omega arith, refl, here)
  | inr there ↦ any_cons (λ y. p y ≡ true) x xs (any_true p xs there)
]

-- an entry that is moved is a copy
copies_moved : (tag first : ℕ) (xs : List NumberedEntry) (one : NumberedEntry) → Contains xs one → Any (λ there. IsCopy tag one there.entry) (numbered first (all_moved tag xs))
copies_moved tag first [] one here = absurd (omega (arith, here.1))
copies_moved tag first (x ∷ xs) one here = elim (cons_cases x xs one here) [
  | inl same ↦ (
    zero,
    record { number = first; entry = moved tag x },
    omega arith,
    refl,
    record { conn = refl; index = ap (λ (e : NumberedEntry). e.number) same; event = ap (λ (e : NumberedEntry). e.entry.event) same },
  )
  | inr behind ↦ any_cons (λ there. IsCopy tag one there.entry) (record { number = first; entry = moved tag x }) (numbered (first + 1) (all_moved tag xs)) (copies_moved tag (first + 1) xs one behind)
]

module _ (tag : ℕ) (m u : SpoolState) (none : NoneIsStrange tag m (left u)) where
  -- what is present is a copy
  copy_present : (one : NumberedEntry) → Contains (left m) one → is_present tag (left u) one.number ≡ true → Any (λ there. IsCopy tag one there.entry) (left u)
  copy_present one here is =
      let some = any_true (λ x. (x.entry.conn == connection_of tag) && (x.entry.index == one.number)) (left u) is in
      let x = some.1 in
      let parts = and_parts (x.entry.conn == connection_of tag) (x.entry.index == one.number) some.4 in
      let plain : IsPlain tag m x.entry = subst (λ (e : NumberedEntry). IsPlain tag m e.entry) some.3 (none some.0 x some.2) in
      let conn = eqb-true x.entry.conn (connection_of tag) parts.0 in
      let index = eqb-true x.entry.index one.number parts.1 in
      (some.0, x, some.2, some.3, record { conn = conn; index = index; event = sym ((plain conn).1 one here (sym index)) })

  -- of the entries that are walked the target has copies
  pub copied : (n : ℕ) (t : SpoolState) → HasTaken u (all_moved tag (missing tag (left u) (take n (left m)))) t → (one : NumberedEntry) → Contains (take n (left m)) one → Any (λ there. IsCopy tag one there.entry) (left t)
  copied n t taken one there =
      let P : NumberedEntry → Type 0 = λ e. IsCopy tag one e.entry in
      let more = all_moved tag (missing tag (left u) (take n (left m))) in
      let here = subst (λ (l : List NumberedEntry). Contains l one) (take-append-drop n (left m)) (Contains-append_left (take n (left m)) (drop n (left m)) one there) in
      subst (Any P) (sym taken.left_is) (elim (cases_Bool (is_present tag (left u) one.number)) [
        | inl is ↦ any_left P (left u) (numbered (end u) more) (copy_present one here is)
        | inr off ↦ any_right P (left u) (numbered (end u) more)
            (copies_moved tag (end u) (missing tag (left u) (take n (left m))) one (filter_contains (λ e. not (is_present tag (left u) e.number)) (take n (left m)) one there (ap not off)))
      ])
