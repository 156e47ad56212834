-- A part of a legal list is legal.
use Rattle.std.proofs.Common.{◌≡◌, ◌≢◌, ◌⊎◌, inl, inr, ℕ, ◌+◌, ◌*◌, ◌^◌, ◌≤◌, ◌<◌, List, [], ◌∷◌, ◌++◌, take, drop, refl, sym, ◌∙◌, ap}
use Rattle.std.proofs.Common.{subst, arith}
use Rattle.std.specs.Prelude.{All}
use Rattle.std.proofs.lemmas.Bool.{cases_lt}
use Rattle.std.proofs.lemmas.List.{append-nil, take-append-drop}
use Rattle.std.proofs.lemmas.List.Elements.{All-nil, All-cons, All-head, All-tail, All-append}
use Rattle.event_form.specs.declared.event.Entry.{Entry}
use Rattle.desk_access.specs.Batch.{AreNext, AreOfUnit, IsPlain}
use Rattle.desk_access.specs.Legal.{of_conn, AreOfOthers}
use Rattle.desk_access.proofs.Nexts.{all_left, all_right}
use Rattle.spool_turns.specs.Whole.{AreTogether, AreLegal, AreEarlier}
use Rattle.spool_turns.proofs.Lists.{together_last}
use Rattle.spool_turns.proofs.Picks.{conn_both, conn_none}

-- ---- indexes that rise by one

next_left : (conn index : ℕ) (xs ys : List Entry) → AreNext conn index (xs ++ ys) → AreNext conn index xs
next_left conn index [] ys next = tt
next_left conn index (x ∷ xs) ys next = (next.0, next.1, next_left conn (index + 1) xs ys next.2)

next_right : (conn index : ℕ) (xs ys : List Entry) → AreNext conn index (xs ++ ys) → (first : ℕ) × AreNext conn first ys
next_right conn index [] ys next = (index, next)
next_right conn index (x ∷ xs) ys next = next_right conn (index + 1) xs ys next.2

-- ---- the entries of a unit

module _ (unit : ℕ) where
  -- the parts of entries of which some come first that have the unit, and then others
  record FirstParts (xs ys : List Entry) : Type 0 where
    those : List Entry
    after : List Entry
    parts : xs ≡ those ++ after
    all : AreOfUnit unit those
    none_after : AreOfOthers unit after
    rest : AreTogether unit ys

  none_together : (xs : List Entry) → AreOfOthers unit xs → AreTogether unit xs
  none_together xs none =
      record {
        before = [];
        those = [];
        after = xs;
        parts = refl;
        none_before = All-nil (λ (e : Entry). e.unit ≢ unit);
        all = All-nil
            (λ (e : Entry). e.unit ≡ unit);
        none_after = none;
      }

  first_parts : (xs ys those after : List Entry) → xs ++ ys ≡ those ++ after → AreOfUnit unit those → AreOfOthers unit after
      → FirstParts xs ys
  first_parts [] ys those after is all none = record {
    those = [];
    after = [];
    parts = refl;
    all = All-nil (λ (e : Entry). e.unit ≡ unit);
    none_after = All-nil (λ (e : Entry). e.unit ≢ unit);
    rest =
        record {
          before = [];
          those = those;
          after = after;
          parts = is;
          none_before = All-nil
              (λ (e : Entry). e.unit ≢ unit);
          all = all;
          none_after = none;
        };
  }
  first_parts (x ∷ xs) ys [] after is all none =
      let whole : AreOfOthers unit (x ∷ (xs ++ ys)) = subst (AreOfOthers unit) (sym is) none in
      record {
        those = [];
        after = x ∷ xs;
        parts = refl;
        all = all;
        none_after = all_left (λ (e : Entry). e.unit ≢ unit) (x ∷ xs) ys whole;
        rest = none_together ys (all_right (λ (e : Entry). e.unit ≢ unit) (x ∷ xs) ys whole);
      }
  first_parts (x ∷ xs) ys (t ∷ those) after is all none =
      let tail : xs ++ ys ≡ those ++ after = cc is in
      let head : x ≡ t = cc is in
      let more = first_parts xs ys those after tail (All-tail (λ (e : Entry). e.unit ≡ unit) t those all) none in
      record {
        those = t ∷ more.those;
        after = more.after;
        parts = ap (λ (l : List Entry). x ∷ l) more.parts ∙ ap (λ (e : Entry). e ∷ (more.those ++ more.after)) head;
        all = All-cons (λ (e : Entry). e.unit ≡ unit) t more.those (All-head (λ (e : Entry). e.unit ≡ unit) t those all) more.all;
        none_after = more.none_after;
        rest = more.rest;
      }

  together_parts : (xs ys before those after : List Entry) → xs ++ ys ≡ before ++ (those ++ after) → AreOfOthers unit before
      → AreOfUnit unit those → AreOfOthers unit after → AreTogether unit xs × AreTogether unit ys
  together_parts [] ys before those after is none_before all none_after = (
    none_together [] (All-nil (λ (e : Entry). e.unit ≢ unit)),
    record {
      before = before;
      those = those;
      after = after;
      parts = is;
      none_before = none_before;
      all = all;
      none_after = none_after;
    },
  )
  together_parts (x ∷ xs) ys [] those after is none_before all none_after =
      let p = first_parts (x ∷ xs) ys those after is all none_after in (
        record {
          before = [];
          those = p.those;
          after = p.after;
          parts = p.parts;
          none_before = none_before;
          all = p.all;
          none_after = p.none_after;
        },
        p.rest,
      )
  together_parts (x ∷ xs) ys (b ∷ before) those after is none_before all none_after =
      let tail : xs ++ ys ≡ before ++ (those ++ after) = cc is in
      let head : x ≡ b = cc is in
      let more =
      together_parts xs ys before those after tail (All-tail (λ (e : Entry). e.unit ≢ unit) b before none_before) all none_after in
      let here = more.0 in (
        record {
          before = b ∷ here.before;
          those = here.those;
          after = here.after;
          parts = ap (λ (l : List Entry). x ∷ l) here.parts ∙ ap (λ (e : Entry). e ∷ (here.before ++ (here.those ++ here.after))) head;
          none_before =
              All-cons (λ (e : Entry). e.unit ≢ unit) b here.before
              (All-head (λ (e : Entry). e.unit ≢ unit) b before none_before) here.none_before;
          all = here.all;
          none_after = here.none_after;
        },
        more.1,
      )

-- ---- a legal list

indexes_parts : (xs ys : List Entry) (conn : ℕ) → ((first : ℕ) × AreNext conn first (of_conn conn (xs ++ ys)))
    → ((first : ℕ) × AreNext conn first (of_conn conn xs)) × ((first : ℕ) × AreNext conn first (of_conn conn ys))
indexes_parts xs ys conn next =
    let both = subst (AreNext conn next.0) (conn_both conn xs ys) next.1 in (
      (next.0, next_left conn next.0 (of_conn conn xs) (of_conn conn ys) both),
      next_right conn next.0 (of_conn conn xs)
          (of_conn conn ys) both,
    )

legal_parts : (xs ys : List Entry) → AreLegal (xs ++ ys) → AreLegal xs × AreLegal ys
legal_parts xs ys legal =
    let units = λ (unit : ℕ) (large : 2 ^ 32 ≤ unit).
    let u = legal.units unit large in together_parts unit xs ys u.before u.those u.after u.parts u.none_before u.all u.none_after in (
      record {
        indexes = λ conn small. (indexes_parts xs ys conn
            (legal.indexes conn small)).0;
        units = λ unit large. (units unit large).0;
      },
      record {
        indexes = λ conn small. (indexes_parts xs ys conn
            (legal.indexes conn small)).1;
        units = λ unit large. (units unit large).1;
      },
    )

-- a legal list of entries of earlier runs than this one
abbrev pub IsLegalBefore : ℕ → List Entry → Type 0
IsLegalBefore run xs = AreLegal xs × AreEarlier run xs

pub parts_legal : (run : ℕ) (xs ys : List Entry) → IsLegalBefore run (xs ++ ys) → IsLegalBefore run xs × IsLegalBefore run ys
parts_legal run xs ys is =
    let C = λ (e : Entry). (e.conn < run * 2 ^ 32) ⊎ (2 ^ 63 ≤ e.conn) in
    let U = λ (e : Entry). IsPlain e ⊎ (e.unit < run * 2 ^ 32) in
    let legal = legal_parts xs ys is.0 in (
      (legal.0, record { conns = all_left C xs ys is.1.conns; units = all_left U xs ys is.1.units }),
      (legal.1, record { conns = all_right C xs ys is.1.conns; units = all_right U xs ys is.1.units }),
    )

-- so is a list without its first entries
pub dropped_legal : (run n : ℕ) (xs : List Entry) → IsLegalBefore run xs → IsLegalBefore run (drop n xs)
dropped_legal run n xs is = (parts_legal run (take n xs) (drop n xs) (subst (IsLegalBefore run) (sym (take-append-drop n xs)) is)).1

-- ---- with entries that were moved into the spool

pub record IsMovedIn (entry : Entry) : Type 0 where
  pub conn : 2 ^ 63 ≤ entry.conn
  pub unit : IsPlain entry

pub moved_legal : (run : ℕ) (xs more : List Entry) → All IsMovedIn more → IsLegalBefore run xs → IsLegalBefore run (xs ++ more)
moved_legal run xs more moved is =
    let C : Entry → Type 0 = λ e. (e.conn < run * 2 ^ 32) ⊎ (2 ^ 63 ≤ e.conn) in
    let U : Entry → Type 0 = λ e. IsPlain e ⊎ (e.unit < run * 2 ^ 32) in (
      record {
        indexes = λ conn small.
            let none = conn_none conn more (λ k d lt same. omega (arith, (moved k d lt).conn, same, small)) in
            let all = conn_both conn xs more ∙ ap (λ (l : List Entry). of_conn conn xs ++ l) none ∙ append-nil (of_conn conn xs) in
            let was = is.0.indexes conn small in
            (was.0, subst (AreNext conn was.0) (sym all) was.1);
        units =
            λ unit large. together_last unit xs more (is.0.units unit large)
            (λ k d lt same. omega (arith, (moved k d lt).unit, same, large));
      },
      record {
        conns = All-append C xs more is.1.conns (λ k d lt. inr (moved k d lt).conn);
        units = All-append U xs more is.1.units (λ k d lt. inl (moved k d lt).unit);
      },
    )

-- ---- where nothing was moved in

pub unmoved_next : (conn : ℕ) (xs : List Entry) → AreLegal xs → All (λ (e : Entry). e.conn < 2 ^ 63) xs → (first : ℕ) × AreNext conn first
    (of_conn conn xs)
unmoved_next conn xs legal few = elim (cases_lt conn (2 ^ 63)) [
  | inl small ↦ legal.indexes conn small
  | inr large ↦ (0, subst (AreNext conn 0) (sym (conn_none conn xs (λ k d lt same. omega (arith, few k d lt, same, large)))) tt)
]
