-- Pages of entries, and the numbers behind them.
use Rattle.std.proofs.Common.{◌≡◌, ℕ, zero, suc, ◌+◌, ◌-◌, ◌<◌, ◌≤◌, Bool, true, false, cond, List, [], ◌∷◌, ◌++◌, length, take, drop, get_or, refl, sym, ◌∙◌, ap, subst, arith, append_assoc, length-take, take-append-drop}
use Rattle.std.specs.Prelude.{nat_le, ◌==◌}
use Rattle.std.specs.List.{filter}
use Rattle.std.proofs.lemmas.Bool.{leb-false, lt-leb}
use Rattle.std.proofs.lemmas.List.{append-nil, map-append, nil_from_length, take_more, take_all}
use Rattle.event_form.specs.Entry.{IsEntry}
use Rattle.spool_state.specs.SpoolState.{SpoolState}
use Rattle.spool_state.specs.Left.{NumberedEntry, left, left_from}
use Rattle.spool_answers.specs.declared.numbered.Numbered.{Numbered}
use Rattle.spool_answers.specs.Pend.{AreNumbered, given_entries}
use Rattle.spool_move.specs.Reading.{as_entry}
use Rattle.spool_move.specs.Walking.{after_last}
use Rattle.spool_move.proofs.Rising.{rises_filter, left_rises, after_first}

-- one more of them
pub given_push : (given : List Numbered) (one : Numbered) → given_entries (given ++ one ∷ []) ≡ given_entries given ++ as_entry one ∷ []
given_push given one = map-append as_entry given (one ∷ [])

pub given_more : (given : List Numbered) (i : ℕ) (d : Numbered) → i < length given → given_entries (take (i + 1) given) ≡ given_entries (take i given) ++ as_entry (get_or given i d) ∷ []
given_more given i d lt = ap given_entries (take_more given i d lt) ∙ map-append as_entry (take i given) (get_or given i d ∷ [])

pub given_parts : (given : List Numbered) (i : ℕ) → given_entries given ≡ given_entries (take i given) ++ given_entries (drop i given)
given_parts given i = ap given_entries (sym (take-append-drop i given)) ∙ map-append as_entry (take i given) (drop i given)

pub length-given : (given : List Numbered) → length (given_entries given) ≡ length given
length-given [] = refl
length-given (one ∷ more) = ap suc (length-given more)

pub after_push : (from : ℕ) (xs : List NumberedEntry) (one : NumberedEntry) → after_last from (xs ++ one ∷ []) ≡ one.number + 1
after_push from [] one = refl
after_push from (x ∷ xs) one = after_push (x.number + 1) xs one

-- ---- entries with rising numbers, as they are given

-- what is said of one of them
pub record IsGiven (from end : ℕ) (one : Numbered) : Type 0 where
  pub above : from ≤ one.number
  pub below : one.number < end
  pub limits : IsEntry one.entry

pub given_next : (from end : ℕ) (xs : List Numbered) (one : Numbered) (rest : List Numbered) → AreNumbered from end (xs ++ one ∷ rest) → IsGiven (after_last from (given_entries xs)) end one
given_next from end [] one rest are = record { above = are.0; below = are.1; limits = are.2 }
given_next from end (x ∷ xs) one rest are = given_next (x.number + 1) end xs one rest are.3

pub given_within : (from end : ℕ) (xs rest : List Numbered) → from ≤ end → AreNumbered from end (xs ++ rest) → after_last from (given_entries xs) ≤ end
given_within from end [] rest le are = le
given_within from end (x ∷ xs) rest le are = given_within (x.number + 1) end xs rest (omega (arith, are.1)) are.3

pub given_rises : (from end : ℕ) (xs : List Numbered) → AreNumbered from end xs → from + length xs ≤ after_last from (given_entries xs)
given_rises from end [] are = omega arith
given_rises from end (x ∷ xs) are = omega (arith, are.0, given_rises (x.number + 1) end xs are.3)

-- the last one
last_push : (xs : List Numbered) (one : Numbered) → 0 < length xs → one ≡ get_or xs (length xs - 1) one → xs ≡ take (length xs - 1) xs ++ one ∷ []
last_push xs one some place =
    let i = length xs - 1 in
    sym (take_all (i + 1) xs (omega arith)) ∙ take_more xs i one (omega (arith, some)) ∙ ap (λ (x : Numbered). take i xs ++ x ∷ []) (sym place)

pub last_given : (from end : ℕ) (xs : List Numbered) (one : Numbered) → AreNumbered from end xs → 0 < length xs → one ≡ get_or xs (length xs - 1) one → IsGiven from end one
last_given from end xs one are some place =
    let is = last_push xs one some place in
    let next = given_next from end (take (length xs - 1) xs) one [] (subst (AreNumbered from end) is are) in
    let low = given_rises from end (take (length xs - 1) xs) (front from end (take (length xs - 1) xs) (one ∷ []) (subst (AreNumbered from end) is are)) in
    record { above = omega (arith, next.above, low); below = next.below; limits = next.limits }
  where
    front : (a b : ℕ) (ys zs : List Numbered) → AreNumbered a b (ys ++ zs) → AreNumbered a b ys
    front a b [] zs are = tt
    front a b (y ∷ ys) zs are = (are.0, are.1, are.2, front (y.number + 1) b ys zs are.3)

pub last_after : (from : ℕ) (xs : List Numbered) (one : Numbered) → 0 < length xs → one ≡ get_or xs (length xs - 1) one → after_last from (given_entries xs) ≡ one.number + 1
last_after from xs one some place =
    ap (λ (l : List Numbered). after_last from (given_entries l)) (last_push xs one some place)
    ∙ ap (after_last from) (given_push (take (length xs - 1) xs) one)
    ∙ after_push from (given_entries (take (length xs - 1) xs)) (as_entry one)

-- ---- what is left after a page

kept : (q : NumberedEntry → Bool) (x : NumberedEntry) (xs ys : List NumberedEntry) (b : Bool) → (b ≡ false → q x ≡ false) → filter q xs ≡ ys → filter q (cond b (x ∷ xs) xs) ≡ cond (q x) (x ∷ ys) ys
kept q x xs ys true off is = ap (λ (l : List NumberedEntry). cond (q x) (x ∷ l) l) is
kept q x xs ys false off is = is ∙ sym (ap (λ (b : Bool). cond b (x ∷ ys) ys) (off refl))

off_later : (from next n : ℕ) → from ≤ next → nat_le from n ≡ false → nat_le next n ≡ false
off_later from next n le off = lt-leb next n (omega (arith, le, leb-false from n off))

from_twice : (from next : ℕ) (xs : List NumberedEntry) → from ≤ next → filter (λ e. nat_le next e.number) (filter (λ e. nat_le from e.number) xs) ≡ filter (λ e. nat_le next e.number) xs
from_twice from next [] le = refl
from_twice from next (x ∷ xs) le =
    kept (λ e. nat_le next e.number) x (filter (λ e. nat_le from e.number) xs) (filter (λ e. nat_le next e.number) xs)
    (nat_le from x.number) (off_later from next x.number le) (from_twice from next xs le)

left_next : (s : SpoolState) (from next k : ℕ) → from ≤ next → after_last 0 (take k (left_from s from)) ≡ next → left_from s next ≡ drop k (left_from s from)
left_next s from next k le is =
    sym (from_twice from next (left s) le)
    ∙ ap (λ (n : ℕ). filter (λ (e : NumberedEntry). nat_le n e.number) (left_from s from)) (sym is)
    ∙ after_first 0 k (left_from s from) (rises_filter (λ e. nat_le from e.number) 0 (left s) (left_rises s))

none_taken : (k : ℕ) (xs : List NumberedEntry) → 0 < k → take k xs ≡ [] → xs ≡ []
none_taken k [] some is = refl
none_taken k (x ∷ xs) some is = absurd (omega (arith, some, ap length is, length-take k (x ∷ xs)))

drop-nil : (k : ℕ) → drop k (let none : List NumberedEntry = [] in none) ≡ []
drop-nil zero = refl
drop-nil (suc k) = refl

-- Some entries were read, and then a page of those that are left from a number on.
module _ (s : SpoolState) (before : List NumberedEntry) (from k : ℕ) (given : List Numbered) (whole : left s ≡ before ++ left_from s from) (is : given_entries given ≡ take k (left_from s from)) where
  pub page_parts : left s ≡ (before ++ given_entries given) ++ drop k (left_from s from)
  page_parts =
      whole
      ∙ ap (λ (l : List NumberedEntry). before ++ l) (sym (take-append-drop k (left_from s from)) ∙ ap (λ (l : List NumberedEntry). l ++ drop k (left_from s from)) (sym is))
      ∙ sym (append_assoc before (given_entries given) (drop k (left_from s from)))

  -- the others are left from the number behind the last on
  pub page_next : (one : Numbered) → 0 < length given → one ≡ get_or given (length given - 1) one → from ≤ one.number → left s ≡ (before ++ given_entries given) ++ left_from s (one.number + 1)
  page_next one some place le =
      let next : after_last 0 (take k (left_from s from)) ≡ one.number + 1 = ap (after_last 0) (sym is) ∙ last_after 0 given one some place in
      page_parts ∙ ap (λ (l : List NumberedEntry). (before ++ given_entries given) ++ l) (sym (left_next s from (one.number + 1) k (omega (arith, le)) next))

  -- where none is given, these were all
  pub page_last : 0 < k → length given ≤ 0 → left s ≡ before ++ given_entries given
  page_last some none =
      let nothing : left_from s from ≡ [] = none_taken k (left_from s from) some (sym is ∙ nil_from_length (given_entries given) (omega (arith, none, length-given given))) in
      page_parts
      ∙ ap (λ (l : List NumberedEntry). (before ++ given_entries given) ++ drop k l) nothing
      ∙ ap (λ (l : List NumberedEntry). (before ++ given_entries given) ++ l) (drop-nil k)
      ∙ append-nil (before ++ given_entries given)

-- ---- bounds

pub numbered_below : (from end later : ℕ) (xs : List Numbered) → end ≤ later → AreNumbered from end xs → AreNumbered from later xs
numbered_below from end later [] le are = tt
numbered_below from end later (x ∷ xs) le are = (are.0, omega (arith, are.1, le), are.2, numbered_below (x.number + 1) end later xs le are.3)

pub numbered_some : (from end : ℕ) (xs : List Numbered) → 0 < length xs → AreNumbered from end xs → from ≤ end
numbered_some from end [] some are = absurd (omega arith)
numbered_some from end (x ∷ xs) some are = omega (arith, are.0, are.1)

pub not_none : (n : ℕ) → (n == 0) ≡ false → 0 < n
not_none zero is = absurd (cc)
not_none (suc n) is = omega arith
