-- What isn't known, from a number on, and how a walk over the numbers finds it.
use Rattle.std.proofs.Common.{◌≡◌, inl, inr, ℕ, ◌+◌, ◌-◌, ◌<◌, ◌≤◌, List, [], ◌++◌, length, take, drop, sym, ◌∙◌, ap, arith, append_assoc, length-append, length-drop, subst, take-append-drop}
use Rattle.std.specs.Prelude.{All, not, nat_le}
use Rattle.std.specs.List.{filter}
use Rattle.std.proofs.lemmas.Bool.{cases_lt, le-leb, lt-leb}
use Rattle.std.proofs.lemmas.List.{append-nil, take_all, length-take}
use Rattle.std.proofs.lemmas.List.Elements.{All-filter, filter-append}
use Rattle.std.proofs.Math.Seq.{take-append-add}
use Rattle.known_numbers.specs.declared.stretch.Stretch.{Stretch}
use Rattle.known_numbers.specs.Numbers.{Numbers, IsInSome}
use Rattle.event_form.specs.declared.event.Entry.{Entry}
use Rattle.spool_state.specs.SpoolState.{SpoolState, list, base, end, numbers_of, IsKnownIn, IsSound}
use Rattle.spool_state.specs.Left.{NumberedEntry, numbered, is_known, unknown, left, left_from, HasFound}
use Rattle.spool_state.specs.Change.{added}
use Rattle.spool_state.proofs.Texts.{list-added}
use Rattle.spool_state.proofs.Unknown.{IsOf, numbered_append, numbered_of, length-numbered, unknown_append, unknown_all, unknown_numbers, known_below, filter_all, filter_none, filter_like}

-- ---- entries from a number on

abbrev from_on : ℕ → List NumberedEntry → List NumberedEntry
from_on from xs = filter (λ e. nat_le from e.number) xs

from_low : (from a b : ℕ) (xs : List NumberedEntry) → b ≤ from → All (IsOf a b) xs → from_on from xs ≡ []
from_low from a b xs le all = filter_none (λ e. nat_le from e.number) xs (λ k d lt. lt-leb from _ (omega (arith, (all k d lt).most)))

from_high : (from a b : ℕ) (xs : List NumberedEntry) → from ≤ a → All (IsOf a b) xs → from_on from xs ≡ xs
from_high from a b xs le all = filter_all (λ e. nat_le from e.number) xs (λ k d lt. le-leb from _ (omega (arith, (all k d lt).least)))

from_append : (from : ℕ) (xs ys : List NumberedEntry) → from_on from (xs ++ ys) ≡ from_on from xs ++ from_on from ys
from_append from xs ys = filter-append (λ e. nat_le from e.number) xs ys

unknown_of : (numbers : Numbers) (first : ℕ) (xs : List Entry) → All (IsOf first (first + length xs)) (unknown numbers (numbered first xs))
unknown_of numbers first xs = All-filter (λ e. not (is_known numbers e.number)) (IsOf first (first + length xs)) (numbered first xs) (numbered_of first xs)

-- ---- of a state

pub left_of : (s : SpoolState) → All (IsOf (base s) (end s)) (left s)
left_of s = unknown_of (numbers_of s) (base s) (list s)

pub left_unknown : (s : SpoolState) → All (λ e. IsKnownIn s e.number → ⊥) (left s)
left_unknown s = unknown_numbers (numbers_of s) (numbered (base s) (list s))

-- all of it, from the base or from the cursor on
pub left_from-base : (s : SpoolState) (from : ℕ) → from ≤ base s → left_from s from ≡ left s
left_from-base s from le = from_high from (base s) (end s) (left s) le (left_of s)

-- known numbers are passed over
same_test : (from to n : ℕ) → from ≤ to → (from ≤ n → n < to → ⊥) → nat_le from n ≡ nat_le to n
same_test from to n le off = elim (cases_lt n to) [
  | inl lt ↦ elim (cases_lt n from) [ inl less ↦ lt-leb from n less ∙ sym (lt-leb to n lt) | inr ge ↦ absurd (off ge lt) ]
  | inr ge ↦ le-leb from n (omega arith) ∙ sym (le-leb to n ge)
]

pub left_from-skip : (s : SpoolState) (from to : ℕ) → from ≤ to → ((n : ℕ) → from ≤ n → n < to → IsKnownIn s n) → left_from s from ≡ left_from s to
left_from-skip s from to le known =
    filter_like (λ e. nat_le from e.number) (λ e. nat_le to e.number) (left s) (λ k d lt. same_test from to _ le (λ ge less. left_unknown s k d lt (known _ ge less)))

pub left_from-cursor : (s : SpoolState) (from : ℕ) → from ≤ s.cursor → left_from s from ≡ left s
left_from-cursor s from le = sym (left_from-skip s 0 from (omega arith) (λ n ge lt. inl (omega arith))) ∙ left_from-base s 0 (omega arith)

-- from the end on there is none
pub left_from-end : (s : SpoolState) (from : ℕ) → end s ≤ from → left_from s from ≡ []
left_from-end s from le = from_low from (base s) (end s) (left s) le (left_of s)

-- entries that stand there and aren't known come first
module _ (s : SpoolState) (n : ℕ) (entries : List Entry) (from_base : base s ≤ n) (to_end : n ≤ end s) (here : take (length entries) (drop (n - base s) (list s)) ≡ entries)
    (none : (k : ℕ) → n ≤ k → k < n + length entries → IsKnownIn s k → ⊥) where
  before : List Entry
  before = take (n - base s) (list s)

  after : List Entry
  after = drop (length entries) (drop (n - base s) (list s))

  whole : list s ≡ before ++ (entries ++ after)
  unfolding before after
  whole =
      sym (take-append-drop (n - base s) (list s))
      ∙ ap (λ (l : List Entry). take (n - base s) (list s) ++ l) (sym (take-append-drop (length entries) (drop (n - base s) (list s))) ∙ ap (λ (l : List Entry). l ++ drop (length entries) (drop (n - base s) (list s))) here)

  length-before : base s + length before ≡ n
  unfolding before
  length-before = omega (arith, length-take (n - base s) (list s))

  parts : left s ≡ unknown (numbers_of s) (numbered (base s) before) ++ (numbered n entries ++ unknown (numbers_of s) (numbered (n + length entries) after))
  parts =
      let numbers = numbers_of s in
      ap (λ (l : List Entry). unknown numbers (numbered (base s) l)) whole
      ∙ ap (unknown numbers) (numbered_append (base s) before (entries ++ after) ∙ ap (λ (k : ℕ). numbered (base s) before ++ numbered k (entries ++ after)) length-before ∙ ap (λ (l : List NumberedEntry). numbered (base s) before ++ l) (numbered_append n entries after))
      ∙ unknown_append numbers (numbered (base s) before) (numbered n entries ++ numbered (n + length entries) after)
      ∙ ap (λ (l : List NumberedEntry). unknown numbers (numbered (base s) before) ++ l)
      (unknown_append numbers (numbered n entries) (numbered (n + length entries) after)
      ∙ ap (λ (l : List NumberedEntry). l ++ unknown numbers (numbered (n + length entries) after)) (unknown_all numbers n (n + length entries) (numbered n entries) (numbered_of n entries) none))

  from_parts : (from : ℕ) → n ≤ from → left_from s from ≡ from_on from (numbered n entries) ++ from_on from (unknown (numbers_of s) (numbered (n + length entries) after))
  from_parts from le =
      let numbers = numbers_of s in
      let low = from_low from (base s) (base s + length before) (unknown numbers (numbered (base s) before)) (omega (arith, length-before)) (unknown_of numbers (base s) before) in
      ap (from_on from) parts
      ∙ from_append from (unknown numbers (numbered (base s) before)) (numbered n entries ++ unknown numbers (numbered (n + length entries) after))
      ∙ ap (λ (l : List NumberedEntry). l ++ from_on from (numbered n entries ++ unknown numbers (numbered (n + length entries) after))) low
      ∙ from_append from (numbered n entries) (unknown numbers (numbered (n + length entries) after))

  pub left_from-run : left_from s n ≡ numbered n entries ++ left_from s (n + length entries)
  left_from-run =
      let numbers = numbers_of s in
      let rest = unknown numbers (numbered (n + length entries) after) in
      let rest_of = unknown_of numbers (n + length entries) after in
      from_parts n (omega arith)
      ∙ (λ i. from_high n n (n + length entries) (numbered n entries) (omega arith) (numbered_of n entries) i ++ from_high n (n + length entries) (n + length entries + length after) rest (omega arith) rest_of i)
      ∙ ap (λ (l : List NumberedEntry). numbered n entries ++ l)
      (sym (from_parts (n + length entries) (omega arith)
      ∙ (λ i. from_low (n + length entries) n (n + length entries) (numbered n entries) (omega arith) (numbered_of n entries) i ++ from_high (n + length entries) (n + length entries) (n + length entries + length after) rest (omega arith) rest_of i)))

-- where there is no stretch, it is all from the cursor on
pub left-cursor : (s : SpoolState) → IsSound s → s.known ≡ [] → left s ≡ numbered s.cursor (drop (s.cursor - base s) (list s))
left-cursor s sound none =
    let entries = drop (s.cursor - base s) (list s) in
    let long : s.cursor + length entries ≡ end s = omega (arith, length-drop (s.cursor - base s) (list s), sound.from_base, sound.to_end) in
    let off : (k : ℕ) → s.cursor ≤ k → k < s.cursor + length entries → IsKnownIn s k → ⊥ = λ k ge lt known. elim known [
      | inl less ↦ absurd (omega arith)
      | inr there ↦ subst (λ (l : List Stretch). IsInSome l k) none there
    ] in
    sym (left_from-cursor s s.cursor (omega arith))
    ∙ left_from-run s s.cursor entries sound.from_base sound.to_end (take_all (length entries) entries (omega arith)) off
    ∙ ap (λ (l : List NumberedEntry). numbered s.cursor entries ++ l) (left_from-end s (s.cursor + length entries) (omega (arith, long)))
    ∙ append-nil (numbered s.cursor entries)

-- ---- a group more

pub left-added : (s : SpoolState) (group : List Entry) → IsSound s → left (added s group) ≡ left s ++ numbered (end s) group
left-added s group sound =
    let numbers = numbers_of s in
    ap (λ (l : List Entry). unknown numbers (numbered (base s) l)) (list-added s group)
    ∙ ap (unknown numbers) (numbered_append (base s) (list s) group)
    ∙ unknown_append numbers (numbered (base s) (list s)) (numbered (end s) group)
    ∙ ap (λ (l : List NumberedEntry). left s ++ l)
    (unknown_all numbers (end s) (end s + length group) (numbered (end s) group) (numbered_of (end s) group)
    (λ n ge lt known. absurd (omega (arith, known_below (end s) numbers n sound.to_end sound.known_to_end known))))

-- ---- a walk

pub found_none : (s : SpoolState) (from most : ℕ) → HasFound s from most from []
found_none s from most = record { few = omega arith; rest = ap (λ (k : ℕ). take k (left_from s from)) (omega arith) }

pub found_skip : (s : SpoolState) (from most n to : ℕ) (found : List NumberedEntry) → n ≤ to → ((k : ℕ) → n ≤ k → k < to → IsKnownIn s k) → HasFound s from most n found → HasFound s from most to found
found_skip s from most n to found le known has = record {
  few = has.few;
  rest = ap (λ (l : List NumberedEntry). found ++ take (most - length found) l) (sym (left_from-skip s n to le known)) ∙ has.rest;
}

-- of two lists the first ones
take_both : (k : ℕ) (xs ys : List NumberedEntry) → length xs ≤ k → take k (xs ++ ys) ≡ xs ++ take (k - length xs) ys
take_both k xs ys le = ap (λ (m : ℕ). take m (xs ++ ys)) (omega arith) ∙ take-append-add xs ys (k - length xs)

pub found_run : (s : SpoolState) (from most n : ℕ) (found : List NumberedEntry) (entries : List Entry) → base s ≤ n → n ≤ end s → take (length entries) (drop (n - base s) (list s)) ≡ entries
    → ((k : ℕ) → n ≤ k → k < n + length entries → IsKnownIn s k → ⊥) → length found + length entries ≤ most → HasFound s from most n found → HasFound s from most (n + length entries) (found ++ numbered n entries)
found_run s from most n found entries ge le here none few has =
    let many = length-numbered n entries in
    let long : length (found ++ numbered n entries) ≡ length found + length entries = omega (arith, many, length-append found (numbered n entries)) in
    let later = left_from s (n + length entries) in
    let k = most - length found in
    record {
      few = omega (arith, long);
      rest =
          ap (λ (m : ℕ). (found ++ numbered n entries) ++ take m later) (omega (arith, long, many))
          ∙ append_assoc found (numbered n entries) (take (k - length (numbered n entries)) later)
          ∙ ap (λ (l : List NumberedEntry). found ++ l) (sym (take_both k (numbered n entries) later (omega (arith, many))))
          ∙ ap (λ (l : List NumberedEntry). found ++ take k l) (sym (left_from-run s n entries ge le here none))
          ∙ has.rest;
    }

pub found_full : (s : SpoolState) (from most n : ℕ) (found : List NumberedEntry) → most ≤ length found → HasFound s from most n found → found ≡ take most (left_from s from)
found_full s from most n found full has =
    let none : 0 ≡ most - length found = omega arith in
    sym (append-nil found) ∙ ap (λ (k : ℕ). found ++ take k (left_from s n)) none ∙ has.rest

pub found_end : (s : SpoolState) (from most n : ℕ) (found : List NumberedEntry) → end s ≤ n → HasFound s from most n found → found ≡ take most (left_from s from)
found_end s from most n found past has =
    sym (append-nil found)
    ∙ ap (λ (l : List NumberedEntry). found ++ l) (sym (ap (λ (l : List NumberedEntry). take (most - length found) l) (left_from-end s n past) ∙ take_all (most - length found) [] (omega arith)))
    ∙ has.rest
