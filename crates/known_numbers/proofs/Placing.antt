-- Where a stretch that is added comes to stand.
use Rattle.std.proofs.Common.{◌≡◌, inl, inr, ℕ, ◌+◌, ◌-◌, ◌<◌, ◌≤◌, min, max, leb, cond, List, [], ◌∷◌, ◌++◌, length, get_or, set, insert, take, drop, refl, sym, ◌∙◌, ap, ap₂, subst, arith, le-leb, length-drop, length-append, length-take-le, append_assoc, add-one, drop-drop, take-suc-set, drop-set-lt, zero, suc}
use Rattle.std.specs.List.{remove_range}
use Rattle.std.proofs.lemmas.List.{drop_more, take_rest}
use Rattle.std.proofs.lemmas.List.Edits.{length-insert}
use Rattle.std.proofs.lemmas.Bool.{cases_lt, cond-true, cond-false, lt-leb}
use Rattle.known_numbers.specs.declared.stretch.Stretch.{Stretch}
use Rattle.known_numbers.specs.declared.stretch.TheConstants.{MOST_STRETCHES}
use Rattle.known_numbers.specs.Numbers.{AreApart, Numbers, numbers_of, IsSound, raised, both, added, joined, fitting}
use Rattle.known_numbers.specs.Passed.{EndsFrom, IsPassed}
use Rattle.known_numbers.proofs.Raising.{apart_lower, raised_over, raised_below, raised_few, raised_same}
use Rattle.known_numbers.proofs.Adding.{added_before, added_touching, same_stretch}
use Rattle.known_numbers.proofs.Joining.{joined_empty, joined_low, joined_high, joined_low_few}
use Rattle.known_numbers.proofs.Marking.{fitting_new, by_cases, marked_sound}

-- the numbers from one on and below a cursor, and then the stretches above it
abbrev pub wide : ℕ → Numbers → List Stretch
wide from numbers = let first : Stretch = record { from = from; to = numbers.cursor } in first ∷ numbers.stretches

-- a stretch that begins below all others reaches what its end reaches
pub added_wide : (b : ℕ) (m : Stretch) (ss : List Stretch) → m.from ≤ b → AreApart b ss → added m ss ≡ wide m.from (raised m.to ss)
added_wide b m [] low apart = refl
added_wide b m (s ∷ ss) low apart = elim (cases_lt m.to s.from) [
  | inl h ↦ sym (added_before m s ss (omega (arith, apart.0, apart.1)) h) ∙ ap (λ (x : Numbers). wide m.from x) (raised_below m.to s ss h)
  | inr h ↦
      let from : min s.from m.from ≡ m.from = omega (arith, apart.0) in
      let to : max s.to m.to ≡ max m.to s.to = omega arith in
      sym (added_touching m s ss (omega (arith, apart.0, apart.1)) h) ∙ added_wide s.to (both s m) ss (omega (arith, apart.1)) apart.2 ∙ ap₂ (λ (f : ℕ) (x : Numbers). wide f x) from (ap (λ (x : ℕ). raised x ss) to ∙ raised_over m.to s ss h)
]

-- the same of one that begins in or at the end of the first
pub added_at_first : (m s : Stretch) (ss : List Stretch) → m.from ≤ s.to → s.from ≤ m.to → AreApart 0 (s ∷ ss) → added m (s ∷ ss) ≡ wide (min m.from s.from) (raised m.to (s ∷ ss))
added_at_first m s ss near h apart =
    let from : min s.from m.from ≡ min m.from s.from = omega arith in
    let to : max s.to m.to ≡ max m.to s.to = omega arith in
    sym (added_touching m s ss near h) ∙ added_wide s.to (both s m) ss (omega (arith, apart.1)) apart.2 ∙ ap₂ (λ (f : ℕ) (x : Numbers). wide f x) from (ap (λ (x : ℕ). raised x ss) to ∙ raised_over m.to s ss h)

-- where its end reaches some, the first is one of them
pub reaches_first : (t to count : ℕ) (s : Stretch) (ss : List Stretch) → raised t (s ∷ ss) ≡ numbers_of to (drop count (s ∷ ss)) → 0 < count → s.from ≤ t
reaches_first t to count s ss reached some = elim (cases_lt t s.from) [
  | inr h ↦ h
  | inl h ↦
      let e : numbers_of t (s ∷ ss) ≡ numbers_of to (drop count (s ∷ ss)) = raised_below t s ss h ∙ reached in
      let n : length (s ∷ ss) ≡ length (drop count (s ∷ ss)) = ap (λ (x : Numbers). length x.stretches) e in
      let k = length-drop count (s ∷ ss) in
      absurd (omega (arith, n, k))
]

-- where it reaches none, the stretch stands before them
pub added_alone : (m : Stretch) (to count : ℕ) (ss : List Stretch) → EndsFrom m.from ss → raised m.to ss ≡ numbers_of to (drop count ss) → count ≡ 0 → added m ss ≡ m ∷ ss
added_alone m to count [] ends reached none = refl
added_alone m to count (s ∷ ss) ends reached none = elim (cases_lt m.to s.from) [
  | inl h ↦ sym (added_before m s ss ends h)
  | inr h ↦
      let e : raised (max m.to s.to) ss ≡ numbers_of to (drop count (s ∷ ss)) = raised_over m.to s ss h ∙ reached in
      let n : length (raised (max m.to s.to) ss).stretches ≡ length (drop count (s ∷ ss)) = ap (λ (x : Numbers). length x.stretches) e in
      let few = raised_few (max m.to s.to) ss in
      let k = length-drop count (s ∷ ss) in
      absurd (omega (arith, n, k, few, none))
]

-- The first f end below the stretch, and its end reaches some of those after them.
pub record Reaches (m : Stretch) (ss : List Stretch) (f count to : ℕ) : Type 0 where
  pub within : f ≤ length ss
  pub after : added m ss ≡ take f ss ++ added m (drop f ss)
  pub next : EndsFrom m.from (drop f ss)
  pub few : count ≤ length (drop f ss)
  pub reached : raised m.to (drop f ss) ≡ numbers_of to (drop count (drop f ss))

apart_drop : (f : ℕ) (ss : List Stretch) → AreApart 0 ss → AreApart 0 (drop f ss)
apart_drop zero ss apart = apart
apart_drop (suc f) [] apart = tt
apart_drop (suc f) (s ∷ ss) apart = apart_drop f ss (apart_lower 0 s.to ss (omega arith) apart.2)

-- the first of those that are reached, widened by them and by the stretch
widened_first : (m w s : Stretch) (all ss : List Stretch) (count to : ℕ) → all ≡ s ∷ ss → EndsFrom m.from all → AreApart 0 all → raised m.to all ≡ numbers_of to (drop count all) → 0 < count → w.from ≡ min m.from s.from → w.to ≡ to → added m all ≡ w ∷ drop count all
widened_first m w s all ss count to e next apart reached some from end = subst P (sym e) at next apart reached where
  P : List Stretch → Type 0
  P x = EndsFrom m.from x → AreApart 0 x → raised m.to x ≡ numbers_of to (drop count x) → added m x ≡ w ∷ drop count x

  at : EndsFrom m.from (s ∷ ss) → AreApart 0 (s ∷ ss) → raised m.to (s ∷ ss) ≡ numbers_of to (drop count (s ∷ ss)) → added m (s ∷ ss) ≡ w ∷ drop count (s ∷ ss)
  at next apart reached =
      let v : Stretch = record { from = min m.from s.from; to = to } in
      added_at_first m s ss next (reaches_first m.to to count s ss reached some) apart ∙ ap (λ (x : Numbers). wide (min m.from s.from) x) reached ∙ ap (λ (x : Stretch). x ∷ drop count (s ∷ ss)) (same_stretch v w (sym from) (sym end))

pub reaches_from : (m : Stretch) (ss xs ys : List Stretch) (f count to : ℕ) → xs ≡ ss → ys ≡ ss → IsPassed m.from xs f → count ≤ length (take (length ys - f) (drop f ys)) → raised m.to (take (length ys - f) (drop f ys)) ≡ numbers_of to (drop count (take (length ys - f) (drop f ys))) → Reaches m ss f count to
reaches_from m ss xs ys f count to one two passed few reached =
    let p : IsPassed m.from ss f = subst (λ (x : List Stretch). IsPassed m.from x f) one passed in
    let rest : take (length ys - f) (drop f ys) ≡ drop f ss = take_rest ys f ∙ ap (λ (x : List Stretch). drop f x) two in
    record {
      within = p.within;
      after = p.after m refl;
      next = p.next;
      few = subst (λ (x : List Stretch). count ≤ length x) rest few;
      reached = subst (λ (x : List Stretch). raised m.to x ≡ numbers_of to (drop count x)) rest reached;
    }

-- where it reaches none it stands after the first f, and is one more
pub placed_alone : (m : Stretch) (ss : List Stretch) (f count to : ℕ) → Reaches m ss f count to → count ≡ 0 → (added m ss ≡ insert ss f m) × (length (added m ss) ≡ length ss + 1)
placed_alone m ss f count to h none =
    let e : added m ss ≡ insert ss f m = h.after ∙ ap (λ (x : List Stretch). take f ss ++ x) (added_alone m to count (drop f ss) h.next h.reached none) in
    (e, ap (λ (x : List Stretch). length x) e ∙ length-insert ss f m h.within)

-- the stretches with the one at f widened, and without those after it that were reached
pub placed_wide : (m w d : Stretch) (ss : List Stretch) (f count to : ℕ) → Reaches m ss f count to → AreApart 0 ss → 0 < count → w.from ≡ min m.from (get_or ss f d).from → w.to ≡ to → (added m ss ≡ remove_range (set ss f w) (f + 1) (f + count)) × (length (added m ss) ≤ length ss)
placed_wide m w d ss f count to h apart some from end =
    let n = length-drop f ss in
    let lt : f < length ss = omega (arith, n, some, h.few) in
    let first : drop f ss ≡ get_or ss f d ∷ drop (f + 1) ss = drop_more ss f d lt in
    let wide : added m (drop f ss) ≡ w ∷ drop count (drop f ss) = widened_first m w (get_or ss f d) (drop f ss) (drop (f + 1) ss) count to first h.next (apart_drop f ss apart) h.reached some from end in
    let rest : drop count (drop f ss) ≡ drop (f + count) ss = drop-drop count f ss in
    let e : added m ss ≡ take f ss ++ w ∷ drop (f + count) ss = h.after ∙ ap (λ (x : List Stretch). take f ss ++ x) (wide ∙ ap (λ (x : List Stretch). w ∷ x) rest) in
    (e ∙ sym (edited w ss f count lt some), shorter (added m ss) w ss f count e lt some (omega (arith, n, h.few))) where
      edited : (w : Stretch) (ss : List Stretch) (f count : ℕ) → f < length ss → 0 < count → remove_range (set ss f w) (f + 1) (f + count) ≡ take f ss ++ w ∷ drop (f + count) ss
      edited w ss f count lt some =
          let front : take (f + 1) (set ss f w) ≡ take f ss ++ w ∷ [] = rw add-one (take-suc-set ss f w lt) in
          let back : drop (f + count) (set ss f w) ≡ drop (f + count) ss = drop-set-lt (f + count) ss f w (omega arith) in
          ap₂ (λ (x y : List Stretch). x ++ y) front back ∙ append_assoc (take f ss) (w ∷ []) (drop (f + count) ss)

      shorter : (xs : List Stretch) (w : Stretch) (ss : List Stretch) (f count : ℕ) → xs ≡ take f ss ++ w ∷ drop (f + count) ss → f < length ss → 0 < count → f + count ≤ length ss → length xs ≤ length ss
      shorter xs w ss f count e lt some within =
          let a : length xs ≡ length (take f ss ++ w ∷ drop (f + count) ss) = ap (λ (x : List Stretch). length x) e in
          let b = length-append (take f ss) (w ∷ drop (f + count) ss) in
          let c = length-take-le f ss (omega arith) in
          let d = length-drop (f + count) ss in
          omega (arith, a, b, c, d)

-- the stretches where they are at most 240
pub taken : (new old : List Stretch) → length new ≤ MOST_STRETCHES → new ≡ cond (leb (length new) MOST_STRETCHES) new old
taken new old h = sym (cond-true (leb (length new) MOST_STRETCHES) new old (le-leb (length new) MOST_STRETCHES h))

pub left_out : (new old : List Stretch) → MOST_STRETCHES < length new → old ≡ cond (leb (length new) MOST_STRETCHES) new old
left_out new old h = sym (cond-false (leb (length new) MOST_STRETCHES) new old (lt-leb (length new) MOST_STRETCHES h))

-- What is left where a stretch was joined, and it is sound.
pub record IsJoined (a : Numbers) (m : Stretch) (b : Numbers) : Type 0 where
  pub is : b ≡ fitting (joined a m) a
  pub sound : IsSound b

joined_from : (a : Numbers) (m : Stretch) (b : Numbers) → IsSound a → b ≡ fitting (joined a m) a → IsJoined a m b
joined_from a m b sound is = record { is = is; sound = subst IsSound (sym is) (marked_sound a (m ∷ []) sound) }

pub is_joined_empty : (a : Numbers) (m : Stretch) → m.to ≤ m.from → a ≡ fitting (joined a m) a
is_joined_empty a m none = by_cases (λ x. a ≡ x) (joined a m) a (λ _. joined_empty a m none) refl

pub is_joined_low : (a : Numbers) (m : Stretch) (c : ℕ) (b : Numbers) → IsSound a → m.from ≤ m.to → m.from ≤ a.cursor → c ≡ max a.cursor m.to → raised c a.stretches ≡ b → IsJoined a m b
is_joined_low a m c b sound order low e is =
    let few = joined_low_few a m low in
    joined_from a m b sound (same ∙ fitting_new (joined a m) a (omega (arith, few, sound.few))) where
      same : b ≡ joined a m
      same = elim (cases_lt m.from m.to) [
        | inl some ↦ sym is ∙ ap (λ (x : ℕ). raised x a.stretches) e ∙ joined_low a m some low
        | inr none ↦ let k : c ≡ a.cursor = omega arith in sym is ∙ ap (λ (x : ℕ). raised x a.stretches) k ∙ raised_same a.cursor a.stretches sound.apart ∙ joined_empty a m none
      ]

pub is_joined_high : (a : Numbers) (m : Stretch) (ts : List Stretch) → IsSound a → m.from < m.to → a.cursor < m.from → ts ≡ cond (leb (length (added m a.stretches)) MOST_STRETCHES) (added m a.stretches) a.stretches → IsJoined a m (numbers_of a.cursor ts)
is_joined_high a m ts sound some high is = joined_from a m (numbers_of a.cursor ts) sound same where
  same : numbers_of a.cursor ts ≡ fitting (joined a m) a
  same = elim (cases_lt MOST_STRETCHES (length (added m a.stretches))) [
    | inl h ↦ ap (λ (x : List Stretch). numbers_of a.cursor x) (is ∙ sym (left_out (added m a.stretches) a.stretches h)) ∙ subst (λ (x : Numbers). a ≡ fitting x a) (joined_high a m some high) (sym (cond-false (leb (length (added m a.stretches)) MOST_STRETCHES) (numbers_of a.cursor (added m a.stretches)) a (lt-leb (length (added m a.stretches)) MOST_STRETCHES h)))
    | inr h ↦ ap (λ (x : List Stretch). numbers_of a.cursor x) (is ∙ sym (taken (added m a.stretches) a.stretches h)) ∙ subst (λ (x : Numbers). numbers_of a.cursor (added m a.stretches) ≡ fitting x a) (joined_high a m some high) (fitting_new (numbers_of a.cursor (added m a.stretches)) a h)
  ]
