-- Entries that weren't known, from one number on and below another.
use Rattle.std.proofs.Common.{◌≡◌, inl, inr, ℕ, zero, suc, ◌+◌, ◌-◌, ◌<◌, ◌≤◌, Bool, true, false, cond, List, [], ◌∷◌, ◌++◌, length, take, drop, refl, sym, ◌∙◌, ap, subst, arith, length-append, take-append-drop}
use Rattle.std.specs.Prelude.{◌&&◌, All, filter, min, nat_le, nat_lt, not}
use Rattle.std.proofs.lemmas.Bool.{and_from, both_ways, cases_lt, cond-false, cond-true, le-leb, le-ltb, leb-true, lt-leb, lt-ltb, ltb-true, and_parts}
use Rattle.std.proofs.lemmas.List.{append-nil, length-map, length-take, take-map, take_all}
use Rattle.std.proofs.lemmas.List.Elements.{All-filter, filter-append}
use Rattle.known_numbers.specs.Numbers.{IsKnown, Numbers}
use Rattle.event_form.specs.Entry.{IsEntry}
use Rattle.event_form.specs.declared.event.Entry.{Entry}
use Rattle.spool_state.specs.SpoolState.{IsSound, SpoolState, base, end, list, numbers_of}
use Rattle.spool_state.specs.Left.{NumberedEntry, is_known, left, numbered, unknown}
use Rattle.spool_state.proofs.Unknown.{IsOf, filter_like, filter_none, known_from, known_or_not, numbered_append, numbered_of, unknown_append, unknown_from, unknown_none}
use Rattle.spool_answers.specs.declared.numbered.Numbered.{Numbered}
use Rattle.spool_answers.specs.Pend.{AreNumbered, given_entries}
use Rattle.desk_access.specs.History.{Grown}
use Rattle.forward_core.specs.Calls.{after_last, is_within, within}
use Rattle.forward_core.proofs.Numbered.{after_rises, numbered_lower, numbered_take}
use Rattle.forward_core.proofs.Rest.{as_given, entries_as_given, from_on, given_as, taken_then}

-- those with numbers from one on and below another
abbrev pub between : ℕ → ℕ → List NumberedEntry → List NumberedEntry
between from until xs = filter (λ e. is_within from until e.number) xs

-- ---- two tests

both_one : (p : NumberedEntry → Bool) (x : NumberedEntry) (b : Bool) (ys zs : List NumberedEntry) → filter p ys ≡ zs → filter p (cond b (x ∷ ys) ys) ≡ cond (b && p x) (x ∷ zs) zs
both_one p x true ys zs is = ap (λ (l : List NumberedEntry). cond (p x) (x ∷ l) l) is
both_one p x false ys zs is = is

pub filter_both : (p q : NumberedEntry → Bool) (xs : List NumberedEntry) → filter p (filter q xs) ≡ filter (λ x. q x && p x) xs
filter_both p q [] = refl
filter_both p q (x ∷ xs) = both_one p x (q x) (filter q xs) (filter (λ y. q y && p y) xs) (filter_both p q xs)

later_bools : (a g l : Bool) → (a ≡ true → g ≡ true) → (a && l) ≡ ((g && l) && a)
later_bools true true true h = refl
later_bools true true false h = refl
later_bools true false l h = absurd (both_ways false refl (h refl))
later_bools false true true h = refl
later_bools false true false h = refl
later_bools false false l h = refl

later_test : (next after until n : ℕ) → next ≤ after → is_within after until n ≡ (is_within next until n && nat_le after n)
later_test next after until n le = later_bools (nat_le after n) (nat_le next n) (nat_lt n until) (λ yes. le-leb next n (omega (arith, le, leb-true after n yes)))

pub between_later : (next after until : ℕ) (xs : List NumberedEntry) → next ≤ after → between after until xs ≡ from_on after (between next until xs)
between_later next after until xs le =
    filter_like (λ e. is_within after until e.number) (λ e. is_within next until e.number && nat_le after e.number) xs
    (λ k d lt. later_test next after until _ le)
    ∙ sym (filter_both (λ e. nat_le after e.number) (λ e. is_within next until e.number) xs)

and_off : (a b : Bool) → b ≡ false → (a && b) ≡ false
and_off true b off = off
and_off false b off = refl

past : (from until n : ℕ) → until ≤ n → is_within from until n ≡ false
past from until n le = and_off (nat_le from n) (nat_lt n until) (le-ltb n until le)

pub inside : (from until n : ℕ) → from ≤ n → n < until → is_within from until n ≡ true
inside from until n low high = and_from (nat_le from n) (nat_lt n until) (le-leb from n low) (lt-ltb n until high)

crossed : (from until n : ℕ) → until ≤ from → is_within from until n ≡ false
crossed from until n le = elim (cases_lt n from) [
  | inl lt ↦ ap (λ (b : Bool). b && nat_lt n until) (lt-leb from n lt)
  | inr ge ↦ past from until n (omega (arith, le, ge))
]

-- none is from a number on and below one that isn't above it
pub none_past : (from until : ℕ) (xs : List NumberedEntry) → until ≤ from → between from until xs ≡ []
none_past from until xs le = filter_none (λ e. is_within from until e.number) xs (λ k d lt. crossed from until _ le)

-- ---- rising numbers

none_between : (from until low end : ℕ) (xs : List NumberedEntry) → until ≤ low → AreNumbered low end (as_given xs) → between from until xs ≡ []
none_between from until low end [] le are = refl
none_between from until low end (x ∷ xs) le are =
    cond-false (is_within from until x.number) (x ∷ between from until xs) (between from until xs) (past from until x.number (omega (arith, le, are.0)))
    ∙ none_between from until (x.number + 1) end xs (omega (arith, le, are.0)) are.3

-- Of the first ones those within the bounds are the first of those within them.
pub within_taken : (k from until low end : ℕ) (xs : List NumberedEntry) → from ≤ low → AreNumbered low end (as_given xs) → within from until (as_given (take k xs)) ≡ as_given (take k (between from until xs))
within_taken zero from until low end xs le are = refl
within_taken (suc k) from until low end [] le are = refl
within_taken (suc k) from until low end (x ∷ xs) le are =
    let rest = within_taken k from until (x.number + 1) end xs (omega (arith, le, are.0)) are.3 in
    elim (cases_lt x.number until) [
      | inl lt ↦
          let yes = inside from until x.number (omega (arith, le, are.0)) lt in
          cond-true (is_within from until x.number) (given_as x ∷ within from until (as_given (take k xs))) (within from until (as_given (take k xs))) yes
          ∙ ap (λ (l : List Numbered). given_as x ∷ l) rest
          ∙ sym (ap (λ (l : List NumberedEntry). as_given (take (suc k) l)) (cond-true (is_within from until x.number) (x ∷ between from until xs) (between from until xs) yes))
      | inr ge ↦
          let no = past from until x.number ge in
          let none = none_between from until (x.number + 1) end xs (omega (arith, ge)) are.3 in
          cond-false (is_within from until x.number) (given_as x ∷ within from until (as_given (take k xs))) (within from until (as_given (take k xs))) no
          ∙ rest
          ∙ ap (λ (l : List NumberedEntry). as_given (take k l)) none
          ∙ ap as_given (take_all k [] (omega arith))
          ∙ sym (ap (λ (l : List NumberedEntry). as_given (take (suc k) l)) (cond-false (is_within from until x.number) (x ∷ between from until xs) (between from until xs) no ∙ none))
    ]

within_below : (from until n : ℕ) → is_within from until n ≡ true → n < until
within_below from until n is = ltb-true n until (and_parts (nat_le from n) (nat_lt n until) is).1

within_least : (from until n : ℕ) → is_within from until n ≡ true → from ≤ n
within_least from until n is = leb-true from n (and_parts (nat_le from n) (nat_lt n until) is).0

rise_from : (b : Bool) (from until : ℕ) (x : NumberedEntry) (xs : List NumberedEntry) → IsEntry x.entry → (b ≡ true → (from ≤ x.number) × (x.number < until)) → AreNumbered (x.number + 1) until (as_given xs) → AreNumbered from until (as_given xs)
    → AreNumbered from until (as_given (cond b (x ∷ xs) xs))
rise_from true from until x xs is lt are rest = ((lt refl).0, (lt refl).1, is, are)
rise_from false from until x xs is lt are rest = rest

rise_one : (b : Bool) (low until : ℕ) (x : NumberedEntry) (xs : List NumberedEntry) → low ≤ x.number → IsEntry x.entry → (b ≡ true → x.number < until) → AreNumbered (x.number + 1) until (as_given xs) → AreNumbered low until (as_given (cond b (x ∷ xs) xs))
rise_one true low until x xs le is lt are = (le, lt refl, is, are)
rise_one false low until x xs le is lt are = numbered_lower low (x.number + 1) until (as_given xs) (omega (arith, le)) are

pub within_rise : (from until low end : ℕ) (xs : List NumberedEntry) → AreNumbered low end (as_given xs) → AreNumbered low until (as_given (between from until xs))
within_rise from until low end [] are = tt
within_rise from until low end (x ∷ xs) are =
    rise_one (is_within from until x.number) low until x (between from until xs) are.0 are.2 (within_below from until x.number) (within_rise from until (x.number + 1) end xs are.3)

-- from a number on that isn't below the first
pub between_rise : (from until low end : ℕ) (xs : List NumberedEntry) → AreNumbered low end (as_given xs) → AreNumbered from until (as_given (between from until xs))
between_rise from until low end [] are = tt
between_rise from until low end (x ∷ xs) are =
    rise_from (is_within from until x.number) from until x (between from until xs) are.2 (λ yes. (within_least from until x.number yes, within_below from until x.number yes))
    (within_rise from until (x.number + 1) end xs are.3) (between_rise from until (x.number + 1) end xs are.3)

all_below : (low end : ℕ) (xs : List NumberedEntry) → AreNumbered low end (as_given xs) → from_on end xs ≡ []
all_below low end [] are = refl
all_below low end (x ∷ xs) are =
    cond-false (nat_le end x.number) (x ∷ from_on end xs) (from_on end xs) (lt-leb end x.number are.1) ∙ all_below (x.number + 1) end xs are.3

-- with an end that isn't above the bound, all are within the bounds
pub between_all : (from until low end : ℕ) (xs : List NumberedEntry) → from ≤ low → end ≤ until → AreNumbered low end (as_given xs) → between from until xs ≡ xs
between_all from until low end [] least most are = refl
between_all from until low end (x ∷ xs) least most are =
    cond-true (is_within from until x.number) (x ∷ between from until xs) (between from until xs) (inside from until x.number (omega (arith, least, are.0)) (omega (arith, most, are.1)))
    ∙ ap (λ (l : List NumberedEntry). x ∷ l) (between_all from until (x.number + 1) end xs (omega (arith, least, are.0)) most are.3)

-- ---- a reading

-- Of rising entries a reading gives the first ones. The next one begins at that number or after it, and from there on the others are left.
pub record Parts (xs : List NumberedEntry) (next : ℕ) (batch : List Numbered) (after : ℕ) : Type 0 where
  pub later : next ≤ after
  pub whole : xs ≡ given_entries batch ++ from_on after xs

pub read_parts : (k next until : ℕ) (xs : List NumberedEntry) (batch : List Numbered) → next < until → AreNumbered next until (as_given xs) → batch ≡ as_given (take k xs)
    → Parts xs next batch (cond (nat_lt (length batch) k) until (after_last next batch))
read_parts k next until xs batch more are is =
    let rising : AreNumbered next until batch = subst (AreNumbered next until) (take-map given_as k xs ∙ sym is) (numbered_take k next until (as_given xs) are) in
    let rise : next + length batch ≤ after_last next batch = after_rises next until batch rising in
    let given : given_entries batch ≡ take k xs = ap given_entries is ∙ entries_as_given (take k xs) in
    let long : length batch ≡ min k (length xs) = ap (λ (l : List Numbered). length l) is ∙ length-map (take k xs) given_as ∙ length-take k xs in
    elim (cases_lt (length batch) k) [
      | inl few ↦ subst (Parts xs next batch) (sym (cond-true (nat_lt (length batch) k) until (after_last next batch) (lt-ltb _ _ few))) (record {
        later = omega (arith, more);
        whole = sym (take_all k xs (omega (arith, few, long))) ∙ sym given ∙ sym (append-nil (given_entries batch)) ∙ ap (λ (l : List NumberedEntry). given_entries batch ++ l) (sym (all_below next until xs are));
      })
      | inr full ↦ subst (Parts xs next batch) (sym (cond-false (nat_lt (length batch) k) until (after_last next batch) (le-ltb _ _ full))) (record {
        later = omega (arith, rise);
        whole = sym (taken_then k next until xs are)
            ∙ ap (λ (l : List Numbered). take k xs ++ from_on (after_last next l) xs) (sym is)
            ∙ ap (λ (l : List NumberedEntry). l ++ from_on (after_last next batch) xs) (sym given);
      })
    ]

-- ---- of a list that grew

-- What is left of it is what isn't known of all entries that it ever had.
pub left_grown : (s r : SpoolState) (more : List Entry) → Grown s more r → IsSound r → left r ≡ unknown (numbers_of r) (numbered (base s) (list s ++ more))
left_grown s r more grown sound =
    let all = list s ++ more in
    let gone = base r - base s in
    let known = numbers_of r in
    let many : length (take gone all) ≡ gone = omega (arith, length-take gone all, length-append (list s) more, grown.within, grown.base_rises) in
    let at : base s + length (take gone all) ≡ base r = omega (arith, many, grown.base_rises) in
    sym (ap (λ (l : List Entry). unknown known (numbered (base s) l)) (sym (take-append-drop gone all))
    ∙ ap (unknown known) (numbered_append (base s) (take gone all) (drop gone all))
    ∙ unknown_append known (numbered (base s) (take gone all)) (numbered (base s + length (take gone all)) (drop gone all))
    ∙ ap (λ (l : List NumberedEntry). l ++ unknown known (numbered (base s + length (take gone all)) (drop gone all)))
    (unknown_none known (base s) (base s + length (take gone all)) (numbered (base s) (take gone all)) (numbered_of (base s) (take gone all)) (λ n ge lt. inl (omega (arith, lt, at, sound.from_base))))
    ∙ ap (λ (k : ℕ). unknown known (numbered k (drop gone all))) at
    ∙ ap (λ (l : List Entry). unknown known (numbered (base r) l)) (sym grown.list_is))

same_known : (a b : Numbers) (n : ℕ) → (IsKnown a n → IsKnown b n) → (IsKnown b n → IsKnown a n) → is_known a n ≡ is_known b n
same_known a b n to from = elim (known_or_not a n) [
  | inl known ↦ known_from a n known ∙ sym (known_from b n (to known))
  | inr off ↦ unknown_from a n off ∙ sym (unknown_from b n (λ known. off (from known)))
]

view_bools : (u v g l : Bool) → (g ≡ true → u ≡ v) → (v && (g && l)) ≡ ((u && g) && (g && l))
view_bools true true true l h = refl
view_bools true true false l h = refl
view_bools true false true l h = absurd (both_ways false refl (sym (h refl)))
view_bools true false false l h = refl
view_bools false true true l h = absurd (both_ways false refl (h refl))
view_bools false true false l h = refl
view_bools false false g l h = refl

view_test : (a b : Numbers) (next until n : ℕ) → (next ≤ n → IsKnown b n → IsKnown a n) → (IsKnown a n → IsKnown b n)
    → (not (is_known a n) && is_within next until n) ≡ ((not (is_known b n) && nat_le next n) && is_within next until n)
view_test a b next until n only kept =
    view_bools (not (is_known b n)) (not (is_known a n)) (nat_le next n) (nat_lt n until) (λ yes. ap not (same_known b a n (only (leb-true next n yes)) kept))

-- The two know the same from a number on: from there on the same isn't known.
pub view_now : (a b : Numbers) (next until : ℕ) (xs : List NumberedEntry) → ((n : ℕ) → next ≤ n → IsKnown b n → IsKnown a n) → ((n : ℕ) → IsKnown a n → IsKnown b n)
    → between next until (unknown a xs) ≡ between next until (from_on next (unknown b xs))
view_now a b next until xs only kept =
    filter_both (λ e. is_within next until e.number) (λ e. not (is_known a e.number)) xs
    ∙ filter_like (λ e. not (is_known a e.number) && is_within next until e.number) (λ e. (not (is_known b e.number) && nat_le next e.number) && is_within next until e.number) xs
    (λ k d lt. view_test a b next until _ (only _) (kept _))
    ∙ sym (ap (between next until) (filter_both (λ e. nat_le next e.number) (λ e. not (is_known b e.number)) xs)
    ∙ filter_both (λ e. is_within next until e.number) (λ e. not (is_known b e.number) && nat_le next e.number) xs)

-- entries that came after the end aren't below it
pub view_later : (known : Numbers) (first next until : ℕ) (xs more : List Entry) → until ≤ first + length xs
    → between next until (unknown known (numbered first (xs ++ more))) ≡ between next until (unknown known (numbered first xs))
view_later known first next until xs more le =
    let at = first + length xs in
    let rest = unknown known (numbered at more) in
    let high : All (IsOf at (at + length more)) rest = All-filter (λ e. not (is_known known e.number)) (IsOf at (at + length more)) (numbered at more) (numbered_of at more) in
    ap (λ (l : List NumberedEntry). between next until (unknown known l)) (numbered_append first xs more)
    ∙ ap (between next until) (unknown_append known (numbered first xs) (numbered at more))
    ∙ filter-append (λ e. is_within next until e.number) (unknown known (numbered first xs)) rest
    ∙ ap (λ (l : List NumberedEntry). between next until (unknown known (numbered first xs)) ++ l) (filter_none (λ e. is_within next until e.number) rest (λ k d lt. past next until _ (omega (arith, le, (high k d lt).least))))
    ∙ append-nil (between next until (unknown known (numbered first xs)))

-- of a longer list there are no fewer
pub view_more : (known : Numbers) (first next until : ℕ) (xs more : List Entry)
    → length (between next until (unknown known (numbered first xs))) ≤ length (between next until (unknown known (numbered first (xs ++ more))))
view_more known first next until xs more =
    let front = between next until (unknown known (numbered first xs)) in
    let back = between next until (unknown known (numbered (first + length xs) more)) in
    let parts : between next until (unknown known (numbered first (xs ++ more))) ≡ front ++ back =
    ap (λ (l : List NumberedEntry). between next until (unknown known l)) (numbered_append first xs more)
    ∙ ap (between next until) (unknown_append known (numbered first xs) (numbered (first + length xs) more))
    ∙ filter-append (λ e. is_within next until e.number) (unknown known (numbered first xs)) (unknown known (numbered (first + length xs) more)) in
    omega (arith, ap (λ (l : List NumberedEntry). length l) parts, length-append front back)
