-- What a session reads is what its desk had left.
use Rattle.std.proofs.Common.{◌≡◌, ℕ, zero, suc, ◌+◌, ◌<◌, ◌≤◌, Bool, true, false, cond, List, [], ◌∷◌, ◌++◌, length, take, map, All, refl, sym, ◌∙◌, ap, subst, inl, inr, arith, append_assoc}
use Rattle.std.specs.Prelude.{Option, Ok, Err, filter, nat_le, nat_lt, not, min}
use Rattle.std.specs.List.{flat_map}
use Rattle.std.proofs.lemmas.Bool.{and_from, both_ways, cases_lt, cond_both, cond-true, cond-false, false_from_ne_true, le-leb, le-ltb, leb-true, lt-leb, lt-ltb}
use Rattle.std.proofs.lemmas.List.{append-nil, length-map, length-take, map-append, take_all, take-map}
use Rattle.std.proofs.lemmas.List.Elements.{All-append, All-cons, All-head, All-nil, All-tail}
use Rattle.known_numbers.specs.declared.stretch.Stretch.{Stretch}
use Rattle.known_numbers.specs.Numbers.{IsInSome, marked}
use Rattle.known_numbers.proofs.Marking.{marked_only}
use Rattle.event_form.specs.Entry.{IsEntry}
use Rattle.event_form.specs.declared.event.Entry.{Entry}
use Rattle.spool_state.specs.Segment.{IsGroup, entries_of as entries_in_segment}
use Rattle.spool_state.specs.SpoolState.{IsOpenSlot, IsSound, OpenSlot, SpoolState, base, end, entries_in, list, numbers_of}
use Rattle.spool_state.specs.Left.{NumberedEntry, is_known, left, left_from, numbered, unknown}
use Rattle.spool_state.proofs.Lefts.{left_from-cursor, left_from-end, left_unknown}
use Rattle.spool_state.proofs.Registered.{left-marked, with_marked}
use Rattle.spool_state.proofs.Unknown.{filter_all, unknown_from}
use Rattle.spool_answers.specs.declared.numbered.Numbered.{Numbered}
use Rattle.spool_answers.specs.Pend.{AreNumbered, given_entries}
use Rattle.spool_answers.specs.Stages.{IsOneOf, known_stages, last_of, total_of}
use Rattle.desk_access.specs.declared.standing.Standing.{Standing}
use Rattle.desk_access.specs.Call.{Call, Record, calls_of, marks, pends}
use Rattle.desk_access.specs.Desk.{Answers, DeskState, Goes}
use Rattle.desk_access.specs.Journal.{of_other}
use Rattle.forward_core.proofs.AfterLaw.{session_other}
use Rattle.desk_access.specs.History.{IsDesk}
use Rattle.desk_access.proofs.Steps.{allowed_later}
use Rattle.forward_core.specs.Calls.{AreOfSession, MarksBelowRead, after_last, asked_from, is_within, next_after, next_of, read_of, within}
use Rattle.forward_core.proofs.CallLists.{MarksBelowNext, below_next}
use Rattle.forward_core.proofs.Numbered.{after_rises, numbered_lower, numbered_take}

-- ---- entries with their numbers, as a spool has them and as it gives them

abbrev pub given_as : NumberedEntry → Numbered
given_as one = record { number = one.number; entry = one.entry }

abbrev pub as_given : List NumberedEntry → List Numbered
as_given xs = map given_as xs

abbrev pub one_entry : Numbered → NumberedEntry
one_entry one = record { number = one.number; entry = one.entry }

pub entries_as_given : (xs : List NumberedEntry) → given_entries (as_given xs) ≡ xs
entries_as_given [] = refl
entries_as_given (x ∷ xs) = ap (λ (l : List NumberedEntry). x ∷ l) (entries_as_given xs)

pub as_given_entries : (xs : List Numbered) → as_given (given_entries xs) ≡ xs
as_given_entries [] = refl
as_given_entries (x ∷ xs) = ap (λ (l : List Numbered). x ∷ l) (as_given_entries xs)

-- ---- those from a number on

abbrev pub from_on : ℕ → List NumberedEntry → List NumberedEntry
from_on from xs = filter (λ e. nat_le from e.number) xs

kept : (q : NumberedEntry → Bool) (x : NumberedEntry) (xs ys : List NumberedEntry) (b : Bool) → (b ≡ false → q x ≡ false) → filter q xs ≡ ys → filter q (cond b (x ∷ xs) xs) ≡ cond (q x) (x ∷ ys) ys
kept q x xs ys true off is = ap (λ (l : List NumberedEntry). cond (q x) (x ∷ l) l) is
kept q x xs ys false off is = is ∙ sym (ap (λ (b : Bool). cond b (x ∷ ys) ys) (off refl))

-- what passes the second test passes the first, which so changes nothing
filter_twice : (p q : NumberedEntry → Bool) (xs : List NumberedEntry) → All (λ x. q x ≡ true → p x ≡ true) xs → filter q (filter p xs) ≡ filter q xs
filter_twice p q [] all = refl
filter_twice p q (x ∷ xs) all =
    kept q x (filter p xs) (filter q xs) (p x) (λ no. false_from_ne_true (q x) (λ yes. both_ways (p x) no (All-head (λ y. q y ≡ true → p y ≡ true) x xs all yes)))
    (filter_twice p q xs (All-tail (λ y. q y ≡ true → p y ≡ true) x xs all))

from_later : (a b : ℕ) (xs : List NumberedEntry) → a ≤ b → from_on b (from_on a xs) ≡ from_on b xs
from_later a b xs le = filter_twice (λ e. nat_le a e.number) (λ e. nat_le b e.number) xs (λ k d lt yes. le-leb a _ (omega (arith, le, leb-true b _ yes)))

-- ---- their numbers rise

one_if : (b : Bool) (from end : ℕ) (x : NumberedEntry) (xs : List NumberedEntry) → from ≤ x.number → x.number < end → IsEntry x.entry → AreNumbered (x.number + 1) end (as_given xs) → AreNumbered from end (as_given (cond b (x ∷ xs) xs))
one_if true from end x xs le lt is are = (le, lt, is, are)
one_if false from end x xs le lt is are = numbered_lower from (x.number + 1) end (as_given xs) (omega (arith, le)) are

pub some_rise : (p : NumberedEntry → Bool) (from end : ℕ) (xs : List NumberedEntry) → AreNumbered from end (as_given xs) → AreNumbered from end (as_given (filter p xs))
some_rise p from end [] are = tt
some_rise p from end (x ∷ xs) are = one_if (p x) from end x (filter p xs) are.0 are.1 are.2 (some_rise p (x.number + 1) end xs are.3)

later_rise : (from low end : ℕ) (xs : List NumberedEntry) → AreNumbered low end (as_given xs) → AreNumbered from end (as_given (from_on from xs))
later_rise from low end [] are = tt
later_rise from low end (x ∷ xs) are = elim (cases_lt x.number from) [
  | inl lt ↦ subst (λ (l : List NumberedEntry). AreNumbered from end (as_given l)) (sym (cond-false (nat_le from x.number) (x ∷ from_on from xs) (from_on from xs) (lt-leb from x.number lt))) (later_rise from (x.number + 1) end xs are.3)
  | inr ge ↦ subst (λ (l : List NumberedEntry). AreNumbered from end (as_given l)) (sym (cond-true (nat_le from x.number) (x ∷ from_on from xs) (from_on from xs) (le-leb from x.number ge))) (ge, are.1, are.2, some_rise (λ e. nat_le from e.number) (x.number + 1) end xs are.3)
]

pub all_rise : (first end : ℕ) (xs : List Entry) → first + length xs ≤ end → All IsEntry xs → AreNumbered first end (as_given (numbered first xs))
all_rise first end [] le all = tt
all_rise first end (x ∷ xs) le all = (omega arith, omega (arith, le), All-head IsEntry x xs all, all_rise (first + 1) end xs (omega (arith, le)) (All-tail IsEntry x xs all))

groups_limits : (groups : List (List Entry)) → All IsGroup groups → All IsEntry (flat_map (λ group. group) groups)
groups_limits [] all = All-nil IsEntry
groups_limits (g ∷ groups) all = All-append IsEntry g (flat_map (λ group. group) groups) (All-head IsGroup g groups all).entries (groups_limits groups (All-tail IsGroup g groups all))

slots_limits : (n : ℕ) (slots : List OpenSlot) → All (IsOpenSlot n) slots → All IsEntry (entries_in slots)
slots_limits n [] all = All-nil IsEntry
slots_limits n (slot ∷ slots) all =
    All-append IsEntry (entries_in_segment slot.segment) (entries_in slots) (groups_limits slot.segment.groups (All-head (IsOpenSlot n) slot slots all).groups) (slots_limits n slots (All-tail (IsOpenSlot n) slot slots all))

pub list_limits : (s : SpoolState) → IsSound s → All IsEntry (list s)
list_limits s sound = All-append IsEntry (entries_in s.older) (entries_in_segment s.active.segment) (slots_limits s.slots s.older sound.older) (groups_limits s.active.segment.groups sound.active.groups)

-- those that are left from a number on have rising numbers from there on and below the end
pub left_rise : (s : SpoolState) (from : ℕ) → IsSound s → AreNumbered from (end s) (as_given (left_from s from))
left_rise s from sound =
    later_rise from (base s) (end s) (left s)
    (some_rise (λ e. not (is_known (numbers_of s) e.number)) (base s) (end s) (numbered (base s) (list s)) (all_rise (base s) (end s) (list s) (omega arith) (list_limits s sound)))

-- ---- a reading

all_from : (from end : ℕ) (xs : List NumberedEntry) → AreNumbered from end (as_given xs) → All (λ e. from ≤ e.number) xs
all_from from end [] are = All-nil (λ (e : NumberedEntry). from ≤ e.number)
all_from from end (x ∷ xs) are = All-cons (λ (e : NumberedEntry). from ≤ e.number) x xs are.0 (λ k d lt. omega (arith, are.0, all_from (x.number + 1) end xs are.3 k d lt))

-- the first ones, and those with numbers after the last of these, are all
pub taken_then : (k from end : ℕ) (xs : List NumberedEntry) → AreNumbered from end (as_given xs) → take k xs ++ from_on (after_last from (as_given (take k xs))) xs ≡ xs
taken_then zero from end xs are = filter_all (λ e. nat_le from e.number) xs (λ i d lt. le-leb from _ (all_from from end xs are i d lt))
taken_then (suc k) from end [] are = refl
taken_then (suc k) from end (x ∷ xs) are =
    let after = after_last (x.number + 1) (as_given (take k xs)) in
    let rise = after_rises (x.number + 1) end (as_given (take k xs)) (subst (AreNumbered (x.number + 1) end) (take-map given_as k xs) (numbered_take k (x.number + 1) end (as_given xs) are.3)) in
    ap (λ (l : List NumberedEntry). x ∷ (take k xs ++ l)) (cond-false (nat_le after x.number) (x ∷ from_on after xs) (from_on after xs) (lt-leb after x.number (omega (arith, rise))))
    ∙ ap (λ (l : List NumberedEntry). x ∷ l) (taken_then k (x.number + 1) end xs are.3)

within_all : (next end low : ℕ) (xs : List Numbered) → next ≤ low → AreNumbered low end xs → within next end xs ≡ xs
within_all next end low [] le are = refl
within_all next end low (x ∷ xs) le are =
    cond-true (is_within next end x.number) (x ∷ within next end xs) (within next end xs) (and_from _ _ (le-leb _ _ (omega (arith, le, are.0))) (lt-ltb _ _ are.1))
    ∙ ap (λ (l : List Numbered). x ∷ l) (within_all next end (x.number + 1) xs (omega (arith, le, are.0)) are.3)

-- Of what is left from a number on, a reading gives the first ones. The next one begins at that number or after it, and from
-- there on the others are left.
record Parts (s : SpoolState) (next : ℕ) (batch : List Numbered) (after : ℕ) : Type 0 where
  later : next ≤ after
  whole : given_entries batch ++ left_from s after ≡ left_from s next

read_parts : (s : SpoolState) (next : ℕ) (given : List Numbered) → IsSound s → next < end s → given_entries given ≡ take (asked_from (end s) next) (left_from s next)
    → Parts s next (within next (end s) given) (next_after (end s) next given)
read_parts s next given sound more is =
    let k = asked_from (end s) next in
    let l = left_from s next in
    let all = left_rise s next sound in
    let same : given ≡ as_given (take k l) = sym (as_given_entries given) ∙ ap as_given is in
    let are : AreNumbered next (end s) given = subst (AreNumbered next (end s)) (take-map given_as k l ∙ sym same) (numbered_take k next (end s) (as_given l) all) in
    let rise : next + length given ≤ after_last next given = after_rises next (end s) given are in
    let long : length given ≡ min k (length l) = sym (length-map given one_entry) ∙ ap length is ∙ length-take k l in
    let after = λ (w : List Numbered). cond (nat_lt (length w) k) (end s) (after_last next w) in
    subst (λ (w : List Numbered). Parts s next w (after w)) (sym (within_all next (end s) next given (omega arith) are)) (elim (cases_lt (length given) k) [
      | inl few ↦ subst (Parts s next given) (sym (cond-true (nat_lt (length given) k) (end s) (after_last next given) (lt-ltb _ _ few))) (record {
        later = omega (arith, more);
        whole = ap (λ (m : List NumberedEntry). given_entries given ++ m) (left_from-end s (end s) (omega arith)) ∙ append-nil (given_entries given) ∙ is ∙ take_all k l (omega (arith, few, long));
      })
      | inr full ↦ subst (Parts s next given) (sym (cond-false (nat_lt (length given) k) (end s) (after_last next given) (le-ltb _ _ full))) (record {
        later = omega (arith, rise);
        whole = ap (λ (g : List NumberedEntry). g ++ left_from s (after_last next given)) is
            ∙ ap (λ (m : List NumberedEntry). take k l ++ m) (sym (from_later next (after_last next given) (left s) (omega (arith, rise))))
            ∙ ap (λ (g : List Numbered). take k l ++ from_on (after_last next g) l) same
            ∙ taken_then k next (end s) l all;
      })
    ])

-- ---- a mark

-- The other state has the same end, and from that number on the same is left of it.
pub record Like (next : ℕ) (s t : SpoolState) : Type 0 where
  pub ends : end t ≡ end s
  pub left_is : (from : ℕ) → next ≤ from → left_from t from ≡ left_from s from

marked_leaves : (s : SpoolState) (more : List Stretch) (next from : ℕ) → ((n : ℕ) → IsInSome more n → n < next) → next ≤ from → from_on from (unknown (marked (numbers_of s) more) (left s)) ≡ left_from s from
marked_leaves s more next from low le =
    let now = marked (numbers_of s) more in
    filter_twice (λ e. not (is_known now e.number)) (λ e. nat_le from e.number) (left s)
    (λ k d lt yes. ap not (unknown_from now _ (λ known. elim (marked_only (numbers_of s) more _ known) [
      | inl old ↦ left_unknown s k d lt old
      | inr new ↦ absurd (omega (arith, le, low _ new, leb-true from _ yes))
    ])))

like_marked : (s : SpoolState) (more : List Stretch) (next : ℕ) → IsSound s → ((n : ℕ) → IsInSome more n → n < next) → Like next s (last_of s (known_stages s more))
like_marked s more next sound low =
    cond_both (nat_le (total_of (marked (numbers_of s) more)) (total_of (numbers_of s))) [] (with_marked s more ∷ []) (λ (l : List SpoolState). Like next s (last_of s l))
    (λ yes. record { ends = refl; left_is = λ from le. refl })
    (λ no. record { ends = refl; left_is = λ from le. ap (from_on from) (left-marked s more sound) ∙ marked_leaves s more next from low le })

like_then : (next after : ℕ) (s t u : SpoolState) → next ≤ after → Like next s t → Like after t u → Like after s u
like_then next after s t u le a b = record { ends = b.ends ∙ a.ends; left_is = λ from later. b.left_is from later ∙ a.left_is from (omega (arith, le, later)) }

like_same : (next : ℕ) (s t : SpoolState) → t ≡ s → Like next s t
like_same next s t is = record { ends = ap end is; left_is = λ from le. ap (λ (m : SpoolState). left_from m from) is }

-- ---- a session

-- what was left from where it began is what it read, and then what is left from where it would read next
abbrev pub Splits : SpoolState → ℕ → List Call → Type 0
Splits s next calls = left_from s next ≡ given_entries (read_of (end s) calls) ++ left_from s (next_of (end s) next calls)

splits_none : (s : SpoolState) (next : ℕ) (calls : List Call) → calls ≡ [] → Splits s next calls
splits_none s next calls none = subst (Splits s next) (sym none) refl

-- a reading, and then the other calls
splits_read : (s : SpoolState) (from next after : ℕ) (given : List Numbered) (calls : List Call) → from ≡ next → Parts s next (within next (end s) given) after → Splits s after calls
    → left_from s next ≡ given_entries (within from (end s) given ++ read_of (end s) calls) ++ left_from s (next_of (end s) after calls)
splits_read s from next after given calls at parts rest =
    let batch = within next (end s) given in
    let read = read_of (end s) calls in
    let others = left_from s (next_of (end s) after calls) in
    sym parts.whole
    ∙ ap (λ (l : List NumberedEntry). given_entries batch ++ l) rest
    ∙ sym (append_assoc (given_entries batch) (given_entries read) others)
    ∙ ap (λ (l : List NumberedEntry). l ++ others) (sym (map-append one_entry batch read))
    ∙ ap (λ (n : ℕ). given_entries (within n (end s) given ++ read) ++ others) (sym at)

one_call : (s : SpoolState) (x z : DeskState) (call : Call) (calls : List Call) (met : Option Standing) (next : ℕ) → IsSound s → IsDesk x → x.doubt ≡ [] → Like next s x.spool → Answers x call met z
    → AreOfSession (end s) next (call ∷ calls) → MarksBelowNext (end s) next (call ∷ calls)
    → ((after : ℕ) → z.doubt ≡ [] → Like after s z.spool → AreOfSession (end s) after calls → MarksBelowNext (end s) after calls → Splits s after calls) → Splits s next (call ∷ calls)
one_call s x z (pends from most (Ok given)) calls met next sound rules none like (inl stays) of low on = absurd (cc (stays.1))
one_call s x z (pends from most (Ok given)) calls met next sound rules none like (inr went) of low on =
    let same : went.0 ≡ x.spool = subst (λ (l : List SpoolState). IsOneOf x.spool l went.0) none went.1.one in
    let is : given_entries given ≡ take (asked_from (end s) next) (left_from s next) =
    went.2.0 ∙ ap (λ (m : SpoolState). take most (left_from m from)) same ∙ ap (λ (n : ℕ). take n (left_from x.spool from)) of.2 ∙ ap (λ (n : ℕ). take (asked_from (end s) next) (left_from x.spool n)) of.0
    ∙ ap (λ (l : List NumberedEntry). take (asked_from (end s) next) l) (like.left_is next (omega arith)) in
    let parts = read_parts s next given sound of.1 is in
    let after = next_after (end s) next given in
    let stays : z.spool ≡ x.spool = ap (λ (d : DeskState). d.spool) went.2.1 ∙ same in
    splits_read s from next after given calls of.0 parts
    (on after (ap (λ (d : DeskState). d.doubt) went.2.1) (like_then next after s x.spool z.spool parts.later like (like_same after x.spool z.spool stays)) of.3 low)
one_call s x z (pends from most (Err fault)) calls met next sound rules none like answers of low on = splits_none s next calls of.3
one_call s x z (marks stretches (Ok done)) calls met next sound rules none like (ends, inl stays) of low on = absurd (cc (stays.1))
one_call s x z (marks stretches (Ok done)) calls met next sound rules none like (ends, inr went) of low on =
    let same : went.0 ≡ x.spool = subst (λ (l : List SpoolState). IsOneOf x.spool l went.0) none went.1.one in
    let stays : z.spool ≡ last_of x.spool (known_stages x.spool stretches) = ap (λ (d : DeskState). d.spool) went.2.1 ∙ ap (λ (m : SpoolState). last_of m (known_stages m stretches)) same in
    on next (ap (λ (d : DeskState). d.doubt) went.2.1)
    (like_then next next s x.spool z.spool (omega arith) like (subst (Like next x.spool) (sym stays) (like_marked x.spool stretches next rules.sound low.0))) of low.1
one_call s x z (marks stretches (Err fault)) calls met next sound rules none like answers of low on = splits_none s next calls of
one_call s x z call calls met next sound rules none like answers of low on = absurd of

pub splits_from : (s : SpoolState) (x y : DeskState) (records : List Record) (next : ℕ) → IsSound s → IsDesk x → x.doubt ≡ [] → Like next s x.spool
    → AreOfSession (end s) next (calls_of records) → MarksBelowNext (end s) next (calls_of records) → Goes x records y → Splits s next (calls_of records)
splits_from s x y [] next sound rules none like of low goes = refl
splits_from s x y (one ∷ records) next sound rules none like of low goes =
    one_call s x goes.0 one.call (calls_of records) one.met next sound rules none like (of_other one.joins x goes.0 one.call one.met (session_other (end s) next one.call (calls_of records) of) goes.1.answers) of low
    (λ after sure like' of' low'. splits_from s goes.0 y records after sound (allowed_later x goes.0 one rules goes.1).0 sure like' of' low' goes.2)

-- With no other caller, from a desk that isn't in doubt: what a session read, and what it would read next, is what was left.
pub splits_left : (x y : DeskState) (records : List Record) → IsDesk x → x.doubt ≡ [] → AreOfSession (end x.spool) x.spool.cursor (calls_of records) → MarksBelowRead (end x.spool) 0 (calls_of records) → Goes x records y
    → given_entries (read_of (end x.spool) (calls_of records) ++ as_given (left_from x.spool (next_of (end x.spool) x.spool.cursor (calls_of records)))) ≡ left x.spool
splits_left x y records rules none of low goes =
    let s = x.spool in
    let read = read_of (end s) (calls_of records) in
    let rest = left_from s (next_of (end s) s.cursor (calls_of records)) in
    map-append one_entry read (as_given rest)
    ∙ ap (λ (l : List NumberedEntry). given_entries read ++ l) (entries_as_given rest)
    ∙ sym (splits_from s x y records s.cursor rules.sound rules none (like_same s.cursor s s refl) of (below_next (end s) 0 s.cursor (calls_of records) (omega arith) of low) goes)
    ∙ left_from-cursor s s.cursor (omega arith)
