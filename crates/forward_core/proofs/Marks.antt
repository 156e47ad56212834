-- What is marked of entries, and what is to be marked.
use Rattle.std.proofs.Common.{◌≡◌, ℕ, ◌+◌, ◌-◌, ◌<◌, ◌≤◌, suc, List, [], ◌∷◌, ◌++◌, length, take, drop, get_or, ap, ◌∙◌, sym, subst, inl, inr, arith, length-append}
use Rattle.std.specs.Prelude.{◌⊎◌, Contains, slice_index, Result, Ok}
use Rattle.std.proofs.lemmas.Bool.{cases_lt}
use Rattle.std.proofs.lemmas.List.{length-map, map-append, get_or_append_left, get_or-drop, take-append-le, take_all}
use Rattle.std.proofs.lemmas.List.Elements.{Contains-append_left, Contains-push, Contains-push_cases}
use Rattle.known_numbers.specs.declared.stretch.Stretch.{Stretch}
use Rattle.known_numbers.specs.Numbers.{IsInSome}
use Rattle.spool_faults.specs.declared.fault.ConfirmFault.{ConfirmFault}
use Rattle.spool_answers.specs.Pend.{AreNumbered}
use Rattle.spool_answers.specs.declared.numbered.Numbered.{Numbered}
use Rattle.desk_access.specs.Call.{Call, marks}
use Rattle.forward_core.specs.Calls.{IsMarked, after_last, number_at, numbers_of}
use Rattle.forward_core.specs.Course.{below, alone}
use Rattle.forward_core.specs.Marking.{IsOfOne, MarksOnlyTold, MarksTold}
use Rattle.forward_core.specs.Session.{IsToMark}
use Rattle.forward_core.proofs.CallLists.{all_below_last, marked_cases, marked_left, marked_right}
use Rattle.forward_core.proofs.Numbered.{after_at, after_first, after_more, before_first, one_place}

-- ---- more entries

pub number_more : (read more : List Numbered) (place : ℕ) → place < length read → number_at (read ++ more) place ≡ number_at read place
number_more read more place less =
    ap (λ (l : List ℕ). get_or l place 0) (map-append (λ (one : Numbered). one.number) read more)
    ∙ get_or_append_left (numbers_of read) (numbers_of more) 0 place (omega (arith, less, length-map read (λ (one : Numbered). one.number)))

pub of_one_more : (read more : List Numbered) (also : List ℕ) (n : ℕ) → IsOfOne read also n → IsOfOne (read ++ more) also n
of_one_more read more also n one = (one.0, one.1, omega (arith, one.2, length-append read more), one.3 ∙ sym (number_more read more one.0 one.2))

pub to_mark_more : (read more : List Numbered) (told : ℕ) (also : List ℕ) (stretches : List Stretch) (calls : List Call) → told ≤ length read → ((place : ℕ) → Contains also place → place < length read)
    → IsToMark read told also stretches calls → IsToMark (read ++ more) told also stretches calls
to_mark_more read more told also stretches calls few places h =
    let same : after_last 0 (take told (read ++ more)) ≡ after_last 0 (take told read) = ap (λ (l : List Numbered). after_last 0 l) (take-append-le told read more few) in
    record {
      waiting = h.waiting;
      are = h.are ∙ ap (λ (n : ℕ). below n ∷ h.waiting) (sym same);
      ones = λ n w. of_one_more read more also n (h.ones n w);
      covered = λ place c. subst (λ (n : ℕ). IsMarked calls n ⊎ IsInSome h.waiting n) (sym (number_more read more place (places place c))) (h.covered place c);
      only = λ n m. elim (h.only n m) [ inl first ↦ inl (subst (λ (k : ℕ). n < k) (sym same) first) | inr one ↦ inr (of_one_more read more also n one) ];
    }

-- a number that is to be marked is that of an entry told by itself, or lies below the one after the last of the first ones told
pub to_mark_those : (read : List Numbered) (told : ℕ) (also : List ℕ) (stretches : List Stretch) (calls : List Call) (n : ℕ) → IsToMark read told also stretches calls → IsInSome stretches n
    → (n < after_last 0 (take told read)) ⊎ IsOfOne read also n
to_mark_those read told also stretches calls n h is = elim (subst (λ (l : List Stretch). IsInSome l n) h.are is) [ inl first ↦ inl first.1 | inr one ↦ inr (h.ones n one) ]

-- ---- marked

-- nothing is marked but what was told
pub marks_only : (start end : ℕ) (all : List Numbered) (told : ℕ) (also : List ℕ) (calls : List Call) → AreNumbered start end all
    → ((n : ℕ) → IsMarked calls n → (n < after_last 0 (take told all)) ⊎ IsOfOne all also n) → MarksOnlyTold calls all told also
marks_only start end all told also calls are only = record {
  those = λ place less m. elim (only (number_at all place) m) [
    | inl first ↦ elim (cases_lt place told) [
      | inl lt ↦ inl lt
      | inr ge ↦ absurd (omega (arith, first, after_first 0 start end all told place (omega arith) are ge less))
    ]
    | inr one ↦ inr (subst (λ (p : ℕ). Contains also p) (sym (one_place start end all place one.0 are less one.2 one.3)) one.1)
  ];
  numbers = only;
}

-- what a mark adds is what was told, whatever its answer
pub only_marked : (all : List Numbered) (told : ℕ) (also : List ℕ) (stretches : List Stretch) (calls : List Call) (answer : Result Unit ConfirmFault) → IsToMark all told also stretches calls
    → (n : ℕ) → IsMarked (calls ++ marks stretches answer ∷ []) n → (n < after_last 0 (take told all)) ⊎ IsOfOne all also n
only_marked all told also stretches calls answer h n m = elim (marked_cases calls (marks stretches answer ∷ []) n m) [
  | inl before ↦ h.only n before
  | inr now ↦ elim now [
    | inl here ↦ (let at : IsInSome (below (after_last 0 (take told all)) ∷ h.waiting) n = subst (λ (l : List Stretch). IsInSome l n) h.are here in
        elim at [ inl first ↦ inl first.1 | inr one ↦ inr (h.ones n one) ])
    | inr none ↦ absurd none
  ]
]

-- Once all that is to be marked is marked, the calls marked just what was told.
pub marks_told : (start end : ℕ) (all : List Numbered) (told : ℕ) (also : List ℕ) (stretches : List Stretch) (calls : List Call) → AreNumbered start end all
    → IsToMark all told also stretches calls → MarksTold (calls ++ marks stretches (Ok tt) ∷ []) all told also
marks_told start end all told also stretches calls are h =
    let in_last = λ (n : ℕ) (s : IsInSome (below (after_last 0 (take told all)) ∷ h.waiting) n).
    marked_right calls (marks stretches (Ok tt) ∷ []) n (inl (subst (λ (l : List Stretch). IsInSome l n) (sym h.are) s)) in
    record {
      each = λ place less is. elim is [
        | inl first ↦ in_last (number_at all place) (inl (omega arith, before_first 0 start end all told place are first less))
        | inr c ↦ elim (h.covered place c) [
          | inl before ↦ marked_left calls (marks stretches (Ok tt) ∷ []) (number_at all place) before
          | inr waits ↦ in_last (number_at all place) (inr waits)
        ]
      ];
      front = all_below_last (after_last 0 (take told all)) calls stretches h.waiting h.are;
      only = marks_only start end all told also (calls ++ marks stretches (Ok tt) ∷ []) are (only_marked all told also stretches calls (Ok tt) h);
    }

-- what is to be marked lies below the number after the last entry read
pub to_mark_low : (start next : ℕ) (read : List Numbered) (told : ℕ) (also : List ℕ) (stretches : List Stretch) (calls : List Call) → AreNumbered start next read → told ≤ length read → IsToMark read told also stretches calls
    → (n : ℕ) → IsInSome stretches n → n < after_last 0 read
to_mark_low start next read told also stretches calls are few h n there =
    let all : take (length read) read ≡ read = take_all (length read) read (omega arith) in
    let first : after_last 0 (take told read) ≤ after_last 0 (take (length read) read) = after_more 0 start next read told (length read) (omega arith) are few in
    let whole : after_last 0 (take (length read) read) ≡ after_last 0 read = ap (λ (l : List Numbered). after_last 0 l) all in
    let at : IsInSome (below (after_last 0 (take told read)) ∷ h.waiting) n = subst (λ (l : List Stretch). IsInSome l n) h.are there in
    elim at [
      | inl low ↦ omega (arith, low.1, first, whole)
      | inr one ↦ (let of = h.ones n one in omega (arith, of.3, before_first 0 start next read (length read) of.0 are of.2 of.2, whole))
    ]

-- after a mark only the first stretch is left, which may be marked again
pub to_mark_marked : (read : List Numbered) (told : ℕ) (also : List ℕ) (stretches : List Stretch) (calls : List Call) → IsToMark read told also stretches calls
    → IsToMark read told also (take 1 stretches) (calls ++ marks stretches (Ok tt) ∷ [])
to_mark_marked read told also stretches calls h = record {
  waiting = [];
  are = ap (λ (l : List Stretch). take 1 l) h.are;
  ones = λ n w. absurd w;
  covered = λ place c. elim (h.covered place c) [
    | inl before ↦ inl (marked_left calls (marks stretches (Ok tt) ∷ []) (number_at read place) before)
    | inr waits ↦ inl (marked_right calls (marks stretches (Ok tt) ∷ []) (number_at read place) (inl (subst (λ (l : List Stretch). IsInSome l (number_at read place)) (sym h.are) (inr waits))))
  ];
  only = only_marked read told also stretches calls (Ok tt) h;
}

-- ---- told

-- more of the first entries are told
pub to_mark_first : (start end : ℕ) (read : List Numbered) (told now : ℕ) (also : List ℕ) (stretches : List Stretch) (calls : List Call) (numbers : List ℕ) → AreNumbered start end read → told < now → now ≤ length read
    → numbers ≡ drop told (numbers_of read) → IsToMark read told also stretches calls
    → IsToMark read now also (below (slice_index numbers (now - told - 1) + 1) ∷ drop 1 stretches) calls
to_mark_first start end read told now also stretches calls numbers are less few is h =
    let last : ℕ = now - told - 1 in
    let place : ℕ = told + last in
    let at : slice_index numbers last ≡ number_at read place = ap (λ (l : List ℕ). get_or l last 0) is ∙ get_or-drop told (numbers_of read) last 0 in
    let suc_place : suc place ≡ now = omega arith in
    let after : after_last 0 (take now read) ≡ number_at read place + 1 = ap (λ (n : ℕ). after_last 0 (take n read)) (sym suc_place) ∙ after_at 0 read place (omega arith) in
    let rise : after_last 0 (take told read) ≤ after_last 0 (take now read) = after_more 0 start end read told now (omega arith) are (omega (arith, less)) in
    record {
      waiting = h.waiting;
      are = ap (λ (n : ℕ). below (n + 1) ∷ drop 1 stretches) at ∙ ap (λ (n : ℕ). below n ∷ drop 1 stretches) (sym after) ∙ ap (λ (l : List Stretch). below (after_last 0 (take now read)) ∷ drop 1 l) h.are;
      ones = h.ones;
      covered = h.covered;
      only = λ n m. elim (h.only n m) [ inl first ↦ inl (omega (arith, first, rise)) | inr one ↦ inr one ];
    }

in_some_left : (xs ys : List Stretch) (n : ℕ) → IsInSome xs n → IsInSome (xs ++ ys) n
in_some_left [] ys n h = absurd h
in_some_left (x ∷ xs) ys n h = elim h [ inl a ↦ inl a | inr b ↦ inr (in_some_left xs ys n b) ]

in_some_right : (xs ys : List Stretch) (n : ℕ) → IsInSome ys n → IsInSome (xs ++ ys) n
in_some_right [] ys n h = h
in_some_right (x ∷ xs) ys n h = inr (in_some_right xs ys n h)

in_some_cases : (xs ys : List Stretch) (n : ℕ) → IsInSome (xs ++ ys) n → IsInSome xs n ⊎ IsInSome ys n
in_some_cases [] ys n h = inr h
in_some_cases (x ∷ xs) ys n h = elim h [ inl a ↦ inl (inl a) | inr b ↦ elim (in_some_cases xs ys n b) [ inl c ↦ inl (inr c) | inr d ↦ inr d ] ]

pub of_one_told : (read : List Numbered) (also : List ℕ) (place n : ℕ) → IsOfOne read also n → IsOfOne read (also ++ place ∷ []) n
of_one_told read also place n one = (one.0, Contains-append_left also (place ∷ []) one.0 one.1, one.2, one.3)

-- an entry is told by itself
pub to_mark_one : (read : List Numbered) (told place : ℕ) (also : List ℕ) (stretches : List Stretch) (calls : List Call) (numbers : List ℕ) → told ≤ place → place < length read → numbers ≡ drop told (numbers_of read)
    → IsToMark read told also stretches calls → IsToMark read told (also ++ place ∷ []) (stretches ++ alone (slice_index numbers (place - told)) ∷ []) calls
to_mark_one read told place also stretches calls numbers after less is h =
    let number : ℕ = slice_index numbers (place - told) in
    let sum : told + (place - told) ≡ place = omega arith in
    let at : number ≡ number_at read place = ap (λ (l : List ℕ). get_or l (place - told) 0) is ∙ get_or-drop told (numbers_of read) (place - told) 0 ∙ ap (λ (k : ℕ). number_at read k) sum in
    record {
      waiting = h.waiting ++ alone number ∷ [];
      are = ap (λ (l : List Stretch). l ++ alone number ∷ []) h.are;
      ones = λ n w. elim (in_some_cases h.waiting (alone number ∷ []) n w) [
        | inl old ↦ of_one_told read also place n (h.ones n old)
        | inr new ↦ elim new [
          | inl here ↦ (place, Contains-push also place, less, (let same : n ≡ number = omega (arith, here.0, here.1) in same ∙ at))
          | inr none ↦ absurd none
        ]
      ];
      covered = λ p c. elim (Contains-push_cases also place p c) [
        | inl old ↦ elim (h.covered p old) [ inl m ↦ inl m | inr w ↦ inr (in_some_left h.waiting (alone number ∷ []) (number_at read p) w) ]
        | inr same ↦ inr (in_some_right h.waiting (alone number ∷ []) (number_at read p) (inl (let here : number ≡ number_at read p = at ∙ ap (λ (k : ℕ). number_at read k) same in (omega (arith, here), omega (arith, here)))))
      ];
      only = λ n m. elim (h.only n m) [ inl first ↦ inl first | inr one ↦ inr (of_one_told read also place n one) ];
    }
