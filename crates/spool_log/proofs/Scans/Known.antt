-- Entries that aren't known, found one after another.
use Rattle.std.proofs.Common.{◌≡◌, ◌⊎◌, inl, inr, ℕ, ◌+◌, ◌<◌, ◌≤◌, Bool, true, false, cond, List, [], ◌∷◌, ◌++◌, length, get_or, take, drop, refl, sym, ◌∙◌, ap, arith}
use Rattle.std.specs.Prelude.{not, nat_le}
use Rattle.std.specs.List.{filter}
use Rattle.std.proofs.lemmas.Bool.{cond-true, cond-false, cases_lt, le-leb, lt-leb}
use Rattle.std.proofs.lemmas.List.{length-take}
use Rattle.std.proofs.lemmas.List.Elements.{filter-append}
use Rattle.std.proofs.Math.Seq.{take-add}
use Rattle.known_numbers.specs.Numbers.{Numbers, IsKnown}
use Rattle.event_form.specs.declared.event.Entry.{Entry}
use Rattle.spool_state.specs.Left.{NumberedEntry, numbered, is_known, unknown}
use Rattle.spool_state.proofs.Unknown.{known_from, unknown_from, filter_like, numbered_append, unknown_append, unknown_numbers}
use Rattle.event_form.specs.Entry.{IsEntry}
use Rattle.spool_answers.specs.declared.numbered.Numbered.{Numbered}
use Rattle.spool_answers.specs.Pend.{given_entries, AreNumbered}
use Rattle.spool_log.specs.Reading.Wanted.{wanted_from}

pub wanted_append : (numbers : Numbers) (from : ℕ) (xs ys : List NumberedEntry) → wanted_from numbers from (xs ++ ys) ≡ wanted_from numbers from xs ++ wanted_from numbers from ys
wanted_append numbers from xs ys =
    ap (λ (l : List NumberedEntry). filter (λ e. nat_le from e.number) l) (unknown_append numbers xs ys)
    ∙ filter-append (λ e. nat_le from e.number) (unknown numbers xs) (unknown numbers ys)

dropped_by : (F : NumberedEntry → Bool) (x : NumberedEntry) (xs : List NumberedEntry) (b : Bool) → (F x ≡ false) ⊎ (b ≡ true) → filter F (cond (not b) (x ∷ xs) xs) ≡ filter F xs
dropped_by F x xs false (inl off) = cond-false (F x) (x ∷ filter F xs) (filter F xs) off
dropped_by F x xs false (inr off) = absurd (cc off)
dropped_by F x xs true why = refl

kept_by : (F : NumberedEntry → Bool) (x : NumberedEntry) (xs : List NumberedEntry) (b : Bool) → F x ≡ true → filter F xs ≡ xs → filter F (cond (not b) (x ∷ xs) xs) ≡ cond (not b) (x ∷ xs) xs
kept_by F x xs false on rest = cond-true (F x) (x ∷ filter F xs) (filter F xs) on ∙ ap (λ (l : List NumberedEntry). x ∷ l) rest
kept_by F x xs true on rest = rest

-- none of them is wanted
pub none_wanted : (numbers : Numbers) (from first : ℕ) (es : List Entry) → ((n : ℕ) → first ≤ n → n < first + length es → (n < from) ⊎ IsKnown numbers n) → wanted_from numbers from (numbered first es) ≡ []
none_wanted numbers from first [] h = refl
none_wanted numbers from first (e ∷ es) h =
    let one : (nat_le from first ≡ false) ⊎ (is_known numbers first ≡ true) = elim (h first (omega arith) (omega arith)) [ inl below ↦ inl (lt-leb from first below) | inr known ↦ inr (known_from numbers first known) ] in
    dropped_by (λ x. nat_le from x.number) (record { number = first; entry = e }) (unknown numbers (numbered (first + 1) es)) (is_known numbers first) one
    ∙ none_wanted numbers from (first + 1) es (λ n ge lt. h n (omega (arith, ge)) (omega (arith, lt)))

-- all of them that aren't known are
pub all_wanted : (numbers : Numbers) (from first : ℕ) (es : List Entry) → from ≤ first → wanted_from numbers from (numbered first es) ≡ unknown numbers (numbered first es)
all_wanted numbers from first [] le = refl
all_wanted numbers from first (e ∷ es) le =
    kept_by (λ x. nat_le from x.number) (record { number = first; entry = e }) (unknown numbers (numbered (first + 1) es)) (is_known numbers first) (le-leb from first le) (all_wanted numbers from (first + 1) es (omega (arith, le)))

-- the wanted ones up to a place, and from there up to a later one
pub wanted_split : (numbers : Numbers) (from first : ℕ) (es : List Entry) (i k : ℕ) → i ≤ length es → wanted_from numbers from (numbered first (take (i + k) es)) ≡ wanted_from numbers from (numbered first (take i es)) ++ wanted_from numbers from (numbered (first + i) (take k (drop i es)))
wanted_split numbers from first es i k le =
    let at : first + length (take i es) ≡ first + i = omega (arith, length-take i es, le) in
    ap (λ (l : List Entry). wanted_from numbers from (numbered first l)) (take-add i k es)
    ∙ ap (λ (l : List NumberedEntry). wanted_from numbers from l) (numbered_append first (take i es) (take k (drop i es)))
    ∙ wanted_append numbers from (numbered first (take i es)) (numbered (first + length (take i es)) (take k (drop i es)))
    ∙ ap (λ (n : ℕ). wanted_from numbers from (numbered first (take i es)) ++ wanted_from numbers from (numbered n (take k (drop i es)))) at

-- ---- the next number that isn't known

-- a number that isn't known is at least this one where it is at least the next one that isn't known
same_test : (numbers : Numbers) (from least n : ℕ) → from ≤ least → ((k : ℕ) → from ≤ k → k < least → IsKnown numbers k) → (IsKnown numbers n → ⊥) → nat_le least n ≡ nat_le from n
same_test numbers from least n le passed off = elim (cases_lt n from) [
  | inl low ↦ lt-leb least n (omega (arith, le, low)) ∙ sym (lt-leb from n low)
  | inr ge ↦ elim (cases_lt n least) [
    | inl below ↦ absurd (off (passed n ge below))
    | inr above ↦ le-leb least n above ∙ sym (le-leb from n ge)
  ]
]

-- from there on the same entries are wanted
pub wanted_next : (numbers : Numbers) (from least : ℕ) (xs : List NumberedEntry) → from ≤ least → ((k : ℕ) → from ≤ k → k < least → IsKnown numbers k) → wanted_from numbers least xs ≡ wanted_from numbers from xs
wanted_next numbers from least xs le passed =
    filter_like (λ e. nat_le least e.number) (λ e. nat_le from e.number) (unknown numbers xs)
    (λ k d lt. same_test numbers from least (get_or (unknown numbers xs) k d).number le passed (unknown_numbers numbers xs k d lt))

-- ---- entries that are given one after another

-- one entry more
pub unknown_more : (numbers : Numbers) (first number : ℕ) (entries : List Entry) (entry : Entry) → number ≡ first + length entries → unknown numbers (numbered first (entries ++ entry ∷ [])) ≡ unknown numbers (numbered first entries) ++ unknown numbers (numbered number (entry ∷ []))
unknown_more numbers first number entries entry is =
    ap (λ (l : List NumberedEntry). unknown numbers l) (numbered_append first entries (entry ∷ []))
    ∙ unknown_append numbers (numbered first entries) (numbered (first + length entries) (entry ∷ []))
    ∙ ap (λ (n : ℕ). unknown numbers (numbered first entries) ++ unknown numbers (numbered n (entry ∷ []))) (sym is)

-- which is known, or not
pub one_known : (numbers : Numbers) (n : ℕ) (entry : Entry) → IsKnown numbers n → unknown numbers (numbered n (entry ∷ [])) ≡ []
one_known numbers n entry known = cond-false (not (is_known numbers n)) (record { number = n; entry = entry } ∷ []) [] (ap not (known_from numbers n known))

pub one_unknown : (numbers : Numbers) (n : ℕ) (entry : Entry) → (IsKnown numbers n → ⊥) → unknown numbers (numbered n (entry ∷ [])) ≡ record { number = n; entry = entry } ∷ []
one_unknown numbers n entry off = cond-true (not (is_known numbers n)) (record { number = n; entry = entry } ∷ []) [] (ap not (unknown_from numbers n off))

-- one more is given
pub given_push : (given : List Numbered) (one : Numbered) → given_entries (given ++ one ∷ []) ≡ given_entries given ++ record { number = one.number; entry = one.entry } ∷ []
given_push [] one = refl
given_push (x ∷ given) one = ap (λ (l : List NumberedEntry). record { number = x.number; entry = x.entry } ∷ l) (given_push given one)

-- numbers that rise up to a number, and up to a later one
pub numbered_later : (from a b : ℕ) (given : List Numbered) → a ≤ b → AreNumbered from a given → AreNumbered from b given
numbered_later from a b [] le h = tt
numbered_later from a b (one ∷ more) le h = (h.0, omega (arith, h.1, le), h.2, numbered_later (one.number + 1) a b more le h.3)

pub numbered_push : (from a : ℕ) (given : List Numbered) (one : Numbered) → from ≤ a → AreNumbered from a given → a ≤ one.number → IsEntry one.entry → AreNumbered from (one.number + 1) (given ++ one ∷ [])
numbered_push from a [] one ge h le entry = (omega (arith, ge, le), omega arith, entry, tt)
numbered_push from a (x ∷ more) one ge h le entry = (h.0, omega (arith, h.1, le), h.2, numbered_push (x.number + 1) a more one (omega (arith, h.1)) h.3 le entry)

pub numbered_earlier : (from least end : ℕ) (given : List Numbered) → from ≤ least → AreNumbered least end given → AreNumbered from end given
numbered_earlier from least end [] le h = tt
numbered_earlier from least end (x ∷ more) le h = (omega (arith, le, h.0), h.1, h.2, h.3)
