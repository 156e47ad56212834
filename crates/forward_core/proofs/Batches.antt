-- The entries of a reading that are to be given.
use Rattle.std.proofs.Common.{◌≡◌, ℕ, ◌+◌, ◌<◌, ◌≤◌, ◌^◌, true, false, suc, List, [], ◌∷◌, ◌++◌, length, All, refl, ap, ◌∙◌, sym, subst, inl, inr, arith}
use Rattle.std.specs.Prelude.{◌⊎◌}
use Rattle.std.proofs.lemmas.Bool.{and_from, and_parts, and_left, and_right, cases_Bool, cases_lt, le-leb, leb-true, lt-ltb, ltb-true, lt-leb, le-ltb, cond-true, cond-false}
use Rattle.std.proofs.lemmas.List.{append-nil}
use Rattle.std.proofs.lemmas.List.Elements.{filter-append, All-cons, All-nil}
use Rattle.event_form.specs.Event.{IsEvent}
use Rattle.event_form.specs.declared.event.Entry.{Entry}
use Rattle.spool_answers.specs.Pend.{AreNumbered}
use Rattle.spool_answers.specs.declared.numbered.Numbered.{Numbered}
use Rattle.forward_core.specs.Calls.{is_within, within, entries_of, numbers_of, after_last, asked_from, next_after}
use Rattle.forward_core.proofs.Numbered.{after_rises, after_within, numbered_upto}

-- one entry more of the reading, which is to be given, or isn't
pub within_taken : (next end : ℕ) (given : List Numbered) (one : Numbered) → next ≤ one.number → one.number < end → within next end (given ++ one ∷ []) ≡ within next end given ++ one ∷ []
within_taken next end given one low high =
    let is : is_within next end one.number ≡ true = and_from _ _ (le-leb _ _ low) (lt-ltb _ _ high) in
    filter-append (λ (x : Numbered). is_within next end x.number) given (one ∷ []) ∙ ap (λ (l : List Numbered). within next end given ++ l) (cond-true (is_within next end one.number) (one ∷ []) [] is)

pub within_passed : (next end : ℕ) (given : List Numbered) (one : Numbered) → (one.number < next) ⊎ (end ≤ one.number) → within next end (given ++ one ∷ []) ≡ within next end given
within_passed next end given one outside =
    let is : is_within next end one.number ≡ false = elim outside [ inl low ↦ and_left _ _ (lt-leb _ _ low) | inr high ↦ and_right _ _ (le-ltb _ _ high) ] in
    filter-append (λ (x : Numbered). is_within next end x.number) given (one ∷ []) ∙ ap (λ (l : List Numbered). within next end given ++ l) (cond-false (is_within next end one.number) (one ∷ []) [] is) ∙ append-nil (within next end given)

pub after_last_push : (next : ℕ) (given : List Numbered) (one : Numbered) → after_last next (given ++ one ∷ []) ≡ one.number + 1
after_last_push next [] one = refl
after_last_push next (x ∷ given) one = after_last_push (x.number + 1) given one

-- those to be given have rising numbers from the one on and below the other
pub within_rising : (from low next end big : ℕ) (given : List Numbered) → (from ≤ low) ⊎ (from ≤ next) → AreNumbered low big given → AreNumbered from end (within next end given)
within_rising from low next end big [] base are = tt
within_rising from low next end big (x ∷ given) base are = elim (cases_Bool (is_within next end x.number)) [
  | inl is ↦ let parts = and_parts _ _ is in
      let at : next ≤ x.number = leb-true _ _ parts.0 in
      let below : x.number < end = ltb-true _ _ parts.1 in
      let first : from ≤ x.number = elim base [ inl a ↦ omega (arith, a, are.0) | inr b ↦ omega (arith, b, at) ] in
      subst (λ (l : List Numbered). AreNumbered from end l) (sym (cond-true (is_within next end x.number) (x ∷ within next end given) (within next end given) is))
      (first, below, are.2, within_rising (x.number + 1) (x.number + 1) next end big given (inl (omega arith)) are.3)
  | inr is ↦ subst (λ (l : List Numbered). AreNumbered from end l) (sym (cond-false (is_within next end x.number) (x ∷ within next end given) (within next end given) is))
      (within_rising from (x.number + 1) next end big given (elim base [ inl a ↦ inl (omega (arith, a, are.0)) | inr b ↦ inr b ]) are.3)
]

pub within_fewer : (next end : ℕ) (given : List Numbered) → length (within next end given) ≤ length given
within_fewer next end [] = omega arith
within_fewer next end (x ∷ given) = elim (cases_Bool (is_within next end x.number)) [
  | inl is ↦ subst (λ (l : List Numbered). length l ≤ suc (length given)) (sym (cond-true (is_within next end x.number) (x ∷ within next end given) (within next end given) is)) (omega (arith, within_fewer next end given))
  | inr is ↦ subst (λ (l : List Numbered). length l ≤ suc (length given)) (sym (cond-false (is_within next end x.number) (x ∷ within next end given) (within next end given) is)) (omega (arith, within_fewer next end given))
]

-- What a reading leads to: the entries to be given have numbers from where it began up to where the next one begins,
-- which is later; and where more are to be read they are as many as a reading gives.
pub record Leads (next end : ℕ) (batch : List Numbered) (after : ℕ) : Type 0 where
  pub rising : AreNumbered next after batch
  pub later : next < after
  pub within : after ≤ end
  pub count : next + length batch ≤ after
  pub whole : after < end → length batch ≡ 128

pub reading_leads : (next end : ℕ) (given : List Numbered) → next < end → AreNumbered 0 (2 ^ 63) given → length given ≤ asked_from end next → Leads next end (within next end given) (next_after end next given)
reading_leads next end given more are few =
    let w = within next end given in
    let rising : AreNumbered next end w = within_rising next 0 next end (2 ^ 63) given (inr (omega arith)) are in
    let rise : next + length w ≤ after_last next w = after_rises next end w rising in
    let bound : after_last next w ≤ end = after_within next end w (omega arith) rising in
    let fewer : length w ≤ length given = within_fewer next end given in
    elim (cases_lt (length w) (asked_from end next)) [
      | inl lt ↦ subst (λ (n : ℕ). Leads next end w n) (sym (cond-true _ end (after_last next w) (lt-ltb _ _ lt))) (record {
        rising = rising;
        later = more;
        within = omega arith;
        count = omega arith;
        whole = λ less. absurd (omega (arith, less));
      })
      | inr all ↦ subst (λ (n : ℕ). Leads next end w n) (sym (cond-false _ end (after_last next w) (le-ltb _ _ all))) (record {
        rising = numbered_upto next end w rising;
        later = omega arith;
        within = bound;
        count = rise;
        whole = λ less. omega arith;
      })
    ]

-- what is said of their numbers and of their events
pub numbers_below : (from end : ℕ) (batch : List Numbered) → AreNumbered from end batch → All (λ n. n < end) (numbers_of batch)
numbers_below from end [] are = All-nil (λ n. n < end)
numbers_below from end (one ∷ batch) are = All-cons (λ n. n < end) one.number (numbers_of batch) are.1 (numbers_below (one.number + 1) end batch are.3)

pub events_of : (from end : ℕ) (batch : List Numbered) → AreNumbered from end batch → All (λ (e : Entry). IsEvent e.event) (entries_of batch)
events_of from end [] are = All-nil (λ (e : Entry). IsEvent e.event)
events_of from end (one ∷ batch) are = All-cons (λ (e : Entry). IsEvent e.event) one.entry (entries_of batch) are.2.event (events_of (one.number + 1) end batch are.3)
