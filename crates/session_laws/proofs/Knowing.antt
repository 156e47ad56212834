-- What is known after a session beside other callers.
use Rattle.std.proofs.Common.{◌≡◌, ◌⊎◌, inl, inr, ℕ, ◌<◌, ◌≤◌, List, [], ◌∷◌, ◌++◌, length, refl, sym, ◌∙◌, ap, subst, arith, append_assoc}
use Rattle.std.specs.Prelude.{All, Result, Ok, Err, false}
use Rattle.std.proofs.lemmas.Bool.{both_ways, cases_eq}
use Rattle.std.proofs.lemmas.List.Elements.{All-append, All-nil}
use Rattle.known_numbers.specs.declared.stretch.Stretch.{Stretch}
use Rattle.known_numbers.specs.Numbers.{IsInSome, IsKnown, Numbers, marked}
use Rattle.known_numbers.proofs.Marking.{marked_keeps, marked_only, marked_same}
use Rattle.event_form.specs.Entry.{IsEntry}
use Rattle.event_form.specs.declared.event.Entry.{Entry}
use Rattle.spool_state.specs.SpoolState.{IsKnownIn, IsSound, SpoolState, end, numbers_of}
use Rattle.spool_faults.specs.declared.fault.ConfirmFault.{ConfirmFault}
use Rattle.spool_answers.specs.Mark.{all_below}
use Rattle.desk_access.specs.Call.{Call, Record, confirms, marks, own_of, pends}
use Rattle.desk_access.specs.History.{Grown}
use Rattle.desk_access.specs.Legal.{all_of}
use Rattle.desk_access.proofs.Growth.{grown_end, grown_self, grown_then}
use Rattle.forward_core.specs.Calls.{AreGranted, AreOfSession, IsMarked, MarksBelowRead, MarksFirst, next_after}
use Rattle.forward_core.specs.Laws.{known_by}
use Rattle.forward_core.proofs.AfterLaw.{front_known}
use Rattle.session_laws.specs.Beside.{IsMarking, KnowsMarked, MarksAlone, known_at_most}
use Rattle.session_laws.specs.Led.{KnowsBy, Led, MarksIn}
use Rattle.session_laws.proofs.Coming.{Reached, own_here, own_there}
use Rattle.session_laws.proofs.Sending.{quiet}

-- ---- one call

along : (a b : Numbers) (n : ℕ) → a ≡ b → IsKnown a n → IsKnown b n
along a b n is known = subst (λ (k : Numbers). IsKnown k n) is known

kept_in : (r u : SpoolState) (stretches : List Stretch) (result : Result Unit ConfirmFault) (n : ℕ) → MarksIn r stretches result u → IsKnownIn r n → IsKnownIn u n
kept_in r u stretches (Ok done) n is known = along (marked (numbers_of r) stretches) (numbers_of u) n (sym is) (marked_keeps (numbers_of r) stretches n known)
kept_in r u stretches (Err fault) n (inl same) known = along (numbers_of r) (numbers_of u) n (sym same) known
kept_in r u stretches (Err fault) n (inr is) known = along (marked (numbers_of r) stretches) (numbers_of u) n (sym is) (marked_keeps (numbers_of r) stretches n known)

kept_by : (r u : SpoolState) (call : Call) (n : ℕ) → KnowsBy r call u → IsKnownIn r n → IsKnownIn u n
kept_by r u (marks stretches result) n knows known = kept_in r u stretches result n knows known
kept_by r u (confirms upto result) n knows known = kept_in r u (all_below upto) result n knows known
kept_by r u call n knows known = along (numbers_of r) (numbers_of u) n (sym knows) known

only_in : (r u : SpoolState) (stretches : List Stretch) (result : Result Unit ConfirmFault) (n : ℕ) → MarksIn r stretches result u → IsKnownIn u n → IsKnownIn r n ⊎ IsInSome stretches n
only_in r u stretches (Ok done) n is known = marked_only (numbers_of r) stretches n (along (numbers_of u) (marked (numbers_of r) stretches) n is known)
only_in r u stretches (Err fault) n (inl same) known = inl (along (numbers_of u) (numbers_of r) n same known)
only_in r u stretches (Err fault) n (inr is) known = marked_only (numbers_of r) stretches n (along (numbers_of u) (marked (numbers_of r) stretches) n is known)

-- none of the calls is a confirm
abbrev pub NoConfirms : List Call → Type 0
NoConfirms [] = Unit {0}
NoConfirms (confirms upto result ∷ calls) = ⊥
NoConfirms (call ∷ calls) = NoConfirms calls

pub no_confirms : (until next : ℕ) (calls : List Call) → AreOfSession until next calls → NoConfirms calls
no_confirms until next [] of = tt
no_confirms until next (pends from most (Ok given) ∷ calls) of = no_confirms until (next_after until next given) calls of.3
no_confirms until next (pends from most (Err fault) ∷ calls) of = subst NoConfirms (sym of.3) tt
no_confirms until next (marks stretches (Ok done) ∷ calls) of = no_confirms until next calls of
no_confirms until next (marks stretches (Err fault) ∷ calls) of = subst NoConfirms (sym of) tt
no_confirms until next (call ∷ calls) of = absurd of

-- after a call of the session and others: what is known was known, or is marked
only_step : (r u : SpoolState) (call : Call) (calls : List Call) (n : ℕ) → NoConfirms (call ∷ calls) → KnowsBy r call u → IsKnownIn u n ⊎ IsMarked calls n → IsKnownIn r n ⊎ IsMarked (call ∷ calls) n
only_step r u (marks stretches result) calls n none knows (inl known) = elim (only_in r u stretches result n knows known) [ inl old ↦ inl old | inr new ↦ inr (inl new) ]
only_step r u (marks stretches result) calls n none knows (inr later) = inr (inr later)
only_step r u (confirms upto result) calls n none knows known = absurd none
only_step r u call calls n none knows (inl known) = inl (along (numbers_of u) (numbers_of r) n knows known)
only_step r u call calls n none knows (inr later) = inr later

no_confirm_then : (call : Call) (calls : List Call) → NoConfirms (call ∷ calls) → NoConfirms calls
no_confirm_then (confirms upto result) calls none = absurd none
no_confirm_then call calls none = none

granted_step : (r u t : SpoolState) (call : Call) (calls : List Call) → AreGranted (call ∷ calls) → KnowsBy r call u → (AreGranted calls → numbers_of t ≡ known_by (numbers_of u) calls) → numbers_of t ≡ known_by (numbers_of r) (call ∷ calls)
granted_step r u t (pends from most (Ok given)) calls granted knows on = on granted ∙ ap (λ (k : Numbers). known_by k calls) knows
granted_step r u t (marks stretches (Ok done)) calls granted knows on = on granted ∙ ap (λ (k : Numbers). known_by k calls) knows
granted_step r u t call calls granted knows on = absurd granted

-- ---- all records

pub led_sound : (r t : SpoolState) (records : List Record) (groups : List (List Entry)) → IsSound r → Led r records groups t → IsSound t
led_sound r t [] [] sound led = subst IsSound (sym led) sound
led_sound r t [] (group ∷ groups) sound led = absurd led
led_sound r t (one ∷ records) [] sound led = absurd led
led_sound r t (one ∷ records) (group ∷ groups) sound led = led_sound led.0 t records groups led.1.sound led.2

pub led_grown : (r t : SpoolState) (records : List Record) (groups : List (List Entry)) → Led r records groups t → Grown r (all_of groups) t
led_grown r t [] [] led = subst (Grown r []) (sym led) (grown_self r)
led_grown r t [] (group ∷ groups) led = absurd led
led_grown r t (one ∷ records) [] led = absurd led
led_grown r t (one ∷ records) (group ∷ groups) led = grown_then r led.0 t group (all_of groups) led.1.grown (led_grown led.0 t records groups led.2)

pub led_kept : (r t : SpoolState) (records : List Record) (groups : List (List Entry)) → Led r records groups t → (n : ℕ) → IsKnownIn r n → IsKnownIn t n
led_kept r t [] [] led n known = subst (λ (s : SpoolState). IsKnownIn s n) (sym led) known
led_kept r t [] (group ∷ groups) led n known = absurd led
led_kept r t (one ∷ records) [] led n known = absurd led
led_kept r t (one ∷ records) (group ∷ groups) led n known = led_kept led.0 t records groups led.2 n (kept_by r led.0 one.call n led.1.knows known)

pub led_only : (number : ℕ) (r t : SpoolState) (records : List Record) (groups : List (List Entry)) → Led r records groups t → MarksAlone number records → NoConfirms (own_of number records) → (n : ℕ) → IsKnownIn t n
    → IsKnownIn r n ⊎ IsMarked (own_of number records) n
led_only number r t [] [] led alone none n known = inl (subst (λ (s : SpoolState). IsKnownIn s n) led known)
led_only number r t [] (group ∷ groups) led alone none n known = absurd led
led_only number r t (one ∷ records) [] led alone none n known = absurd led
led_only number r t (one ∷ records) (group ∷ groups) led alone none n known = elim (cases_eq one.by number) [
  | inl is ↦
      let e = own_here number one records is in
      let all : NoConfirms (one.call ∷ own_of number records) = subst NoConfirms e none in
      subst (λ (l : List Call). IsKnownIn r n ⊎ IsMarked l n) (sym e)
      (only_step r led.0 one.call (own_of number records) n all led.1.knows (led_only number led.0 t records groups led.2 alone.1 (no_confirm_then one.call (own_of number records) all) n known))
  | inr off ↦
      let e = own_there number one records off in
      let same = quiet one.call r led.0 (λ marking. off (alone.0 marking)) led.1.knows in
      subst (λ (l : List Call). IsKnownIn r n ⊎ IsMarked l n) (sym e)
      (elim (led_only number led.0 t records groups led.2 alone.1 (subst NoConfirms e none) n known) [ inl old ↦ inl (along (numbers_of led.0) (numbers_of r) n same old) | inr new ↦ inr new ])
]

pub led_granted : (number : ℕ) (r t : SpoolState) (records : List Record) (groups : List (List Entry)) → Led r records groups t → MarksAlone number records → AreGranted (own_of number records) → numbers_of t ≡ known_by (numbers_of r) (own_of number records)
led_granted number r t [] [] led alone granted = ap numbers_of led
led_granted number r t [] (group ∷ groups) led alone granted = absurd led
led_granted number r t (one ∷ records) [] led alone granted = absurd led
led_granted number r t (one ∷ records) (group ∷ groups) led alone granted = elim (cases_eq one.by number) [
  | inl is ↦
      let e = own_here number one records is in
      granted_step r led.0 t one.call (own_of number records) (subst AreGranted e granted) led.1.knows (λ g. led_granted number led.0 t records groups led.2 alone.1 g)
      ∙ ap (known_by (numbers_of r)) (sym e)
  | inr off ↦
      let e = own_there number one records off in
      led_granted number led.0 t records groups led.2 alone.1 (subst AreGranted e granted)
      ∙ ap (λ (k : Numbers). known_by k (own_of number records)) (quiet one.call r led.0 (λ marking. off (alone.0 marking)) led.1.knows)
      ∙ ap (known_by (numbers_of r)) (sym e)
]

-- the two things that may be known after calls of which the last was refused
abbrev Which : Numbers → List Call → Numbers → Type 0
Which before calls after = (after ≡ known_by before calls) ⊎ (after ≡ known_at_most before calls)

which_none : (before after : Numbers) (calls : List Call) → calls ≡ [] → Which before calls after → after ≡ before
which_none before after calls none h = elim (subst (λ (l : List Call). Which before l after) none h) [ inl same ↦ same | inr same ↦ same ]

which_refused : (before with after : Numbers) (calls : List Call) → calls ≡ [] → (after ≡ before) ⊎ (after ≡ with) → (after ≡ known_by before calls) ⊎ (after ≡ known_at_most with calls)
which_refused before with after calls none h = subst (λ (l : List Call). (after ≡ known_by before l) ⊎ (after ≡ known_at_most with l)) (sym none) h

which_call : (until next : ℕ) (r u : SpoolState) (after : Numbers) (call : Call) (calls : List Call) → AreOfSession until next (call ∷ calls) → KnowsBy r call u → ((later : ℕ) → AreOfSession until later calls → Which (numbers_of u) calls after)
    → Which (numbers_of r) (call ∷ calls) after
which_call until next r u after (pends from most (Ok given)) calls of knows on = subst (λ (k : Numbers). Which k calls after) knows (on (next_after until next given) of.3)
which_call until next r u after (pends from most (Err fault)) calls of knows on = subst (λ (k : Numbers). Which k calls after) knows (on next (subst (AreOfSession until next) (sym of.3) tt))
which_call until next r u after (marks stretches (Ok done)) calls of knows on = subst (λ (k : Numbers). Which k calls after) knows (on next of)
which_call until next r u after (marks stretches (Err fault)) calls of knows on =
    let same = which_none (numbers_of u) after calls of (on next (subst (AreOfSession until next) (sym of) tt)) in
    which_refused (numbers_of r) (marked (numbers_of r) stretches) after calls of (elim knows [ inl old ↦ inl (same ∙ old) | inr new ↦ inr (same ∙ new) ])
which_call until next r u after call calls of knows on = absurd of

led_which : (number until next : ℕ) (r t : SpoolState) (records : List Record) (groups : List (List Entry)) → Led r records groups t → MarksAlone number records → AreOfSession until next (own_of number records)
    → Which (numbers_of r) (own_of number records) (numbers_of t)
led_which number until next r t [] [] led alone of = inl (ap numbers_of led)
led_which number until next r t [] (group ∷ groups) led alone of = absurd led
led_which number until next r t (one ∷ records) [] led alone of = absurd led
led_which number until next r t (one ∷ records) (group ∷ groups) led alone of = elim (cases_eq one.by number) [
  | inl is ↦
      let e = own_here number one records is in
      subst (λ (l : List Call). Which (numbers_of r) l (numbers_of t)) (sym e)
      (which_call until next r led.0 (numbers_of t) one.call (own_of number records) (subst (AreOfSession until next) e of) led.1.knows (λ later of'. led_which number until later led.0 t records groups led.2 alone.1 of'))
  | inr off ↦
      let e = own_there number one records off in
      subst (λ (l : List Call). Which (numbers_of r) l (numbers_of t)) (sym e)
      (subst (λ (k : Numbers). Which k (own_of number records) (numbers_of t)) (quiet one.call r led.0 (λ marking. off (alone.0 marking)) led.1.knows)
      (led_which number until next led.0 t records groups led.2 alone.1 (subst (AreOfSession until next) e of)))
]

pub led_marked : (number until next : ℕ) (r t : SpoolState) (records : List Record) (groups : List (List Entry)) → IsSound r → Led r records groups t → MarksAlone number records → AreOfSession until next (own_of number records)
    → KnowsMarked (numbers_of r) (own_of number records) (numbers_of t)
led_marked number until next r t records groups sound led alone of = record {
  which = led_which number until next r t records groups led alone of;
  kept = led_kept r t records groups led;
  only = led_only number r t records groups led alone (no_confirms until next (own_of number records) of);
  granted = led_granted number r t records groups led alone;
  front = λ granted n has. subst (λ (k : Numbers). n ≤ k.cursor) (sym (led_granted number r t records groups led alone granted)) (front_known n (numbers_of r) (own_of number records) sound.known has);
}

-- the entries that were added are within their limits
pub led_entries : (r t : SpoolState) (records : List Record) (groups : List (List Entry)) → Led r records groups t → All IsEntry (all_of groups)
led_entries r t [] [] led = All-nil IsEntry
led_entries r t [] (group ∷ groups) led = absurd led
led_entries r t (one ∷ records) [] led = absurd led
led_entries r t (one ∷ records) (group ∷ groups) led = All-append IsEntry group (all_of groups) led.1.entries (led_entries led.0 t records groups led.2)

-- the end doesn't fall, and after a call of the caller it is as far as was said
pub led_end : (r t : SpoolState) (records : List Record) (groups : List (List Entry)) → Led r records groups t → end r ≤ end t
led_end r t records groups led = omega (arith, grown_end r t (all_of groups) (led_grown r t records groups led))

pub led_until : (number until start : ℕ) (r t : SpoolState) (records : List Record) (groups : List (List Entry)) (led : Led r records groups t) → Reached number until start r records groups t led → 0 < length (own_of number records) → until ≤ end t
led_until number until start r t [] [] led reached some = absurd (omega arith)
led_until number until start r t [] (group ∷ groups) led reached some = absurd led
led_until number until start r t (one ∷ records) [] led reached some = absurd led
led_until number until start r t (one ∷ records) (group ∷ groups) led reached some = elim (cases_eq one.by number) [
  | inl is ↦ omega (arith, (reached.0 is).0, led_end led.0 t records groups led.2)
  | inr off ↦ led_until number until start led.0 t records groups led.2 reached.1 (omega (arith, some, ap (λ (l : List Call). length l) (own_there number one records off)))
]

-- none of the calls marks or confirms
abbrev pub NoMarks : List Call → Type 0
NoMarks [] = Unit {0}
NoMarks (call ∷ calls) = (IsMarking call → ⊥) × NoMarks calls

-- then the same numbers are known
pub led_same : (number : ℕ) (r t : SpoolState) (records : List Record) (groups : List (List Entry)) → Led r records groups t → MarksAlone number records → NoMarks (own_of number records) → numbers_of t ≡ numbers_of r
led_same number r t [] [] led alone none = ap numbers_of led
led_same number r t [] (group ∷ groups) led alone none = absurd led
led_same number r t (one ∷ records) [] led alone none = absurd led
led_same number r t (one ∷ records) (group ∷ groups) led alone none = elim (cases_eq one.by number) [
  | inl is ↦
      let all : NoMarks (one.call ∷ own_of number records) = subst NoMarks (own_here number one records is) none in
      led_same number led.0 t records groups led.2 alone.1 all.1 ∙ quiet one.call r led.0 all.0 led.1.knows
  | inr off ↦
      led_same number led.0 t records groups led.2 alone.1 (subst NoMarks (own_there number one records off) none) ∙ quiet one.call r led.0 (λ marking. off (alone.0 marking)) led.1.knows
]

pub led_then : (r u t : SpoolState) (xs ys : List Record) (first more : List (List Entry)) → Led r xs first u → Led u ys more t → Led r (xs ++ ys) (first ++ more) t
led_then r u t [] ys [] more p q = subst (λ (s : SpoolState). Led s ys more t) p q
led_then r u t [] ys (group ∷ first) more p q = absurd p
led_then r u t (one ∷ xs) ys [] more p q = absurd p
led_then r u t (one ∷ xs) ys (group ∷ first) more p q = (p.0, p.1, led_then p.0 u t xs ys first more p.2 q)

pub all_then : (first more : List (List Entry)) → all_of (first ++ more) ≡ all_of first ++ all_of more
all_then [] more = refl
all_then (group ∷ first) more = ap (λ (l : List Entry). group ++ l) (all_then first more) ∙ sym (append_assoc group (all_of first) (all_of more))

-- ---- where a session began

-- the first call is a mark of no number
abbrev pub BeginsUnmarked : List Call → Type 0
BeginsUnmarked [] = Unit {0}
BeginsUnmarked (marks stretches result ∷ calls) = (n : ℕ) → IsInSome stretches n → ⊥
BeginsUnmarked (call ∷ calls) = ⊥

pub begins_unmarked : (until next : ℕ) (calls : List Call) → AreOfSession until next calls → MarksBelowRead until 0 calls → MarksFirst false calls → BeginsUnmarked calls
begins_unmarked until next [] of low first = tt
begins_unmarked until next (marks stretches result ∷ calls) of low first = λ n is. omega (arith, low.0 n is)
begins_unmarked until next (pends from most result ∷ calls) of low first = both_ways false refl first.0
begins_unmarked until next (call ∷ calls) of low first = of

-- a mark of no number changes nothing
unmarked : (r u : SpoolState) (stretches : List Stretch) (result : Result Unit ConfirmFault) → IsSound r → ((n : ℕ) → IsInSome stretches n → ⊥) → MarksIn r stretches result u → numbers_of u ≡ numbers_of r
unmarked r u stretches (Ok done) sound none is = is ∙ marked_same (numbers_of r) stretches sound.known (λ n there. absurd (none n there))
unmarked r u stretches (Err fault) sound none (inl same) = same
unmarked r u stretches (Err fault) sound none (inr is) = is ∙ marked_same (numbers_of r) stretches sound.known (λ n there. absurd (none n there))

begun : (r u : SpoolState) (call : Call) (calls : List Call) → IsSound r → BeginsUnmarked (call ∷ calls) → KnowsBy r call u → numbers_of u ≡ numbers_of r
begun r u (marks stretches result) calls sound none knows = unmarked r u stretches result sound none knows
begun r u call calls sound none knows = absurd none

pub led_start : (number until start : ℕ) (r t : SpoolState) (records : List Record) (groups : List (List Entry)) (led : Led r records groups t) → IsSound r → Reached number until start r records groups t led → MarksAlone number records
    → BeginsUnmarked (own_of number records) → 0 < length (own_of number records) → start ≤ r.cursor
led_start number until start r t [] [] led sound reached alone none some = absurd (omega arith)
led_start number until start r t [] (group ∷ groups) led sound reached alone none some = absurd led
led_start number until start r t (one ∷ records) [] led sound reached alone none some = absurd led
led_start number until start r t (one ∷ records) (group ∷ groups) led sound reached alone none some = elim (cases_eq one.by number) [
  | inl is ↦
      let same = begun r led.0 one.call (own_of number records) sound (subst BeginsUnmarked (own_here number one records is) none) led.1.knows in
      omega (arith, (reached.0 is).1, ap (λ (k : Numbers). k.cursor) same)
  | inr off ↦
      let e = own_there number one records off in
      let same = quiet one.call r led.0 (λ marking. off (alone.0 marking)) led.1.knows in
      omega (arith, led_start number until start led.0 t records groups led.2 led.1.sound reached.1 alone.1 (subst BeginsUnmarked e none) (omega (arith, some, ap (λ (l : List Call). length l) e)), ap (λ (k : Numbers). k.cursor) same)
]
