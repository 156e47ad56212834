-- What a session read beside other callers, and what it would read next, is what it was to send.
use Rattle.std.proofs.Common.{◌≡◌, inl, inr, ℕ, ◌<◌, ◌≤◌, Bool, true, false, List, [], ◌∷◌, ◌++◌, take, refl, sym, ◌∙◌, ap, subst, arith, append_assoc, length-append}
use Rattle.std.specs.Prelude.{Result, Ok, Err}
use Rattle.std.proofs.lemmas.Bool.{both_ways, cases_eq}
use Rattle.std.proofs.lemmas.List.{map-append}
use Rattle.known_numbers.specs.declared.stretch.Stretch.{Stretch}
use Rattle.known_numbers.specs.Numbers.{IsInSome, IsKnown, Numbers, marked}
use Rattle.known_numbers.proofs.Marking.{marked_keeps, marked_only}
use Rattle.event_form.specs.declared.event.Entry.{Entry}
use Rattle.spool_state.specs.SpoolState.{IsKnownIn, IsSound, SpoolState, base, end, list, numbers_of}
use Rattle.spool_state.specs.Left.{NumberedEntry, left_from, numbered, unknown}
use Rattle.spool_faults.specs.declared.fault.ConfirmFault.{ConfirmFault}
use Rattle.spool_answers.specs.declared.numbered.Numbered.{Numbered}
use Rattle.spool_answers.specs.Pend.{AreNumbered, given_entries}
use Rattle.desk_access.specs.Call.{Call, Record, confirms, marks, own_of, pends}
use Rattle.desk_access.specs.History.{Grown}
use Rattle.desk_access.specs.Legal.{all_of}
use Rattle.desk_access.proofs.Growth.{grown_end, grown_then}
use Rattle.forward_core.specs.Calls.{AreOfSession, MarksFirst, asked_from, next_after, next_of, read_of, within}
use Rattle.forward_core.proofs.CallLists.{MarksBelowNext}
use Rattle.forward_core.proofs.Rest.{as_given, as_given_entries, from_on, left_rise, one_entry}
use Rattle.session_laws.specs.Beside.{IsMarking, MarksAlone}
use Rattle.session_laws.specs.Led.{Did, KnowsBy, Led, MarksIn}
use Rattle.session_laws.proofs.Coming.{Reached, own_here, own_there}
use Rattle.session_laws.proofs.Entries.{between, between_later, left_grown, read_parts, view_later, view_now, within_rise, within_taken}

-- ---- a state on the way

-- These entries came to the list of a state since. What was known as the session began is known, and from the next number to be
-- read on nothing more.
pub record Like (s : SpoolState) (known : Numbers) (before : List Entry) (next : ℕ) (r : SpoolState) : Type 0 where
  pub sound : IsSound r
  pub grown : Grown s before r
  pub kept : (n : ℕ) → IsKnown known n → IsKnownIn r n
  pub only : (n : ℕ) → next ≤ n → IsKnownIn r n → IsKnown known n

-- of the list of a state with these entries those that weren't known
abbrev pub unknown_with : SpoolState → Numbers → List Entry → List NumberedEntry
unknown_with s known whole = unknown known (numbered (base s) (list s ++ whole))

pub like_view : (s r : SpoolState) (known : Numbers) (before : List Entry) (next until : ℕ) → Like s known before next r → between next until (unknown_with s known before) ≡ between next until (left_from r next)
like_view s r known before next until like =
    view_now known (numbers_of r) next until (numbered (base s) (list s ++ before)) like.only like.kept
    ∙ ap (λ (l : List NumberedEntry). between next until (from_on next l)) (sym (left_grown s r before like.grown like.sound))

-- what comes later isn't below an end that was reached
like_whole : (s r : SpoolState) (known : Numbers) (before later whole : List Entry) (next until : ℕ) → before ++ later ≡ whole → until ≤ end r → Like s known before next r → between next until (unknown_with s known whole) ≡ between next until (left_from r next)
like_whole s r known before later whole next until all le like =
    ap (λ (l : List Entry). between next until (unknown known (numbered (base s) l))) (ap (λ (l : List Entry). list s ++ l) (sym all) ∙ sym (append_assoc (list s) before later))
    ∙ view_later known (base s) next until (list s ++ before) later (omega (arith, le, grown_end s r before like.grown, length-append (list s) before))
    ∙ like_view s r known before next until like

-- ---- one call

pub quiet : (call : Call) (r u : SpoolState) → (IsMarking call → ⊥) → KnowsBy r call u → numbers_of u ≡ numbers_of r
quiet (marks stretches result) r u off knows = absurd (off tt)
quiet (confirms upto result) r u off knows = absurd (off tt)
quiet call r u off knows = knows

-- no number became known, and the next reading is perhaps from a later number on
like_quiet : (s r u : SpoolState) (known : Numbers) (before here : List Entry) (next after : ℕ) → next ≤ after → numbers_of u ≡ numbers_of r → IsSound u → Grown r here u → Like s known before next r → Like s known (before ++ here) after u
like_quiet s r u known before here next after le same sound grown like = record {
  sound = sound;
  grown = grown_then s r u before here like.grown grown;
  kept = λ n is_known. subst (λ (k : Numbers). IsKnown k n) (sym same) (like.kept n is_known);
  only = λ n ge now. like.only n (omega (arith, le, ge)) (subst (λ (k : Numbers). IsKnown k n) same now);
}

like_new : (s r u : SpoolState) (known : Numbers) (before here : List Entry) (next : ℕ) (stretches : List Stretch) → ((n : ℕ) → IsInSome stretches n → n < next) → numbers_of u ≡ marked (numbers_of r) stretches → IsSound u → Grown r here u → Like s known before next r
    → Like s known (before ++ here) next u
like_new s r u known before here next stretches low is sound grown like = record {
  sound = sound;
  grown = grown_then s r u before here like.grown grown;
  kept = λ n is_known. subst (λ (k : Numbers). IsKnown k n) (sym is) (marked_keeps (numbers_of r) stretches n (like.kept n is_known));
  only = λ n ge now. elim (marked_only (numbers_of r) stretches n (subst (λ (k : Numbers). IsKnown k n) is now)) [
    | inl old ↦ like.only n ge old
    | inr new ↦ absurd (omega (arith, low n new, ge))
  ];
}

-- a mark of numbers below the next one, also one that is refused
like_marked : (s r u : SpoolState) (known : Numbers) (before here : List Entry) (next : ℕ) (stretches : List Stretch) (result : Result Unit ConfirmFault) → ((n : ℕ) → IsInSome stretches n → n < next) → MarksIn r stretches result u → IsSound u → Grown r here u → Like s known before next r
    → Like s known (before ++ here) next u
like_marked s r u known before here next stretches (Ok done) low is sound grown like = like_new s r u known before here next stretches low is sound grown like
like_marked s r u known before here next stretches (Err fault) low (inl same) sound grown like = like_quiet s r u known before here next next (omega arith) same sound grown like
like_marked s r u known before here next stretches (Err fault) low (inr is) sound grown like = like_new s r u known before here next stretches low is sound grown like

-- ---- the calls of the session

-- Of what was to be sent from a number on the calls read the first, and then the others are left from the next number on.
abbrev pub Splits : List NumberedEntry → ℕ → ℕ → List Call → Type 0
Splits xs until next calls = between next until xs ≡ given_entries (read_of until calls) ++ between (next_of until next calls) until xs

splits_read : (s r : SpoolState) (known : Numbers) (whole before later : List Entry) (from most next until : ℕ) (given : List Numbered) (calls : List Call) → Like s known before next r → before ++ later ≡ whole → until ≤ end r → from ≡ next → next < until
    → most ≡ asked_from until next → given_entries given ≡ take most (left_from r from) → (next ≤ next_after until next given → Splits (unknown_with s known whole) until (next_after until next given) calls)
    → Splits (unknown_with s known whole) until next (pends from most (Ok given) ∷ calls)
splits_read s r known whole before later from most next until given calls like all le at more many is on =
    let k = asked_from until next in
    let x = unknown_with s known whole in
    let v = between next until x in
    let l = left_from r next in
    let view : v ≡ between next until l = like_whole s r known before later whole next until all le like in
    let rising = left_rise r next like.sound in
    let are : AreNumbered next until (as_given v) = subst (λ (m : List NumberedEntry). AreNumbered next until (as_given m)) (sym view) (within_rise next until next (end r) l rising) in
    let here : given_entries given ≡ take k l = is ∙ ap (λ (n : ℕ). take n (left_from r from)) many ∙ ap (λ (n : ℕ). take k (left_from r n)) at in
    let batch = within next until given in
    let first : batch ≡ as_given (take k v) =
    ap (within next until) (sym (as_given_entries given) ∙ ap as_given here) ∙ within_taken k next until next (end r) l (omega arith) rising ∙ ap (λ (m : List NumberedEntry). as_given (take k m)) (sym view) in
    let parts = read_parts k next until v batch more are first in
    let after = next_after until next given in
    let read = read_of until calls in
    let others = between (next_of until after calls) until x in
    parts.whole
    ∙ ap (λ (m : List NumberedEntry). given_entries batch ++ m) (sym (between_later next after until x parts.later) ∙ on parts.later)
    ∙ sym (append_assoc (given_entries batch) (given_entries read) others)
    ∙ ap (λ (m : List NumberedEntry). m ++ others) (sym (map-append one_entry batch read))
    ∙ ap (λ (n : ℕ). given_entries (within n until given ++ read) ++ others) (sym at)

-- what follows for the calls after one
abbrev Goes_on : SpoolState → Numbers → List Entry → ℕ → SpoolState → List Entry → List Call → Type 0
Goes_on s known whole until u before calls =
    (just : Bool) (next : ℕ) → Like s known before next u → (just ≡ true → until ≤ end u) → AreOfSession until next calls → MarksBelowNext until next calls → MarksFirst just calls → Splits (unknown_with s known whole) until next calls

none_more : (until next : ℕ) (calls : List Call) → calls ≡ [] → AreOfSession until next calls
none_more until next calls none = subst (AreOfSession until next) (sym none) tt

own_call : (s r u : SpoolState) (known : Numbers) (whole before here later : List Entry) (until next : ℕ) (just : Bool) (call : Call) (calls : List Call) → Like s known before next r → Did r call here u → before ++ (here ++ later) ≡ whole
    → (just ≡ true → until ≤ end r) → until ≤ end u → AreOfSession until next (call ∷ calls) → MarksBelowNext until next (call ∷ calls) → MarksFirst just (call ∷ calls) → Goes_on s known whole until u (before ++ here) calls
    → Splits (unknown_with s known whole) until next (call ∷ calls)
own_call s r u known whole before here later until next just (pends from most (Ok given)) calls like did all up le of low first on =
    splits_read s r known whole before (here ++ later) from most next until given calls like all (up first.0) of.0 of.1 of.2 did.read
    (λ later_on. on false (next_after until next given) (like_quiet s r u known before here next (next_after until next given) later_on did.knows did.sound did.grown like) (λ yes. absurd (both_ways false refl yes)) of.3 low first.1)
own_call s r u known whole before here later until next just (pends from most (Err fault)) calls like did all up le of low first on =
    on false next (like_quiet s r u known before here next next (omega arith) did.knows did.sound did.grown like) (λ yes. absurd (both_ways false refl yes)) (none_more until next calls of.3) low first.1
own_call s r u known whole before here later until next just (marks stretches (Ok done)) calls like did all up le of low first on =
    on true next (like_marked s r u known before here next stretches (Ok done) low.0 did.knows did.sound did.grown like) (λ yes. le) of low.1 first
own_call s r u known whole before here later until next just (marks stretches (Err fault)) calls like did all up le of low first on =
    on true next (like_marked s r u known before here next stretches (Err fault) low.0 did.knows did.sound did.grown like) (λ yes. le) (none_more until next calls of) low.1 first
own_call s r u known whole before here later until next just call calls like did all up le of low first on = absurd of

-- ---- all records

-- The records led on from a state that is like the one where the session began, which makes calls of them.
pub splits : (s : SpoolState) (known : Numbers) (whole later : List Entry) (number until start : ℕ) (r t : SpoolState) (records : List Record) (groups : List (List Entry)) (led : Led r records groups t) (before : List Entry) (just : Bool) (next : ℕ)
    → before ++ (all_of groups ++ later) ≡ whole → Like s known before next r → Reached number until start r records groups t led → (just ≡ true → until ≤ end r) → MarksAlone number records
    → AreOfSession until next (own_of number records) → MarksBelowNext until next (own_of number records) → MarksFirst just (own_of number records) → Splits (unknown_with s known whole) until next (own_of number records)
splits s known whole later number until start r t [] [] led before just next all like reached up alone of low first = refl
splits s known whole later number until start r t [] (group ∷ groups) led before just next all like reached up alone of low first = absurd led
splits s known whole later number until start r t (one ∷ records) [] led before just next all like reached up alone of low first = absurd led
splits s known whole later number until start r t (one ∷ records) (here ∷ groups) led before just next all like reached up alone of low first =
    let u = led.0 in
    let did = led.1 in
    let parts : before ++ (here ++ (all_of groups ++ later)) ≡ whole = ap (λ (l : List Entry). before ++ l) (sym (append_assoc here (all_of groups) later)) ∙ all in
    let more : (before ++ here) ++ (all_of groups ++ later) ≡ whole = append_assoc before here (all_of groups ++ later) ∙ parts in
    elim (cases_eq one.by number) [
      | inl is ↦
          let e = own_here number one records is in
          subst (Splits (unknown_with s known whole) until next) (sym e)
          (own_call s r u known whole before here (all_of groups ++ later) until next just one.call (own_of number records) like did parts up (reached.0 is).0
          (subst (AreOfSession until next) e of) (subst (MarksBelowNext until next) e low) (subst (MarksFirst just) e first)
          (λ just' next' like' up' of' low' first'. splits s known whole later number until start u t records groups led.2 (before ++ here) just' next' more like' reached.1 up' alone.1 of' low' first'))
      | inr off ↦
          let e = own_there number one records off in
          let same = quiet one.call r u (λ marking. off (alone.0 marking)) did.knows in
          subst (Splits (unknown_with s known whole) until next) (sym e)
          (splits s known whole later number until start u t records groups led.2 (before ++ here) just next more (like_quiet s r u known before here next next (omega arith) same did.sound did.grown like) reached.1
          (λ yes. omega (arith, up yes, grown_end r u here did.grown)) alone.1 (subst (AreOfSession until next) e of) (subst (MarksBelowNext until next) e low) (subst (MarksFirst just) e first))
    ]
