-- One number that was marked as known, outside doubt.
use Rattle.std.proofs.Common.{◌≡◌, ◌⊎◌, inl, inr, ℕ, Bool, true, false, cond, List, [], ◌∷◌, refl, sym, subst, arith}
use Rattle.std.specs.Prelude.{nat_le, Result, Ok, Err}
use Rattle.known_numbers.specs.declared.stretch.Stretch.{Stretch}
use Rattle.known_numbers.specs.Numbers.{Numbers, IsKnown, IsInSome, marked}
use Rattle.known_numbers.proofs.Marking.{marked_only}
use Rattle.spool_state.specs.SpoolState.{SpoolState, IsKnownIn, numbers_of}
use Rattle.spool_state.specs.Change.{registered}
use Rattle.spool_faults.specs.declared.fault.ConfirmFault.{ConfirmFault}
use Rattle.spool_answers.specs.Mark.{after_mark}
use Rattle.spool_answers.specs.Stages.{last_of, total_of}
use Rattle.spool_log.specs.declared.memory.Memory.{Memory}
use Rattle.spool_log.specs.Knows.{Knows}
use Rattle.spool_log.specs.Memory as memory
use Rattle.spool_log.specs.Outcome.{MarksFrom}
use Rattle.spool_log.specs.State.{View, IsIn}
use Rattle.bridge_skip.proofs.Outside.{sure_marks}
use Rattle.notes.specs.declared.note.Note.{Note}
use Rattle.notes.specs.declared.note.Note.TheVariants.{Fine}
use Rattle.bridge_skip.specs.Released.{only, note_of_confirm, no_room, TellsKnown, Releases}

-- ---- what memory knows as known is so in the state

known_as : (s : SpoolState) (m : Memory) → Knows s m → (n : ℕ) → IsKnown (memory.numbers_of m) n → IsKnownIn s n
known_as s m knows n (inl below) = inl (omega (arith, knows.cursor, below))
known_as s m knows n (inr there) = inr (subst (λ (l : List Stretch). IsInSome l n) knows.known there)

known_back : (s : SpoolState) (m : Memory) → Knows s m → (n : ℕ) → IsKnownIn s n → IsKnown (memory.numbers_of m) n
known_back s m knows n (inl below) = inl (omega (arith, knows.cursor, below))
known_back s m knows n (inr there) = inr (subst (λ (l : List Stretch). IsInSome l n) (sym knows.known) there)

-- ---- no other number becomes known

last_known : (b : Bool) (s : SpoolState) (numbers : Numbers) (n : ℕ) → IsKnownIn (last_of s (cond b [] (registered s s.run numbers.cursor numbers.stretches ∷ []))) n → IsKnownIn s n ⊎ IsKnown numbers n
last_known true s numbers n known = inl known
last_known false s numbers n known = inr known

only_known : (s : SpoolState) (number : ℕ) (result : Result Unit ConfirmFault) (n : ℕ) → IsKnownIn (after_mark s (only number) result) n → IsKnownIn s n ⊎ (n ≡ number)
only_known s number (Ok done) n known =
    let numbers = marked (numbers_of s) (only number) in
    elim (last_known (nat_le (total_of numbers) (total_of (numbers_of s))) s numbers n known) [
      | inl old ↦ inl old
      | inr new ↦ elim (marked_only (numbers_of s) (only number) n new) [
        | inl old ↦ inl old
        | inr (inl here) ↦ inr (omega (arith, here.0, here.1))
        | inr (inr never) ↦ absurd never
      ]
    ]
only_known s number (Err fault) n known = inl known

-- ---- what a mark of it does

module _ (s : SpoolState) (number : ℕ) (old new : View) (held : IsIn s [] old) where
  marked_so : (result : Result Unit ConfirmFault) (note : Note) → MarksFrom s [] (only number) result old new → TellsKnown (after_mark s (only number) result) number result note
      → Releases s number old.moment new.moment note
  marked_so result note marks tells =
      let did = sure_marks s (only number) result old new held marks in
      record { result = result; marks = did.marks; tells = tells; now = did.reached.each; any_moment = did.any_moment; alone = only_known s number result }

  pub is_released : (done : Unit) → MarksFrom s [] (only number) (Ok done) old new → IsKnown (memory.numbers_of new.memory) number → Releases s number old.moment new.moment Fine
  is_released done marks known =
      let did = sure_marks s (only number) (Ok done) old new held marks in
      marked_so (Ok done) Fine marks (inl (refl, known_as (after_mark s (only number) (Ok done)) new.memory did.reached.knows number known))

  pub has_no_room : (done : Unit) → MarksFrom s [] (only number) (Ok done) old new → (IsKnown (memory.numbers_of new.memory) number → ⊥) → Releases s number old.moment new.moment no_room
  has_no_room done marks unknown =
      let did = sure_marks s (only number) (Ok done) old new held marks in
      marked_so (Ok done) no_room marks (inr (refl, λ known. unknown (known_back (after_mark s (only number) (Ok done)) new.memory did.reached.knows number known)))

  pub is_refused : (fault : ConfirmFault) → MarksFrom s [] (only number) (Err fault) old new → (note : Note) → note ≡ note_of_confirm fault → Releases s number old.moment new.moment note
  is_refused fault marks note is = marked_so (Err fault) note marks is
