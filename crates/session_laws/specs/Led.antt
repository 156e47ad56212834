-- What calls, one after another, did to a spool.
use Rattle.std.specs.Prelude.{◌≡◌, ◌⊎◌, List, [], ◌∷◌, take, All, Result, Ok, Err}
use Rattle.known_numbers.specs.declared.stretch.Stretch.{Stretch}
use Rattle.known_numbers.specs.Numbers.{marked}
use Rattle.event_form.specs.Entry.{IsEntry}
use Rattle.event_form.specs.declared.event.Entry.{Entry}
use Rattle.spool_state.specs.SpoolState.{IsSound, SpoolState, numbers_of}
use Rattle.spool_state.specs.Left.{left_from}
use Rattle.spool_faults.specs.declared.fault.ConfirmFault.{ConfirmFault}
use Rattle.spool_answers.specs.Mark.{all_below}
use Rattle.spool_answers.specs.Pend.{given_entries}
use Rattle.desk_access.specs.Call.{Call, Record, confirms, marks, pends}
use Rattle.desk_access.specs.History.{Adds, Grown}

-- The numbers of these stretches became known. Where the mark was refused, all of them became known, or none did.
abbrev pub MarksIn : SpoolState → List Stretch → Result Unit ConfirmFault → SpoolState → Type 0
MarksIn s stretches (Ok done) t = numbers_of t ≡ marked (numbers_of s) stretches
MarksIn s stretches (Err fault) t = (numbers_of t ≡ numbers_of s) ⊎ (numbers_of t ≡ marked (numbers_of s) stretches)

-- a mark or a confirm made its numbers known, and each other call none
abbrev pub KnowsBy : SpoolState → Call → SpoolState → Type 0
KnowsBy s (marks stretches result) t = MarksIn s stretches result t
KnowsBy s (confirms upto result) t = MarksIn s (all_below upto) result t
KnowsBy s call t = numbers_of t ≡ numbers_of s

-- a reading gave the first entries, from its number on, that weren't known in the state, as many as it asked for at most
abbrev pub ReadsIn : SpoolState → Call → Type 0
ReadsIn s (pends from most (Ok given)) = given_entries given ≡ take most (left_from s from)
ReadsIn s call = Unit {0}

-- The call led the spool from the one state to the other, and added this group to its list, which is empty where it added none.
pub record Did (s : SpoolState) (call : Call) (group : List Entry) (t : SpoolState) : Type 0 where
  pub sound : IsSound t
  pub entries : All IsEntry group
  pub adds : Adds call group
  pub grown : Grown s group t
  pub knows : KnowsBy s call t
  pub read : ReadsIn s call

-- The records led it there, one after another, and each added its group of these.
abbrev pub Led : SpoolState → List Record → List (List Entry) → SpoolState → Type 0
Led s [] [] t = t ≡ s
Led s [] (group ∷ groups) t = ⊥
Led s (one ∷ records) [] t = ⊥
Led s (one ∷ records) (group ∷ groups) t = (next : SpoolState) × Did s one.call group next × Led next records groups t
