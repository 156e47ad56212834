-- A letter whose take is a change of its own.
use Rattle.std.proofs.Common.{◌≡◌, ℕ, ◌-◌, ◌≤◌, ◌<◌, Bool, true, false, List, length, refl, sym, ◌∙◌, subst, arith}
use Rattle.std.specs.Prelude.{◌+◌, ◌^◌, take, Result, IfOk, IfErr}
use Rattle.std.proofs.lemmas.List.{take_all, length-take-le}
use Rattle.atomic_table.specs.Table.{Me}
use Rattle.event_form.specs.declared.event.Entry.{Entry}
use Rattle.edge_disk.specs.declared.disk.Disk.{Ghosts}
use Rattle.spool_answers.specs.declared.receipt.Receipt.{Receipt}
use Rattle.spool_faults.specs.declared.fault.TakeFault.{TakeFault}
use Rattle.spool_answers.specs.Take.{IsRefusal}
use Rattle.desk_access.specs.Division.{DividedRun}
use Rattle.desk_access.specs.Batch.{MayTake, MayUse}
use Rattle.desk_access.specs.Call.{takes}
use Rattle.desk_access.specs.Desk.{DeskState}
use Rattle.desk_access.specs.Legal.{May, IsNext, IsUnused}
use Rattle.spool_turns.specs.Rules.{View, handed_by}
use Rattle.desk_seats.specs.Passes.{known, Calls}
use Rattle.spool_turns.specs.Passes.{Beginning, known_of, Sound, IsPass, pass_in}
use Rattle.spool_turns.specs.Replays.{IsReal}
use Rattle.spool_turns.specs.Letters.{IsLetter, IsAnswered}
use Rattle.spool_turns.proofs.Fronts.{front_may}
use Rattle.spool_turns.proofs.Entering.{receipt_of}

-- the pass of a letter may take a front of its entries, or where none is allowed all of them
pub letter_may : (run : DividedRun) (seats number : ℕ) (entries : List Entry) (front : Bool) (me : Me ℕ View) (count : ℕ) (answer : Result Receipt TakeFault) → IsLetter run seats number entries front me → 0 < count
    → (front ≡ false → count ≡ length entries) → May run (seats - 1) (pass_in me.0).number (pass_in me.0).own (takes (take count entries) answer)
letter_may run seats number entries front me count answer l some whole =
    subst (λ (n : ℕ). May run (seats - 1) n (pass_in me.0).own (takes (take count entries) answer)) (sym l.number_is) (by front refl)
  where
    by : (b : Bool) → front ≡ b → MayTake (IsNext run number (pass_in me.0).own) (take count entries) × MayUse (IsUnused (pass_in me.0).own) (take count entries)
    by true is = front_may (IsNext run number (pass_in me.0).own) (IsUnused (pass_in me.0).own) count entries some l.next (l.plain is)
    by false is =
        subst (λ (e : List Entry). MayTake (IsNext run number (pass_in me.0).own) e × MayUse (IsUnused (pass_in me.0).own) e) (sym (take_all count entries (omega (arith, whole is)))) (l.next, l.units)

-- so it is answered, once the take was entered
pub answered_alone : {D : Type 0} (disks : Ghosts D) (start : DeskState → Type 0) (run : DividedRun) (seats : ℕ) (began : Beginning) (from it : Me ℕ View) (number : ℕ) (entries : List Entry) (front : Bool) (count : ℕ) (answer : Result Receipt TakeFault)
    → IsLetter run seats number entries front from → 0 < count → count ≤ length entries → (front ≡ false → count ≡ length entries)
    → IfOk answer (λ receipt. (receipt.count ≡ length (take count entries)) × (receipt.first + receipt.count ≤ 2 ^ 63)) → (front ≡ true → IfErr answer (λ fault. IsRefusal fault → count ≡ 1))
    → IsPass it × Sound start (pass_in it.0) × ((pass_in it.0).number ≡ (pass_in from.0).number) × ((pass_in it.0).out ≡ (pass_in from.0).out)
    → Calls start run seats (known_of (pass_in from.0)) (takes (take count entries) answer) (known_of (pass_in it.0)) → IsReal disks start run seats began (pass_in it.0).seen
    → IsAnswered disks start run seats began number entries count answer it
answered_alone disks start run seats began from it number entries front count answer l some within whole ok err past calls real =
    let m = pass_in from.0 in
    record {
      pass = past.0;
      number_is = past.2 ∙ l.number_is;
      one_of = l.one_of;
      handed = handed_by m entries front;
      out = past.3 ∙ l.out;
      same = refl;
      sound = past.1;
      calls = subst (λ (n : ℕ). Calls start run seats (known n m.seen m.own m.end_known m.cursor_known) (takes (take count entries) answer) (known_of (pass_in it.0))) l.number_is calls;
      real = real;
      some = some;
      within = within;
      whole = whole;
      receipt = receipt_of answer (length (take count entries)) count (length-take-le count entries within) ok;
      alone = err;
    }
