-- Calls of a spool that isn't in doubt.
use Rattle.std.proofs.Common.{inl, inr, ℕ, List, [], subst, arith}
use Rattle.std.specs.Prelude.{Result}
use Rattle.std.specs.Global.{Vec}
use Rattle.known_numbers.specs.declared.stretch.Stretch.{Stretch}
use Rattle.event_form.specs.declared.event.Entry.{Entry}
use Rattle.edge_disk.specs.Disk.{LeavesOnly}
use Rattle.edge_disk.proofs.Moments.{weaker}
use Rattle.spool_state.specs.SpoolState.{SpoolState}
use Rattle.spool_answers.specs.declared.numbered.Numbered.{Numbered}
use Rattle.spool_faults.specs.declared.fault.PendFault.{PendFault}
use Rattle.spool_faults.specs.declared.fault.ConfirmFault.{ConfirmFault}
use Rattle.spool_answers.specs.declared.receipt.Receipt.{Receipt}
use Rattle.spool_faults.specs.declared.fault.TakeFault.{TakeFault}
use Rattle.spool_answers.specs.Mark.{Marks, after_mark, mark_stages, mark_doubt}
use Rattle.spool_answers.specs.Pend.{Pends}
use Rattle.spool_answers.specs.Take.{Takes, after_take, take_stages, take_doubt}
use Rattle.spool_log.specs.Outcome.{PendsFrom, TakesFrom, MarksFrom}
use Rattle.spool_log.specs.State.{View, IsIn, LeavesStages}

-- a reading
pub record Reads (s : SpoolState) (from most : ℕ) (result : Result (Vec Numbered) PendFault) (old new : View) : Type 0 where
  pub pends : Pends s from most result
  pub reached : IsIn s [] new
  pub any_moment : LeavesOnly old.moment.image old.moment new.moment

pub sure_pends : (s : SpoolState) (from most : ℕ) (result : Result (Vec Numbered) PendFault) (old new : View) → IsIn s [] old → PendsFrom s [] from most result old new → Reads s from most result old new
sure_pends s from most result old new held (inl stays) = absurd (omega (arith, held.doubtful.0 stays.2.in_doubt))
sure_pends s from most result old new held (inr goes) =
    let here : Reads goes.0 from most result old new =
    record { pends = goes.1; reached = goes.2.reached; any_moment = weaker _ old.moment.image old.moment new.moment goes.2.any_moment (λ c o. elim o [ inl image ↦ image | inr midway ↦ absurd midway ]) } in
    subst (λ (t : SpoolState). Reads t from most result old new) goes.2.one here

-- a take
pub record Stores (t : SpoolState) (group : List Entry) (result : Result Receipt TakeFault) (old new : View) : Type 0 where
  pub takes : Takes t group result
  pub reached : IsIn (after_take t group result) (take_doubt t group result) new
  pub any_moment : LeavesStages t (take_stages t group result) old.moment new.moment

pub sure_takes : (t : SpoolState) (group : List Entry) (result : Result Receipt TakeFault) (old new : View) → IsIn t [] old → TakesFrom t [] group result old new → Stores t group result old new
sure_takes t group result old new held (inl stays) = absurd (omega (arith, held.doubtful.0 stays.2.in_doubt))
sure_takes t group result old new held (inr goes) =
    let here : Stores goes.0 group result old new = record { takes = goes.1; reached = goes.2.reached; any_moment = goes.2.any_moment } in
    subst (λ (u : SpoolState). Stores u group result old new) goes.2.one here

-- a mark
pub record MarksNow (s : SpoolState) (more : List Stretch) (result : Result Unit ConfirmFault) (old new : View) : Type 0 where
  pub marks : Marks s more result
  pub reached : IsIn (after_mark s more result) (mark_doubt s more result) new
  pub any_moment : LeavesStages s (mark_stages s more result) old.moment new.moment

pub sure_marks : (s : SpoolState) (more : List Stretch) (result : Result Unit ConfirmFault) (old new : View) → IsIn s [] old → MarksFrom s [] more result old new → MarksNow s more result old new
sure_marks s more result old new held (inl stays) = absurd (omega (arith, held.doubtful.0 stays.2.in_doubt))
sure_marks s more result old new held (inr goes) =
    let here : MarksNow goes.0 more result old new = record { marks = goes.1; reached = goes.2.reached; any_moment = goes.2.any_moment } in
    subst (λ (u : SpoolState). MarksNow u more result old new) goes.2.one here
