-- One entry taken outside doubt.
use Rattle.std.proofs.Common.{◌⊎◌, inl, inr, [], ◌∷◌, Ok, Err}
use Rattle.event_form.specs.declared.event.Entry.{Entry}
use Rattle.edge_disk.specs.Disk.{LeavesOnly}
use Rattle.edge_disk.proofs.Moments.{weaker}
use Rattle.spool_state.specs.SpoolState.{SpoolState}
use Rattle.spool_answers.specs.declared.receipt.Receipt.{Receipt}
use Rattle.spool_faults.specs.declared.fault.TakeFault.{TakeFault}
use Rattle.spool_faults.specs.declared.fault.TakeFault.TheVariants as Take
use Rattle.spool_answers.specs.Stages.{group_stages}
use Rattle.spool_log.specs.Outcome.{TakesFrom}
use Rattle.spool_log.specs.State.{View, IsIn, LeavesStages}
use Rattle.desk_access.proofs.Stages.{group_some}
use Rattle.spool_move.specs.Stands.{HasTaken}
use Rattle.spool_move.specs.Walking.{IsTaking, TakesOne}
use Rattle.spool_move.proofs.Growing.{taken_none, group_steps, midway_stands}
use Rattle.spool_move.proofs.Outside.{Stores, sure_takes}

module _ (t : SpoolState) (e : Entry) (old new : View) (held : IsIn t [] old) where
  taking : LeavesStages t (group_stages t (e ∷ [])) old.moment new.moment → LeavesOnly (IsTaking t (e ∷ [])) old.moment new.moment
  taking run =
      let still = taken_none t held.sound.from_base in
      weaker _ (IsTaking t (e ∷ [])) old.moment new.moment run
      (λ c o. elim o [
        | inl image ↦ (t, held.each c image, inl still)
        | inr midway ↦ midway_stands (λ v. HasTaken t [] v ⊎ HasTaken t (e ∷ []) v) t (group_stages t (e ∷ [])) c (inl still) (group_steps t (e ∷ []) held.sound).each midway
      ])

  -- nothing was written
  idle : LeavesStages t [] old.moment new.moment → LeavesOnly (IsTaking t (e ∷ [])) old.moment new.moment
  idle run =
      weaker _ (IsTaking t (e ∷ [])) old.moment new.moment run
      (λ c o. elim o [ inl image ↦ (t, held.each c image, inl (taken_none t held.sound.from_base)) | inr midway ↦ absurd midway ])

  pub takes_ok : (receipt : Receipt) → TakesFrom t [] (e ∷ []) (Ok receipt) old new → TakesOne t e (Ok tt) old new
  takes_ok receipt from =
      let stores = sure_takes t (e ∷ []) (Ok receipt) old new held from in
      let some = group_some t (e ∷ []) held.sound stores.takes.0.place in
      record { taken = (_, stores.reached, (group_steps t (e ∷ []) held.sound).last some); any_moment = taking stores.any_moment }

  takes_err : (fault : TakeFault) → Stores t (e ∷ []) (Err fault) old new → TakesOne t e (Err fault) old new
  takes_err (Take.TooLarge need most) stores = record { taken = (stores.takes, stores.reached); any_moment = idle stores.any_moment }
  takes_err (Take.Spent at) stores = record { taken = (stores.takes, stores.reached); any_moment = idle stores.any_moment }
  takes_err (Take.Full need free) stores = record { taken = (stores.takes, stores.reached); any_moment = idle stores.any_moment }
  takes_err (Take.NotSpool at) stores = absurd stores.takes
  takes_err Take.NoMemory stores = absurd stores.takes
  takes_err Take.DiskFault stores = record { taken = (stores.takes, (group_stages t (e ∷ []), stores.reached)); any_moment = taking stores.any_moment }

  pub takes_refused : (fault : TakeFault) → TakesFrom t [] (e ∷ []) (Err fault) old new → TakesOne t e (Err fault) old new
  takes_refused fault from = takes_err fault (sure_takes t (e ∷ []) (Err fault) old new held from)
