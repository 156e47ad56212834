-- What a peer has received is so of the device from which the spool was opened.
use Rattle.std.proofs.Common.{◌≡◌, ◌⊎◌, inl, inr, ℕ, List, [], subst}
use Rattle.std.specs.Prelude.{Bool, false}
use Rattle.edge_disk.specs.Disk.{Moment, LeavesOnly}
use Rattle.edge_disk.proofs.Moments.{both}
use Rattle.spool_state.specs.SpoolState.{SpoolState}
use Rattle.spool_log.specs.declared.memory.Memory.{Memory}
use Rattle.spool_log.specs.declared.opening.Opening.TheVariants.{Keep}
use Rattle.spool_log.specs.Opening.{Opens}
use Rattle.spool_log.specs.State.{view, IsIn}
use Rattle.desk_access.specs.Call.{Call}
use Rattle.desk_access.specs.Desk.{Stood}
use Rattle.forward_core.specs.Received.{IsReceived}
use Rattle.forward_core.specs.declared.outward.Outward.{Outward}
use Rattle.bridge_parts.specs.Opened.{desk_in}
use Rattle.commands.specs.Released.{IsDrainedFrom, DrainsFrom, MayRelease, MayMark}

-- the calls were made on the spool that the device stood for
drained_from : (tells same : Type 0) (old mid new : Moment) (memory : Memory) (doubt : Bool)
    → (tells → (s : SpoolState) × Opens Keep s old.reads (view memory doubt mid)) → (tells → LeavesOnly old.image old mid) → doubt ≡ false
    → (start : ℕ) (calls : List Call)
    → DrainsFrom (record { memory = memory; disk = record { tells = tells; old = mid; new = new; same = same } }) start calls
    → tells → IsDrainedFrom old new start calls
drained_from tells same old mid new memory doubt opens first sure start calls drains told =
    let found = opens told in
    let s = found.0 in
    let did = drains s told (subst (λ (b : Bool). IsIn s [] (view memory b mid)) sure found.1.reached) in
    let keeps = did.1 in record {
      state = s;
      stood = found.1.stood;
      start_is = did.0;
      reached = keeps.reached;
      any_moment = both old.image (Stood (desk_in s) keeps.reached.records) (λ c. old.image c ⊎ Stood (desk_in s) keeps.reached.records c) old mid new
          (first told) keeps.any_moment (λ c o. inl o) (λ c o. inr o);
    }

-- so the leave over the device is that over the spool
pub may_mark : {D : Type 0} (tells : Type 0) (moment : D → Moment) (given opened : D) (memory : Memory) (doubt : Bool) (outward : Outward)
    (Exchanged : List ℕ → List ℕ → Type 0) (Release : ℕ → Type 0)
    → (tells → (s : SpoolState) × Opens Keep s (moment given).reads (view memory doubt (moment opened)))
    → (tells → LeavesOnly (moment given).image (moment given) (moment opened)) → doubt ≡ false
    → MayRelease tells moment given outward Exchanged Release
    → MayMark (λ (now : D). record { memory = memory; disk = record { tells = tells; old = moment opened; new = moment now; same = now ≡ opened } })
    outward Exchanged Release
may_mark tells moment given opened memory doubt outward Exchanged Release opens first sure may disk n received = may disk n (record {
  start = received.start;
  until = received.until;
  bytes = received.bytes;
  calls = received.calls;
  text = received.text;
  exchanged = received.exchanged;
  made = drained_from tells (disk ≡ opened) (moment given) (moment opened) (moment disk) memory doubt opens first sure received.start received.calls
      received.made;
  acknowledged = received.acknowledged;
})

-- and over what is exchanged otherwise
pub received_as : (outward : Outward) (Exchanged Also : List ℕ → List ℕ → Type 0) (Made : ℕ → List Call → Type 0) (n : ℕ)
    → ((bytes text : List ℕ) → Exchanged bytes text → Also bytes text) → IsReceived outward Exchanged Made n → IsReceived outward Also Made n
received_as outward Exchanged Also Made n also received = record {
  start = received.start;
  until = received.until;
  bytes = received.bytes;
  calls = received.calls;
  text = received.text;
  exchanged = also received.bytes received.text received.exchanged;
  made = received.made;
  acknowledged = received.acknowledged;
}
