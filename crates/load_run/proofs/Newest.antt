-- The spool of a load, as it is made.
use Rattle.std.proofs.Common.{◌≡◌, ℕ, List, [], refl, subst, arith}
use Rattle.spool_state.specs.Empty.{empty_state}
use Rattle.spool_state.specs.Image.{StandsFor}
use Rattle.spool_state.specs.SpoolState.{SpoolState}
use Rattle.spool_state.proofs.Laws.{one_state}
use Rattle.spool_log.specs.declared.fault.RecoverFault.{RecoverFault}
use Rattle.spool_log.specs.declared.fault.RecoverFault.TheVariants.{NotSpool, RunsSpent, Worn, DiskFault, NoMemory}
use Rattle.spool_log.specs.declared.opening.Opening.TheVariants.{Raise}
use Rattle.spool_log.specs.Opening.{Opens, Refuses, opened}
use Rattle.spool_log.specs.State.{View, IsIn}
use Rattle.load_run.specs.Load.{new_spool}

-- a device that was just made is opened in the one state
pub opens_new : (s : SpoolState) (device : List ℕ) (v : View) → StandsFor (empty_state 8 4194304) device → Opens Raise s device v → IsIn new_spool [] v
opens_new s device v stands o = subst (λ (t : SpoolState). IsIn (opened Raise t) [] v) (one_state s (empty_state 8 4194304) device o.stood stands) o.reached

-- and is refused for want of memory alone
pub only_memory : (fault : RecoverFault) → Refuses Raise (empty_state 8 4194304) fault → (fault ≡ DiskFault → ⊥) → fault ≡ NoMemory
only_memory (NotSpool at) r sure = absurd r
only_memory (RunsSpent run) r sure = absurd (omega (arith, r.2))
only_memory (Worn ordinal) r sure = absurd (omega (arith, r.3))
only_memory DiskFault r sure = absurd (sure refl)
only_memory NoMemory r sure = refl
