-- Entries read where mending led.
use Rattle.std.proofs.Common.{◌≡◌, ◌⊎◌, inl, ℕ, Bool, List, [], take}
use Rattle.std.specs.Prelude.{Result, Ok, Err, MatchResult}
use Rattle.std.specs.Global.{Vec}
use Rattle.spool_state.specs.SpoolState.{SpoolState}
use Rattle.spool_state.specs.Left.{left_from}
use Rattle.spool_state.proofs.Following.{follows_self}
use Rattle.edge_disk.specs.Disk.{Moment, IsLawful, IsUntouched}
use Rattle.edge_disk.proofs.Moments.{untouched_run}
use Rattle.spool_faults.specs.declared.fault.PendFault.{PendFault}
use Rattle.spool_answers.specs.declared.numbered.Numbered.{Numbered}
use Rattle.spool_log.specs.declared.memory.Memory.{Memory}
use Rattle.spool_log.specs.Knows.{Knows, IsStored}
use Rattle.spool_log.specs.State.{KnowsDevice, View, view, IsIn}
use Rattle.spool_answers.specs.Stages.{IsMidway}
use Rattle.spool_log.specs.Outcome.{IsMended, GoesOn}
use Rattle.spool_answers.specs.Pend.{IsNotBroken, Pends, given_entries}
use Rattle.spool_log.proofs.Going.{goes_on}
use Rattle.spool_log.proofs.Stored.{stored_of, none_follow}

pends_of : (s : SpoolState) (from most : ℕ) (r : Result (Vec Numbered) PendFault) → MatchResult r (λ given. given_entries given.items ≡ take most (left_from s from)) IsNotBroken → Pends s from most r
pends_of s from most (Ok given) h = h
pends_of s from most (Err fault) h = h

-- the device is read, and nothing changes but where the reading ended
still_in : (m : SpoolState) (known after : Memory) (d : Bool) (mid new : Moment) → IsIn m [] (view known d mid) → Knows m after → IsUntouched mid new → IsIn m [] (view after d new)
still_in m known after d mid new held knows read = record {
  sound = held.sound;
  knows = knows;
  each = λ c image. held.each c (read.images c image);
  follow = held.follow;
  doubtful = held.doubtful;
}

pub reads_on : (s : SpoolState) (doubt : List SpoolState) (m : SpoolState) (from most : ℕ) (r : Result (Vec Numbered) PendFault) (old : View) (memory after : Memory) (d : Bool) (mid new : Moment)
    → IsMended s doubt m old (view memory d mid) → IsLawful mid → KnowsDevice memory mid.reads → IsUntouched mid new
    → ((t : SpoolState) → IsStored t memory mid.reads → MatchResult r (λ given. given_entries given.items ≡ take most (left_from t from)) IsNotBroken × Knows t after)
    → Pends m from most r × GoesOn s doubt m [] m [] old (view after d new)
reads_on s doubt m from most r old memory after d mid new mended lawful stored read reads =
    let reached = mended.reached in
    let both = reads m (stored_of m memory d mid reached lawful stored) in (
      pends_of m from most r both.0,
      goes_on s doubt m [] m [] old (view memory d mid) (view after d new) mended (follows_self m reached.sound.from_base) (none_follow m) (still_in m memory after d mid new reached both.1 read)
          (untouched_run (λ c. mid.image c ⊎ IsMidway m [] c) mid new lawful (λ c image. inl image) read),
    )
