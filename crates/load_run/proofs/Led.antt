-- Where calls of a desk's only caller lead, over a disk of which no call fails.
use Rattle.std.proofs.Common.{◌≡◌, ℕ, ◌≤◌, List, [], sym, ◌∙◌, ap, subst, arith}
use Rattle.std.proofs.lemmas.Grind.{common_steps}
use Rattle.foundation.specs.Faults.{Rose}
use Rattle.spool_state.specs.SpoolState.{SpoolState}
use Rattle.hec_ids.specs.Table.{Table}
use Rattle.hec_ids.specs.Rows.{opened}
use Rattle.spool_desk.specs.Alone.{AloneView, IsAt, Ran}
use Rattle.desk_access.specs.Call.{Call, failures_of}
use Rattle.desk_access.specs.Desk.{DeskState, desk_of}
use Rattle.desk_access.specs.Journal.{failed_by}
use Rattle.spool_desk.specs.Standing.{standing_in}
use Rattle.spool_desk.proofs.Leading.{standing_known}
use Rattle.load_run.specs.Runs.{LeadsTo, desk_in}

-- a count that stands at 0 rose by nothing
pub none_rose : (n a b : ℕ) → a ≡ 0 → b ≡ 0 → Rose n a b → n ≡ 0
none_rose n a b p q rose = grind (arith, common_steps)

-- no call was answered that the disk failed
pub none_failed : (tells : Type 0) (old new : AloneView) (calls : List Call) → old.spool.moment.faults ≡ 0 → new.spool.moment.faults ≡ 0 → Ran tells old calls new → failures_of calls ≡ 0
none_failed tells old new calls first last ran =
    sym (failed_by 0 calls ran.records ran.by) ∙ none_rose _ old.spool.moment.faults new.spool.moment.faults first last ran.runs.cause

-- the calls led to a state, and none was answered that the disk failed
pub leads_to : (x : DeskState) (old new : AloneView) (calls : List Call) → old.spool.moment.faults ≡ 0 → new.spool.moment.faults ≡ 0 → IsAt x old → Ran (Unit {0}) old calls new → LeadsTo x calls new
leads_to x old new calls first last at ran =
    let led = ran.runs.leads x tt at in record {
      after = led.after;
      leads = record { records = ran.records; by = ran.by; goes = led.goes };
      reached = led.reached;
      none_failed = none_failed (Unit {0}) old new calls first last ran;
    }

-- a desk whose ids are those of the spool's run, none issued
pub desk_at : (s : SpoolState) (ids : Table) (run : ℕ) (v : AloneView) → ids ≡ opened run 0 → run ≡ s.run → IsAt (desk_of s [] ids) v → IsAt (desk_in s) v
desk_at s ids run v none same at = subst (λ (t : Table). IsAt (desk_of s [] t) v) (none ∙ ap (λ (n : ℕ). opened n 0) same) at

-- the cursor that memory has is no more than the end
pub cursor_within : (x : DeskState) (v : AloneView) → IsAt x v → (standing_in v.spool.memory).cursor ≤ (standing_in v.spool.memory).end
cursor_within x v at =
    let known = standing_known x.spool x.doubt v.spool at.spool in
    omega (arith, ap (λ s. s.cursor) known, ap (λ s. s.end) known, at.spool.sound.to_end)
