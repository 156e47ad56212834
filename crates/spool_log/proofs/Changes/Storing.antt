-- What a take outside doubt leads to.
use Rattle.std.proofs.Common.{Bool, ◌≡◌, ◌<◌, List, [], length, sym, subst}
use Rattle.std.specs.Prelude.{Ok, Err}
use Rattle.event_form.specs.declared.event.Entry.{Entry}
use Rattle.spool_state.specs.SpoolState.{SpoolState}
use Rattle.spool_state.proofs.Following.{follows_self}
use Rattle.edge_disk.specs.Disk.{Moment, IsLawful, LeavesOnly}
use Rattle.spool_answers.specs.declared.receipt.Receipt.{Receipt}
use Rattle.spool_faults.specs.declared.fault.TakeFault.{TakeFault}
use Rattle.spool_faults.specs.declared.fault.TakeFault.TheVariants.{TooLarge, Spent, Full, NotSpool, NoMemory, DiskFault}
use Rattle.spool_log.specs.declared.memory.Memory.{Memory}
use Rattle.spool_log.specs.State.{View, view, IsIn, LeavesStages}
use Rattle.spool_answers.specs.Stages.{last_of, group_stages, StandsForOne}
use Rattle.spool_log.specs.Changing.Take.{StoresTo}
use Rattle.spool_answers.specs.Take.{IsRefusal}
use Rattle.spool_log.proofs.Stored.{last_follows, none_follow, leaves_stages, leaves_same}
use Rattle.spool_answers.proofs.Adding.{adding_follow}

-- a group that was refused
refused_by : (s : SpoolState) (group : List Entry) (fault : TakeFault) (v : View) → IsRefusal fault → IsIn s [] v → LeavesStages s [] v.moment v.moment → StoresTo s group (Err fault) v v
refused_by s group (TooLarge need most) v is held run = record { follows = follows_self s held.sound.from_base; stages_follow = none_follow s; reached = held; any_moment = run }
refused_by s group (Spent at) v is held run = record { follows = follows_self s held.sound.from_base; stages_follow = none_follow s; reached = held; any_moment = run }
refused_by s group (Full need free) v is held run = record { follows = follows_self s held.sound.from_base; stages_follow = none_follow s; reached = held; any_moment = run }
refused_by s group (NotSpool at) v is held run = absurd is
refused_by s group NoMemory v is held run = absurd is
refused_by s group DiskFault v is held run = absurd is

pub refused : (s : SpoolState) (group : List Entry) (fault : TakeFault) (known : Memory) (d : Bool) (m : Moment) → IsLawful m → IsRefusal fault → IsIn s [] (view known d m) → StoresTo s group (Err fault) (view known d m) (view known d m)
refused s group fault known d m lawful is held = refused_by s group fault (view known d m) is held (leaves_same s m lawful)

-- the disk failed
pub failed : (s : SpoolState) (group : List Entry) (stages : List SpoolState) (old new : View) → group_stages s group ≡ stages → 0 < length stages → IsIn s [] old → IsIn s stages new → LeavesOnly (StandsForOne s stages) old.moment new.moment → StoresTo s group (Err DiskFault) old new
failed s group stages old new is some held reached run = record {
  follows = follows_self s held.sound.from_base;
  stages_follow = adding_follow s group held.sound;
  reached = subst (λ (l : List SpoolState). IsIn s l new) (sym is) reached;
  any_moment = subst (λ (l : List SpoolState). LeavesStages s l old.moment new.moment) (sym is) (leaves_stages s stages old.moment new.moment some run);
}

-- the group is stored
pub done : (s : SpoolState) (group : List Entry) (stages : List SpoolState) (receipt : Receipt) (old new : View) → group_stages s group ≡ stages → 0 < length stages → IsIn s [] old → IsIn (last_of s stages) [] new → LeavesOnly (StandsForOne s stages) old.moment new.moment → StoresTo s group (Ok receipt) old new
done s group stages receipt old new is some held reached run = record {
  follows = last_follows s (group_stages s group) (follows_self s held.sound.from_base) (adding_follow s group held.sound);
  stages_follow = adding_follow s group held.sound;
  reached = subst (λ (l : List SpoolState). IsIn (last_of s l) [] new) (sym is) reached;
  any_moment = subst (λ (l : List SpoolState). LeavesStages s l old.moment new.moment) (sym is) (leaves_stages s stages old.moment new.moment some run);
}
