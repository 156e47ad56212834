-- A doubt mended: the device is read, and what it stands for is the state or one of the stages.
use Rattle.std.proofs.Common.{◌≡◌, inl, inr, ℕ, suc, ◌<◌, Bool, true, false, List, [], ◌∷◌, length, refl, sym, ap, subst, arith, IsTrue, ◌↔◌}
use Rattle.std.specs.Prelude.{Result, Ok, Err, IsErrAnd}
use Rattle.spool_state.specs.SpoolState.{SpoolState, Follows}
use Rattle.spool_state.specs.Image.{StandsFor}
use Rattle.spool_state.proofs.Following.{follows_self}
use Rattle.spool_state.proofs.Laws.{one_state, stands_unbroken}
use Rattle.edge_disk.specs.Disk.{Moment, IsLawful, IsSettled, IsUntouched, LeavesOnly}
use Rattle.edge_disk.proofs.Moments.{started, untouched, untouched_run, still_settled}
use Rattle.spool_log.specs.declared.memory.Memory.{Memory}
use Rattle.spool_faults.specs.declared.fault.PendFault.{PendFault}
use Rattle.spool_faults.specs.declared.fault.PendFault.TheVariants.{NotSpool, DiskFault, NoMemory}
use Rattle.spool_log.specs.Reading.{IsReadFault, KnowsState}
use Rattle.spool_log.specs.Knows.{IsStored}
use Rattle.spool_log.specs.State.{View, view, IsIn}
use Rattle.spool_answers.specs.Stages.{IsOneOf, StandsForOne, AllFollow}
use Rattle.spool_log.specs.Outcome.{StaysInDoubt, IsMended}
use Rattle.spool_answers.specs.Pend.{IsNotBroken}
use Rattle.spool_log.proofs.Stored.{in_stored}

pub err_is : {T E : Type 0} (r : Result T E) (e : E) → IsErrAnd r (λ x. x ≡ e) → r ≡ Err e
err_is (Ok x) e h = absurd h
err_is (Err x) e h = ap Err h

-- the one for which the device stands
which_one : (s : SpoolState) (doubt : List SpoolState) (c : List ℕ) → StandsForOne s doubt c → (m : SpoolState) × IsOneOf s doubt m × StandsFor m c
which_one s [] c h = (s, refl, h)
which_one s (stage ∷ stages) c (inl h) = (s, inl refl, h)
which_one s (stage ∷ stages) c (inr h) = let one = which_one stage stages c h in (one.0, inr one.1, one.2)

one_by : (s t m : SpoolState) (doubt : List SpoolState) → Follows s t → AllFollow s doubt → IsOneOf t doubt m → Follows s m
one_by s t m [] here all is = subst (Follows s) (sym is) here
one_by s t m (stage ∷ stages) here all (inl is) = subst (Follows s) (sym is) here
one_by s t m (stage ∷ stages) here all (inr one) = one_by s stage m stages (all 0 stage (omega arith)) (λ k d lt. all (suc k) d (omega arith)) one

pub one_follows : (s m : SpoolState) (doubt : List SpoolState) (v : View) → IsIn s doubt v → IsOneOf s doubt m → Follows s m
one_follows s m doubt v held one = one_by s s m doubt (follows_self s held.sound.from_base) held.follow one

no_stage : (d : Bool) (doubt : List SpoolState) → d ≡ false → (IsTrue d ↔ (0 < length doubt)) → doubt ≡ []
no_stage d [] is h = refl
no_stage d (stage ∷ stages) is h = absurd (cc (is, h.1 (omega arith)))

pub no_doubt : (s : SpoolState) (doubt : List SpoolState) (known : Memory) (d : Bool) (m : Moment) → d ≡ false → IsIn s doubt (view known d m) → doubt ≡ []
no_doubt s doubt known d m is held = no_stage d doubt is held.doubtful

-- outside doubt
pub sure_mended : (s : SpoolState) (doubt : List SpoolState) (known : Memory) (d : Bool) (m : Moment) → IsLawful m → d ≡ false → IsIn s doubt (view known d m) → IsMended s doubt s (view known d m) (view known d m)
sure_mended s doubt known d m lawful is held =
    let none = no_doubt s doubt known d m is held in record {
      one = subst (λ (l : List SpoolState). IsOneOf s l s) (sym none) refl;
      follows = follows_self s held.sound.from_base;
      reached = subst (λ (l : List SpoolState). IsIn s l (view known d m)) none held;
      any_moment = started m.image m lawful (λ c image. image);
    }

-- a spool whose device is synced and read
module _ (s : SpoolState) (doubt : List SpoolState) (known : Memory) (d : Bool) (m : Moment) (lawful : IsLawful m) (held : IsIn s doubt (view known d m)) (mid : Moment) (synced : IsUntouched m mid) where
  one : (t : SpoolState) × IsOneOf s doubt t × StandsFor t mid.reads
  one = subst (λ (c : List ℕ). (t : SpoolState) × IsOneOf s doubt t × StandsFor t c) (sym synced.same) (which_one s doubt m.reads (held.each m.reads lawful.reads_image))

  module _ (new : Moment) (read : IsUntouched mid new) where
    pub mend_moments : LeavesOnly m.image m new
    mend_moments = untouched m.image m mid new (untouched_run m.image m mid lawful (λ c image. image) synced) read

    -- where nothing was found out
    pub mend_stays : IsIn s doubt (view known d new)
    mend_stays = record {
      sound = held.sound;
      knows = held.knows;
      each = λ c image. held.each c (synced.images c (read.images c image));
      follow = held.follow;
      doubtful = held.doubtful;
    }

    not_broken : (fault : PendFault) → IsReadFault mid.reads fault → IsNotBroken fault
    not_broken (NotSpool at) is = stands_unbroken one.0 mid.reads one.2 at is
    not_broken DiskFault is = tt
    not_broken NoMemory is = tt

    pub mend_fails : d ≡ true → (fault : PendFault) → IsReadFault mid.reads fault → StaysInDoubt s doubt fault (view known d m) (view known d new)
    mend_fails was fault is = record { in_doubt = was; why = not_broken fault is; stays = mend_stays; any_moment = mend_moments }

    -- where the device was read
    pub mend_finds : IsSettled mid → (found : Memory) → KnowsState mid.reads found → (t : SpoolState) × IsMended s doubt t (view known d m) (view found false new)
    mend_finds settled found state =
        let same : state.0 ≡ one.0 = one_state state.0 one.0 mid.reads state.1.stands one.2 in
        let stored : IsStored one.0 found new.reads = subst (IsStored one.0 found) (sym read.same) (subst (λ (t : SpoolState). IsStored t found mid.reads) same state.1) in (
          one.0,
          record {
            one = one.1;
            follows = one_follows s one.0 doubt (view known d m) held one.1;
            reached = in_stored one.0 found new (still_settled mid new settled read) stored;
            any_moment = mend_moments;
          },
        )
