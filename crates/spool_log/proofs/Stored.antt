-- A state in memory and on a disk, outside doubt and in doubt.
use Rattle.std.proofs.Common.{◌≡◌, ◌⊎◌, inl, inr, ℕ, suc, ◌<◌, Bool, true, false, List, [], ◌∷◌, length, refl, sym, subst, arith}
use Rattle.std.proofs.Math.Logic.{∥∥₁_elim}
use Rattle.std.proofs.Props.{props}
use Rattle.std.proofs.lemmas.Bool.{cases_Bool}
use Rattle.spool_state.specs.SpoolState.{SpoolState, Follows}
use Rattle.spool_state.specs.Image.{StandsFor}
use Rattle.edge_disk.specs.Disk.{Moment, IsLawful, IsSettled, LeavesOnly}
use Rattle.edge_disk.proofs.Moments.{started, started_settled, weaker}
use Rattle.disk_cell.specs.Cell.{place_of, other_of}
use Rattle.disk_cell.specs.Register as Cells
use Rattle.disk_cell.specs.declared.register.Register.{Register}
use Rattle.spool_log.specs.declared.memory.Memory.{Memory}
use Rattle.spool_log.specs.Knows.{Knows, IsStored}
use Rattle.spool_log.specs.State.{KnowsDevice, view, IsIn, LeavesStages}
use Rattle.spool_answers.specs.Stages.{last_of, StandsForOne, IsMidway, AllFollow}
use Rattle.spool_log.proofs.Numbers.{no_proof}

-- which cell counts, from a proof that there is one
pub register_known : (r : Register) (c : List ℕ) → ∥ Cells.Knows r c ∥₁ → Cells.Knows r c
register_known r c some =
    let other = place_of (other_of r.counting) in
    record {
      counts = record {
        holds = ∥∥₁_elim some (hlevel props) (λ k. k.counts.holds);
        other_less = elim (cases_Bool r.other_is_open) [
          | inl is_open ↦ inr (∥∥₁_elim some (hlevel props) (λ k. elim k.counts.other_less [ inl closed ↦ absurd (closed (k.other_open.0 is_open)) | inr less ↦ less ]))
          | inr is_closed ↦ inl (λ one. no_proof some (λ k. absurd (cc (is_closed, k.other_open.1 one))))
        ];
      };
      other_open = ((λ t. ∥∥₁_elim some (hlevel props) (λ k. k.other_open.0 t)), (λ o. ∥∥₁_elim some (hlevel props) (λ k. k.other_open.1 o)));
    }

-- Outside doubt, the state is what the device stands for.
pub stored_of : (s : SpoolState) (known : Memory) (d : Bool) (m : Moment) → IsIn s [] (view known d m) → IsLawful m → KnowsDevice known m.reads → IsStored s known m.reads
stored_of s known d m held lawful some = record {
  stands = held.each m.reads lawful.reads_image;
  knows = held.knows;
  register = register_known known.register m.reads (∥∥₁_elim some (hlevel props) (λ p. ∣ p.1.register ∣₁));
}

pub none_follow : (s : SpoolState) → AllFollow s []
none_follow s = λ k d lt. absurd (omega arith)

-- What the settled device stands for, and memory knows, is the state.
pub in_stored : (s : SpoolState) (known : Memory) (m : Moment) → IsSettled m → IsStored s known m.reads → IsIn s [] (view known false m)
in_stored s known m settled stored = record {
  sound = stored.stands.sound;
  knows = stored.knows;
  each = λ c image. subst (StandsFor s) (sym (settled.only c image)) stored.stands;
  follow = none_follow s;
  doubtful = ((λ e. absurd (cc (e))), (λ lt. absurd (omega arith)));
}

-- after a change that failed on the way
pub in_doubt : (s : SpoolState) (stages : List SpoolState) (known new_known : Memory) (m new : Moment) → IsStored s known m.reads → new_known ≡ known → LeavesOnly (StandsForOne s stages) m new → AllFollow s stages → 0 < length stages → IsIn s stages (view new_known true new)
in_doubt s stages known new_known m new stored same run follow some = record {
  sound = stored.stands.sound;
  knows = subst (Knows s) (sym same) stored.knows;
  each = run.now;
  follow = follow;
  doubtful = ((λ e. some), (λ lt. refl));
}

-- a state of which each stage follows is followed by the last
last_by : (s t : SpoolState) (stages : List SpoolState) → Follows s t → AllFollow s stages → Follows s (last_of t stages)
last_by s t [] here all = here
last_by s t (stage ∷ stages) here all = last_by s stage stages (all 0 stage (omega arith)) (λ k d lt. all (suc k) d (omega arith))

pub last_follows : (s : SpoolState) (stages : List SpoolState) → Follows s s → AllFollow s stages → Follows s (last_of s stages)
last_follows s stages here all = last_by s s stages here all

-- where nothing was done
pub stays : (s : SpoolState) (stages : List SpoolState) (m : Moment) → IsLawful m → IsSettled m → StandsFor s m.reads → LeavesOnly (StandsForOne s stages) m m
stays s [] m lawful settled here = started_settled (StandsForOne s []) m lawful settled here
stays s (stage ∷ stages) m lawful settled here = started_settled (StandsForOne s (stage ∷ stages)) m lawful settled (inl here)

-- a change that has a stage leaves no more than its stages
midway_of : (s : SpoolState) (stages : List SpoolState) (c : List ℕ) → 0 < length stages → StandsForOne s stages c → IsMidway s stages c
midway_of s [] c some h = absurd (omega arith)
midway_of s (stage ∷ stages) c some h = h

pub leaves_stages : (s : SpoolState) (stages : List SpoolState) (old new : Moment) → 0 < length stages → LeavesOnly (StandsForOne s stages) old new → LeavesStages s stages old new
leaves_stages s stages old new some run = weaker (StandsForOne s stages) (λ c. old.image c ⊎ IsMidway s stages c) old new run (λ c h. inr (midway_of s stages c some h))

-- no change
pub leaves_same : (s : SpoolState) (m : Moment) → IsLawful m → LeavesStages s [] m m
leaves_same s m lawful = started (λ c. m.image c ⊎ IsMidway s [] c) m lawful (λ c image. inl image)
