-- A call that goes on where mending led.
use Rattle.std.proofs.Common.{◌≡◌, ◌⊎◌, inl, inr, List, [], get_or, sym, subst}
use Rattle.spool_state.specs.SpoolState.{SpoolState, Follows}
use Rattle.spool_state.proofs.Following.{follows_then}
use Rattle.edge_disk.proofs.Moments.{weaker, both}
use Rattle.spool_log.specs.State.{View, IsIn, LeavesStages}
use Rattle.spool_answers.specs.Stages.{last_of, IsMidway, AllFollow}
use Rattle.spool_log.specs.Outcome.{IsMended, GoesOn}
use Rattle.spool_log.proofs.Stored.{none_follow}

-- a change after it
pub goes_on : (s : SpoolState) (doubt : List SpoolState) (m : SpoolState) (stages : List SpoolState) (after : SpoolState) (later : List SpoolState) (old mid new : View)
    → IsMended s doubt m old mid → Follows m after → AllFollow m stages → IsIn after later new → LeavesStages m stages mid.moment new.moment → GoesOn s doubt m stages after later old new
goes_on s doubt m stages after later old mid new mended follows each reached run = record {
  one = mended.one;
  follows = follows_then s m after mended.follows follows;
  stages_follow = λ k d lt. follows_then s m (get_or stages k d) mended.follows (each k d lt);
  reached = reached;
  any_moment = both old.moment.image (λ c. mid.moment.image c ⊎ IsMidway m stages c) (λ c. old.moment.image c ⊎ IsMidway m stages c) old.moment mid.moment new.moment mended.any_moment run (λ c h. inl h)
      (λ c h. elim h [ inl image ↦ inl (mended.any_moment.now c image) | inr midway ↦ inr midway ]);
}

-- nothing after it
pub goes_nowhere : (s : SpoolState) (doubt : List SpoolState) (m : SpoolState) (stages : List SpoolState) (old new : View) → stages ≡ [] → IsMended s doubt m old new → GoesOn s doubt m stages (last_of m stages) [] old new
goes_nowhere s doubt m stages old new none mended = record {
  one = mended.one;
  follows = subst (λ (l : List SpoolState). Follows s (last_of m l)) (sym none) mended.follows;
  stages_follow = subst (AllFollow s) (sym none) (none_follow s);
  reached = subst (λ (l : List SpoolState). IsIn (last_of m l) [] new) (sym none) mended.reached;
  any_moment = weaker old.moment.image (λ c. old.moment.image c ⊎ IsMidway m stages c) old.moment new.moment mended.any_moment (λ c h. inl h);
}
