-- A run from its beginning: both spools are mended, and the target's entries read.
use Rattle.std.proofs.Common.{◌≡◌, inl, inr, ℕ, Bool, false, List, [], Err, refl, arith}
use Rattle.std.specs.BTreeSet.{BTreeSet}
use Rattle.std.proofs.Math.Logic.{∥∥₁_prop, ∥∥₁_elim}
use Rattle.edge_disk.specs.Disk.{Moment, IsSettled, LeavesOnly}
use Rattle.spool_state.specs.SpoolState.{SpoolState}
use Rattle.spool_state.specs.Left.{left}
use Rattle.spool_state.proofs.Following.{follows_self}
use Rattle.spool_answers.specs.Stages.{IsOneOf}
use Rattle.spool_log.specs.declared.memory.Memory.{Memory}
use Rattle.spool_log.specs.State.{View, view, IsIn, KnowsDevice}
use Rattle.spool_move.specs.declared.fault.MoveFault.{MoveFault}
use Rattle.spool_move.specs.declared.fault.MoveFault.TheVariants.{Strange, TooLarge, Spent, Full, Worn, NotSpool, SourceFault, TargetFault, NoMemory}
use Rattle.spool_move.specs.Stands.{IsMoving}
use Rattle.spool_move.specs.Turns.{LeavesBoth}
use Rattle.spool_move.specs.Moves.{Moves, Stops, IsAnyMoment}
use Rattle.spool_move.specs.Reading.{IsSearched, FindsFault}
use Rattle.spool_move.specs.Walking.{IsOnCourse}
use Rattle.spool_move.proofs.Growing.{taken_none}
use Rattle.spool_move.proofs.Standing.{is_in}
use Rattle.spool_move.proofs.Turning.{both_then, source_turn, target_turn}

-- before the first page
pub at_start : (tag : ℕ) (m u : SpoolState) (present : BTreeSet ℕ) (v w : View) → IsSearched tag m (left u) present → IsIn m [] v → IsIn u [] w → IsOnCourse tag m u present (record { upto = 0; taken = 0 }) v w
at_start tag m u present v w searched held held' = record {
  walked = 0;
  pages = inl (0, refl);
  reaches = record {
    s = m;
    t = u;
    source = held;
    target = held';
    stands = record {
      within = omega arith;
      behind = omega arith;
      soon = omega arith;
      paged = inl (inl (0, refl));
      sure = λ some. absurd (omega arith);
      source = record { base_same = refl; list_same = refl; run_same = refl; follows = follows_self m held.sound.from_base; left_is = refl };
      target = taken_none u held'.sound.from_base;
    };
  };
  searched = searched;
  known = omega arith;
  taken_is = refl;
}

-- outside doubt the spool is in some state
pub some_state : (memory : Memory) (doubt : Bool) (m : Moment) → doubt ≡ false → IsSettled m → KnowsDevice memory m.reads → ∥ ((s : SpoolState) × IsIn s [] (view memory doubt m)) ∥₁
some_state memory doubt m sure settled knows = ∥∥₁_elim knows ∥∥₁_prop (λ x. ∣ (x.0, is_in x.0 memory doubt m x.1 settled sure) ∣₁)

-- the target's reading ended otherwise
pub unread_moves : (tag : ℕ) (m u : SpoolState) (fault : MoveFault) (v w : View) → FindsFault tag m (left u) fault → IsIn m [] v → IsIn u [] w → Moves tag m u (Err fault) v w
unread_moves tag m u fault v w finds held held' = by fault finds
  where
    stops : Stops tag m u v w
    stops = record {
      s = m;
      t = u;
      source_doubt = [];
      target_doubt = [];
      walked = 0;
      given = 0;
      source = held;
      target = held';
      stands = record {
        within = omega arith;
        behind = omega arith;
        soon = omega arith;
        paged = inl (inl (0, refl));
        sure = λ some. absurd (omega arith);
        source = record { base_same = refl; list_same = refl; run_same = refl; follows = follows_self m held.sound.from_base; left_is = refl };
        target = taken_none u held'.sound.from_base;
      };
    }

    by : (f : MoveFault) → FindsFault tag m (left u) f → Moves tag m u (Err f) v w
    by (Strange n) first = record { first = first; source = held; target = held' }
    by (TooLarge need most) is = absurd is
    by (Spent at) is = absurd is
    by (Full need free) is = absurd is
    by (Worn ordinal) is = absurd is
    by (NotSpool at) is = absurd is
    by SourceFault is = stops
    by TargetFault is = stops
    by NoMemory is = stops

-- ---- what a crash leaves meanwhile

module _ {D E : Type 0} (on : D → Moment) (onto : E → Moment) (tag : ℕ) (s : SpoolState) (source_doubt : List SpoolState) (t : SpoolState) (target_doubt : List SpoolState) (a a1 : D) (b b1 : E) (read : LeavesOnly (on a).image (on a) (on a1)) where
  -- the source alone was read
  pub source_read : LeavesBoth on onto (IsAnyMoment tag s source_doubt t target_doubt (on a) (onto b)) a b a1 b
  source_read = source_turn on onto (IsAnyMoment tag s source_doubt t target_doubt (on a) (onto b)) (on a).image a a1 b read (λ c d i i'. inl (i, i'))

  -- both were read
  pub both_read : LeavesOnly (onto b).image (onto b) (onto b1) → LeavesBoth on onto (IsAnyMoment tag s source_doubt t target_doubt (on a) (onto b)) a b a1 b1
  both_read read' =
      let P = IsAnyMoment tag s source_doubt t target_doubt (on a) (onto b) in
      both_then on onto P P P a a1 a1 b b b1 source_read
      (target_turn on onto P (onto b).image a1 b b1 read' (λ c d i i'. inl (read.now c i, i'))) (λ c d h. h) (λ c d h. h)

  -- and then the source's entries were moved
  pub read_moved : (m u : SpoolState) (a2 : D) (b2 : E) → IsOneOf s source_doubt m → IsOneOf t target_doubt u → LeavesOnly (onto b).image (onto b) (onto b1) → LeavesBoth on onto (IsMoving tag m u) a1 b1 a2 b2
      → LeavesBoth on onto (IsAnyMoment tag s source_doubt t target_doubt (on a) (onto b)) a b a2 b2
  read_moved m u a2 b2 one other read' moving =
      let P = IsAnyMoment tag s source_doubt t target_doubt (on a) (onto b) in
      both_then on onto P (IsMoving tag m u) P a a1 a2 b b1 b2 (both_read read') moving (λ c d h. h) (λ c d h. inr (m, u, one, other, h))
