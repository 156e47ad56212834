-- A call with the words of a move, as a run of that move.
use Rattle.std.proofs.Common.{◌≡◌, ◌⊎◌, inl, inr, ℕ, List, [], ◌∷◌, refl, sym, ◌∙◌, subst}
use Rattle.std.specs.Prelude.{Result, Ok, Err, IsOk}
use Rattle.edge_disk.specs.Disk.{Moment, LeavesOnly}
use Rattle.spool_state.specs.SpoolState.{SpoolState}
use Rattle.spool_state.specs.Image.{StandsFor}
use Rattle.spool_log.specs.declared.fault.RecoverFault.{RecoverFault}
use Rattle.spool_log.specs.declared.fault.RecoverFault.TheVariants as Recover
use Rattle.spool_log.specs.State.{view}
use Rattle.spool_move.specs.declared.fault.MoveFault.{MoveFault}
use Rattle.spool_move.specs.declared.fault.MoveFault.TheVariants as Fault
use Rattle.spool_move.specs.Moves.{Moves, IsAnyMoment}
use Rattle.spool_move.specs.Runs.{IsMoved}
use Rattle.spool_move.specs.Stands.{IsMoving}
use Rattle.spool_move.specs.Turns.Turn.{OfSource, OfTarget}
use Rattle.notes.specs.declared.note.Note.{Note}
use Rattle.bridge_parts.specs.Refused.{note_of_recover}
use Rattle.bridge_parts.specs.Run.{OutputRun}
use Rattle.bridge_move.specs.Ended.{note_of_move, IsTold}
use Rattle.bridge_move.specs.MoveRun as run
use Rattle.bridge_move.specs.Calls.{IsRunBy, EachCallIsRun}

closed_well : (fault : RecoverFault) → note_of_recover fault ≡ Note.Fine → ⊥
closed_well (Recover.NotSpool at) is = cc
closed_well (Recover.RunsSpent n) is = cc
closed_well (Recover.Worn ordinal) is = cc
closed_well Recover.DiskFault is = cc
closed_well Recover.NoMemory is = cc

moved_well : (fault : MoveFault) → note_of_move fault ≡ Note.Fine → ⊥
moved_well (Fault.Strange number) is = cc
moved_well (Fault.TooLarge need most) is = cc
moved_well (Fault.Spent at) is = cc
moved_well (Fault.Full need free) is = cc
moved_well (Fault.Worn ordinal) is = cc
moved_well (Fault.NotSpool at) is = cc
moved_well Fault.SourceFault is = cc
moved_well Fault.TargetFault is = cc
moved_well Fault.NoMemory is = cc

told_well : (result : Result ℕ MoveFault) (left_now : ℕ) (output : OutputRun) (note : Note) → IsTold result left_now output note → note ≡ Note.Fine → IsOk result
told_well (Ok count) left_now output note told well = refl
told_well (Err fault) left_now output note told well = absurd (moved_well fault (sym told.0 ∙ well))

module _ {D E : Type 0} (tells tells' : Type 0) (on : D → Moment) (onto : E → Moment) (tag : ℕ) (source source' : D) (target target' : E) (output : OutputRun) (note : Note)
    (s t : SpoolState) (stood : StandsFor s (on source).reads) (stood' : StandsFor t (onto target).reads) where
  none_done : (c d : List ℕ) → (count : ℕ) → ◌≡◌ {A = Result ℕ MoveFault} (Err Fault.NoMemory) (Ok count) → IsMoved tag s t c d
  none_done c d count is = absurd (cc)

  -- nothing was done
  left_alone : source' ≡ source → target' ≡ target → (note ≡ Note.Fine → ⊥) → IsRunBy (run.two_disks tells tells' on onto) tag (source, target) (source', target') note
  left_alone same same' ill = record {
    result = Err Fault.NoMemory;
    turns = [];
    is = record { s = s; t = t; source = stood; target = stood'; are = (same, same'); each = λ c d was. inl was; done = λ count is c d image image'. none_done c d count is };
    well = λ well. absurd (ill well);
  }

  -- the source was opened only, or not
  one_alone : LeavesOnly (on source).image (on source) (on source') → target' ≡ target → (note ≡ Note.Fine → ⊥) → IsRunBy (run.two_disks tells tells' on onto) tag (source, target) (source', target') note
  one_alone only same' ill = record {
    result = Err Fault.NoMemory;
    turns = OfSource source' ∷ [];
    is = record {
      s = s;
      t = t;
      source = stood;
      target = stood';
      are = (refl, same');
      each = λ c d was. inl (elim was [ inl now ↦ (only.each c now.0, now.1) | inr later ↦ (only.now c later.0, later.1) ]);
      done = λ count is c d image image'. none_done c d count is;
    };
    well = λ well. absurd (ill well);
  }

  both_alone : LeavesOnly (on source).image (on source) (on source') → LeavesOnly (onto target).image (onto target) (onto target') → (note ≡ Note.Fine → ⊥)
      → IsRunBy (run.two_disks tells tells' on onto) tag (source, target) (source', target') note
  both_alone only only' ill = record {
    result = Err Fault.NoMemory;
    turns = OfSource source' ∷ OfTarget target' ∷ [];
    is = record {
      s = s;
      t = t;
      source = stood;
      target = stood';
      are = (refl, refl);
      each = λ c d was. inl (elim was [
        | inl now ↦ (only.each c now.0, now.1)
        | inr (inl now) ↦ (only.now c now.0, only'.each d now.1)
        | inr (inr later) ↦ (only.now c later.0, only'.now d later.1)
      ]);
      done = λ count is c d image image'. none_done c d count is;
    };
    well = λ well. absurd (ill well);
  }

-- entries were moved
module _ {D E : Type 0} (tells tells' : Type 0) (on : D → Moment) (onto : E → Moment) (tag : ℕ) (source source' : D) (target target' : E) (output : OutputRun) (note : Note) where
  midst : (s t : SpoolState) (c d : List ℕ) → IsAnyMoment tag s [] t [] (on source) (onto target) c d → ((on source).image c × (onto target).image d) ⊎ IsMoving tag s t c d
  midst s t c d (inl images) = inl images
  midst s t c d (inr any) =
      inr (subst (λ (u : SpoolState). IsMoving tag s u c d) any.3 (subst (λ (m : SpoolState). IsMoving tag m any.1 c d) any.2 any.4))

  all_done : (moved : run.MovesOpened (run.two_disks tells tells' on onto) tag (source, target) (source', target') output note) (h : tells) (h' : tells') (result : Result ℕ MoveFault) → moved.result ≡ result
      → (count : ℕ) → result ≡ Ok count → (c d : List ℕ) → (on source').image c → (onto target').image d
      → IsMoved tag (moved.moved h h').source_state (moved.moved h h').target_state c d
  all_done moved h h' result is count at c d image image' =
      let devices = moved.moved h h' in
      let from = view moved.source_memory moved.source_doubt (on source') in
      let into = view moved.target_memory moved.target_doubt (onto target') in
      let done = subst (λ (r : Result ℕ MoveFault). Moves tag devices.source_state devices.target_state r from into) (is ∙ at) devices.moves in
      let reaches = done.reaches in
      (reaches.s, reaches.t, reaches.source.each c image, reaches.target.each d image', reaches.stands)

  moved_run : run.MovesOpened (run.two_disks tells tells' on onto) tag (source, target) (source', target') output note → tells → tells' → IsRunBy (run.two_disks tells tells' on onto) tag (source, target) (source', target') note
  moved_run moved h h' =
      let devices = moved.moved h h' in
      record {
        result = moved.result;
        turns = devices.any_moment.turns;
        is = record {
          s = devices.source_state;
          t = devices.target_state;
          source = devices.source_stood;
          target = devices.target_stood;
          are = devices.any_moment.are;
          each = λ c d was. midst devices.source_state devices.target_state c d (devices.any_moment.each c d was);
          done = all_done moved h h' moved.result refl;
        };
        well = told_well moved.result _ output note moved.told;
      }

pub each_is_run : {D E : Type 0} (tells tells' : Type 0) (on : D → Moment) (onto : E → Moment) (source source' : D) (target target' : E) (output : OutputRun)
    → EachCallIsRun (run.two_disks tells tells' on onto) (source, target) (source', target') output
each_is_run tells tells' on onto source source' target target' output words path tag note move is h h' s t stood stood' =
    elim (is.done path tag move) [
      | inl alone ↦ left_alone tells tells' on onto tag source source' target target' output note s t stood stood' alone.1.source_same alone.1.target_same (λ well. let never : Note.NoMemory ≡ Note.Fine = sym alone.0 ∙ well in cc)
      | inr (inl closed) ↦ one_alone tells tells' on onto tag source source' target target' output note s t stood stood' (closed.0.any_moment h) closed.1
          (λ well. closed_well closed.0.fault (sym closed.0.note_is ∙ well))
      | inr (inr (inl closed)) ↦ both_alone tells tells' on onto tag source source' target target' output note s t stood stood' (closed.0 h).any_moment (closed.1.any_moment h')
          (λ well. closed_well closed.1.fault (sym closed.1.note_is ∙ well))
      | inr (inr (inr moved)) ↦ moved_run tells tells' on onto tag source source' target target' output note moved h h'
    ]
