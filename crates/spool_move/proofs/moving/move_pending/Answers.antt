use Rattle.std.proofs.Common.{ℕ, inl, inr, Err, sym, ap, subst}
use Rattle.std.specs.Prelude.{Result}
use Rattle.std.proofs.Math.Logic.{∥∥₁_prop, ∥∥₁_elim}
use Rattle.spool_log.specs.State.{view}
use Rattle.spool_move.specs.declared.fault.MoveFault.{MoveFault}
use Rattle.spool_move.specs.Moves.{MovesFrom}
use Rattle.spool_move.specs.Said.{IsSaidBy}
use Rattle.spool_move.proofs.Beginning.{at_start, some_state, unread_moves, source_read, both_read, read_moved}
use Rattle.spool_move.proofs.Present.{look_said}
use Rattle.spool_move.proofs.ReadOn.{read_on}
use Rattle.spool_move.proofs.Results.{is_err, match_err}
use Rattle.spool_move.proofs.moving.move_pending.Goals as goal

pub returns-in-Err-clause-moves : goal.returns-in-Err-clause-moves
returns-in-Err-clause-moves g c = λ s t ds dt tells tells' held held'. inl (c.in-Err.fault, ap Err c.of_source.ensures, c.in-Err.ensures.mended s ds tells held, held')

pub returns-in-Err-clause-any_moment : goal.returns-in-Err-clause-any_moment
returns-in-Err-clause-any_moment g c = λ s t ds dt tells tells' held held'.
    source_read g.D.Disk.moment g.E.Disk.moment c.args.tag s ds t dt c.args.source.now.disk c.mend.new.self.disk c.args.target.now.disk c.args.target.now.disk (c.in-Err.ensures.mended s ds tells held).any_moment

pub returns-in-Err-mend-clause-moves : goal.returns-in-Err-mend-clause-moves
returns-in-Err-mend-clause-moves g c = λ s t ds dt tells tells' held held'.
    let mended = c.in_default.ensures.mended s ds tells held in
    inr (inl (record { m = mended.0; mended = mended.1; fault = c.in-Err-mend.fault; result_is = ap Err c.of_target.ensures; stays = c.in-Err-mend.ensures.mended t dt tells' held' }))

pub returns-in-Err-mend-clause-any_moment : goal.returns-in-Err-mend-clause-any_moment
returns-in-Err-mend-clause-any_moment g c = λ s t ds dt tells tells' held held'.
    both_read g.D.Disk.moment g.E.Disk.moment c.args.tag s ds t dt c.args.source.now.disk c.mend.new.self.disk c.args.target.now.disk c.mend-2.new.self.disk
    (c.in_default.ensures.mended s ds tells held).1.any_moment (c.in-Err-mend.ensures.mended t dt tells' held').any_moment

pub returns-in_err-present-clause-told : goal.returns-in_err-present-clause-told
returns-in_err-present-clause-told g c =
    let source = c.read_present.new.source.memory in
    let target = c.read_present.new.target.memory in
    match_err c.from_residual.result c.in_err-present.field-0.0 (λ _. Unit {0}) (λ fault. IsSaidBy source target fault) c.from_residual.ensures.1 (look_said c.in_err-present.field-0.0 source target c.in_err-present.ensures.known)

pub returns-in_err-present-clause-moves : goal.returns-in_err-present-clause-moves
returns-in_err-present-clause-moves g c = λ s t ds dt tells tells' held held'.
    let mended = c.in_default.ensures.mended s ds tells held in
    let mended' = c.in_default-mend.ensures.mended t dt tells' held' in
    let kept = c.in_err-present.ensures.source_kept mended.0 tells mended.1.reached in
    let kept' = c.in_err-present.ensures.target_kept mended'.0 tells' mended'.1.reached in
    let finds = c.in_err-present.ensures.searched mended.0 mended'.0 tells tells' mended.1.reached mended'.1.reached in
    let fault = c.in_err-present.field-0.0 in
    let v = view c.args.source.now.memory c.args.source.now.doubt (g.D.Disk.moment c.args.source.now.disk) in
    let v1 = view c.read_present.new.source.memory c.read_present.new.source.doubt (g.D.Disk.moment c.read_present.new.source.disk) in
    let w = view c.args.target.now.memory c.args.target.now.doubt (g.E.Disk.moment c.args.target.now.disk) in
    let w1 = view c.read_present.new.target.memory c.read_present.new.target.doubt (g.E.Disk.moment c.read_present.new.target.disk) in
    subst (λ (r : Result ℕ MoveFault). MovesFrom c.args.tag s ds t dt r v v1 w w1) (sym (is_err c.from_residual.result fault c.from_residual.ensures.1))
    (inr (inr (record {
      m = mended.0;
      u = mended'.0;
      one = mended.1.one;
      other = mended'.1.one;
      source_follows = mended.1.follows;
      target_follows = mended'.1.follows;
      moves = unread_moves c.args.tag mended.0 mended'.0 fault v1 w1 finds kept.0 kept'.0;
    })))

pub returns-in_err-present-clause-any_moment : goal.returns-in_err-present-clause-any_moment
returns-in_err-present-clause-any_moment g c = λ s t ds dt tells tells' held held'.
    let mended = c.in_default.ensures.mended s ds tells held in
    let mended' = c.in_default-mend.ensures.mended t dt tells' held' in
    let kept = c.in_err-present.ensures.source_kept mended.0 tells mended.1.reached in
    let kept' = c.in_err-present.ensures.target_kept mended'.0 tells' mended'.1.reached in
    both_read g.D.Disk.moment g.E.Disk.moment c.args.tag s ds t dt c.args.source.now.disk c.read_present.new.source.disk c.args.target.now.disk c.read_present.new.target.disk
    (read_on _ _ _ mended.1.any_moment kept.1) (read_on _ _ _ mended'.1.any_moment kept'.1)

pub move_all-requires-clause-under_way : goal.move_all-requires-clause-under_way
move_all-requires-clause-under_way g c = λ tells tells'.
    let from = c.mend.new.self in
    let onto = c.mend-2.new.self in
    let sure = c.in_default.ensures.sure in
    let sure' = c.in_default-mend.ensures.sure in
    let call = c.in_ok-present.ensures in
    ∥∥₁_elim (some_state from.memory from.doubt (g.D.Disk.moment from.disk) sure (from.settled sure tells) (from.stored sure tells)) ∥∥₁_prop (λ x.
    ∥∥₁_elim (some_state onto.memory onto.doubt (g.E.Disk.moment onto.disk) sure' (onto.settled sure' tells') (onto.stored sure' tells')) ∥∥₁_prop (λ y.
    let kept = call.source_kept x.0 tells x.1 in
    let kept' = call.target_kept y.0 tells' y.1 in
    ∣ (x.0, y.0, at_start c.args.tag x.0 y.0 c.in_ok-present.present _ _ (call.searched x.0 y.0 tells tells' x.1 y.1) kept.0 kept'.0) ∣₁))

pub returns-clause-moves : goal.returns-clause-moves
returns-clause-moves g c = λ s t ds dt tells tells' held held'.
    let mended = c.in_default.ensures.mended s ds tells held in
    let mended' = c.in_default-mend.ensures.mended t dt tells' held' in
    let call = c.in_ok-present.ensures in
    let kept = call.source_kept mended.0 tells mended.1.reached in
    let kept' = call.target_kept mended'.0 tells' mended'.1.reached in
    let searched = call.searched mended.0 mended'.0 tells tells' mended.1.reached mended'.1.reached in
    let moved = c.move_all.ensures.moves mended.0 mended'.0 tells tells' (at_start c.args.tag mended.0 mended'.0 c.in_ok-present.present _ _ searched kept.0 kept'.0) in
    inr (inr (record {
      m = mended.0;
      u = mended'.0;
      one = mended.1.one;
      other = mended'.1.one;
      source_follows = mended.1.follows;
      target_follows = mended'.1.follows;
      moves = moved.0;
    }))

pub returns-clause-any_moment : goal.returns-clause-any_moment
returns-clause-any_moment g c = λ s t ds dt tells tells' held held'.
    let mended = c.in_default.ensures.mended s ds tells held in
    let mended' = c.in_default-mend.ensures.mended t dt tells' held' in
    let call = c.in_ok-present.ensures in
    let kept = call.source_kept mended.0 tells mended.1.reached in
    let kept' = call.target_kept mended'.0 tells' mended'.1.reached in
    let searched = call.searched mended.0 mended'.0 tells tells' mended.1.reached mended'.1.reached in
    let moved = c.move_all.ensures.moves mended.0 mended'.0 tells tells' (at_start c.args.tag mended.0 mended'.0 c.in_ok-present.present _ _ searched kept.0 kept'.0) in
    read_moved g.D.Disk.moment g.E.Disk.moment c.args.tag s ds t dt c.args.source.now.disk c.read_present.new.source.disk c.args.target.now.disk c.read_present.new.target.disk
    (read_on _ _ _ mended.1.any_moment kept.1) mended.0 mended'.0 c.move_all.new.source.disk c.move_all.new.target.disk mended.1.one mended'.1.one (read_on _ _ _ mended'.1.any_moment kept'.1) moved.1
