use Rattle.std.proofs.Common.{Ok, sym, ap, arith, subst}
use Rattle.std.specs.Prelude.{Result, Bool}
use Rattle.std.proofs.Math.Logic.{∥∥₁_prop, ∥∥₁_elim}
use Rattle.edge_disk.proofs.Calls.{calls_none, calls_as, calls_on}
use Rattle.spool_log.specs.State.{view}
use Rattle.spool_move.specs.declared.fault.MoveFault.{MoveFault}
use Rattle.spool_move.specs.Moves.{Moves}
use Rattle.spool_move.specs.Stands.{IsMoving}
use Rattle.spool_move.specs.Walking.{WalksPage}
use Rattle.spool_move.proofs.Answering.{moving_now}
use Rattle.spool_move.proofs.Results.{is_err}
use Rattle.spool_move.proofs.Turning.{both_still, both_then}
use Rattle.spool_move.proofs.walking.pages.move_all.Goals as goal

pub loop-init : goal.loop-init
loop-init g c = record {
  few = omega arith;
  source_calls = calls_none _;
  target_calls = calls_none _;
  under_way = c.requires.under_way;
  walks = λ m u tells tells' at. (
    at,
    both_still g.D.Disk.moment g.E.Disk.moment (IsMoving c.args.tag m u) c.args.source.now.disk c.args.target.now.disk (moving_now c.args.tag m u c.args.present.now _ _ _ at),
  );
}

pub returns-in_err-move_page-clause-moves : goal.returns-in_err-move_page-clause-moves
returns-in_err-move_page-clause-moves g c = λ m u tells tells' at.
    let before = c.loop.invariant.walks m u tells tells' at in
    let page = c.in_err-move_page.ensures.walks m u tells tells' before.0 in
    let fault = c.in_err-move_page.field-0.0 in
    let v = view c.move_page.new.source.memory c.move_page.new.source.doubt (g.D.Disk.moment c.move_page.new.source.disk) in
    let w = view c.move_page.new.target.memory c.move_page.new.target.doubt (g.E.Disk.moment c.move_page.new.target.disk) in
    let P = IsMoving c.args.tag m u in (
      subst (λ (r : Result _ MoveFault). Moves c.args.tag m u r v w) (sym (is_err c.from_residual.result fault c.from_residual.ensures.1)) page.0,
      both_then g.D.Disk.moment g.E.Disk.moment P P P _ _ _ _ _ _ before.1 page.1 (λ c d h. h) (λ c d h. h),
    )

pub returns-then-not-branch-clause-moves : goal.returns-then-not-branch-clause-moves
returns-then-not-branch-clause-moves g c = λ m u tells tells' at.
    let before = c.loop.invariant.walks m u tells tells' at in
    let page = c.in_ok-move_page.ensures.walks m u tells tells' before.0 in
    let v = view c.move_page.new.source.memory c.move_page.new.source.doubt (g.D.Disk.moment c.move_page.new.source.disk) in
    let w = view c.move_page.new.target.memory c.move_page.new.target.doubt (g.E.Disk.moment c.move_page.new.target.disk) in
    let P = IsMoving c.args.tag m u in (
      subst (λ (b : Bool). WalksPage c.args.tag m u c.args.present.now c.move_page.new.course (Ok b) v w) c.if-not-branch.true page.0,
      both_then g.D.Disk.moment g.E.Disk.moment P P P _ _ _ _ _ _ before.1 page.1 (λ c d h. h) (λ c d h. h),
    )

pub loop-smaller : goal.loop-smaller
loop-smaller g c = let rises = c.in_ok-move_page.ensures.rises (ap Ok c.if-not-branch.false) in omega (arith, rises.0, rises.1)

pub loop-preserved : goal.loop-preserved
loop-preserved g c =
    let inv = c.loop.invariant in
    let call = c.in_ok-move_page.ensures in
    let v = view c.move_page.new.source.memory c.move_page.new.source.doubt (g.D.Disk.moment c.move_page.new.source.disk) in
    let w = view c.move_page.new.target.memory c.move_page.new.target.doubt (g.E.Disk.moment c.move_page.new.target.disk) in
    record {
      few = call.few;
      source_calls = calls_on _ _ _ _ _ inv.source_calls (λ none. none) (calls_as _ _ _ _ call.source_calls (λ none. absurd none) (λ is. cc));
      target_calls = calls_on _ _ _ _ _ inv.target_calls (λ none. none) (calls_as _ _ _ _ call.target_calls (λ none. absurd none) (λ is. cc));
      under_way = λ tells tells'. ∥∥₁_elim (inv.under_way tells tells') ∥∥₁_prop (λ some.
          let page = call.walks some.0 some.1 tells tells' some.2 in
          ∣ (some.0, some.1, subst (λ (b : Bool). WalksPage c.args.tag some.0 some.1 c.args.present.now c.move_page.new.course (Ok b) v w) c.if-not-branch.false page.0) ∣₁);
      walks = λ m u tells tells' at.
          let before = inv.walks m u tells tells' at in
          let page = call.walks m u tells tells' before.0 in
          let P = IsMoving c.args.tag m u in (
            subst (λ (b : Bool). WalksPage c.args.tag m u c.args.present.now c.move_page.new.course (Ok b) v w) c.if-not-branch.false page.0,
            both_then g.D.Disk.moment g.E.Disk.moment P P P _ _ _ _ _ _ before.1 page.1 (λ c d h. h) (λ c d h. h),
          );
    }
