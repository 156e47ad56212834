use Rattle.std.proofs.Common.{◌+◌, ◌++◌, ℕ, List, length, take, drop, ◌∙◌, ap, subst, arith, append_assoc, take-append-drop}
use Rattle.spool_slots.specs.Pen.{HasWritten}
use Rattle.spool_slots.proofs.Faults.{calls_passed}
use Rattle.spool_slots.proofs.Pens.{run_then, lets_more}
use Rattle.spool_slots.proofs.pen.Pen.write.Goals as goal

pub returns-in_err-n-clause-any_moment : goal.returns-in_err-n-clause-any_moment
returns-in_err-n-clause-any_moment g c = λ tells.
    run_then _ _ _ _ _ _ _ c.loop-rest.invariant.goes_on (omega (arith, c.loop-rest.invariant.took)) (c.loop-rest.invariant.run tells) (c.take_some.ensures.any_moment tells)

pub loop-rest-preserved : goal.loop-rest-preserved
loop-rest-preserved g c =
    let n = c.in_ok-n.n in
    let took = c.in_ok-n.ensures.took in
    let rest = c.loop-rest.rest.now in
    let before = c.loop-rest.invariant.written.0 in
    record {
      calls = calls_passed _ _ _ _ c.loop-rest.invariant.calls c.in_ok-n.ensures.calls (λ f. cc);
      goes_on = omega (arith, c.loop-rest.invariant.goes_on, c.take_some.ensures.goes_on);
      took = omega (arith, c.loop-rest.invariant.took, took.2, c.split_at.ensures.back_len);
      run = λ tells. run_then _ _ _ _ _ _ _ c.loop-rest.invariant.goes_on (omega (arith, c.loop-rest.invariant.took)) (c.loop-rest.invariant.run tells) (c.take_some.ensures.any_moment tells);
      written = (
        before ++ take n rest,
        ap (λ (l : List ℕ). (before ++ take n rest) ++ l) c.split_at.ensures.back ∙ append_assoc before (take n rest) (drop n rest) ∙ ap (λ (l : List ℕ). before ++ l) (take-append-drop n rest) ∙ c.loop-rest.invariant.written.1,
        λ start base done tells has.
            subst (λ (l : List ℕ). HasWritten start base l c.take_some.new.self.at c.take_some.new.self.filled c.take_some.new.buffer (g.D.Disk.moment c.take_some.new.disk).reads) (append_assoc done before (take n rest))
            (c.in_ok-n.ensures.written start base (done ++ before) tells (c.loop-rest.invariant.written.2 start base done tells has)),
      );
    }

pub take_some-requires-clause-leave : goal.take_some-requires-clause-leave
take_some-requires-clause-leave g c =
    let pen = c.args.self.now in
    lets_more g.D.Disk.tells g.D.Disk.moment g.D.Disk.may_tear pen.at (pen.filled + length c.args.text.now) _ _ _ _ c.loop-rest.invariant.goes_on (omega (arith, c.loop-rest.invariant.took)) c.loop-rest.invariant.run c.requires.leave
