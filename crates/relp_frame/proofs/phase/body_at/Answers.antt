-- LF ends the frame once no data is due.
use Rattle.std.proofs.Common.{◌≡◌, ◌+◌, ◌-◌, ◌∙◌, drop, get_or, ap, arith}
use Rattle.relp_frame.specs.Machine.{InBody, step}
use Rattle.relp_frame.specs.Places.{command_of}
use Rattle.relp_frame.proofs.phase.body_at.Goals as goal

pub returns-in-Done : goal.returns-in-Done
returns-in-Done c =
    let b = c.in-Body in
    let none : 0 ≡ b.left - b.left = omega arith in
    rw b.is (record {
      inside = omega (arith, c.if-left-piece.false);
      next_is = omega arith;
      fits = c.in-Done.ensures.fits;
      ends = λ h e. c.in-Done.ensures.turn h e ∙ ap (λ n. step (InBody b.head.txnr (command_of b.head h) n (drop b.at h)) (get_or c.args.piece.now (c.args.from + b.left) 0)) none;
    })
