-- Each run goes on after the frames that were read.
use Rattle.std.proofs.Common.{◌≡◌, ◌∙◌, List, ◌++◌, ◌+◌, ◌∷◌, [], take, drop, sym, ap, subst, arith}
use Rattle.std.specs.List.{All}
use Rattle.lumber_frame.specs.declared.frame.LumberFrame.{LumberFrame}
use Rattle.lumber_frame.specs.Running.{Spans}
use Rattle.lumber_frame.specs.Spelling.{IsFrameFor}
use Rattle.lumber_frame.specs.Places.{frame_of}
use Rattle.lumber_frame.proofs.BytesLaws.{IsBytes-append}
use Rattle.lumber_frame.proofs.ScanLaws.{reaches_start}
use Rattle.lumber_frame.proofs.RunningLaws.{built, limits_on, spans_on, splits_rest, splits_bad, within_back}
use Rattle.lumber_frame.proofs.scan.scan.Goals as goal

pub loop-phase-preserved : goal.loop-phase-preserved
loop-phase-preserved c =
    let l = c.loop-phase in
    let i = l.invariant in
    let b = c.args.held.now ++ c.args.piece.now in
    let w = c.in-Ends.whole in
    let n = c.in-Ends.n in
    let f = frame_of w (take n (drop l.end b)) in
    let q : l.frames.items ++ f ∷ [] ≡ c.push_back.new.self.items = sym (c.in_ok-push_back-in-Ends.ensures.items ∙ ap (λ g. l.frames.items ++ g ∷ []) (built b l.end n w c.in_ok-frame-in-Ends.frame c.in_ok-frame-in-Ends.ensures)) in
    let bytes = IsBytes-append c.args.held.now c.args.piece.now (λ k. omega (arith, c.type_inv.held k)) (λ k. omega (arith, c.type_inv.piece k)) in (
      subst (λ (fs : List LumberFrame). Spans c.args.side b fs (l.end + n)) q (spans_on c.args.side b l.frames.items l.end n w i.0 c.in-Ends.ensures),
      reaches_start c.args.side (drop (l.end + n) b),
      subst (λ (fs : List LumberFrame). All (IsFrameFor c.args.side) fs) q (limits_on c.args.side b l.frames.items l.end n w bytes i.2 c.in-Ends.ensures),
    )

pub returns-in-Rest-clause-scans : goal.returns-in-Rest-clause-scans
returns-in-Rest-clause-scans c =
    let l = c.loop-phase in
    let i = l.invariant in
    let s = splits_rest c.args.side (c.args.held.now ++ c.args.piece.now) l.frames.items l.end c.in-Rest.phase i.0 c.in-Rest.ensures in
    record { splits = s.0; limits = i.2 }

pub returns-in-Rest-clause-room : goal.returns-in-Rest-clause-room
returns-in-Rest-clause-room c =
    let l = c.loop-phase in
    within_back c.args.held.now c.args.piece.now l.end c.in-Rest.phase.at l.invariant.0.inside c.in-Rest.ensures.reaches.inside

pub returns-in-Bad-clause-scans : goal.returns-in-Bad-clause-scans
returns-in-Bad-clause-scans c =
    let l = c.loop-phase in
    let i = l.invariant in
    let s = splits_bad c.args.side (c.args.held.now ++ c.args.piece.now) l.frames.items l.end c.in-Bad.phase c.in-Bad.why i.0 c.in-Bad.ensures in
    record { splits = s.0; limits = i.2 }

pub returns-in-Bad-clause-room : goal.returns-in-Bad-clause-room
returns-in-Bad-clause-room c =
    let l = c.loop-phase in
    within_back c.args.held.now c.args.piece.now l.end c.in-Bad.phase.at l.invariant.0.inside c.in-Bad.ensures.reaches.inside
