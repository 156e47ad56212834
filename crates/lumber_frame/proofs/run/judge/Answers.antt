-- Each run goes on after the frames that were read.
use Rattle.std.proofs.Common.{◌++◌, ◌+◌, ◌∷◌, [], length-append, take, drop, sym, ap, ◌∙◌}
use Rattle.lumber_frame.specs.Places.{frame_of}
use Rattle.lumber_frame.proofs.ScanLaws.{reaches_start}
use Rattle.lumber_frame.proofs.RunningLaws.{spans_on, splits_rest, splits_bad, within_back}
use Rattle.lumber_frame.proofs.run.judge.Goals as goal

pub loop-phase-preserved : goal.loop-phase-preserved
loop-phase-preserved c =
    let l = c.loop-phase in
    let i = l.invariant in
    let b = c.args.held.now ++ c.args.piece.now in
    let x = c.in-Ends in
    (i.0 ++ frame_of c.in-Ends.field-0 (take x.n (drop l.end b)) ∷ [], spans_on c.args.side b i.0 l.end x.n c.in-Ends.field-0 i.1 x.ensures, reaches_start c.args.side (drop (l.end + x.n) b))

pub returns-in-Rest-clause-judges : goal.returns-in-Rest-clause-judges
returns-in-Rest-clause-judges c =
    let l = c.loop-phase in
    let i = l.invariant in
    let b = c.args.held.now ++ c.args.piece.now in
    let s = splits_rest c.args.side b i.0 l.end c.in-Rest.phase i.1 c.in-Rest.ensures in
    record { frames = i.0; splits = s.0; kept = sym (length-append c.args.held.now c.args.piece.now) ∙ sym s.1 }

pub returns-in-Rest-clause-kept : goal.returns-in-Rest-clause-kept
returns-in-Rest-clause-kept c =
    let l = c.loop-phase in
    within_back c.args.held.now c.args.piece.now l.end c.in-Rest.phase.at l.invariant.1.inside c.in-Rest.ensures.reaches.inside

pub returns-in-Bad-clause-judges : goal.returns-in-Bad-clause-judges
returns-in-Bad-clause-judges c =
    let l = c.loop-phase in
    let i = l.invariant in
    let b = c.args.held.now ++ c.args.piece.now in
    let s = splits_bad c.args.side b i.0 l.end c.in-Bad.phase c.in-Bad.why i.1 c.in-Bad.ensures in
    record { frames = i.0; splits = s.0; kept = ap (λ n. l.end + n) s.1 }

pub returns-in-Bad-clause-room : goal.returns-in-Bad-clause-room
returns-in-Bad-clause-room c =
    let l = c.loop-phase in
    within_back c.args.held.now c.args.piece.now l.end c.in-Bad.phase.at l.invariant.1.inside c.in-Bad.ensures.reaches.inside
