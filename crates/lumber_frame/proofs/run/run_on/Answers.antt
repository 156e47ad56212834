-- A whole field goes on, ends the frame or breaks a rule.
use Rattle.std.proofs.Common.{◌≡◌, ◌+◌, ◌≤◌, ◌++◌, length, take, drop, sym, subst, arith}
use Rattle.lumber_frame.specs.Machine.{size_of}
use Rattle.lumber_frame.specs.Places.{Reaches}
use Rattle.lumber_frame.specs.Running.{Ended}
use Rattle.lumber_frame.proofs.ScanLaws.{field_end, field_range, reaches_go, ends_done, breaks_bad}
use Rattle.lumber_frame.proofs.RunningLaws.{within}
use Rattle.lumber_frame.proofs.run.run_on.Goals as goal

pub loop-side-preserved : goal.loop-side-preserved
loop-side-preserved c =
    let l = c.loop-side in
    let all = c.args.held.now ++ c.args.piece.now in
    let b = drop c.args.begin all in
    let n = size_of l.now.field in
    let s : c.field_size.result ≡ n = c.field_size.ensures in
    let k : l.now.at + n ≤ length b = within c.args.held.now c.args.piece.now c.args.begin (l.now.at + n) (omega (arith, s, c.if-rest-next.false)) in
    let e = field_end c.args.side b l.now l.invariant k in
    let q = c.in-Go.ensures.turn (take l.now.at b) (take n (drop l.now.at b)) e.place e.size (field_range all c.args.begin l.now.at n) in
    let r = reaches_go c.args.side b l.now c.in-Go.field l.invariant k c.in-Go.ensures.stands q in
    subst (λ m. Reaches c.args.side b (record { field = c.in-Go.field; at = l.now.at + m })) (sym s) r

pub returns-in-Done : goal.returns-in-Done
returns-in-Done c =
    let l = c.loop-side in
    let all = c.args.held.now ++ c.args.piece.now in
    let b = drop c.args.begin all in
    let n = size_of l.now.field in
    let s : c.field_size.result ≡ n = c.field_size.ensures in
    let k : l.now.at + n ≤ length b = within c.args.held.now c.args.piece.now c.args.begin (l.now.at + n) (omega (arith, s, c.if-rest-next.false)) in
    let e = field_end c.args.side b l.now l.invariant k in
    let q = c.in-Done.ensures.turn (take l.now.at b) (take n (drop l.now.at b)) e.place e.size (field_range all c.args.begin l.now.at n) in
    let r = ends_done c.args.side b l.now c.in-Done.whole l.invariant k c.in-Done.ensures.stands q in
    subst (λ m. Ended c.args.side b c.in-Done.whole (l.now.at + m)) (sym s) r

pub returns-in-Bad : goal.returns-in-Bad
returns-in-Bad c =
    let l = c.loop-side in
    let all = c.args.held.now ++ c.args.piece.now in
    let b = drop c.args.begin all in
    let n = size_of l.now.field in
    let s : c.field_size.result ≡ n = c.field_size.ensures in
    let k : l.now.at + n ≤ length b = within c.args.held.now c.args.piece.now c.args.begin (l.now.at + n) (omega (arith, s, c.if-rest-next.false)) in
    let e = field_end c.args.side b l.now l.invariant k in
    let q = c.in-Bad.ensures.turn (take l.now.at b) (take n (drop l.now.at b)) e.place e.size (field_range all c.args.begin l.now.at n) in
    breaks_bad c.args.side b l.now c.in-Bad.why l.invariant k q
