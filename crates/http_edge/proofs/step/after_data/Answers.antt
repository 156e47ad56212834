use Rattle.std.proofs.Common.{◌≡◌, ◌+◌, ◌-◌, length, take, arith, rules, length-take-le}
use Rattle.http_edge.proofs.BodyLaws.{data_takes, data_ends}
use Rattle.http_edge.proofs.step.after_data.Goals as goal

pub returns-then-unread-left : goal.returns-then-unread-left
returns-then-unread-left c =
    let u = c.args.unread.now in
    let few = c.if-unread-left.true in
    let fits = c.requires in
    let n = length-take-le (length u) u (omega arith) in
    let due : length (take (length u) u) + (c.args.left - length u) ≡ c.args.left = omega (arith, n, few) in
    (search rules, omega arith, (omega (arith, few), omega (arith, few, fits.1)), data_takes c.args.left (c.args.left - length u) c.args.held (take (length u) u) due)

pub returns : goal.returns
returns c =
    let u = c.args.unread.now in
    let enough = c.if-unread-left.false in
    (c.requires.0, enough, c.requires.1, data_ends c.args.left c.args.held (take c.args.left u) (length-take-le c.args.left u enough))
