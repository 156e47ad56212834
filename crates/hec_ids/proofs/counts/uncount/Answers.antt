use Rattle.std.proofs.Common.{◌≡◌, ◌<◌, unwrap_or, rules, arith}
use Rattle.std.specs.Ordering.{nat_cmp}
use Rattle.std.specs.BTreeMap.{get}
use Rattle.hec_ids.proofs.CountLaws.{counted_down, counted_out, sure, is_there}
use Rattle.hec_ids.proofs.counts.uncount.Goals as goal

pub returns-else-last : goal.returns-else-last
returns-else-last c less more one counts =
    let is : c.unwrap_or-count.result ≡ unwrap_or (get nat_cmp c.args.counts.now c.args.channel) 0 = search rules in
    let above : 1 < c.unwrap_or-count.result = omega arith in
    let there = is_there c.args.counts.now c.args.channel c.unwrap_or-count.result is above in
    counted_down c.args.counts.now c.insert.new.self c.args.channel c.unwrap_or-count.result less more counts one is above (sure c.insert.result c.insert.ensures.updates c.insert.ensures.absent there)

pub returns-then-last : goal.returns-then-last
returns-then-last c less more one counts =
    let is : c.unwrap_or-count.result ≡ unwrap_or (get nat_cmp c.args.counts.now c.args.channel) 0 = search rules in
    counted_out c.args.counts.now c.remove.new.self c.args.channel c.unwrap_or-count.result less more counts one is (omega arith) c.remove.ensures.updates
