use Rattle.std.proofs.Common.{◌≡◌, unwrap_or, rules}
use Rattle.std.specs.Ordering.{nat_cmp}
use Rattle.std.specs.BTreeMap.{get}
use Rattle.hec_ids.proofs.CountLaws.{counted_up}
use Rattle.hec_ids.proofs.counts.count_one.Goals as goal

pub returns-clause-ok : goal.returns-clause-ok
returns-clause-ok c less more one counts =
    let is : c.unwrap_or-count.result ≡ unwrap_or (get nat_cmp c.args.counts.now c.args.channel) 0 = search rules in
    counted_up c.args.counts.now c.insert.new.self c.args.channel c.unwrap_or-count.result less more counts one is c.in_ok-insert.ensures.updates
