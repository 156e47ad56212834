use Rattle.std.proofs.Common.{sym, ◌∙◌, arith}
use Rattle.hec_ids.specs.Table.{count_of}
use Rattle.hec_ids.proofs.CountLaws.{length-channels, counted_none, busy_full, busy_free}
use Rattle.hec_ids.proofs.counts.busy_fault.Goals as goal

pub returns-in-None : goal.returns-in-None
returns-in-None c held counts =
    let many = length-channels c.args.counts.now held c.len-channels.ensures.ordered counts in
    let none = counted_none (count_of c.args.channel held) (sym (counts c.args.channel) ∙ sym c.in-None.ensures.value) in
    busy_full c.args.channel held none (omega arith)

pub returns-in_default-2 : goal.returns-in_default-2
returns-in_default-2 c held counts =
    let many = length-channels c.args.counts.now held c.len-channels.ensures.ordered counts in
    let none = counted_none (count_of c.args.channel held) (sym (counts c.args.channel) ∙ sym c.in-None.ensures.value) in
    busy_free c.args.channel held none (omega arith)
