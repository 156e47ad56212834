use Rattle.std.proofs.Common.{◌∙◌, ap, subst, sym, List}
use Rattle.hec_ids.specs.Table.{Held}
use Rattle.hec_ids.specs.Kept.{held_of, HasOneMore}
use Rattle.hec_ids.proofs.HeldLaws.{one_gone}
use Rattle.hec_ids.proofs.EntryLaws.{remove_held}
use Rattle.hec_ids.proofs.entries.release.Goals as goal

pub returns-clause-held : goal.returns-clause-held
returns-clause-held c from to h is = ap held_of c.remove.ensures.entries ∙ remove_held c.args.channel c.args.id from to c.args.issued.now.entries h is

pub returns-clause-counted : goal.returns-clause-counted
returns-clause-counted c from to h is counts =
    let held = held_of c.args.issued.now.entries in
    let after = ap held_of c.remove.ensures.entries ∙ remove_held c.args.channel c.args.id from to c.args.issued.now.entries h is in
    c.uncount.ensures (held_of c.remove.new.self.entries) held (subst (λ (less : List Held). HasOneMore c.args.channel less held) (sym after) (one_gone c.args.channel c.args.id from to held h is)) counts
