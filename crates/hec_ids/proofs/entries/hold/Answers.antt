use Rattle.std.proofs.Common.{false, refl, ◌∙◌, ap, subst, sym, List}
use Rattle.std.specs.Ordering.{nat_cmp}
use Rattle.std.specs.Map.{remove_entry}
use Rattle.std.specs.BTreeMap.{is_at}
use Rattle.hec_ids.specs.declared.issued.Issued.{Issued}
use Rattle.hec_ids.specs.Table.{Held}
use Rattle.hec_ids.specs.Kept.{held_of, HasOneMore}
use Rattle.hec_ids.proofs.CountLaws.{sure_ok}
use Rattle.hec_ids.proofs.HeldLaws.{one_more}
use Rattle.hec_ids.proofs.EntryLaws.{insert_last, remove_last, held_of-push}
use Rattle.hec_ids.proofs.entries.hold.Goals as goal

pub returns-then-is_err-clause-err : goal.returns-then-is_err-clause-err
returns-then-is_err-clause-err c =
    let es = c.args.issued.now.entries in
    let v : Issued = record { channel = c.args.channel; settled = false } in
    let last = c.in_ok-insert.ensures.entries ∙ insert_last 0 c.args.id es v c.requires.above in
    c.remove.ensures.entries ∙ ap (remove_entry (is_at (nat_cmp c.args.id))) last ∙ remove_last 0 c.args.id es v c.requires.above

pub returns-clause-held : goal.returns-clause-held
returns-clause-held c =
    let es = c.args.issued.now.entries in
    let v : Issued = record { channel = c.args.channel; settled = false } in
    let last = c.in_ok-insert.ensures.entries ∙ insert_last 0 c.args.id es v c.requires.above in
    ap held_of last ∙ held_of-push es c.args.channel c.args.id v refl

pub returns-clause-counted : goal.returns-clause-counted
returns-clause-counted c =
    let es = c.args.issued.now.entries in
    let v : Issued = record { channel = c.args.channel; settled = false } in
    let last = c.in_ok-insert.ensures.entries ∙ insert_last 0 c.args.id es v c.requires.above in
    let after = ap held_of last ∙ held_of-push es c.args.channel c.args.id v refl in
    let one = subst (λ (more : List Held). HasOneMore c.args.channel (held_of es) more) (sym after) (one_more c.args.channel c.args.id (held_of es)) in
    sure_ok c.count_one.result c.count_one.ensures.ok (sym c.is_err.ensures.value ∙ c.if-is_err.false) (held_of es) (held_of c.insert.new.self.entries) one c.requires.counted
