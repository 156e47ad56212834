use Rattle.disk_cell.proofs.Reading.{read}
use Rattle.disk_cell.proofs.fields.Fields.of.Goals as goal

pub returns-clause-text : goal.returns-clause-text
returns-clause-text c =
    read c.args.text.now c.told-text c.u64_at.result c.u32_at.result c.u64_at-2.result c.u64_at-3.result c.u16_at.result c.u64_at.ensures.bytes c.u32_at.ensures.bytes c.u64_at-2.ensures.bytes c.u64_at-3.ensures.bytes c.u16_at.ensures.bytes
