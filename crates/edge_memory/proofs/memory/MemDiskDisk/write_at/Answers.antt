use Rattle.std.proofs.Common.{◌∙◌, sym}
use Rattle.edge_memory.proofs.Covers.{tears}
use Rattle.edge_memory.proofs.StoreSteps.{of_ok}
use Rattle.edge_memory.proofs.memory.MemDiskDisk.write_at.Goals as goal

pub returns-then-fails-clause-told : goal.returns-then-fails-clause-told
returns-then-fails-clause-told c =
    let d = c.args.self.now in
    tears _ _ _ d.store _ _ _ c.requires c.came_through-written.ensures.short d.sound (of_ok _ _ (sym c.is_err.ensures.value ∙ c.if-is_err.false) c.write.ensures.ok)

pub returns-clause-told : goal.returns-clause-told
returns-clause-told c =
    let d = c.args.self.now in
    tears _ _ _ d.store _ _ _ c.requires c.came_through-written.ensures.short d.sound (of_ok _ _ (sym c.is_err.ensures.value ∙ c.if-is_err.false) c.write.ensures.ok)
