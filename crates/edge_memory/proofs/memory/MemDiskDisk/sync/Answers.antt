use Rattle.std.proofs.Common.{◌∙◌, sym}
use Rattle.edge_memory.proofs.Covers.{closes, remembers, still_recorded}
use Rattle.edge_memory.proofs.StoreSteps.{of_ok}
use Rattle.edge_memory.proofs.memory.MemDiskDisk.sync.Goals as goal

pub returns-clause-told : goal.returns-clause-told
returns-clause-told c =
    let d = c.args.self.now in
    closes d.store _ _ _ d.sound (of_ok _ _ (sym c.is_err.ensures.value ∙ c.if-is_err.false) c.sync.ensures.ok)

pub returns-clause-images : goal.returns-clause-images
returns-clause-images c = λ recorded.
    let d = c.args.self.now in
    let synced = of_ok _ _ (sym c.is_err.ensures.value ∙ c.if-is_err.false) c.sync.ensures.ok in
    (still_recorded d.store _ synced recorded, remembers d.store _ _ _ synced)
