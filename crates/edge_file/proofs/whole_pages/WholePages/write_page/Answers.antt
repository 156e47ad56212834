use Rattle.std.proofs.Common.{◌≡◌, ◌+◌, ◌≤◌, ◌++◌, length, length-append, take, ◌∙◌, sym, ap, refl, arith}
use Rattle.std.proofs.Math.Seq.{take-append_seam}
use Rattle.std.proofs.lemmas.Grind.{common_steps}
use Rattle.foundation.proofs.Bytes.{same_but_wider, put_same}
use Rattle.edge_file.specs.Held.{seen}
use Rattle.edge_file.specs.HeldLaws.{held_lawful}
use Rattle.edge_file.proofs.Putting.{put_empty, put_append, torn_behind, same_but_along}
use Rattle.edge_file.proofs.whole_pages.WholePages.write_page.Goals as goal

pub returns-in-Ok-clause-written : goal.returns-in-Ok-clause-written
returns-in-Ok-clause-written g c = λ tells.
    let held = c.args.self.now.held in
    let old = g.D.Disk.moment c.args.self.now.disk in
    let front = take c.fill-n.result c.args.piece.now in
    let long : length front ≤ length c.args.piece.now = grind (arith, common_steps) in
    let room : held.at + length held.bytes.items + length front ≤ length old.reads = omega (arith, c.requires, (g.met.D.Disk.lawful c.args.self.now.disk tells).reads_size) in
    let joined = put_append held.at held.bytes.items front old.reads room in
    let now = c.in-Ok.ensures.written tells in
    put_empty _ _ _ c.clear.ensures ∙ cc (c.fill-n.ensures.at, c.fill-n.ensures.bytes, c.as_slice.ensures.value)

pub returns-in-Ok-clause-torn : goal.returns-in-Ok-clause-torn
returns-in-Ok-clause-torn g c = λ tells.
    let held = c.args.self.now.held in
    let old = g.D.Disk.moment c.args.self.now.disk in
    let front = take c.fill-n.result c.args.piece.now in
    let long : length front ≤ length c.args.piece.now = grind (arith, common_steps) in
    let whole = held_lawful held old (g.met.D.Disk.lawful c.args.self.now.disk tells) c.args.self.now.room in
    same_but_along _ _ _ _ _ _ refl (returns-in-Ok-clause-written g c tells)
    (put_same (held.at + length held.bytes.items) (length c.args.piece.now) front (seen held old) (omega (arith, c.requires, whole.reads_size)) long)

-- the write that failed lies within the range of the held part and of the piece
pub returns-in-Err-clause-torn : goal.returns-in-Err-clause-torn
returns-in-Err-clause-torn g c = λ tells.
    let held = c.args.self.now.held in
    let old = g.D.Disk.moment c.args.self.now.disk in
    let front = take c.fill-n.result c.args.piece.now in
    let long : length front ≤ length c.args.piece.now = grind (arith, common_steps) in
    let room : held.at + length held.bytes.items ≤ length old.reads = omega (arith, c.requires, (g.met.D.Disk.lawful c.args.self.now.disk tells).reads_size) in
    let asked : length c.as_slice.result.now ≡ length held.bytes.items + length front = ap length (c.as_slice.ensures.value ∙ c.fill-n.ensures.bytes) ∙ length-append held.bytes.items front in
    let seam = take-append_seam held.bytes.items front in
    same_but_along _ _ _ _ _ _ (refl) (cc (c.truncate.ensures.items, c.fill-n.ensures.at, c.fill-n.ensures.bytes, c.len-before.ensures.value))
    (torn_behind held.at (length c.args.piece.now) held.bytes.items old.reads _ room (same_but_wider held.at _ _ _ _ _ (c.write_at.ensures.told tells).reads (omega (arith, c.fill-n.ensures.at)) (omega (arith, c.fill-n.ensures.at, asked))))
