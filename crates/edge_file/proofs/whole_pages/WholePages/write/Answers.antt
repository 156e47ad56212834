use Rattle.std.proofs.Common.{◌≡◌, ◌+◌, ◌≤◌, length, ◌∙◌, arith}
use Rattle.std.proofs.lemmas.Result.{on_ok_weaker}
use Rattle.edge_file.specs.Held.{seen}
use Rattle.edge_file.specs.HeldLaws.{held_lawful}
use Rattle.edge_file.proofs.Putting.{put_cut}
use Rattle.edge_file.proofs.whole_pages.WholePages.write.Goals as goal

-- the front of the piece was put with what was held, and the rest is put where that ends
pub returns-clause-written : goal.returns-clause-written
returns-clause-written g c = on_ok_weaker c.write_but.result (λ now tells.
    let held = c.args.self.now.held in
    let old = g.D.Disk.moment c.args.self.now.disk in
    let whole = held_lawful held old (g.met.D.Disk.lawful c.args.self.now.disk tells) c.args.self.now.room in
    let cut = put_cut c.args.at c.in_ok-taken.taken c.args.piece.now (seen held old) (omega arith) (omega (arith, c.requires, whole.reads_size)) in
    let before = c.in_ok-taken.ensures.written tells in
    let after = now tells in
    cc (c.split_at.ensures.back)) c.write_but.ensures.written
