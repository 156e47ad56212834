use Rattle.std.proofs.Common.{◌≡◌, ◌+◌, ◌-◌, ◌≤◌, length, ◌∙◌, sym, arith}
use Rattle.foundation.proofs.Bytes.{same_but_refl, same_but_wider, put_same}
use Rattle.edge_file.proofs.Putting.{put_empty, put_cut, same_but_along}
use Rattle.edge_file.proofs.whole_pages.WholePages.write_but.Goals as goal

-- nothing was held, and the write that failed lies within the piece's range
pub returns-in_err-write_at-clause-torn : goal.returns-in_err-write_at-clause-torn
returns-in_err-write_at-clause-torn g c = λ tells.
    let held = c.args.self.now.held in
    same_but_along _ _ _ _ _ _ (put_empty held.at _ _ c.requires.none) (put_empty held.at _ _ c.requires.none)
    (same_but_wider c.args.at (length c.args.piece.now) _ _ _ _ (c.write_at.ensures.told tells).reads (omega arith) (omega (arith, c.split_at.ensures.front_len)))

pub returns-clause-written : goal.returns-clause-written
returns-clause-written g c = λ tells.
    let held = c.args.self.now.held in
    let old = g.D.Disk.moment c.args.self.now.disk in
    let room : c.args.at + length c.args.piece.now ≤ length old.reads = omega (arith, c.requires.room, (g.met.D.Disk.lawful c.args.self.now.disk tells).reads_size) in
    let cut = put_cut c.args.at (length c.args.piece.now - c.args.last) c.args.piece.now old.reads (omega arith) room in
    let bare = put_empty held.at _ old.reads c.requires.none in
    let now = c.in_ok-write_at.ensures.written tells in
    cc (c.hold.ensures.at, c.hold.ensures.bytes, c.split_at.ensures.front, c.split_at.ensures.back)

pub returns-clause-torn : goal.returns-clause-torn
returns-clause-torn g c = λ tells.
    let held = c.args.self.now.held in
    let old = g.D.Disk.moment c.args.self.now.disk in
    let room : c.args.at + length c.args.piece.now ≤ length old.reads = omega (arith, c.requires.room, (g.met.D.Disk.lawful c.args.self.now.disk tells).reads_size) in
    let cut = put_cut c.args.at (length c.args.piece.now - c.args.last) c.args.piece.now old.reads (omega arith) room in
    let now = c.in_ok-write_at.ensures.written tells in
    same_but_along _ _ _ _ _ _ (put_empty held.at _ _ c.requires.none) (cc (c.hold.ensures.at, c.hold.ensures.bytes, c.split_at.ensures.front, c.split_at.ensures.back))
    (put_same c.args.at (length c.args.piece.now) c.args.piece.now old.reads room (omega arith))
