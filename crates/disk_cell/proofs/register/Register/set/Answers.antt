use Rattle.std.proofs.Common.{◌∙◌, ap, refl, arith}
use Rattle.edge_disk.proofs.Moments.{started, weaker}
use Rattle.disk_cell.specs.Cell.{place_of}
use Rattle.disk_cell.proofs.Setting.{set_moments, set_outside, known_step, known_then, closing_holds, tears_closing, lets_cell}
use Rattle.disk_cell.proofs.register.Register.set.Goals as goal

pub returns-then-self-clause-any_moment : goal.returns-then-self-clause-any_moment
returns-then-self-clause-any_moment g c = λ tells.
    let r = c.args.self.now in
    started _ _ (g.met.D.Disk.lawful c.args.disk.now tells) (λ d i. (d, i, closing_holds r c.args.run c.args.cursor c.args.known.now c.requires.few d d (known_step r d (c.requires.known tells d i))))

pub returns-in_err-close_other-clause-any_moment : goal.returns-in_err-close_other-clause-any_moment
returns-in_err-close_other-clause-any_moment g c = λ tells.
    weaker _ _ _ _ (c.close_other.ensures.any_moment tells) (λ d from. (from.0, from.1, closing_holds c.args.self.now c.args.run c.args.cursor c.args.known.now c.requires.few from.0 d from.2))

pub returns-in_err-write_cell-clause-any_moment : goal.returns-in_err-write_cell-clause-any_moment
returns-in_err-write_cell-clause-any_moment g c = λ tells.
    set_moments c.args.self.now c.args.run c.args.cursor c.args.known.now c.requires.few _ _ _ (g.met.D.Disk.lawful c.args.disk.now tells) c.requires.room (omega (arith, c.args.self.now.last)) (c.close_other.ensures.any_moment tells) c.offset.result (c.offset.ensures ∙ ap (λ x. place_of x) c.other-counting.ensures) (c.write_cell.ensures.any_moment tells)

pub returns-clause-any_moment : goal.returns-clause-any_moment
returns-clause-any_moment g c = λ tells.
    set_moments c.args.self.now c.args.run c.args.cursor c.args.known.now c.requires.few _ _ _ (g.met.D.Disk.lawful c.args.disk.now tells) c.requires.room (omega (arith, c.args.self.now.last)) (c.close_other.ensures.any_moment tells) c.offset.result (c.offset.ensures ∙ ap (λ x. place_of x) c.other-counting.ensures) (c.write_cell.ensures.any_moment tells)

pub returns-clause-known : goal.returns-clause-known
returns-clause-known g c = λ tells.
    let old = g.met.D.Disk.lawful c.args.disk.now tells in
    let mid = g.met.D.Disk.lawful c.close_other.new.disk tells in
    let from = (c.close_other.ensures.any_moment tells).now _ mid.reads_image in
    known_then c.args.self.now c.args.run c.args.cursor c.args.known.now c.requires.few _ from.0 _ _ (omega (arith, c.requires.room, old.image_size from.0 from.1)) (omega (arith, c.args.self.now.last)) from.2 c.offset.result (c.offset.ensures ∙ ap (λ x. place_of x) c.other-counting.ensures) (c.in_ok-write_cell.ensures.written tells) c.other-counting.ensures refl refl c.set.ensures.content

pub returns-clause-outside : goal.returns-clause-outside
returns-clause-outside g c = λ tells.
    let old = g.met.D.Disk.lawful c.args.disk.now tells in
    set_outside c.args.self.now c.args.run c.args.cursor c.args.known.now _ _ _ c.requires.few (omega (arith, c.requires.room, old.reads_size)) (c.in_ok-close_other.ensures.outside tells) c.offset.result (c.offset.ensures ∙ ap (λ x. place_of x) c.other-counting.ensures) (c.in_ok-write_cell.ensures.written tells)

pub close_other-requires-clause-leave : goal.close_other-requires-clause-leave
close_other-requires-clause-leave g c = λ is_open.
    c.requires.leave (omega (arith, c.args.self.now.last, c.if-self.false)) c.args.disk.now _ 1 (λ tells.
    tears_closing c.args.self.now c.args.run c.args.cursor c.args.known.now c.requires.few _ (g.met.D.Disk.lawful c.args.disk.now tells) c.requires.room is_open (c.requires.known tells))

pub write_cell-requires-clause-leave : goal.write_cell-requires-clause-leave
write_cell-requires-clause-leave g c =
    lets_cell c.args.self.now c.args.run c.args.cursor c.args.known.now c.requires.few g.D.Disk.tells g.D.Disk.moment g.D.Disk.may_tear _ _ (λ tells. g.met.D.Disk.lawful c.args.disk.now tells) c.requires.room (omega (arith, c.args.self.now.last)) c.close_other.ensures.any_moment c.offset.result (c.offset.ensures ∙ ap (λ x. place_of x) c.other-counting.ensures) (c.requires.leave (omega (arith, c.args.self.now.last, c.if-self.false)))
