use Rattle.std.proofs.Common.{◌≡◌, ◌+◌, ◌≤◌, ◌++◌, ℕ, List, take, length, sym, ◌∙◌, ap, subst, arith}
use Rattle.std.proofs.lemmas.List.{length-take-le, take_all}
use Rattle.foundation.specs.Bytes.{put}
use Rattle.foundation.proofs.Bytes.{length-put}
use Rattle.spool_slots.specs.Pen.{HasWritten}
use Rattle.spool_slots.proofs.Pens.{more_waits, is_written, tears_first}
use Rattle.spool_slots.proofs.pen.Pen.take_some.Goals as goal

pub returns-clause-written : goal.returns-clause-written
returns-clause-written g c = λ start base done tells has.
    let lawful = g.met.D.Disk.lawful c.args.disk.now tells in
    let n = c.min-n.result in
    let pen = c.args.self.now in
    let old = c.args.buffer.now in
    let reads = (g.D.Disk.moment c.args.disk.now).reads in
    let next = c.overwrite.new.bytes in
    let short : n ≤ length c.args.text.now = omega arith in
    let piece = take n c.args.text.now in
    let long : length piece ≡ n = length-take-le n c.args.text.now short in
    let full : pen.filled + n ≡ 65536 = omega (arith, c.if-self-n-lt-PIECE.false) in
    let waits = more_waits start base done pen.at pen.filled n old reads piece has (sym long) (omega (arith, c.requires.buffer)) in
    let whole : take (pen.filled + n) next ≡ next = take_all (pen.filled + n) next (omega (arith, full, c.requires.buffer, ap length c.overwrite.ensures, length-put pen.filled piece old (omega (arith, c.requires.buffer)))) in
    let waits_now = subst (λ (b : List ℕ). HasWritten start base (done ++ piece) pen.at (pen.filled + n) b reads) (sym c.overwrite.ensures) waits in
    subst (λ (k : ℕ). HasWritten start base (done ++ piece) (pen.at + k) 0 next (g.D.Disk.moment c.write_at.new.self).reads) full
    (is_written start base (done ++ piece) pen.at (pen.filled + n) next reads _ next waits_now (omega (arith, full, c.requires.room, lawful.reads_size)) (omega (arith, full, c.requires.buffer, ap length c.overwrite.ensures, length-put pen.filled piece old (omega (arith, c.requires.buffer)))) (c.in_ok-write_at.ensures.written tells ∙ ap (λ (l : List ℕ). put pen.at l reads) (sym whole)))

pub write_at-requires-clause-leave : goal.write_at-requires-clause-leave
write_at-requires-clause-leave g c =
    let n = c.min-n.result in
    let piece = take n c.args.text.now in
    let pen = c.args.self.now in
    let long : length c.overwrite.new.bytes ≡ 65536 = ap length c.overwrite.ensures ∙ length-put pen.filled piece c.args.buffer.now (omega (arith, c.requires.buffer, length-take-le n c.args.text.now (omega arith))) ∙ c.requires.buffer in
    c.requires.leave c.args.disk.now pen.at _ (λ tells. tears_first pen.at (pen.filled + length c.args.text.now) pen.at _ _ (omega arith) (omega (arith, long, c.if-self-n-lt-PIECE.false)))
