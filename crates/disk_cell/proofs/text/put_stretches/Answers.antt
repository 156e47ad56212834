use Rattle.std.proofs.Common.{◌∙◌, ◌+◌, ◌*◌, ◌≤◌, ◌++◌, ap, sym, arith, length, take, refl}
use Rattle.std.proofs.lemmas.Grind.{take_at_read}
use Rattle.foundation.specs.Bytes.{put}
use Rattle.spool_state.specs.Cells.{stretches_text}
use Rattle.disk_cell.proofs.Texts.{put_next}
use Rattle.disk_cell.proofs.text.put_stretches.Goals as goal

pub loop-i-preserved : goal.loop-i-preserved
loop-i-preserved c =
    let at = c.args.at in
    let i = c.loop-i.i in
    let known = c.args.known.now in
    let front = take at c.args.body.now in
    let room : at + 16 * i ≤ length c.loop-i.body = omega (arith, c.requires, c.loop-i.auto.body, c.loop-i-test.true) in
    ap (take (at + 16 * (i + 1))) (c.overwrite.ensures ∙ ap (λ piece. put (at + 16 * i) piece c.loop-i.body) c.bytes_of.ensures)
    ∙ put_next at i _ front c.loop-i.body (take i known) _ room refl c.loop-i.invariant
    ∙ ap (λ l. front ++ stretches_text l) (sym (take_at_read known i _ c.loop-i-test.true).1)
