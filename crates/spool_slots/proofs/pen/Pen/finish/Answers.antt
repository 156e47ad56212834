use Rattle.std.proofs.Common.{arith}
use Rattle.std.proofs.lemmas.List.{length-take-le}
use Rattle.spool_slots.proofs.Pens.{is_written, all_written, tears_first}
use Rattle.spool_slots.proofs.pen.Pen.finish.Goals as goal

pub returns-clause-written : goal.returns-clause-written
returns-clause-written g c = λ start base done tells has.
    let lawful = g.met.D.Disk.lawful c.args.disk.now tells in
    all_written start base done _ c.args.buffer.now _ (is_written start base done c.args.self.at c.args.self.filled c.args.buffer.now _ _ c.args.buffer.now has (omega (arith, c.requires.room, lawful.reads_size)) (omega (arith, c.requires.buffer)) (c.in_ok-write_at.ensures.written tells))

pub write_at-requires-clause-leave : goal.write_at-requires-clause-leave
write_at-requires-clause-leave g c =
    c.requires.leave c.args.disk.now c.args.self.at _ (λ tells. tears_first c.args.self.at c.args.self.filled c.args.self.at _ _ (omega arith) (omega (arith, length-take-le c.args.self.filled c.args.buffer.now (omega (arith, c.requires.buffer, c.args.self.open)))))
