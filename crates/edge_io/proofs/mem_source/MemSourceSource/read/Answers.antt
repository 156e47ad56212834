use Rattle.edge_io.proofs.Place.{take_moved, drop_moved, drop_ended}
use Rattle.edge_io.proofs.mem_source.MemSourceSource.read.Goals as goal

pub returns-clause-given : goal.returns-clause-given
returns-clause-given c =
    let source = c.args.self.now in
    take_moved source.bytes.items c.deref.result.now c.give-n.new.buf source.at c.give-n.result c.deref.ensures.value c.give-n.ensures.gave

pub returns-clause-left : goal.returns-clause-left
returns-clause-left c =
    let source = c.args.self.now in
    let seen = c.deref.result.now in
    let same = c.deref.ensures.value in (
      drop_moved source.bytes.items seen c.give-n.new.buf source.at c.give-n.result same c.give-n.ensures.gave,
      λ none room. drop_ended source.bytes.items seen source.at c.give-n.result source.step _ same c.give-n.ensures.count none source.some c.requires,
    )
