use Rattle.spool_slots.proofs.Windows.{window_part}
use Rattle.spool_slots.proofs.window.Window.bytes.Goals as goal

pub returns-clause-value : goal.returns-clause-value
returns-clause-value c = λ at b is.
    window_part at c.args.self.now.from c.args.self.now.filled c.args.from c.args.n c.args.self.now.bytes.items c.deref.result.now b is.same c.deref.ensures.value c.requires.begin c.requires.end
