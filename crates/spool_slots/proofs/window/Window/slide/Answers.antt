use Rattle.std.proofs.Common.{take, ◌∙◌, ap, arith}
use Rattle.spool_slots.proofs.Windows.{window_slides}
use Rattle.spool_slots.proofs.window.Window.slide.Goals as goal

pub returns-clause-window : goal.returns-clause-window
returns-clause-window c = λ at b is.
    let window = c.args.self.now in
    record { same = ap (take c.args.held) c.copy_within.ensures.items ∙ window_slides at window.from window.filled c.args.from c.args.held window.bytes.items b is.same (omega arith) c.requires.held.begins c.requires.held.ends }
