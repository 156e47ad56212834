use Rattle.std.proofs.Common.{ℕ, ◌+◌, ◌∙◌, sym, ap}
use Rattle.foundation.specs.Bytes.{part}
use Rattle.spool_slots.proofs.window.Window.seen.Goals as goal

pub returns-clause-value : goal.returns-clause-value
returns-clause-value c = λ at b is. c.bytes.ensures.value at b is ∙ ap (λ (k : ℕ). part (at + c.args.from) k b) (sym c.bytes.ensures.len)
