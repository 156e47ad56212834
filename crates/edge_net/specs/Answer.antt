-- What an answer's first bytes say.
use Rattle.std.specs.Prelude.{ℕ}
use Rattle.edge_net.specs.declared.answer.Answer.{Answer}
use Rattle.edge_net.specs.declared.answer.Answer.TheVariants.{Reply, Frame}

-- the code by which it answers
abbrev pub code_of : Answer → ℕ
code_of (Reply code) = code
code_of (Frame code) = code
