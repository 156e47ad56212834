use Rattle.format_laws.proofs.Marks.{marks_are_joined}
use Rattle.format_laws.proofs.laws.marks_are_joined.Goals as goal

pub returns : goal.returns
returns c = marks_are_joined
