use Rattle.format_laws.proofs.Marks.{marks_add, few_known, low_known}
use Rattle.format_laws.proofs.laws.marks_add_numbers.Goals as goal

pub returns : goal.returns
returns c = record { only = marks_add; few = few_known; low = low_known }
