use Rattle.known_numbers.proofs.OneForm.{one_form}
use Rattle.format_laws.proofs.laws.numbers_have_one_form.Goals as goal

pub returns : goal.returns
returns c = one_form
