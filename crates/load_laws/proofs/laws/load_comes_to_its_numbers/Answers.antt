use Rattle.load_laws.proofs.Sure.{all_confirmed, only_memory}
use Rattle.load_laws.proofs.Well.{can_load}
use Rattle.load_laws.proofs.laws.load_comes_to_its_numbers.Goals as goal

pub returns : goal.returns
returns c proto number count few = (
  all_confirmed proto number count few (can_load c.runs_of_one.ensures proto number count few),
  only_memory proto number count few (can_load c.runs_of_one.ensures proto number count few),
)
