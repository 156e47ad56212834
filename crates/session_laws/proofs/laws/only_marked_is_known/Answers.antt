use Rattle.session_laws.proofs.Journal.{only_their_marks}
use Rattle.session_laws.proofs.laws.only_marked_is_known.Goals as goal

pub returns : goal.returns
returns c = only_their_marks
