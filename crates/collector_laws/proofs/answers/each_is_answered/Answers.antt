-- Bodies, and requests.
use Rattle.collector_laws.proofs.SomeActs.{some_act}
use Rattle.collector_laws.proofs.SomeCuts.{some_cut}
use Rattle.collector_laws.proofs.SomeLines.{query_or_not, some_line_cut}
use Rattle.collector_laws.proofs.answers.each_is_answered.Goals as goal

pub returns : goal.returns
returns c = record { events = some_cut; lines = some_line_cut; query = query_or_not; act = some_act }
