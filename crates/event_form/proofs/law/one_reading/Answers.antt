use Rattle.event_form.proofs.Unique.{one_entry}
use Rattle.event_form.proofs.law.one_reading.Goals as goal

pub returns : goal.returns
returns c = one_entry
