-- serve_laws/proofs/laws/end_counts_entries/Answers.antt
use Rattle.serve_laws.proofs.Runs.{end_counts_entries}
use Rattle.serve_laws.proofs.laws.end_counts_entries.Goals as goal

pub returns : goal.returns
returns g c = end_counts_entries _ _ _ _
