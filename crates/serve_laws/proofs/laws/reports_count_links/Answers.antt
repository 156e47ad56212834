-- serve_laws/proofs/laws/reports_count_links/Answers.antt
use Rattle.serve_laws.proofs.Runs.{reports_count_links}
use Rattle.serve_laws.proofs.laws.reports_count_links.Goals as goal

pub returns : goal.returns
returns c = reports_count_links
