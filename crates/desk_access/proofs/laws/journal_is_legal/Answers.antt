use Rattle.desk_access.proofs.LegalEntries as proofs
use Rattle.desk_access.proofs.laws.journal_is_legal.Goals as goal

pub returns : goal.returns
returns c = proofs.legal_journal
