use Rattle.desk_access.proofs.Steps.{goes_later, all_later}
use Rattle.desk_access.proofs.Lasting.{goes_kept, goes_grows}
use Rattle.desk_access.proofs.laws.journal_lasts.Goals as goal

pub returns : goal.returns
returns c = λ x y journal t rules goes one. ((goes_later x y journal rules goes).0, all_later x y journal t rules goes one, goes_kept x y journal t rules goes one, goes_grows x y journal t rules goes one)
