use Rattle.std.proofs.Common.{◌∷◌, [], subst}
use Rattle.spool_faults.specs.declared.fault.TakeFault.{TakeFault}
use Rattle.spool_log.specs.Changing.Take.{RefusedBy}
use Rattle.spool_move.proofs.walking.pages.refuse.Goals as goal

pub returns-in-Spent-clause-told : goal.returns-in-Spent-clause-told
returns-in-Spent-clause-told g c = λ target e refused. c.give_up_first-in-Spent.ensures.told target (subst (λ (f : TakeFault). RefusedBy target (e ∷ []) f) c.in-Spent.is refused).1
