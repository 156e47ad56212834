use Rattle.std.proofs.Common.{rules, tests, ◌==◌}
use Rattle.std.proofs.lemmas.Iterator.{YieldsList-from_slice}
use Rattle.std.proofs.lemmas.Iterator.Search.{any_from_yields_List}
use Rattle.spool_slots.specs.declared.slot.Slot.{Slot}
use Rattle.spool_log.proofs.changing.target.begins_at.Goals as goal

pub returns : goal.returns
returns c = any_from_yields_List (λ (slot : Slot). slot.at == c.args.at) _ _ _ c.any.ensures.ran (YieldsList-from_slice c.args.slots.now cc) (λ x b q k. search (rules, tests))
