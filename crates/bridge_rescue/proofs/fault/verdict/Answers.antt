use Rattle.std.proofs.Common.{List, get_or, inl, refl, sym, ◌∙◌, subst}
use Rattle.std.proofs.lemmas.Bool.{false≢true}
use Rattle.bridge_rescue.specs.declared.fault.Why.TheVariants.{Cut}
use Rattle.bridge_rescue.specs.declared.fault.SlotFault.{SlotFault}
use Rattle.bridge_rescue.specs.Faults.{IsFirstFault}
use Rattle.bridge_rescue.proofs.Judging.{first_fault}
use Rattle.bridge_rescue.proofs.fault.verdict.Goals as goal

pub returns-in-len1-up : goal.returns-in-len1-up
returns-in-len1-up c = (
  λ has. false≢true (sym c.if-has_unread.false ∙ c.has_unread.ensures.1 has),
  let none : SlotFault = record { place = 0; at = 0; why = Cut } in
      inl (subst (λ (l : List SlotFault). IsFirstFault l (get_or c.args.faults.now 0 none).at) (sym (first_fault c.args.faults.now none c.in-len1-up.len_at_least)) refl),
)
