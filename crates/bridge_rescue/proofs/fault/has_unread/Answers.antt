use Rattle.std.proofs.Common.{inl, inr, refl, sym, ◌∙◌}
use Rattle.std.proofs.lemmas.Bool.{false≢true}
use Rattle.bridge_rescue.specs.declared.fault.Why.TheVariants.{Cut}
use Rattle.bridge_rescue.proofs.Judging.{unread_at, unread_more}
use Rattle.bridge_rescue.proofs.fault.has_unread.Goals as goal

pub returns-then-is_unread : goal.returns-then-is_unread
returns-then-is_unread c = (
  λ _. unread_at c.args.faults.now c.loop-fault.fault-index (record { place = 0; at = 0; why = Cut }) c.loop-fault-test.true (c.is_unread.ensures.0 c.if-is_unread.true),
  λ _. refl,
)

pub loop-fault-preserved : goal.loop-fault-preserved
loop-fault-preserved c = λ has.
    elim (unread_more c.args.faults.now c.loop-fault.fault-index (record { place = 0; at = 0; why = Cut }) c.loop-fault-test.true has) [
      | inl before ↦ c.loop-fault.invariant before
      | inr why ↦ false≢true (sym c.if-is_unread.false ∙ c.is_unread.ensures.1 why)
    ]
