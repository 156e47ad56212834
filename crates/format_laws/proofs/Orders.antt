-- The open slots of a device, and which of them is the first at fault.
use Rattle.std.proofs.Common.{◌≡◌, inl, inr, ℕ, ◌+◌, List, [], ◌∷◌, sym, ◌∙◌, ap, arith}
use Rattle.spool_state.specs.SpoolState.{OpenSlot}
use Rattle.spool_state.specs.Image.{slot_at}
use Rattle.spool_state.specs.Order.{count_of, FirstAtFault}
use Rattle.spool_state.specs.Rules.{OrderBreaks, IsChain}
use Rattle.spool_state.proofs.Chains.{in_order_no_fault}

one_fault : (slots : List OpenSlot) (ordinal first p q : ℕ) → FirstAtFault slots ordinal first p → FirstAtFault slots ordinal first q → p ≡ q
one_fault [] ordinal first p q a b = absurd a
one_fault (slot ∷ slots) ordinal first p q (inl a) (inl b) = a.0 ∙ sym b.0
one_fault (slot ∷ slots) ordinal first p q (inl a) (inr b) = absurd (a.1 b.0)
one_fault (slot ∷ slots) ordinal first p q (inr a) (inl b) = absurd (b.1 a.0)
one_fault (slot ∷ slots) ordinal first p q (inr a) (inr b) = one_fault slots (slot.segment.ordinal + 1) (slot.segment.first + count_of slot) p q a.1 b.1

pub one_order_break : (size p q : ℕ) (opened : List OpenSlot) → OrderBreaks p size opened → OrderBreaks q size opened → p ≡ q
one_order_break size p q [] a b = a ∙ sym b
one_order_break size p q (slot ∷ slots) a b =
    a.1 ∙ ap (slot_at size) (one_fault (slot ∷ slots) slot.segment.ordinal slot.segment.first a.0 b.0 a.2 b.2) ∙ sym b.1

-- slots that are a chain aren't at fault
pub chain_no_break : (size p : ℕ) (opened : List OpenSlot) → IsChain opened → OrderBreaks p size opened → ⊥
chain_no_break size p [] chain a = omega (arith, chain.some)
chain_no_break size p (slot ∷ slots) chain a = in_order_no_fault (slot ∷ slots) slot.segment.ordinal slot.segment.first a.0 chain.all a.2
