use Rattle.json_span.proofs.NamedLaws.{Walked, left_of}
use Rattle.json_span.proofs.named.named_value.Given as goal

abbrev pub invariant-loop-next : goal.invariant-loop-next
invariant-loop-next l = Walked l.bytes l.start l.name l.next l.value

abbrev pub decreases-loop-next : goal.decreases-loop-next
decreases-loop-next l = left_of l.bytes l.next
