use Rattle.bridge_rescue.proofs.Fronting.{known_whole, known_front}
use Rattle.bridge_rescue.proofs.printing.print_found.Goals as goal

pub returns-then-found-clause-gathered : goal.returns-then-found-clause-gathered
returns-then-found-clause-gathered g c = λ segment tells known.
    c.print_slot.ensures.gathered segment tells (known_whole c.args.found.now segment (g.D.Disk.moment c.args.disk.now).reads c.if-found.true known)

pub returns-else-found-clause-gathered : goal.returns-else-found-clause-gathered
returns-else-found-clause-gathered g c = λ segment tells known.
    c.print_front.ensures.gathered segment tells (known_front c.args.found.now segment (g.D.Disk.moment c.args.disk.now).reads c.if-found.false known)
