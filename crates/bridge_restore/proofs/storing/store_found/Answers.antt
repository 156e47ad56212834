use Rattle.bridge_rescue.proofs.Fronting.{known_whole, known_front}
use Rattle.bridge_restore.proofs.storing.store_found.Goals as goal

pub returns-then-found-clause-stored : goal.returns-then-found-clause-stored
returns-then-found-clause-stored g c = λ segment t tells tells' known held.
    c.store_slot.ensures.stored segment t tells tells' (known_whole c.args.found.now segment (g.D.Disk.moment c.args.disk.now).reads c.if-found.true known) held

pub returns-else-found-clause-stored : goal.returns-else-found-clause-stored
returns-else-found-clause-stored g c = λ segment t tells tells' known held.
    c.store_front.ensures.stored segment t tells tells' (known_front c.args.found.now segment (g.D.Disk.moment c.args.disk.now).reads c.if-found.false known) held
