use Rattle.std.proofs.Common.{Some, refl, arith}
use Rattle.std.proofs.lemmas.Grind.{common_steps}
use Rattle.edge_net.specs.Pace.{later}
use Rattle.edge_net.specs.declared.recent.Entry.{Entry}
use Rattle.edge_net.proofs.recent.Recent.note.Goals as goal

pub returns-clause-kept : goal.returns-clause-kept
returns-clause-kept c =
    let said : Entry = record { topic = Some c.args.topic; quiet_until = later c.args.now 60000; unsaid = 0 } in
    (c.enter-place.result, said, grind (arith, common_steps), grind (arith, common_steps), (refl, refl))
