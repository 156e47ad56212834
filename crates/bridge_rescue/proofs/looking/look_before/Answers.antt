use Rattle.std.proofs.Common.{refl, arith}
use Rattle.edge_disk.proofs.Calls.{calls_as}
use Rattle.bridge_rescue.proofs.Seeing.{seen_before, seen_unread, front_of, inside_of, readable_before, readable_unread, before_is_read, unread_is_unread}
use Rattle.bridge_rescue.proofs.looking.look_before.Goals as goal

pub returns-in-Ok-clause-seen : goal.returns-in-Ok-clause-seen
returns-in-Ok-clause-seen g c = λ tells breaks.
    let lawful = g.met.D.Disk.lawful c.args.disk.now tells in
    let size = c.args.layout.size in
    let reads = (g.D.Disk.moment c.args.disk.now).reads in
    seen_before size c.args.place c.args.begin reads c.requires.begin (omega (arith, c.requires.inside, lawful.reads_size)) c.args.at c.in-Ok.found c.by_front.result breaks
    (front_of c.args.begin size c.args.at reads g.D.Disk.tells c.in-Ok.found c.in-Ok.ensures.slot c.in-Ok.ensures.front tells breaks) c.by_front.ensures

pub returns-in-Ok-clause-readable : goal.returns-in-Ok-clause-readable
returns-in-Ok-clause-readable g c =
    let len = (g.D.Disk.moment c.args.disk.now).size in
    readable_before len c.args.place c.args.at c.in-Ok.found c.by_front.result
    (inside_of c.args.begin c.args.layout.size len c.in-Ok.found c.requires.inside c.in-Ok.ensures.slot) c.by_front.ensures

pub returns-in-Ok-clause-calls : goal.returns-in-Ok-clause-calls
returns-in-Ok-clause-calls g c =
    calls_as _ _ _ _ c.in-Ok.ensures.calls (λ un. absurd (before_is_read c.in-Ok.found c.args.place c.args.at c.by_front.result c.by_front.ensures un)) (λ is. absurd (cc))

-- it was not read

pub returns-in-Err-clause-seen : goal.returns-in-Err-clause-seen
returns-in-Err-clause-seen g c = λ tells breaks.
    seen_unread c.args.layout.size c.args.place c.args.begin (g.D.Disk.moment c.args.disk.now).reads c.requires.begin c.unread.result c.unread.ensures

pub returns-in-Err-clause-readable : goal.returns-in-Err-clause-readable
returns-in-Err-clause-readable g c = readable_unread _ c.args.place c.args.begin c.unread.result c.unread.ensures

pub returns-in-Err-clause-calls : goal.returns-in-Err-clause-calls
returns-in-Err-clause-calls g c =
    calls_as _ _ _ _ c.in-Err.ensures.calls (λ un. refl) (λ is. unread_is_unread c.args.place c.args.begin c.unread.result c.unread.ensures)
