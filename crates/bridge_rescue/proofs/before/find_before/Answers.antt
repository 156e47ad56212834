use Rattle.std.proofs.Common.{rules, ◌^◌, ◌<◌, ◌∙◌, arith}
use Rattle.bridge_rescue.proofs.Fronting.{front_found}
use Rattle.bridge_rescue.proofs.before.find_before.Goals as goal

pub returns-in-Ok-Some-clause-front : goal.returns-in-Ok-Some-clause-front
returns-in-Ok-Some-clause-front g c = λ tells breaks.
    let lawful = g.met.D.Disk.lawful c.args.disk.now tells in
    let slot = c.in-Ok-Some.slot in
    let is = rw c.in-Ok-Some.field-0-is at c.in-Ok-Some.ensures.slot in
    let found = rw c.in-Ok-Some.field-0-is at c.in-Ok-Some.ensures.found in
    let fits : (slot.ordinal < 2 ^ 64) × (slot.first < 2 ^ 64) = search rules in
    front_found c.args.begin c.args.size c.args.at c.min-n.result (g.D.Disk.moment c.args.disk.now).reads breaks
    (omega (arith, c.requires.place, lawful.reads_size)) c.requires.small c.requires.large (omega (arith, c.min-n.ensures, c.saturating_sub.ensures))
    slot c.placed.result (found tt).0 c.in-Ok.held.bytes.items (c.in-Ok.ensures.bytes tells) is.0 (is.1 ∙ c.len-held_size.ensures ∙ c.in-Ok.ensures.size) (found tt).1
    c.placed.ensures fits.0 fits.1
