use Rattle.std.proofs.Common.{◌≡◌, ◌+◌, ◌*◌, ◌^◌, true, false, sym, ◌∙◌, ap}
use Rattle.hec_ids.specs.Table.{Table, holds}
use Rattle.hec_ids.specs.Kept.{held_of}
use Rattle.hec_ids.proofs.HeldLaws.{filter_none}
use Rattle.hec_ids.proofs.KeptLaws.{kept_released}
use Rattle.hec_ids.proofs.ids.Ids.forget.Goals as goal

pub invariant_of-self : goal.invariant_of-self
invariant_of-self c =
    let a = c.self.inside in
    let low = a.run * 2 ^ 32 in
    let is : holds c.args.channel c.args.id (held_of a.issued.entries) ≡ true = ap (λ (t : Table). holds c.args.channel c.args.id t.held) c.self.view_is ∙ sym c.holds-held.ensures ∙ c.if-held.true in
    kept_released a.run a.used c.args.channel c.args.id a.issued.entries c.release.new.issued.entries a.counts c.release.new.counts c.self.invariant
    (c.release.ensures.counted low (low + a.used) c.self.invariant.sound.rising is c.self.invariant.counted)
    (c.release.ensures.held low (low + a.used) c.self.invariant.sound.rising is)

pub returns-else-held : goal.returns-else-held
returns-else-held c =
    let t = c.args.self.now in
    let none : holds c.args.channel c.args.id t.held ≡ false = sym c.holds-held.ensures ∙ c.if-held.false in
    (c.holds-held.ensures, λ i. record { run = t.run; next = t.next; held = sym (filter_none c.args.channel c.args.id t.held none) i })
