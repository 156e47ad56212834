use Rattle.std.proofs.Common.{◌≡◌, ◌+◌, ◌*◌, ◌^◌, false, sym, ◌∙◌, ap}
use Rattle.std.specs.Prelude.{not, map}
use Rattle.hec_ids.specs.Table.{Table, holds_unsettled}
use Rattle.hec_ids.specs.Rows.{settled_at}
use Rattle.hec_ids.specs.Kept.{held_of}
use Rattle.hec_ids.proofs.HeldLaws.{settle_none, some_passes}
use Rattle.hec_ids.proofs.KeptLaws.{kept_settled}
use Rattle.hec_ids.proofs.ids.Ids.settle.Goals as goal

pub invariant_of-self : goal.invariant_of-self
invariant_of-self c =
    let a = c.self.inside in
    let low = a.run * 2 ^ 32 in
    let some = ap (λ (t : Table). holds_unsettled c.args.channel c.args.id t.held) c.self.view_is ∙ sym c.holds_unsettled-unsettled.ensures ∙ c.if-unsettled.true in
    let is = some_passes (λ h. not h.settled) c.args.channel c.args.id (held_of a.issued.entries) some in
    kept_settled a.run a.used c.args.channel c.args.id a.issued.entries c.settle.new.issued.entries a.counts c.self.invariant
    (c.settle.ensures c.args.channel low (low + a.used) c.self.invariant.sound.rising is)

pub returns-then-unsettled : goal.returns-then-unsettled
returns-then-unsettled c =
    let a = c.self.inside in
    let low = a.run * 2 ^ 32 in
    let some = ap (λ (t : Table). holds_unsettled c.args.channel c.args.id t.held) c.self.view_is ∙ sym c.holds_unsettled-unsettled.ensures ∙ c.if-unsettled.true in
    let is = some_passes (λ h. not h.settled) c.args.channel c.args.id (held_of a.issued.entries) some in
    let after = c.settle.ensures c.args.channel low (low + a.used) c.self.invariant.sound.rising is in (
      c.holds_unsettled-unsettled.ensures,
      (λ i. record { run = a.run; next = low + a.used; held = after i })
          ∙ ap (λ (t : Table). record { run = t.run; next = t.next; held = map (λ h. settled_at c.args.channel c.args.id h) t.held }) c.self.view_is,
    )

pub returns-else-unsettled : goal.returns-else-unsettled
returns-else-unsettled c =
    let t = c.args.self.now in
    let none : holds_unsettled c.args.channel c.args.id t.held ≡ false = sym c.holds_unsettled-unsettled.ensures ∙ c.if-unsettled.false in
    (c.holds_unsettled-unsettled.ensures, λ i. record { run = t.run; next = t.next; held = sym (settle_none c.args.channel c.args.id t.held none) i })
