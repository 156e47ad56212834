use Rattle.std.proofs.Common.{◌≡◌, ◌+◌, ◌*◌, ◌^◌, [], ◌∷◌, Bool, false, sym, ◌∙◌, ap}
use Rattle.std.specs.Prelude.{not, filter}
use Rattle.hec_ids.specs.Table.{Table, holds_settled}
use Rattle.hec_ids.specs.Rows.{is_told}
use Rattle.hec_ids.specs.Kept.{held_of}
use Rattle.hec_ids.proofs.HeldLaws.{some_passes}
use Rattle.hec_ids.proofs.AskLaws.{told_one, told_not}
use Rattle.hec_ids.proofs.KeptLaws.{kept_released}
use Rattle.hec_ids.proofs.ids.Ids.tell.Goals as goal

pub invariant_of-self : goal.invariant_of-self
invariant_of-self c =
    let a = c.self.inside in
    let low = a.run * 2 ^ 32 in
    let some = ap (λ (t : Table). holds_settled c.args.channel c.args.id t.held) c.self.view_is ∙ sym c.holds_settled-settled.ensures ∙ c.if-settled.true in
    let is = some_passes (λ h. h.settled) c.args.channel c.args.id (held_of a.issued.entries) some in
    kept_released a.run a.used c.args.channel c.args.id a.issued.entries c.release.new.issued.entries a.counts c.release.new.counts c.self.invariant
    (c.release.ensures.counted low (low + a.used) c.self.invariant.sound.rising is c.self.invariant.counted)
    (c.release.ensures.held low (low + a.used) c.self.invariant.sound.rising is)

pub returns-then-settled : goal.returns-then-settled
returns-then-settled c =
    let a = c.self.inside in
    let low = a.run * 2 ^ 32 in
    let es = held_of a.issued.entries in
    let some = ap (λ (t : Table). holds_settled c.args.channel c.args.id t.held) c.self.view_is ∙ sym c.holds_settled-settled.ensures ∙ c.if-settled.true in
    let is = some_passes (λ h. h.settled) c.args.channel c.args.id es some in
    let after = c.release.ensures.held low (low + a.used) c.self.invariant.sound.rising is in
    let one = told_one c.args.channel c.args.id low (low + a.used) es c.self.invariant.sound.rising some in (
      ap (λ (b : Bool). b ∷ []) c.holds_settled-settled.ensures,
      (λ i. record { run = a.run; next = low + a.used; held = after i })
          ∙ (λ i. record { run = a.run; next = low + a.used; held = one i })
          ∙ ap (λ (t : Table). record { run = t.run; next = t.next; held = filter (λ h. not (is_told c.args.channel (c.args.id ∷ []) h)) t.held }) c.self.view_is,
    )

pub returns-else-settled : goal.returns-else-settled
returns-else-settled c =
    let t = c.args.self.now in
    let none : holds_settled c.args.channel c.args.id t.held ≡ false = sym c.holds_settled-settled.ensures ∙ c.if-settled.false in
    (ap (λ (b : Bool). b ∷ []) c.holds_settled-settled.ensures, λ i. record { run = t.run; next = t.next; held = sym (told_not c.args.channel c.args.id t.held none) i })
