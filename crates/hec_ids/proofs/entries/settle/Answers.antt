use Rattle.std.proofs.Common.{◌≡◌, true, false, Option, is_some, refl, sym, ◌∙◌, ap}
use Rattle.hec_ids.specs.declared.issued.Issued.{Issued}
use Rattle.hec_ids.specs.Kept.{held_of, state_at}
use Rattle.hec_ids.proofs.EntryLaws.{settle_held, holds_is}
use Rattle.hec_ids.proofs.entries.settle.Goals as goal

pub returns-in-Some : goal.returns-in-Some
returns-in-Some c channel from to h is =
    let v = c.in-Some.one.now in
    let w : Issued = record { channel = v.channel; settled = true } in
    ap held_of (c.get_mut.follows.holds w).0 ∙ settle_held channel c.args.id from to c.args.issued.now.entries v w h is (sym c.in-Some.ensures.value) refl

pub returns-in_default : goal.returns-in_default
returns-in_default c channel from to h is =
    let none : true ≡ false = sym is ∙ holds_is channel c.args.id from to c.args.issued.now.entries h ∙ sym (ap (λ (o : Option Issued). is_some (state_at channel o)) c.in_default.ensures.value) in
    absurd (cc)
