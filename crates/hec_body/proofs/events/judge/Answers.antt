use Rattle.std.proofs.Common.{ℕ, List, Bor, Option, subst, arith}
use Rattle.std.specs.Prelude.{IfSome, IsTrue}
use Rattle.hec_body.specs.Events.{HasEvent, IsBlank}
use Rattle.hec_body.proofs.events.judge.Goals as goal

pub returns-clause-event : goal.returns-clause-event
returns-clause-event c =
    let text = c.args.text.now in
    let value = c.in-Some.value.now in
    let has : HasEvent text value = subst (λ (r : Option (Bor (List ℕ))). IfSome r (λ v. HasEvent text v.now)) c.in-Some.is c.requires.has in
    let other : IsBlank value → ⊥ = λ blank. let is : IsTrue c.is_blank.result = c.is_blank.ensures.1 blank in absurd (cc) in
    (omega arith, (value, has, other))
