use Rattle.std.proofs.Common.{◌≡◌, ◌+◌, ◌-◌, ℕ, sym, ap, ◌∙◌}
use Rattle.std.specs.Prelude.{Some}
use Rattle.relp_sender.specs.Sender.{Sender}
use Rattle.relp_sender.specs.contracts.sender.RelpSender.{the_view}
use Rattle.relp_sender.proofs.Telling.{sends_one, place_of}
use Rattle.relp_sender.proofs.sender.RelpSender.tell.Goals as goal

pub returns-clause-sends : goal.returns-clause-sends
returns-clause-sends c = λ h was.
    let s = the_view c.self.inside in
    let place = c.in-Some.place in
    let is : s.beyond ≡ Some place = sym c.in-Some.ensures.value in
    let first : c.args.self.now.first ≡ s.first = ap (λ (x : Sender). x.first) (sym c.self.view_is) in
    let at = ap (λ (n : ℕ). s.first + place - n) first ∙ place_of s.first place in
    sends_one s place _ _ is c.take.ensures.after at h (rw (← c.self.view_is) at was)
