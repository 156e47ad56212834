use Rattle.std.proofs.Common.{◌≡◌, ◌<◌, ◌∷◌, false, length, sym, subst}
use Rattle.std.specs.Prelude.{None}
use Rattle.relp_sender.specs.declared.stage.Stage.TheVariants.{Open}
use Rattle.relp_sender.specs.Sender.{HasRoom, HasTold}
use Rattle.relp_sender.specs.contracts.sender.RelpSender.{the_view}
use Rattle.relp_sender.proofs.Writing.{keeps_entry}
use Rattle.relp_sender.proofs.sender.RelpSender.advance.Goals as goal

pub invariant_of-self : goal.invariant_of-self
invariant_of-self c =
    let s = the_view c.self.inside in
    let asked : s.asked ≡ false = rw (← c.self.view_is) at c.requires.asked in
    let goes : s.stop ≡ None = rw (← c.self.view_is) at c.requires.goes in
    let told : HasTold s = rw (← c.self.view_is) at c.requires.told in
    let stage : s.stage ≡ Open = rw (← c.self.view_is) at c.requires.stage in
    let room : length s.unanswered < 1024 = rw (← c.self.view_is) at c.requires.room in
    let e = c.in-Some._entry in
    let es = c.pop_front.new.self.items in
    let more : s.waiting ≡ e ∷ es = c.in-Some.ensures.items in (
      keeps_entry s e es c.push_back_reserved.new.self.items c.self.invariant.0 asked goes told stage more room c.push_back_reserved.ensures.items,
      c.self.invariant.1,
      subst (HasRoom s.stage) (sym c.push_back_reserved.ensures.capacity) c.self.invariant.2,
    )
