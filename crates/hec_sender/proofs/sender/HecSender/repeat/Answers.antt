use Rattle.std.proofs.Common.{ℕ, List, sym, subst}
use Rattle.event_form.specs.declared.turn.Turn.TheVariants.{Write}
use Rattle.hec_sender.specs.declared.due.Due.TheVariants.{Repeat}
use Rattle.hec_sender.specs.declared.stage.Stage.TheVariants.{Asked}
use Rattle.hec_sender.specs.Sender.{Sender, IsDue}
use Rattle.hec_sender.specs.Texts.{query_text}
use Rattle.hec_sender.specs.Turns.{Acts}
use Rattle.hec_sender.specs.View.{sender_of}
use Rattle.hec_sender.proofs.Writing.{act_repeat, keeps_repeat}
use Rattle.hec_sender.proofs.Hears.{size_paused}
use Rattle.hec_sender.proofs.sender.HecSender.repeat.Goals as goal

pub invariant_of-self : goal.invariant_of-self
invariant_of-self c =
    let s = sender_of c.self.inside in
    let i = c.self.invariant in
    let due : IsDue (Repeat c.args.again) s = rw (← c.self.view_is) at c.requires in
    record {
      keeps = keeps_repeat s c.args.again i.keeps due;
      fault = i.fault;
      size = size_paused s.stage c.args.again s.done s.rest c.self.inside.size due.1 i.size;
      within = i.within;
    }

pub returns-clause-acts : goal.returns-clause-acts
returns-clause-acts c =
    let s = sender_of c.self.inside in
    let again = c.args.again in
    let left : Sender = record s { stage = Asked again } in
    let due : IsDue (Repeat again) s = rw (← c.self.view_is) at c.requires in
    let acts : Acts s (Write (query_text s.terms again.id)) left = act_repeat s again c.self.invariant.keeps due in
    subst (λ (x : Sender). Acts x (Write c.in_ok-text.text) left) c.self.view_is (subst (λ (l : List ℕ). Acts s (Write l) left) (sym c.in_ok-text.ensures) acts)
