use Rattle.std.proofs.Common.{◌≡◌, ◌≤◌, ◌-◌, ◌∙◌, ℕ, List, length, take, drop, sym, ap, subst}
use Rattle.std.proofs.lemmas.List.{take_rest}
use Rattle.event_form.specs.declared.event.Entry.{Entry}
use Rattle.event_form.specs.declared.turn.Turn.TheVariants.{Write}
use Rattle.hec_sender.specs.declared.due.Due.TheVariants.{Send}
use Rattle.hec_sender.specs.declared.stage.Stage.TheVariants.{Sent}
use Rattle.hec_sender.specs.Texts.{request_text}
use Rattle.hec_sender.specs.Requests.{request_of, request_size}
use Rattle.hec_sender.specs.Sender.{Sender, IsDue}
use Rattle.hec_sender.specs.Turns.{Acts}
use Rattle.hec_sender.specs.View.{sender_of}
use Rattle.hec_sender.proofs.Cutting.{request_is, size_is}
use Rattle.hec_sender.proofs.Writing.{act_send, keeps_send}
use Rattle.hec_sender.proofs.sender.HecSender.send.Goals as goal

pub invariant_of-self : goal.invariant_of-self
invariant_of-self c =
    let s = sender_of c.self.inside in
    let i = c.self.invariant in
    let e = c.in_ok-request.ensures in
    let n = c.in_ok-request.request.size in
    let xs = c.deref.result.now in
    let from = c.self.inside.from in
    let run : take (length xs - from) (drop from xs) ≡ s.rest = take_rest xs from ∙ ap (drop from) c.deref.ensures.value in
    let size : n ≡ request_size s.rest = e.size ∙ ap request_size run in
    let within = subst (λ (l : List Entry). n ≤ length l) run e.within in
    let due : IsDue Send s = rw (← c.self.view_is) at c.requires in
    record { keeps = keeps_send s i.keeps due; fault = i.fault; size = size_is s.done s.rest n i.keeps.run size within; within = i.within }

pub returns-clause-acts : goal.returns-clause-acts
returns-clause-acts c =
    let s = sender_of c.self.inside in
    let i = c.self.invariant in
    let e = c.in_ok-request.ensures in
    let n = c.in_ok-request.request.size in
    let xs = c.deref.result.now in
    let from = c.self.inside.from in
    let left : Sender = record s { stage = Sent } in
    let run : take (length xs - from) (drop from xs) ≡ s.rest = take_rest xs from ∙ ap (drop from) c.deref.ensures.value in
    let size : n ≡ request_size s.rest = e.size ∙ ap request_size run in
    let text : c.in_ok-request.request.text ≡ request_text s.terms (request_of s.done s.rest) =
    e.text ∙ ap (λ (l : List Entry). request_text s.terms (take n l)) run ∙ ap (request_text s.terms) (sym (request_is s.done s.rest n i.keeps.run size)) in
    let due : IsDue Send s = rw (← c.self.view_is) at c.requires in
    let acts : Acts s (Write c.in_ok-request.request.text) left = subst (λ (l : List ℕ). Acts s (Write l) left) (sym text) (act_send s i.keeps due) in
    subst (λ (x : Sender). Acts x (Write c.in_ok-request.request.text) left) c.self.view_is acts
