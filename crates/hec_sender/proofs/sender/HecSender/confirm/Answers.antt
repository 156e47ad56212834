use Rattle.std.proofs.Common.{◌≡◌, ◌+◌, ℕ, List, length, drop, sym, subst, arith, length-drop}
use Rattle.std.proofs.lemmas.List.{drop-drop}
use Rattle.event_form.specs.declared.event.Entry.{Entry}
use Rattle.event_form.specs.declared.turn.Turn.TheVariants.{Confirmed}
use Rattle.hec_sender.specs.declared.stage.Stage.TheVariants.{Unsent}
use Rattle.hec_sender.specs.declared.verdict.Verdict.TheVariants.{Confirms}
use Rattle.hec_sender.specs.Requests.{request_of}
use Rattle.hec_sender.specs.Sender.{Sender, Keeps}
use Rattle.hec_sender.specs.Hearing.{Hears}
use Rattle.hec_sender.specs.Turns.{Acts}
use Rattle.hec_sender.specs.View.{sender_of}
use Rattle.hec_sender.proofs.Cutting.{request_within}
use Rattle.hec_sender.proofs.Hears.{size_out, act_confirmed, keeps_confirmed}
use Rattle.hec_sender.proofs.Taking.{Took, took, same_fault}
use Rattle.hec_sender.proofs.sender.HecSender.confirm.Goals as goal

pub invariant_of-self : goal.invariant_of-self
invariant_of-self c =
    let s = sender_of c.self.inside in
    let i = c.self.invariant in
    let r = c.take-reply.new.self in
    let e = c.take-reply.ensures in
    let q : (at : ℕ) × Hears s at Confirms = rw (← c.self.view_is) at c.requires in
    let t : Took s.reader q.1.reply r = took s.reader r c.take-reply.result q.1.reply q.1.more q.1.next e.gives e.none e.same e.reads in
    let n = c.self.inside.size in
    let is : n ≡ length (request_of s.done s.rest) = size_out s.stage s.done s.rest n q.1.awaits.1 i.size in
    let left : ℕ → List Entry → Sender = λ k l. record s { reader = r; rest = l; stage = Unsent; done = s.done + k; requests = s.requests + 1 } in
    let sized : Keeps (left n (drop n s.rest)) = subst (λ (k : ℕ). Keeps (left k (drop k s.rest))) (sym is) (keeps_confirmed s q.0 r i.keeps q.1) in
    record {
      keeps = subst (λ (l : List Entry). Keeps (left n l)) (drop-drop n c.self.inside.from c.self.inside.batch.items) sized;
      fault = same_fault s.reader r q.1.reply c.self.inside.fault t i.fault;
      size = tt;
      within = omega (arith, i.within, is, request_within s.done s.rest, length-drop c.self.inside.from c.self.inside.batch.items);
    }

pub returns : goal.returns
returns c =
    let s = sender_of c.self.inside in
    let i = c.self.invariant in
    let r = c.take-reply.new.self in
    let e = c.take-reply.ensures in
    let q : (at : ℕ) × Hears s at Confirms = rw (← c.self.view_is) at c.requires in
    let t : Took s.reader q.1.reply r = took s.reader r c.take-reply.result q.1.reply q.1.more q.1.next e.gives e.none e.same e.reads in
    let n = c.self.inside.size in
    let is : n ≡ length (request_of s.done s.rest) = size_out s.stage s.done s.rest n q.1.awaits.1 i.size in
    let left : ℕ → List Entry → Sender = λ k l. record s { reader = r; rest = l; stage = Unsent; done = s.done + k; requests = s.requests + 1 } in
    let sized : Acts s (Confirmed (s.first + (s.done + n))) (left n (drop n s.rest)) = subst (λ (k : ℕ). Acts s (Confirmed (s.first + (s.done + k))) (left k (drop k s.rest))) (sym is) (act_confirmed s q.0 r i.keeps q.1 t) in
    let placed : Acts s (Confirmed (s.first + (s.done + n))) (left n (drop (c.self.inside.from + n) c.self.inside.batch.items)) =
    subst (λ (l : List Entry). Acts s (Confirmed (s.first + (s.done + n))) (left n l)) (drop-drop n c.self.inside.from c.self.inside.batch.items) sized in
    subst (λ (x : Sender). Acts x (Confirmed (s.first + (s.done + n))) (left n (drop (c.self.inside.from + n) c.self.inside.batch.items))) c.self.view_is placed
