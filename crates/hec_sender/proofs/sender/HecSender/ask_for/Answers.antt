use Rattle.std.proofs.Common.{ℕ, List, sym, subst}
use Rattle.event_form.specs.declared.turn.Turn.TheVariants.{Write}
use Rattle.hec_sender.specs.declared.verdict.Verdict.TheVariants.{Asks}
use Rattle.hec_sender.specs.Sender.{Sender}
use Rattle.hec_sender.specs.Texts.{query_text}
use Rattle.hec_sender.specs.Hearing.{Hears, asking}
use Rattle.hec_sender.specs.Turns.{Acts}
use Rattle.hec_sender.specs.View.{sender_of}
use Rattle.hec_sender.proofs.Hears.{size_out, act_asking, keeps_asking}
use Rattle.hec_sender.proofs.Taking.{Took, took, same_fault}
use Rattle.hec_sender.proofs.sender.HecSender.ask_for.Goals as goal

pub invariant_of-self : goal.invariant_of-self
invariant_of-self c =
    let s = sender_of c.self.inside in
    let i = c.self.invariant in
    let r = c.take-reply.new.self in
    let e = c.take-reply.ensures in
    let q : (at : ℕ) × Hears s at (Asks c.args.id) = rw (← c.self.view_is) at c.requires in
    let t : Took s.reader q.1.reply r = took s.reader r c.take-reply.result q.1.reply q.1.more q.1.next e.gives e.none e.same e.reads in
    record {
      keeps = keeps_asking s q.0 c.args.id r i.keeps q.1;
      fault = same_fault s.reader r q.1.reply c.self.inside.fault t i.fault;
      size = size_out s.stage s.done s.rest c.self.inside.size q.1.awaits.1 i.size;
      within = i.within;
    }

pub returns-clause-acts : goal.returns-clause-acts
returns-clause-acts c =
    let s = sender_of c.self.inside in
    let r = c.take-reply.new.self in
    let e = c.take-reply.ensures in
    let q : (at : ℕ) × Hears s at (Asks c.args.id) = rw (← c.self.view_is) at c.requires in
    let t : Took s.reader q.1.reply r = took s.reader r c.take-reply.result q.1.reply q.1.more q.1.next e.gives e.none e.same e.reads in
    let acts : Acts s (Write (query_text s.terms c.args.id)) (asking s r c.args.id) = act_asking s q.0 c.args.id r c.self.invariant.keeps q.1 t in
    subst (λ (x : Sender). Acts x (Write c.in_ok-text.text) (asking s r c.args.id)) c.self.view_is (subst (λ (l : List ℕ). Acts s (Write l) (asking s r c.args.id)) (sym c.in_ok-text.ensures) acts)
