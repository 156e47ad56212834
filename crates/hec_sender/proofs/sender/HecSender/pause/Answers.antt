use Rattle.std.proofs.Common.{◌≡◌, ◌<◌, ℕ, Some, subst}
use Rattle.event_form.specs.declared.turn.Turn.TheVariants.{Pause}
use Rattle.hec_sender.specs.declared.verdict.Verdict.TheVariants.{Denies}
use Rattle.hec_sender.specs.Sender.{Sender, asked_by}
use Rattle.hec_sender.specs.Hearing.{Hears, pausing}
use Rattle.hec_sender.specs.Turns.{Acts}
use Rattle.hec_sender.specs.View.{sender_of}
use Rattle.hec_sender.proofs.Hears.{size_out, act_pausing, keeps_pausing}
use Rattle.hec_sender.proofs.Taking.{Took, took, same_fault}
use Rattle.hec_sender.proofs.sender.HecSender.pause.Goals as goal

pub invariant_of-self : goal.invariant_of-self
invariant_of-self c =
    let s = sender_of c.self.inside in
    let i = c.self.invariant in
    let r = c.take-reply.new.self in
    let e = c.take-reply.ensures in
    let q : (at : ℕ) × Hears s at Denies = rw (← c.self.view_is) at c.requires.denied in
    let again : c.args.query.times < s.terms.polls = rw (← c.self.view_is) at c.requires.again in
    let t : Took s.reader q.1.reply r = took s.reader r c.take-reply.result q.1.reply q.1.more q.1.next e.gives e.none e.same e.reads in
    record {
      keeps = keeps_pausing s q.0 c.args.query r i.keeps q.1 again;
      fault = same_fault s.reader r q.1.reply c.self.inside.fault t i.fault;
      size = size_out s.stage s.done s.rest c.self.inside.size q.1.awaits.1 i.size;
      within = i.within;
    }

pub returns : goal.returns
returns c =
    let s = sender_of c.self.inside in
    let r = c.take-reply.new.self in
    let e = c.take-reply.ensures in
    let q : (at : ℕ) × Hears s at Denies = rw (← c.self.view_is) at c.requires.denied in
    let again : c.args.query.times < s.terms.polls = rw (← c.self.view_is) at c.requires.again in
    let asked : asked_by s.stage ≡ Some c.args.query = rw (← c.self.view_is) at c.requires.asked in
    let t : Took s.reader q.1.reply r = took s.reader r c.take-reply.result q.1.reply q.1.more q.1.next e.gives e.none e.same e.reads in
    subst (λ (x : Sender). Acts x Pause (pausing s r c.args.query)) c.self.view_is (act_pausing s q.0 c.args.query r c.self.invariant.keeps q.1 t asked again)
