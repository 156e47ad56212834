use Rattle.std.proofs.Common.{ℕ, refl, subst}
use Rattle.hec_sender.specs.declared.due.Due.TheVariants.{Hear}
use Rattle.hec_sender.specs.declared.stop.Stop.TheVariants.{Refused, Broken}
use Rattle.hec_sender.specs.declared.verdict.Verdict.TheVariants.{Confirms, Asks, Denies, Refuses, Faults}
use Rattle.hec_sender.specs.Sender.{Sender, IsDue}
use Rattle.hec_sender.specs.Hearing.{Hears, StopsSo}
use Rattle.hec_sender.specs.View.{sender_of}
use Rattle.hec_sender.proofs.Hears.{heard}
use Rattle.hec_sender.proofs.sender.HecSender.hear.Goals as goal

pub confirm-requires : goal.confirm-requires
confirm-requires c =
    let s = sender_of c.self.inside in
    let reply = c.in-Some.reply.now in
    let due : IsDue Hear s = rw (← c.self.view_is) at c.requires in
    let is : Hears s reply.at Confirms = heard s c.asked.result reply c.in-Some.ensures.some.0 c.in_ok-judge.field-0 Confirms due c.asked.ensures c.in-Some.ensures.some.1 c.in_ok-judge.ensures c.in-Confirms.is in
    subst (λ (x : Sender). (at : ℕ) × Hears x at Confirms) c.self.view_is (reply.at, is)

pub ask_for-requires : goal.ask_for-requires
ask_for-requires c =
    let s = sender_of c.self.inside in
    let reply = c.in-Some.reply.now in
    let verdict = Asks c.in-Asks.id in
    let due : IsDue Hear s = rw (← c.self.view_is) at c.requires in
    let is : Hears s reply.at verdict = heard s c.asked.result reply c.in-Some.ensures.some.0 c.in_ok-judge.field-0 verdict due c.asked.ensures c.in-Some.ensures.some.1 c.in_ok-judge.ensures c.in-Asks.is in
    subst (λ (x : Sender). (at : ℕ) × Hears x at verdict) c.self.view_is (reply.at, is)

pub deny-requires : goal.deny-requires
deny-requires c =
    let s = sender_of c.self.inside in
    let reply = c.in-Some.reply.now in
    let due : IsDue Hear s = rw (← c.self.view_is) at c.requires in
    let is : Hears s reply.at Denies = heard s c.asked.result reply c.in-Some.ensures.some.0 c.in_ok-judge.field-0 Denies due c.asked.ensures c.in-Some.ensures.some.1 c.in_ok-judge.ensures c.in-Denies.is in
    subst (λ (x : Sender). (at : ℕ) × Hears x at Denies) c.self.view_is (reply.at, is)

pub end_by-requires : goal.end_by-requires
end_by-requires c =
    let s = sender_of c.self.inside in
    let reply = c.in-Some.reply.now in
    let verdict = Refuses c.in-Refuses.code in
    let due : IsDue Hear s = rw (← c.self.view_is) at c.requires in
    let is : Hears s reply.at verdict = heard s c.asked.result reply c.in-Some.ensures.some.0 c.in_ok-judge.field-0 verdict due c.asked.ensures c.in-Some.ensures.some.1 c.in_ok-judge.ensures c.in-Refuses.is in
    let stops : StopsSo s (Refused s.requests c.in-Refuses.code) = record { at = reply.at; verdict = verdict; hears = is; ends = refl } in
    subst (λ (x : Sender). StopsSo x (Refused s.requests c.in-Refuses.code)) c.self.view_is stops

pub end_by-requires-in-Faults : goal.end_by-requires-in-Faults
end_by-requires-in-Faults c =
    let s = sender_of c.self.inside in
    let reply = c.in-Some.reply.now in
    let due : IsDue Hear s = rw (← c.self.view_is) at c.requires in
    let is : Hears s reply.at Faults = heard s c.asked.result reply c.in-Some.ensures.some.0 c.in_ok-judge.field-0 Faults due c.asked.ensures c.in-Some.ensures.some.1 c.in_ok-judge.ensures c.in-Faults.is in
    let stops : StopsSo s (Broken reply.at) = record { at = reply.at; verdict = Faults; hears = is; ends = refl } in
    subst (λ (x : Sender). StopsSo x (Broken reply.at)) c.self.view_is stops
