-- What was reported as acknowledged was sent.
use Rattle.std.proofs.Common.{◌≡◌, ◌∙◌, ℕ, List, ◌++◌, sym, ap, arith, append_assoc}
use Rattle.event_form.specs.declared.event.Entry.{Entry}
use Rattle.hec_sender.specs.Requests.{confirmed_text, known_from, request_of}
use Rattle.hec_sender.specs.Sender.{MayFollow, Sender, stage_text}
use Rattle.hec_sender.specs.Sends.{History, Sends}
use Rattle.hec_sender.specs.Turns.{TellsSent}

pub sent_at : (s : Sender) (h : History) (more : List Entry) → Sends h s → MayFollow s more → TellsSent h more s
sent_at s h more was may = λ place told.
    let all = was.front ++ (s.rest ++ more) in
    let confirmed = h.progress.confirmed in
    let list : h.entries ++ more ≡ all = ap (λ (l : List Entry). l ++ more) was.entries ∙ append_assoc was.front s.rest more in
    let cut = was.cut more may in
    let count : known_from 0 confirmed (h.entries ++ more) ≡ s.done = ap (known_from 0 confirmed) list ∙ cut.0 in
    let text : confirmed_text s.terms 0 confirmed (h.entries ++ more) ≡ was.text = ap (confirmed_text s.terms 0 confirmed) list ∙ cut.1 in
    let next = stage_text s.terms s.stage (request_of s.done s.rest) in
    record { requests = confirmed; rest = next; within = omega (arith, told, count); begins = was.said ∙ ap (λ (l : List ℕ). l ++ next) (sym text) }
