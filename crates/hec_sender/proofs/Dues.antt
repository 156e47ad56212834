-- One thing is due, and a turn is for it.
use Rattle.std.proofs.Common.{◌≡◌, ℕ, ◌<◌, ◌∙◌, Bool, true, false, List, [], ◌∷◌, length, refl, sym, ap, subst, arith}
use Rattle.std.specs.Prelude.{◌↔◌, Option, Some, None}
use Rattle.event_form.specs.declared.event.Entry.{Entry}
use Rattle.event_form.specs.declared.turn.Turn.{Turn}
use Rattle.event_form.specs.declared.turn.Turn.TheVariants.{Write, Need, Wait, Done, PeerFault}
use Rattle.http_edge.specs.declared.fault.HttpFault.{HttpFault}
use Rattle.http_reply.specs.declared.reply.HttpReply.{HttpReply}
use Rattle.hec_sender.specs.declared.due.Due.{Due}
use Rattle.hec_sender.specs.declared.due.Due.TheVariants.{Stopped, Send, Repeat, Ask, End, Hear}
use Rattle.hec_sender.specs.declared.stage.Stage.{Stage}
use Rattle.hec_sender.specs.declared.stage.Stage.TheVariants.{Unsent, Sent, Paused, Asked}
use Rattle.hec_sender.specs.declared.stop.Stop.{Stop}
use Rattle.hec_sender.specs.declared.verdict.Verdict.{Verdict}
use Rattle.hec_sender.specs.Texts.{request_text, query_text}
use Rattle.hec_sender.specs.Requests.{request_of}
use Rattle.hec_sender.specs.Replies.{Says}
use Rattle.hec_sender.specs.Sender.{Sender, Keeps, IsDue, IsOut, asked_by}
use Rattle.hec_sender.specs.Hearing.{Hears}
use Rattle.http_edge.specs.Why.{why_of}
use Rattle.hec_sender.specs.Turns.{IsDry, IsFor, ending_of, turn_for}
use Rattle.hec_sender.proofs.Judging.{one_verdict}

-- ---- what is due, as a function

abbrev by_stage : Stage → List Entry → Bool → Due
by_stage Unsent [] true = End
by_stage Unsent [] false = Ask
by_stage Unsent (e ∷ es) over = Send
by_stage Sent rest over = Hear
by_stage (Paused query) rest over = Repeat query
by_stage (Asked query) rest over = Hear

abbrev due_by : Option Stop → Due → Due
due_by None due = due
due_by (Some stop) due = Stopped stop

abbrev due_of : Sender → Due
due_of s = due_by s.stop (by_stage s.stage s.rest s.finished)

goes : (s : Sender) → s.stop ≡ None → due_of s ≡ by_stage s.stage s.rest s.finished
goes s is = ap (λ (o : Option Stop). due_by o (by_stage s.stage s.rest s.finished)) is

sends : (stage : Stage) (rest : List Entry) (over : Bool) → stage ≡ Unsent → 0 < length rest → by_stage stage rest over ≡ Send
sends stage [] over is some = absurd (omega (arith, some))
sends stage (e ∷ es) over is some = ap (λ (x : Stage). by_stage x (e ∷ es) over) is

idle : (stage : Stage) (rest : List Entry) (over is : Bool) → stage ≡ Unsent → rest ≡ [] → over ≡ is → by_stage stage rest over ≡ by_stage Unsent [] is
idle stage rest over is a b c = ap (λ (x : Stage). by_stage x rest over) a ∙ ap (λ (l : List Entry). by_stage Unsent l over) b ∙ ap (λ (o : Bool). by_stage Unsent [] o) c

hears : (stage : Stage) (rest : List Entry) (over : Bool) → IsOut stage → by_stage stage rest over ≡ Hear
hears Unsent rest over out = absurd out
hears Sent rest over out = refl
hears (Paused query) rest over out = absurd out
hears (Asked query) rest over out = refl

is_due : (due : Due) (s : Sender) → IsDue due s → due_of s ≡ due
is_due (Stopped stop) s h = ap (λ (o : Option Stop). due_by o (by_stage s.stage s.rest s.finished)) h
is_due Send s h = goes s h.0 ∙ sends s.stage s.rest s.finished h.1 h.2
is_due (Repeat query) s h = goes s h.0 ∙ ap (λ (x : Stage). by_stage x s.rest s.finished) h.1
is_due Ask s h = goes s h.goes ∙ idle s.stage s.rest s.finished false h.stage h.none h.finished
is_due End s h = goes s h.goes ∙ idle s.stage s.rest s.finished true h.stage h.none h.finished
is_due Hear s h = goes s h.0 ∙ hears s.stage s.rest s.finished h.1

-- ---- whether more was asked for

pub unasked : (due : Due) (s : Sender) → Keeps s → IsDue due s → (due ≡ Ask → ⊥) → s.asked ≡ true → ⊥
unasked due s k is other asked = other (sym (is_due due s is) ∙ is_due Ask s (k.need asked))

pub asked_not : (due : Due) (s : Sender) (turn : Turn) → Keeps s → IsDue due s → (due ≡ Ask → ⊥) → (turn ≡ Need → ⊥) → (s.asked ≡ true) ↔ (turn ≡ Need)
asked_not due s turn k is other not = (λ e. absurd (unasked due s k is other e), λ e. absurd (not e))

-- ---- the turn for what is due

-- where replies are waited for
pub record IsHeard (s : Sender) (turn : Turn) : Type 0 where
  pub hears : (at : ℕ) (verdict : Verdict) → Hears s at verdict → turn ≡ turn_for s (asked_by s.stage) at verdict
  pub waits : IsDry s None → turn ≡ Wait
  pub faults : (e : HttpFault) → IsDry s (Some e) → turn ≡ PeerFault e.at (why_of e.why)

abbrev pub IsRight : Due → Sender → Turn → Type 0
IsRight (Stopped stop) s turn = turn ≡ ending_of stop
IsRight Send s turn = turn ≡ Write (request_text s.terms (request_of s.done s.rest))
IsRight (Repeat query) s turn = turn ≡ Write (query_text s.terms query.id)
IsRight Ask s turn = turn ≡ Need
IsRight End s turn = turn ≡ Done
IsRight Hear s turn = IsHeard s turn

pub for_due : (due : Due) (s : Sender) (turn : Turn) → IsDue due s → IsRight due s turn → IsFor s turn
for_due due s turn is right = record {
  stopped = λ how e. for (Stopped how) e;
  writes = λ e. for Send e;
  repeats = λ query e. for (Repeat query) e;
  asks = λ e. for Ask e;
  ends = λ e. for End e;
  hears = λ at verdict h. (for Hear h.awaits).hears at verdict h;
  waits = λ d. (for Hear d.0).waits d;
  faults = λ e d. (for Hear d.0).faults e d;
}
  where
    for : (other : Due) → IsDue other s → IsRight other s turn
    for other e = subst (λ (d : Due). IsRight d s turn) (sym (is_due due s is) ∙ is_due other s e) right

nothing_first : (xs : List HttpReply) (x : HttpReply) (more : List HttpReply) → xs ≡ [] → xs ≡ x ∷ more → ⊥
nothing_first xs x more none some = cc

-- the turn where none waits, by the reader's fault
abbrev pub dry_turn : Option HttpFault → Turn
dry_turn None = Wait
dry_turn (Some e) = PeerFault e.at (why_of e.why)

pub for_dry : (s : Sender) (fault : Option HttpFault) → IsDry s fault → IsFor s (dry_turn fault)
for_dry s fault dry = for_due Hear s (dry_turn fault) dry.0 (record {
  hears = λ at verdict h. absurd (nothing_first s.reader.waiting h.reply h.more dry.1 h.next);
  waits = λ d. ap dry_turn (sym dry.2 ∙ d.2);
  faults = λ e d. ap dry_turn (sym dry.2 ∙ d.2);
})

same_first : (xs : List HttpReply) (x y : HttpReply) (more others : List HttpReply) → xs ≡ x ∷ more → xs ≡ y ∷ others → x ≡ y
same_first xs x y more others a b = cc

pub for_heard : (s : Sender) (at : ℕ) (verdict : Verdict) → Hears s at verdict → IsFor s (turn_for s (asked_by s.stage) at verdict)
for_heard s at verdict h = for_due Hear s (turn_for s (asked_by s.stage) at verdict) h.awaits (record {
  hears = λ place other g. (
      let same : h.reply ≡ g.reply = same_first s.reader.waiting h.reply g.reply h.more g.more h.next g.next in
      let there : at ≡ place = sym h.place ∙ ap (λ (r : HttpReply). r.at) same ∙ g.place in
      let says : verdict ≡ other = one_verdict (asked_by s.stage) h.reply verdict other h.says (subst (λ (r : HttpReply). Says (asked_by s.stage) r other) (sym same) g.says) in
      ap (λ (n : ℕ). turn_for s (asked_by s.stage) n verdict) there ∙ ap (λ (v : Verdict). turn_for s (asked_by s.stage) place v) says);
  waits = λ d. absurd (nothing_first s.reader.waiting h.reply h.more d.1 h.next);
  faults = λ e d. absurd (nothing_first s.reader.waiting h.reply h.more d.1 h.next);
})
