-- Which turn is for a sender.
use Rattle.std.proofs.Common.{◌≡◌, ℕ, ◌+◌, ◌<◌, ◌∙◌, Bool, List, [], length, refl, sym, ap, arith}
use Rattle.std.specs.Prelude.{Option, Some, None}
use Rattle.std.proofs.lemmas.Bool.{false≢true}
use Rattle.event_form.specs.declared.talk.Why.TheVariants as why
use Rattle.lumber_frame.specs.declared.fault.LumberFault.{LumberFault}
use Rattle.lumber_sender.specs.declared.due.Due.TheVariants.{Confirm, Hear}
use Rattle.event_form.specs.declared.turn.Turn.{Turn}
use Rattle.event_form.specs.declared.turn.Turn.TheVariants.{Write, Confirmed, Need, Wait, Done, PeerFault}
use Rattle.lumber_sender.specs.Sender.{Sender, Keeps, Needs, IsDone, IsDue, known}
use Rattle.lumber_frame.specs.Why.{why_of}
use Rattle.event_form.specs.Turn.{text_of}
use Rattle.lumber_sender.specs.Turns.{IsFor, IsTurn, IsWritten}
use Rattle.lumber_sender.proofs.Giving.{no_stop}

-- nothing else is due where a window is written
pub for_write : (s : Sender) (text : List ℕ) → Keeps s → s.written < length s.batch → IsFor s (Write text)
for_write s text k lt =
    let u = k.unheard lt in
    record {
      stopped = λ at e. absurd (no_stop s.stop at u.goes e);
      confirms = λ d. absurd (omega (arith, d.1, u.told, u.acked));
      writes = λ _. (text, refl);
      asks = λ n. absurd (omega (arith, lt, ap length n.none));
      ends = λ d. absurd (omega (arith, lt, ap length d.none));
      waits = λ d none clean. absurd (omega (arith, lt, d.1.whole));
      faults = λ e d none is. absurd (omega (arith, lt, d.1.whole));
    }

some_same : (o : Option ℕ) (m n : ℕ) → o ≡ Some m → o ≡ Some n → m ≡ n
some_same o m n a b = cc

pub for_stopped : (s : Sender) (at : ℕ) → s.stop ≡ Some at → s.written ≡ length s.batch → IsFor s (PeerFault at why.Reply)
for_stopped s at is all =
    record {
      stopped = λ n e. ap (λ (m : ℕ). PeerFault m why.Reply) (some_same s.stop at n is e);
      confirms = λ d. absurd (no_stop s.stop at d.0 is);
      writes = λ lt. absurd (omega (arith, lt, all));
      asks = λ n. absurd (no_stop s.stop at n.goes is);
      ends = λ d. absurd (no_stop s.stop at d.goes is);
      waits = λ d none clean. absurd (no_stop s.stop at d.0 is);
      faults = λ e d none broken. absurd (no_stop s.stop at d.0 is);
    }

pub for_confirm : (s : Sender) → IsDue Confirm s → s.written ≡ length s.batch → IsFor s (Confirmed (s.first + known s))
for_confirm s due all =
    record {
      stopped = λ at e. absurd (no_stop s.stop at due.0 e);
      confirms = λ d. refl;
      writes = λ lt. absurd (omega (arith, lt, all));
      asks = λ n. absurd (omega (arith, due.1, n.told));
      ends = λ d. absurd (omega (arith, due.1, d.told));
      waits = λ d none clean. absurd (omega (arith, due.1, d.1.told));
      faults = λ e d none broken. absurd (omega (arith, due.1, d.1.told));
    }

pub for_ask : (s : Sender) → Needs s → IsFor s Need
for_ask s n =
    record {
      stopped = λ at e. absurd (no_stop s.stop at n.goes e);
      confirms = λ d. absurd (omega (arith, d.1, n.told));
      writes = λ lt. absurd (omega (arith, lt, ap length n.none));
      asks = λ _. refl;
      ends = λ d. absurd (false≢true (sym n.more ∙ d.finished));
      waits = λ d none clean. absurd (omega (arith, d.1.some, ap length n.none));
      faults = λ e d none broken. absurd (omega (arith, d.1.some, ap length n.none));
    }

pub for_end : (s : Sender) → IsDone s → IsFor s Done
for_end s d =
    record {
      stopped = λ at e. absurd (no_stop s.stop at d.goes e);
      confirms = λ c. absurd (omega (arith, c.1, d.told));
      writes = λ lt. absurd (omega (arith, lt, ap length d.none));
      asks = λ n. absurd (false≢true (sym n.more ∙ d.finished));
      ends = λ _. refl;
      waits = λ h none clean. absurd (omega (arith, h.1.some, ap length d.none));
      faults = λ e h none broken. absurd (omega (arith, h.1.some, ap length d.none));
    }

no_fault : (o : Option LumberFault) (e : LumberFault) → o ≡ None → o ≡ Some e → ⊥
no_fault o e is h = cc

one_fault : (o : Option LumberFault) (d e : LumberFault) → o ≡ Some d → o ≡ Some e → d ≡ e
one_fault o d e a b = cc

-- where the receiver's frames are waited for, no more than one of these may come
record Hears (s : Sender) (turn : Turn) : Type 0 where
  waits : s.reader.waiting ≡ [] → s.reader.fault ≡ None → turn ≡ Wait
  faults : (e : LumberFault) → s.reader.waiting ≡ [] → s.reader.fault ≡ Some e → turn ≡ PeerFault e.at (why_of e.why)

for_hear : (s : Sender) (turn : Turn) → IsDue Hear s → Hears s turn → IsFor s turn
for_hear s turn due h =
    record {
      stopped = λ at e. absurd (no_stop s.stop at due.0 e);
      confirms = λ d. absurd (omega (arith, d.1, due.1.told));
      writes = λ lt. absurd (omega (arith, lt, due.1.whole));
      asks = λ n. absurd (omega (arith, due.1.some, ap length n.none));
      ends = λ d. absurd (omega (arith, due.1.some, ap length d.none));
      waits = λ _ none clean. h.waits none clean;
      faults = λ e _ none broken. h.faults e none broken;
    }

pub for_wait : (s : Sender) → IsDue Hear s → s.reader.fault ≡ None → IsFor s Wait
for_wait s due clean = for_hear s Wait due (record { waits = λ _ _. refl; faults = λ e _ is. absurd (no_fault s.reader.fault e clean is) })

pub for_fault : (s : Sender) (e : LumberFault) → IsDue Hear s → s.reader.fault ≡ Some e → IsFor s (PeerFault e.at (why_of e.why))
for_fault s e due is = for_hear s (PeerFault e.at (why_of e.why)) due (record {
  waits = λ _ clean. absurd (no_fault s.reader.fault e clean is);
  faults = λ d _ broken. ap (λ (f : LumberFault). PeerFault f.at (why_of f.why)) (one_fault s.reader.fault e d is broken);
})

-- where a frame waits to be taken, any turn may come
pub for_taken : (s : Sender) (turn : Turn) → IsDue Hear s → 0 < length s.reader.waiting → IsFor s turn
for_taken s turn due some = for_hear s turn due (record { waits = λ none _. absurd (omega (arith, some, ap length none)); faults = λ e none _. absurd (omega (arith, some, ap length none)) })

-- whether the last turn asked for more doesn't matter
pub for_same : (s : Sender) (asked : Bool) (turn : Turn) → IsFor (record s { asked = asked }) turn → IsFor s turn
for_same s asked turn f =
    record {
      stopped = f.stopped;
      confirms = f.confirms;
      writes = f.writes;
      asks = λ n. f.asks (record { goes = n.goes; told = n.told; none = n.none; more = n.more });
      ends = λ d. f.ends (record { goes = d.goes; told = d.told; none = d.none; finished = d.finished });
      waits = λ d none clean. f.waits (d.0, record { told = d.1.told; some = d.1.some; whole = d.1.whole }) none clean;
      faults = λ e d none broken. f.faults e (d.0, record { told = d.1.told; some = d.1.some; whole = d.1.whole }) none broken;
    }

-- a turn that writes nothing writes no part
pub writes_none : (turn : Turn) (old new : Sender) → text_of turn ≡ [] → IsTurn turn new → IsWritten turn old new
writes_none (Write text) old new none t = absurd (omega (arith, t.0, ap length none))
writes_none turn old new none t = tt
