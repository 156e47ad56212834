-- Runs of one event are single frames.
use Rattle.std.proofs.Common.{◌≡◌, inl, inr, ℕ, ◌<◌, ◌≤◌, List, [], ◌∷◌, ◌++◌, Option, length, refl, sym, ◌∙◌, ap, subst, arith, length-append}
use Rattle.std.specs.Prelude.{Ok, Err}
use Rattle.std.proofs.lemmas.List.{append-nil}
use Rattle.event_form.specs.declared.event.Entry.{Entry}
use Rattle.event_form.specs.declared.talk.Talk.{Talk}
use Rattle.event_form.specs.declared.talk.Talk.TheVariants as talk
use Rattle.relp_frame.specs.declared.frame.Frame.{Frame}
use Rattle.relp_session.specs.declared.act.RelpAct.TheVariants.{Store}
use Rattle.relp_session.specs.Answer.{IsAnswer, stored}
use Rattle.relp_session.specs.declared.state.State.{State}
use Rattle.relp_session.specs.Session.{state_after}
use Rattle.spool_faults.specs.declared.fault.TakeFault.{TakeFault}
use Rattle.spool_faults.specs.declared.fault.TakeFault.TheVariants as fault
use Rattle.desk_access.specs.Call.{Call, takes}
use Rattle.desk_access.specs.Step.{Step, frames_of, calls_of, count}
use Rattle.desk_access.specs.Protocol.{AreMoves}
use Rattle.desk_access.specs.Carried.{Carried, Ending, EndsAtMove}
use Rattle.desk_access.specs.Endings.{IsAtMove}
use Rattle.desk_access.proofs.Moves.{at_move}
use Rattle.conn_serve.specs.Relp.{relp, talk_of, entry_of, one_take, EndsAtAct}
use Rattle.conn_serve.specs.Runs.{AreDue, answers_of, CarriesRun, EndsAtRun, relp_runs}
use Rattle.conn_serve.specs.RunsOfOne.{RunsOfOne, OneIsARun}
use Rattle.conn_serve.proofs.Acting.{none_by}
use Rattle.conn_serve.proofs.Fronts.{front_first}
use Rattle.conn_serve.proofs.Runs.{due_length, run_none}
use Rattle.relp_frame.specs.Spelling.{IsSpelling}

-- ---- a run of one is a frame

-- the one entry of a frame
record One (conn : ℕ) (state : State) (index : ℕ) (f : Frame) (entries : List Entry) : Type 0 where
  entry : Entry
  only : entries ≡ entry ∷ []
  answer : IsAnswer state f (Store entry.event entry.unit)
  is : entry ≡ entry_of conn index entry.unit entry.event

one_of : (conn index : ℕ) (state : State) (f : Frame) (frames : List Frame) (entries : List Entry) → AreDue conn index state (f ∷ frames) entries → length entries ≤ 1 → (frames ≡ []) × One conn state index f entries
one_of conn index state f frames [] due few = absurd due
one_of conn index state f [] (e ∷ []) due few = (refl, record { entry = e; only = refl; answer = due.0; is = rw (due.1, due.2) refl })
one_of conn index state f (g ∷ frames) (e ∷ []) due few = absurd due.3
one_of conn index state f frames (e ∷ x ∷ entries) due few = absurd (omega (arith, few))

some_frame : (frames : List Frame) → 0 < length frames → (f : Frame) × (more : List Frame) × (frames ≡ f ∷ more)
some_frame [] some = absurd (omega (arith, some))
some_frame (f ∷ more) some = (f, more, refl)

module _ (conn : ℕ) (before : List (Step Frame)) where
  abbrev state : State
  state = state_after (frames_of before)

  abbrev index : ℕ
  index = count (calls_of before)

  move_of : (s : Step Frame) → CarriesRun 1 conn state index s.frames s.calls s.text → (relp conn).IsMove before s
  move_of s run =
      let size = due_length conn index state s.frames run.entries run.brings.due in
      let cut = some_frame s.frames (omega (arith, run.some, size)) in
      let due : AreDue conn index state (cut.0 ∷ cut.1) run.entries = subst (λ (l : List Frame). AreDue conn index state l run.entries) cut.2 run.brings.due in
      let one = one_of conn index state cut.0 cut.1 run.entries due run.brings.run.few in
      let e = one.1.entry in
      let calls : s.calls ≡ one_take conn index e.unit e.event (Ok run.receipt) = run.stores ∙ ap (λ (es : List Entry). takes es (Ok run.receipt) ∷ []) (one.1.only ∙ ap (λ (x : Entry). x ∷ []) one.1.is) in
      let text : s.text ≡ stored e.unit = run.says ∙ ap answers_of one.1.only ∙ append-nil (stored e.unit) in
      (cut.0, cut.2 ∙ ap (λ (l : List Frame). cut.0 ∷ l) one.0, (Store e.event e.unit, one.1.answer, (run.receipt, calls, text)))

  moves_one : (s : Step Frame) → (relp_runs 1 conn).IsMove before s → (relp conn).IsMove before s
  moves_one s (inl move) = move
  moves_one s (inr run) = move_of s run

  ends_one : (e : Entry) (late : List Call) (part : List ℕ) (t : Talk) → e ≡ entry_of conn index e.unit e.event → EndsAtRun (e ∷ []) late part t → EndsAtAct conn index (Store e.event e.unit) late part t
  ends_one e late part talk.WriteFault is (text, k, inl due, short, cut) =
      (text, k, inl (due.0, due.1 ∙ ap (λ (x : Entry). takes (x ∷ []) (Ok due.0) ∷ []) is, due.2 ∙ append-nil (stored e.unit)), short, cut)
  ends_one e late part talk.WriteFault is (text, k, inr due, short, cut) = (text, k, inr (due.0, due.1, due.3 ∙ ap (λ (x : Entry). takes (x ∷ []) (Err due.0) ∷ []) is, due.4), short, cut)
  ends_one e late part talk.NoMemory is ends =
      ((ends.0, elim ends.1 [ inl refused ↦ inl refused.0 | inr starved ↦ inr starved ], ends.2 ∙ ap (λ (x : Entry). takes (x ∷ []) (Err ends.0) ∷ []) is), ends.3)
  ends_one e late part talk.Closed is ends = absurd (never ends.0 ends.3)
    where
      never : (x : TakeFault) → talk.Closed ≡ talk_of x → ⊥
      never (fault.TooLarge need most) by = cc
      never (fault.Spent end) by = cc
      never (fault.Full need room) by = cc
      never (fault.NotSpool at) by = cc
      never fault.NoMemory by = cc
      never fault.DiskFault by = cc
  ends_one e late part t is ends = (ends.0, ends.2 ∙ ap (λ (x : Entry). takes (x ∷ []) (Err ends.0) ∷ []) is, ends.3, ends.4)

  stops_one : (held : List Frame) (f : Frame) (late : List Call) (part : List ℕ) (t : Talk) → (relp_runs 1 conn).Stops before held f late part t → (held ≡ []) × (relp conn).Stops before held f late part t
  stops_one held f late part t (inl stops) = (stops.0, stops.1)
  stops_one held f late part t (inr (entries, brings, ends)) =
      let size = due_length conn index state (held ++ f ∷ []) entries brings.due in
      let none : held ≡ [] = none_by held (omega (arith, size, length-append held (f ∷ []), brings.run.few)) in
      let due : AreDue conn index state (f ∷ []) entries = subst (λ (l : List Frame). AreDue conn index state (l ++ f ∷ []) entries) none brings.due in
      let one = one_of conn index state f [] entries due brings.run.few in
      let e = one.1.entry in
      (none, (Store e.event e.unit, one.1.answer, ends_one e late part t one.1.is (subst (λ (es : List Entry). EndsAtRun es late part t) one.1.only ends)))

-- ---- all that a connection carries

moves_all : (conn : ℕ) (before steps : List (Step Frame)) → AreMoves (relp_runs 1 conn) before steps → AreMoves (relp conn) before steps
moves_all conn before [] m = tt
moves_all conn before (s ∷ steps) m = (moves_one conn before s m.0, moves_all conn (before ++ s ∷ []) steps m.1)

module _ (conn : ℕ) (left : Option (List ℕ)) (b : List ℕ) (calls : List Call) (text : List ℕ) where
  module _ (t : Talk) (c : Carried (relp_runs 1 conn) left b calls text t) where
    keep : c.held ≡ [] → Ending (relp conn) left b c.steps c.held c.at c.late c.part t → Carried (relp conn) left b calls text t
    keep none ending = record {
      steps = c.steps;
      each = moves_all conn [] c.steps c.each;
      held = c.held;
      kept = none;
      at = c.at;
      front = c.front;
      late = c.late;
      part = c.part;
      made = c.made;
      wrote = c.wrote;
      ending = ending;
    }

    by_move : IsAtMove t → EndsAtMove (relp_runs 1 conn) left b c.steps c.held c.at c.late c.part t → Carried (relp conn) left b calls text t
    by_move is (inl (f, end, front, stops)) =
        let one = stops_one conn c.steps c.held f c.late c.part t stops in
        keep one.0 (at_move (relp conn) left b c.steps c.held c.at c.late c.part t is (inl (f, end, front, one.1)))
    by_move is (inr last) = absurd last.2

  -- for want of memory the frame held isn't served
  starved : (c : Carried (relp_runs 1 conn) left b calls text talk.NoMemory) → (c.late ≡ []) × (c.part ≡ []) → Carried (relp conn) left b calls text talk.NoMemory
  starved c nothing =
      let first = front_first IsSpelling b (frames_of c.steps) c.held c.at c.front in record {
        steps = c.steps;
        each = moves_all conn [] c.steps c.each;
        held = [];
        kept = refl;
        at = first.0;
        front = subst (λ (l : List Frame). (relp conn).IsFront b l first.0) (sym (append-nil (frames_of c.steps))) first.1;
        late = c.late;
        part = c.part;
        made = c.made;
        wrote = c.wrote;
        ending = inl nothing;
      }

  carried_one : (t : Talk) (c : Carried (relp_runs 1 conn) left b calls text t) → Ending (relp_runs 1 conn) left b c.steps c.held c.at c.late c.part t → Carried (relp conn) left b calls text t
  carried_one talk.Ended c e = keep talk.Ended c e.1.0 (e.0, e.1.1)
  carried_one (talk.Truncated place) c e = keep (talk.Truncated place) c e.1.0 (e.0, e.1.1)
  carried_one (talk.Fault place why) c e = keep (talk.Fault place why) c e.1.0 (e.0, e.1.1)
  carried_one talk.ReadFault c e = keep talk.ReadFault c e.2 (e.0, e.1, e.2)
  carried_one (talk.TooMuch place) c e = keep (talk.TooMuch place) c e.4 (e.0, e.1, e.2, e.3, e.4)
  carried_one talk.NoMemory c (inl nothing) = starved c nothing
  carried_one talk.NoMemory c (inr e) = by_move talk.NoMemory c tt e
  carried_one talk.Closed c e = by_move talk.Closed c tt e
  carried_one (talk.Full need room) c e = by_move (talk.Full need room) c tt e
  carried_one (talk.TooLarge need most) c e = by_move (talk.TooLarge need most) c tt e
  carried_one (talk.Busy many) c e = by_move (talk.Busy many) c tt e
  carried_one (talk.Spent end) c e = by_move (talk.Spent end) c tt e
  carried_one (talk.NoMore run) c e = by_move (talk.NoMore run) c tt e
  carried_one talk.WriteFault c e = by_move talk.WriteFault c tt e
  carried_one talk.DiskFault c e = by_move talk.DiskFault c tt e
  carried_one (talk.NotSpool place) c e = by_move (talk.NotSpool place) c tt e

pub runs_of_one : RunsOfOne
runs_of_one = record {
  moves = λ conn before s move. moves_one conn before s move;
  stops = λ conn before held f late part t stops. stops_one conn before held f late part t stops;
  carried = λ conn left b calls text t c. carried_one conn left b calls text t c c.ending;
}

-- ---- and the other way round

moves_run : (most conn : ℕ) (before steps : List (Step Frame)) → AreMoves (relp conn) before steps → AreMoves (relp_runs most conn) before steps
moves_run most conn before [] m = tt
moves_run most conn before (s ∷ steps) m = (inl m.0, moves_run most conn (before ++ s ∷ []) steps m.1)

module _ (most conn : ℕ) (left : Option (List ℕ)) (b : List ℕ) (calls : List Call) (text : List ℕ) where
  module _ (steps : List (Step Frame)) (held : List Frame) (none : held ≡ []) (at : ℕ) (late : List Call) (part : List ℕ) where
    move_run : (t : Talk) → EndsAtMove (relp conn) left b steps held at late part t → EndsAtMove (relp_runs most conn) left b steps held at late part t
    move_run t (inl (f, end, front, stops)) = inl (f, end, front, inl (none, stops))
    move_run t (inr last) = absurd last.2

    ending_run : (t : Talk) → Ending (relp conn) left b steps held at late part t → Ending (relp_runs most conn) left b steps held at late part t
    ending_run talk.Ended e = (e.0, (none, e.1))
    ending_run (talk.Truncated place) e = (e.0, (none, e.1))
    ending_run (talk.Fault place why) e = (e.0, (none, e.1))
    ending_run talk.ReadFault e = (e.0, e.1, e.2)
    ending_run (talk.TooMuch place) e = (e.0, e.1, e.2, e.3, e.4)
    ending_run talk.NoMemory (inl nothing) = inl nothing
    ending_run talk.NoMemory (inr e) = inr (move_run talk.NoMemory e)
    ending_run talk.Closed e = move_run talk.Closed e
    ending_run (talk.Full need room) e = move_run (talk.Full need room) e
    ending_run (talk.TooLarge need size) e = move_run (talk.TooLarge need size) e
    ending_run (talk.Busy many) e = move_run (talk.Busy many) e
    ending_run (talk.Spent end) e = move_run (talk.Spent end) e
    ending_run (talk.NoMore run) e = move_run (talk.NoMore run) e
    ending_run talk.WriteFault e = move_run talk.WriteFault e
    ending_run talk.DiskFault e = move_run talk.DiskFault e
    ending_run (talk.NotSpool place) e = move_run (talk.NotSpool place) e

  carried_run : (t : Talk) → Carried (relp conn) left b calls text t → Carried (relp_runs most conn) left b calls text t
  carried_run t c = record {
    steps = c.steps;
    each = moves_run most conn [] c.steps c.each;
    held = c.held;
    kept = subst (λ (l : List Frame). (relp_runs most conn).AreHeld c.steps l) (sym c.kept) ([], record { due = tt; run = run_none most });
    at = c.at;
    front = c.front;
    late = c.late;
    part = c.part;
    made = c.made;
    wrote = c.wrote;
    ending = ending_run c.steps c.held c.kept c.at c.late c.part t c.ending;
  }

pub one_is_a_run : OneIsARun
one_is_a_run = record {
  moves = λ most conn before s move. inl move;
  stops = λ most conn before held f late part t none stops. inl (none, stops);
  carried = λ most conn left b calls text t c. carried_run most conn left b calls text t c;
}
