-- Runs: how they are cut, and what a connection has carried once the first of one were stored.
use Rattle.std.proofs.Common.{◌≡◌, inl, inr, ℕ, zero, suc, ◌+◌, ◌<◌, ◌≤◌, ◌∙◌, List, [], ◌∷◌, ◌++◌, None, length, take, drop, refl, sym, ap, subst, arith, append_assoc, length-append, length-take, length-drop}
use Rattle.std.specs.Prelude.{Err}
use Rattle.std.proofs.lemmas.List.{append-nil, take-append-drop}
use Rattle.std.proofs.Math.Seq.{take-append_seam}
use Rattle.event_form.specs.declared.event.Entry.{Entry}
use Rattle.event_form.specs.declared.event.Event.{Event}
use Rattle.event_form.specs.declared.talk.Talk.{Talk}
use Rattle.event_form.specs.declared.talk.Talk.TheVariants.{NoMemory}
use Rattle.relp_frame.specs.declared.frame.Frame.{Frame}
use Rattle.relp_frame.specs.Spelling.{IsSpelling}
use Rattle.relp_session.specs.declared.act.RelpAct.TheVariants.{Store}
use Rattle.relp_session.specs.declared.request.Request.{Request}
use Rattle.relp_session.specs.declared.request.Request.TheVariants as ask
use Rattle.relp_session.specs.Answer.{IsAnswer, act_of, hint}
use Rattle.relp_session.specs.declared.state.State.{State}
use Rattle.relp_session.specs.declared.state.State.TheVariants.{Unopened, Opened, Closed}
use Rattle.relp_session.specs.State.{next}
use Rattle.relp_session.specs.Session.{state_after}
use Rattle.relp_session.proofs.States.{state_then}
use Rattle.spool_faults.specs.declared.fault.TakeFault.{TakeFault}
use Rattle.spool_faults.specs.declared.fault.TakeFault.TheVariants as take_fault
use Rattle.spool_answers.specs.Take.{IsRefusal}
use Rattle.desk_access.specs.Batch.{AreNext}
use Rattle.desk_access.specs.Call.{Call, takes}
use Rattle.desk_access.specs.Step.{Step, frames_of, calls_of, count}
use Rattle.desk_access.specs.Protocol.{Protocol}
use Rattle.desk_access.specs.Carried.{Carried}
use Rattle.desk_access.specs.Endings.{IsAtMove}
use Rattle.desk_access.proofs.Moves.{frames_then, calls_then, count_then, at_move}
use Rattle.conn_serve.specs.Front.{IsFront}
use Rattle.conn_serve.specs.Handled.{Handled}
use Rattle.conn_serve.specs.Relp.{talk_of}
use Rattle.conn_serve.specs.Runs.{AreDue, size_of, IsRun, BringRun, CarriesRun, EndsAtRun, relp_runs}
use Rattle.conn_serve.specs.RelpServing.{Holds, StoresFront, IsDueForFront, EndsAtFront, EndsWithin, CouldEndWithin}
use Rattle.conn_serve.proofs.Faults.{fault_at_move}
use Rattle.conn_serve.proofs.Fronts.{front_first}
use Rattle.conn_serve.proofs.Handling.{handled_hold, handled_cut, carried_front, carried_starved}
use Rattle.conn_serve.proofs.Saying.{has_carried}

-- ---- entries that are due

pub due_length : (conn index : ℕ) (state : State) (frames : List Frame) (entries : List Entry) → AreDue conn index state frames entries → length frames ≡ length entries
due_length conn index state [] [] d = refl
due_length conn index state [] (e ∷ entries) d = absurd d
due_length conn index state (f ∷ frames) [] d = absurd d
due_length conn index state (f ∷ frames) (e ∷ entries) d = omega (arith, due_length conn (index + 1) state frames entries d.3)

-- they are the connection's next ones
pub due_next : (conn index : ℕ) (state : State) (frames : List Frame) (entries : List Entry) → AreDue conn index state frames entries → AreNext conn index entries
due_next conn index state [] [] d = tt
due_next conn index state [] (e ∷ entries) d = absurd d
due_next conn index state (f ∷ frames) [] d = absurd d
due_next conn index state (f ∷ frames) (e ∷ entries) d = (d.1, d.2, due_next conn (index + 1) state frames entries d.3)

-- the first of them, and the others
pub due_cut : (conn index : ℕ) (state : State) (frames : List Frame) (entries : List Entry) (n : ℕ) → n ≤ length entries → AreDue conn index state frames entries
    → AreDue conn index state (take n frames) (take n entries) × AreDue conn (index + n) state (drop n frames) (drop n entries)
due_cut conn index state frames entries zero few d =
    let same : index ≡ index + 0 = omega arith in
    (tt, subst (λ (i : ℕ). AreDue conn i state frames entries) same d)
due_cut conn index state [] [] (suc n) few d = absurd (omega (arith, few))
due_cut conn index state [] (e ∷ entries) (suc n) few d = absurd d
due_cut conn index state (f ∷ frames) [] (suc n) few d = absurd d
due_cut conn index state (f ∷ frames) (e ∷ entries) (suc n) few d =
    let r = due_cut conn (index + 1) state frames entries n (omega (arith, few)) d.3 in
    let same : (index + 1) + n ≡ index + suc n = omega arith in
    ((d.0, d.1, d.2, r.0), subst (λ (i : ℕ). AreDue conn i state (drop n frames) (drop n entries)) same r.1)

-- one more
pub due_push : (conn index : ℕ) (state : State) (frames : List Frame) (entries : List Entry) (f : Frame) (e : Entry) → AreDue conn index state frames entries → IsAnswer state f (Store e.event e.unit) → e.conn ≡ conn
    → e.index ≡ index + length entries → AreDue conn index state (frames ++ f ∷ []) (entries ++ e ∷ [])
due_push conn index state [] [] f e d answer same at = let here : e.index ≡ index = omega (arith, at) in (answer, same, here, tt)
due_push conn index state [] (x ∷ entries) f e d answer same at = absurd d
due_push conn index state (g ∷ frames) [] f e d answer same at = absurd d
due_push conn index state (g ∷ frames) (x ∷ entries) f e d answer same at =
    (d.0, d.1, d.2, due_push conn (index + 1) state frames entries f e d.3 answer same (omega (arith, at)))

-- a frame whose event is stored leaves the state
stays : (s : State) (r : Request) (f : Frame) (event : Event) (txnr : ℕ) → Store event txnr ≡ act_of s r f → next s r ≡ s
stays Unopened ask.Open f event txnr is = absurd (cc is)
stays Unopened ask.OpenOther f event txnr is = absurd (cc is)
stays Unopened ask.Syslog f event txnr is = absurd (cc is)
stays Unopened ask.Close f event txnr is = absurd (cc is)
stays Unopened ask.Other f event txnr is = absurd (cc is)
stays Opened ask.Open f event txnr is = absurd (cc is)
stays Opened ask.OpenOther f event txnr is = absurd (cc is)
stays Opened ask.Syslog f event txnr is = refl
stays Opened ask.Close f event txnr is = absurd (cc is)
stays Opened ask.Other f event txnr is = absurd (cc is)
stays Closed r f event txnr is = refl

pub due_state : (conn index : ℕ) (state : State) (frames : List Frame) (entries : List Entry) (before : List Frame) → state ≡ state_after before → AreDue conn index state frames entries → state_after (before ++ frames) ≡ state
due_state conn index state [] [] before same d = ap state_after (append-nil before) ∙ sym same
due_state conn index state [] (e ∷ entries) before same d = absurd d
due_state conn index state (f ∷ frames) [] before same d = absurd d
due_state conn index state (f ∷ frames) (e ∷ entries) before same d =
    let answer : IsAnswer (state_after before) f (Store e.event e.unit) = subst (λ (s : State). IsAnswer s f (Store e.event e.unit)) same d.0 in
    let first : state_after (before ++ f ∷ []) ≡ state_after before = state_then before f answer.0 answer.1 ∙ stays (state_after before) answer.0 f e.event e.unit answer.2 in
    ap state_after (sym (append_assoc before (f ∷ []) frames)) ∙ due_state conn (index + 1) state frames entries (before ++ f ∷ []) (same ∙ sym first) d.3

-- ---- runs

size_take : (n : ℕ) (entries : List Entry) → size_of (take n entries) ≤ size_of entries
size_take zero entries = omega arith
size_take (suc n) [] = omega arith
size_take (suc n) (e ∷ entries) = omega (arith, size_take n entries)

pub size_drop : (n : ℕ) (entries : List Entry) → size_of (drop n entries) ≤ size_of entries
size_drop zero entries = omega arith
size_drop (suc n) [] = omega arith
size_drop (suc n) (e ∷ entries) = omega (arith, size_drop n entries)

pub run_take : (most n : ℕ) (entries : List Entry) → IsRun most entries → IsRun most (take n entries)
run_take most n entries r = record {
  few = omega (arith, r.few, length-take n entries);
  short = λ several. omega (arith, r.short (omega (arith, several, length-take n entries)), size_take n entries);
}

pub run_drop : (most n : ℕ) (entries : List Entry) → IsRun most entries → IsRun most (drop n entries)
run_drop most n entries r = record {
  few = omega (arith, r.few, length-drop n entries);
  short = λ several. omega (arith, r.short (omega (arith, several, length-drop n entries)), size_drop n entries);
}

pub run_none : (most : ℕ) → IsRun most []
run_none most = record { few = omega arith; short = λ several. absurd (omega (arith, several)) }

pub size_then : (xs ys : List Entry) → size_of (xs ++ ys) ≡ size_of xs + size_of ys
size_then [] ys = omega arith
size_then (x ∷ xs) ys = omega (arith, size_then xs ys)

-- a list that has elements has a last one
last_of : {A : Type 0} (l : List A) → 0 < length l → (front : List A) × (last : A) × (l ≡ front ++ last ∷ [])
last_of [] some = absurd (omega (arith, some))
last_of (x ∷ []) some = ([], x, refl)
last_of {A} (x ∷ y ∷ l) some = let r = last_of (y ∷ l) (omega arith) in (x ∷ r.0, r.1, ap (λ (m : List A). x ∷ m) r.2)

-- the hint after a refusal is an ending
pub refused_ends : (entries : List Entry) (fault : TakeFault) (late : List Call) (part : List ℕ) → IsRefusal fault → length entries ≡ 1 → late ≡ takes entries (Err fault) ∷ [] → part ≡ hint → EndsAtRun entries late part (talk_of fault)
refused_ends entries (take_fault.TooLarge need most) late part r one made is = (take_fault.TooLarge need most, (λ _. one), made, refl, is)
refused_ends entries (take_fault.Spent at) late part r one made is = (take_fault.Spent at, (λ _. one), made, refl, is)
refused_ends entries (take_fault.Full need room) late part r one made is = (take_fault.Full need room, (λ _. one), made, refl, is)
refused_ends entries (take_fault.NotSpool at) late part r one made is = absurd r
refused_ends entries take_fault.NoMemory late part r one made is = absurd r
refused_ends entries take_fault.DiskFault late part r one made is = absurd r

-- ---- a run that is held

module _ (most conn : ℕ) (entries : List Entry) (frames : List Frame) (called : List Call) (said : List ℕ) (k : Holds most conn entries frames called said) where
  abbrev p : Protocol Frame
  p = relp_runs most conn

  abbrev h : Handled (relp_runs most conn) frames called said
  h = k.handled

  abbrev state : State
  state = state_after (frames_of h.steps)

  abbrev index : ℕ
  index = count (calls_of h.steps)

  pub brings : BringRun most conn state index h.held entries
  brings = subst (BringRun most conn state index h.held) (sym k.entries_are) h.kept.1

  pub held_length : length h.held ≡ length entries
  held_length = due_length conn index state h.held entries brings.due

  front_run : (n : ℕ) → n ≤ length entries → BringRun most conn state index (take n h.held) (take n entries)
  front_run n few = record { due = (due_cut conn index state h.held entries n few brings.due).0; run = run_take most n entries brings.run }

  -- the first of it were stored
  pub front_stored : (left : List Entry) (calls : List Call) (text : List ℕ) → StoresFront entries left calls text → Holds most conn left frames (called ++ calls) (said ++ text)
  front_stored left calls text s =
      let n = s.many in
      let step : Step Frame = record { frames = take n h.held; calls = calls; text = text } in
      let run = front_run n s.few in
      let size : length (take n entries) ≡ n = omega (arith, s.few, length-take n entries) in
      let move : CarriesRun most conn state index step.frames step.calls step.text =
      record { entries = take n entries; some = omega (arith, s.some, size); brings = run; receipt = s.receipt; stores = s.stores; says = s.says } in
      let frames_now : frames_of (h.steps ++ step ∷ []) ≡ frames_of h.steps ++ take n h.held = frames_then h.steps (step ∷ []) ∙ ap (λ (l : List Frame). frames_of h.steps ++ l) (append-nil (take n h.held)) in
      let state_now : state_after (frames_of (h.steps ++ step ∷ [])) ≡ state = ap state_after frames_now ∙ due_state conn index state (take n h.held) (take n entries) (frames_of h.steps) refl run.due in
      let index_now : count (calls_of (h.steps ++ step ∷ [])) ≡ index + n =
      omega (arith, ap count (calls_then h.steps (step ∷ [])), count_then (calls_of h.steps) (calls_of (step ∷ [])), ap count (append-nil calls), ap count s.stores, length-append (take n entries) [], size) in
      let rest : AreDue conn (index + n) state (drop n h.held) (drop n entries) = (due_cut conn index state h.held entries n s.few brings.due).1 in
      let rest_now : AreDue conn (count (calls_of (h.steps ++ step ∷ []))) (state_after (frames_of (h.steps ++ step ∷ []))) (drop n h.held) (drop n entries) =
      subst (λ (i : ℕ). AreDue conn i (state_after (frames_of (h.steps ++ step ∷ []))) (drop n h.held) (drop n entries)) (sym index_now)
      (subst (λ (x : State). AreDue conn (index + n) x (drop n h.held) (drop n entries)) (sym state_now) rest) in
      record {
        handled = handled_cut p frames called said h step (drop n h.held) (sym (take-append-drop n h.held)) (inr move) (drop n entries, record { due = rest_now; run = run_drop most n entries brings.run });
        entries_are = s.rest;
      }

  -- the connection ends at the first of it
  pub front_ends : (talk : Talk) (late : List Call) (part : List ℕ) → IsAtMove talk → EndsAtFront entries talk late part → EndsWithin most conn talk frames (called ++ late) (said ++ part)
  front_ends talk late part is e left b at front =
      let n = e.many in
      let run = front_run n e.few in
      let cut = last_of (take n h.held) (omega (arith, e.some, e.few, held_length, length-take n h.held)) in
      let before = cut.0 in
      let last = cut.1 in
      let whole : frames ≡ (frames_of h.steps ++ (before ++ last ∷ [])) ++ drop n h.held =
      h.whole ∙ ap (λ (l : List Frame). frames_of h.steps ++ l) (sym (take-append-drop n h.held) ∙ ap (λ (l : List Frame). l ++ drop n h.held) cut.2) ∙ sym (append_assoc (frames_of h.steps) (before ++ last ∷ []) (drop n h.held)) in
      let stop = front_first IsSpelling b (frames_of h.steps ++ (before ++ last ∷ [])) (drop n h.held) at (subst (λ (l : List Frame). IsFront IsSpelling b l at) whole front) in
      let stop_at : IsFront IsSpelling b ((frames_of h.steps ++ before) ++ last ∷ []) stop.0 = subst (λ (l : List Frame). IsFront IsSpelling b l stop.0) (sym (append_assoc (frames_of h.steps) before (last ∷ []))) stop.1 in
      let start = front_first IsSpelling b (frames_of h.steps ++ before) (last ∷ []) stop.0 stop_at in
      let all : AreDue conn index state (before ++ last ∷ []) (take n entries) = subst (λ (l : List Frame). AreDue conn index state l (take n entries)) cut.2 run.due in
      let size : length before ≤ length (take n entries) = omega (arith, due_length conn index state (before ++ last ∷ []) (take n entries) all, length-append before (last ∷ [])) in
      let first : AreDue conn index state before (take (length before) (take n entries)) =
      subst (λ (l : List Frame). AreDue conn index state l (take (length before) (take n entries))) (take-append_seam before (last ∷ [])) (due_cut conn index state (before ++ last ∷ []) (take n entries) (length before) size all).0 in
      carried_front p left b frames called said h before (take (length before) (take n entries), record { due = first; run = run_take most (length before) (take n entries) run.run }) start.0 start.1 late part talk
      (at_move p left b h.steps before start.0 late part talk is (inl (last, stop.0, stop_at, inr (take n entries, record { due = all; run = run.run }, e.ends))))

  -- a text that is due once its first were stored, or refused, is what a connection has carried that ends there
  pub front_due : (calls : List Call) (text : List ℕ) → IsDueForFront entries calls text → CouldEndWithin most conn frames (called ++ calls) (said ++ text)
  front_due calls text d b at front =
      elim d.due [
        | inl taken ↦
            let after = front_stored (drop d.many entries) calls text (record { many = d.many; some = d.some; few = d.few; receipt = taken.0; stores = taken.1; says = taken.2; rest = refl }) in
            has_carried (Carried p) None b NoMemory _ _ (carried_starved p None b frames at (called ++ calls) (said ++ text) after.handled front)
        | inr refused ↦
            let ends = refused_ends (take d.many entries) refused.0 calls text refused.1 refused.2 refused.3 refused.4 in
            has_carried (Carried p) None b (talk_of refused.0) _ _
            (front_ends (talk_of refused.0) calls text (fault_at_move refused.0) (record { many = d.many; some = d.some; few = d.few; ends = ends }) None b at front)
      ]

  -- nothing is done for want of memory
  pub held_starved : EndsWithin most conn NoMemory frames called said
  held_starved left b at front = carried_starved p left b frames at called said h front

  -- the next event is held too
  pub held_next : (f : Frame) (e : Entry) → IsAnswer (state_after frames) f (Store e.event e.unit) → e.conn ≡ conn → e.index ≡ count called + length entries → IsRun most (entries ++ e ∷ []) → Holds most conn (entries ++ e ∷ []) (frames ++ f ∷ []) called said
  held_next f e answer same at run =
      let state_is : state_after frames ≡ state = ap state_after h.whole ∙ due_state conn index state h.held entries (frames_of h.steps) refl brings.due in
      let here : IsAnswer state f (Store e.event e.unit) = subst (λ (s : State). IsAnswer s f (Store e.event e.unit)) state_is answer in
      let place : e.index ≡ index + length entries = omega (arith, at, ap count h.made) in
      record {
        handled = handled_hold p frames called said h f (entries ++ e ∷ [], record { due = due_push conn index state h.held entries f e brings.due here same place; run = run });
        entries_are = refl;
      }
