-- A connection of RELP to whose end all may be done.
use Rattle.std.proofs.Common.{◌≡◌, inl, inr, ℕ, ◌+◌, ◌<◌, ◌≤◌, ◌^◌, Bool, true, false, ◌||◌, List, [], ◌∷◌, ◌++◌, length, flat_map, refl, sym, ◌∙◌, ap, subst, arith, append_assoc, length-append}
use Rattle.std.proofs.lemmas.List.{append-nil, map-append}
use Rattle.std.proofs.lemmas.List.Folds.{list_any-append}
use Rattle.std.specs.Prelude.{Option, Err}
use Rattle.event_form.specs.declared.event.Event.{Event}
use Rattle.event_form.specs.declared.event.Entry.{Entry}
use Rattle.event_form.specs.declared.talk.Talk.{Talk}
use Rattle.event_form.specs.declared.talk.Why.{Why}
use Rattle.edge_io.specs.declared.proto.Proto.TheVariants.{Relp}
use Rattle.edge_disk.specs.Disk.{Moment}
use Rattle.stream_grammar.specs.Framing.{BeginsAList, IsStream, IsFaulty, AreSpelled}
use Rattle.stream_grammar.proofs.Faults.{fault_or_stream, fault_stays}
use Rattle.stream_grammar.proofs.Readings.{some_reading as some, stream_behind, fault_behind}
use Rattle.relp_frame.specs.declared.frame.Frame.{Frame}
use Rattle.relp_frame.specs.declared.fault.RelpFault.{RelpFault}
use Rattle.relp_frame.specs.declared.fault.RelpWhy.{RelpWhy}
use Rattle.relp_frame.specs.Reason.{IsReason}
use Rattle.relp_frame.specs.Spelling.{IsSpelling}
use Rattle.relp_frame.proofs.FrameLaws.{relp_machine, live}
use Rattle.relp_frame.proofs.ReasonLaws.{reason_of}
use Rattle.relp_frame.proofs.ReadingLaws.{decides}
use Rattle.relp_session.specs.declared.act.RelpAct.{RelpAct}
use Rattle.relp_session.specs.declared.act.RelpAct.TheVariants.{Store, Say, End}
use Rattle.relp_session.specs.declared.state.State.TheVariants.{Unopened, Closed}
use Rattle.relp_session.specs.Answer.{IsAnswer, IsEnd}
use Rattle.relp_session.specs.Request.{is_closing}
use Rattle.relp_session.specs.Session.{Steps, closed, opened, state_after, state_of}
use Rattle.relp_session.proofs.Sessions.{acts_by_frames}
use Rattle.relp_session.proofs.States.{ends_when_closed, state_then, stays_unclosed}
use Rattle.hec_session.specs.declared.tokens.Tokens.{Tokens}
use Rattle.spool_state.specs.SpoolState.{SpoolState}
use Rattle.spool_faults.specs.declared.fault.TakeFault.TheVariants as Take
use Rattle.desk_access.specs.Call.{Call, takes, taken_of, failures_of}
use Rattle.desk_access.specs.Carried.{Carried, Ending, EndsAtMove, IsOver}
use Rattle.desk_access.specs.Protocol.{AreMoves}
use Rattle.desk_access.specs.Step.{Step, frames_of, calls_of, count}
use Rattle.desk_access.proofs.Moves.{frames_then, taken_then}
use Rattle.conn_serve.specs.Front.{IsFront}
use Rattle.conn_serve.specs.Relp.{relp, entry_of, talk_of, Carries, EndsAtAct, IsRefused}
use Rattle.conn_serve.proofs.Acting.{none_by}
use Rattle.ending_laws.specs.Replaying.{RelpFits, RelpEnds, Stores, Gains, events_of, relp_events}
use Rattle.bridge_parts.specs.Reached.{Reaches}
use Rattle.ending_laws.proofs.Desk.{first_answers, only_disk}
use Rattle.ending_laws.proofs.Endings.{IsDone, IsAllowed, IsRefusing, AfterSteps, Kept, after_steps, allowed, front_more, gains, kept_all, kept_short, steps_failures}

-- ---- frames at the front of bytes

-- bytes that are frames and no more begin a list
begins_whole : (b : List ℕ) (frames : List Frame) (at : ℕ) → IsFront IsSpelling b frames at → at ≡ length b → BeginsAList IsSpelling b
begins_whole b frames at front last =
    let none : front.rest ≡ [] = none_by front.rest (omega (arith, last, front.ends, ap length front.whole, length-append front.front front.rest)) in
    let all : b ++ [] ≡ front.front = append-nil b ∙ front.whole ∙ ap (λ (l : List ℕ). front.front ++ l) none ∙ append-nil front.front in
    record { frames = frames; more = []; spelled = subst (AreSpelled IsSpelling frames) (sym all) front.spelled }

-- frames at the front are the first of all frames
pub front_of_stream : (b : List ℕ) (frames fs : List Frame) (at end : ℕ) (rest : List ℕ) → IsFront IsSpelling b frames at → IsStream IsSpelling b fs end rest → (more : List Frame) × (fs ≡ frames ++ more) × (at ≤ end)
front_of_stream b frames fs at end rest front stream = elim (some relp_machine live reason_of front.rest) [
  | inl i ↦
      let there = stream_behind relp_machine frames i.0 front.front front.rest i.2 i.1 front.spelled i.3 in
      let here = subst (λ (l : List ℕ). IsStream IsSpelling l (frames ++ i.0) (length front.front + i.1) i.2) (sym front.whole) there in
      let one = decides.stream b fs (frames ++ i.0) end (length front.front + i.1) rest i.2 stream here in
      (i.0, one.0, omega (arith, one.1, front.ends))
  | inr i ↦
      let there = fault_behind relp_machine frames i.0 front.front front.rest i.2 i.1 i.3 i.4 front.spelled i.5 in
      absurd (fault_or_stream there (subst (BeginsAList IsSpelling) front.whole stream.begins))
]

-- also of those before a fault
front_of_fault : (b : List ℕ) (frames fs : List Frame) (at end : ℕ) (rest : List ℕ) (place : ℕ) (why : RelpWhy)
    → IsFront IsSpelling b frames at → IsFaulty IsSpelling IsReason b fs end rest place why → (more : List Frame) × (fs ≡ frames ++ more)
front_of_fault b frames fs at end rest place why front fault = elim (some relp_machine live reason_of front.rest) [
  | inl i ↦
      let there = stream_behind relp_machine frames i.0 front.front front.rest i.2 i.1 front.spelled i.3 in
      absurd (fault_or_stream fault (subst (BeginsAList IsSpelling) (sym front.whole) there.begins))
  | inr i ↦
      let there = fault_behind relp_machine frames i.0 front.front front.rest i.2 i.1 i.3 i.4 front.spelled i.5 in
      let here = subst (λ (l : List ℕ). IsFaulty IsSpelling IsReason l (frames ++ i.0) (length front.front + i.1) i.2 (length front.front + i.3) i.4) (sym front.whole) there in
      let d : RelpFault = record { at = place; why = why } in
      let e : RelpFault = record { at = length front.front + i.3; why = i.4 } in
      let one = decides.fault b fs (frames ++ i.0) end (length front.front + i.1) rest i.2 d e fault here in
      (i.0, one.0)
]

-- ---- a `close` among the frames

unopened : Unopened ≡ Closed → ⊥
unopened is = cc

closed_by : (was_closed was_opened : Bool) → state_of was_closed was_opened ≡ Closed → was_closed ≡ true
closed_by true was_opened is = refl
closed_by false true is = absurd (cc)
closed_by false false is = absurd (cc)

closed_state : (frames : List Frame) → closed frames ≡ true → state_after frames ≡ Closed
closed_state frames is = ap (λ (c : Bool). state_of c (opened frames)) is

closed_more : (frames more : List Frame) → closed frames ≡ true → closed (frames ++ more) ≡ true
closed_more frames more is = list_any-append is_closing frames more ∙ ap (λ (c : Bool). c || closed more) is

carries_on : (conn index : ℕ) (act : RelpAct) (calls : List Call) (text : List ℕ) → Carries conn index act calls text → IsEnd act → ⊥
carries_on conn index (Store event txnr) calls text c ends = ends
carries_on conn index (Say answer) calls text c ends = ends
carries_on conn index (End answer) calls text c ends = c

frames_push : (before : List (Step Frame)) (s : Step Frame) (f : Frame) → s.frames ≡ f ∷ [] → frames_of (before ++ s ∷ []) ≡ frames_of before ++ f ∷ []
frames_push before s f is = frames_then before (s ∷ []) ∙ ap (λ (l : List Frame). frames_of before ++ l) (append-nil s.frames ∙ is)

-- no frame of which a move was made is one
unclosed : (conn : ℕ) (before steps : List (Step Frame)) → AreMoves (relp conn) before steps → (state_after (frames_of before) ≡ Closed → ⊥) → state_after (frames_of (before ++ steps)) ≡ Closed → ⊥
unclosed conn before [] moves going is = going (subst (λ (l : List (Step Frame)). state_after (frames_of l) ≡ Closed) (append-nil before) is)
unclosed conn before (s ∷ steps) moves going is =
    let move = moves.0 in
    let next : state_after (frames_of (before ++ s ∷ [])) ≡ Closed → ⊥ = λ closes.
    stays_unclosed (frames_of before) move.0 move.2.0 move.2.1 (carries_on conn (count (calls_of before)) move.2.0 s.calls s.text move.2.2)
    (subst (λ (l : List Frame). state_after l ≡ Closed) (frames_push before s move.0 move.1) closes) in
    unclosed conn (before ++ s ∷ []) steps moves.1 next (subst (λ (l : List (Step Frame)). state_after (frames_of l) ≡ Closed) (sym (append_assoc before (s ∷ []) steps)) is)

-- ---- what moves store

carried_events : (conn index : ℕ) (act : RelpAct) (calls : List Call) (text : List ℕ) → Carries conn index act calls text → events_of (taken_of calls) ≡ relp_events act
carried_events conn index (Store event txnr) calls text c = ap (λ (l : List Call). events_of (taken_of l)) c.1
carried_events conn index (Say answer) calls text c = ap (λ (l : List Call). events_of (taken_of l)) c.0
carried_events conn index (End answer) calls text c = absurd c

-- the acts of the frames of moves, with those of frames after them
record MovesStore (before steps : List (Step Frame)) (tail : List Frame) (more : List RelpAct) : Type 0 where
  acts : List RelpAct
  are : Steps (state_after (frames_of before)) (frames_of steps ++ tail) acts
  own : events_of (taken_of (calls_of steps)) ++ flat_map relp_events more ≡ flat_map relp_events acts

moves_store : (conn : ℕ) (before steps : List (Step Frame)) (tail : List Frame) (more : List RelpAct) → AreMoves (relp conn) before steps
    → Steps (state_after (frames_of (before ++ steps))) tail more → MovesStore before steps tail more
moves_store conn before [] tail more moves after = record {
  acts = more;
  are = subst (λ (l : List (Step Frame)). Steps (state_after (frames_of l)) tail more) (append-nil before) after;
  own = refl;
}
moves_store conn before (s ∷ steps) tail more moves after =
    let move = moves.0 in
    let rest = moves_store conn (before ++ s ∷ []) steps tail more moves.1 (subst (λ (l : List (Step Frame)). Steps (state_after (frames_of l)) tail more) (sym (append_assoc before (s ∷ []) steps)) after) in
    let act = move.2.0 in
    let here : events_of (taken_of s.calls) ≡ relp_events act = carried_events conn (count (calls_of before)) act s.calls s.text move.2.2 in
    let both : events_of (taken_of (s.calls ++ calls_of steps)) ≡ relp_events act ++ events_of (taken_of (calls_of steps)) =
    ap events_of (taken_then s.calls (calls_of steps)) ∙ map-append (λ (e : Entry). e.event) (taken_of s.calls) (taken_of (calls_of steps))
    ∙ ap (λ (l : List Event). l ++ events_of (taken_of (calls_of steps))) here in
    let later : Steps (state_after (frames_of before ++ move.0 ∷ [])) (frames_of steps ++ tail) rest.acts =
    subst (λ (l : List Frame). Steps (state_after l) (frames_of steps ++ tail) rest.acts) (frames_push before s move.0 move.1) rest.are in record {
      acts = act ∷ rest.acts;
      are = subst (λ (l : List Frame). Steps (state_after (frames_of before)) ((l ++ frames_of steps) ++ tail) (act ∷ rest.acts)) (sym move.1)
          (move.2.1, (state_after (frames_of before ++ move.0 ∷ []), (move.2.1.0, move.2.1.1, state_then (frames_of before) move.0 move.2.1.0 move.2.1.1), later));
      own = ap (λ (l : List Event). l ++ flat_map relp_events more) both
          ∙ append_assoc (relp_events act) (events_of (taken_of (calls_of steps))) (flat_map relp_events more)
          ∙ ap (λ (l : List Event). relp_events act ++ l) rest.own;
    }

-- Where all was done, these steps took the events of the acts of all frames, up to the end of the bytes or to a `close`.
pub record Took (whole : List ℕ) (calls : List Call) (steps : List (Step Frame)) : Type 0 where
  pub tail : List Frame
  pub acts : List RelpAct
  pub ends : RelpEnds whole (frames_of steps ++ tail)
  pub are : Steps Unopened (frames_of steps ++ tail) acts
  pub only : calls ≡ calls_of steps
  pub own : events_of (taken_of calls) ≡ flat_map relp_events acts

-- ---- the connection

-- at a refusal an event wasn't taken
refused_at : (conn index : ℕ) (act : RelpAct) (late : List Call) (part : List ℕ) (t : Talk) → IsRefusing t → EndsAtAct conn index act late part t → IsRefused conn index act late part t
refused_at conn index act late part (Talk.Full need room) is e = e
refused_at conn index act late part (Talk.TooLarge need most) is e = e
refused_at conn index act late part (Talk.Busy held) is e = e
refused_at conn index act late part (Talk.Spent end) is e = e
refused_at conn index act late part (Talk.NoMore run) is e = e
refused_at conn index act late part (Talk.NotSpool at) is e = e
refused_at conn index act late part t is e = absurd is

module _ (conn : ℕ) (tokens : Tokens) (s : SpoolState) (now : Moment) (left : Option (List ℕ)) (whole b : List ℕ) (calls : List Call) (text : List ℕ) (talk : Talk) (c : Carried (relp conn) left b calls text talk)
    (reached : Reaches s now calls) (k : Kept left whole b) (none : failures_of calls ≡ 0) where
  all_frames : frames_of c.steps ++ c.held ≡ frames_of c.steps
  all_frames = ap (λ (l : List Frame). frames_of c.steps ++ l) c.kept ∙ append-nil (frames_of c.steps)

  -- the frames served and those of the ending
  front_at : (end : ℕ) (more : List Frame) → IsFront IsSpelling b ((frames_of c.steps ++ c.held) ++ more) end → IsFront IsSpelling whole (frames_of c.steps ++ more) end
  front_at end more front =
      subst (λ (l : List ℕ). IsFront IsSpelling l (frames_of c.steps ++ more) end) (sym k.joined)
      (front_more IsSpelling b k.more (frames_of c.steps ++ more) end (subst (λ (l : List Frame). IsFront IsSpelling b (l ++ more) end) all_frames front))

  not_closed : (frames more : List Frame) → frames_of c.steps ++ c.held ≡ frames ++ more → closed frames ≡ true → ⊥
  not_closed frames more are closing = unclosed conn [] c.steps c.each unopened (closed_state (frames_of c.steps) (ap closed (sym all_frames ∙ are) ∙ closed_more frames more closing))

  not_cut : (frames : List Frame) → RelpEnds whole frames → (place : ℕ) → IsOver (relp conn) left b (frames_of c.steps ++ c.held) c.at (Talk.Truncated place) → ⊥
  not_cut frames ends place (over, stream, short, is) =
      let all : whole ≡ b = kept_all left whole b k over in
      let front = subst (λ (l : List ℕ). IsFront IsSpelling l frames ends.0) all ends.1 in
      let more = front_of_stream b frames (frames_of c.steps ++ c.held) ends.0 c.at stream.0 front stream.1 in
      elim ends.2 [ inl last ↦ omega (arith, last, ap length all, more.2, short) | inr closing ↦ not_closed frames more.0 more.1 closing ]

  not_faulty : (frames : List Frame) → RelpEnds whole frames → (place : ℕ) (why : Why) → IsOver (relp conn) left b (frames_of c.steps ++ c.held) c.at (Talk.Fault place why) → ⊥
  not_faulty frames ends place why (at, rest, fault, is, place_is, why_is) =
      let there = subst (λ (l : List ℕ). IsFaulty IsSpelling IsReason l (frames_of c.steps ++ c.held) at rest fault.at fault.why) (sym k.joined) (fault_stays k.more is) in
      elim ends.2 [
        | inl last ↦ fault_or_stream there (begins_whole whole frames ends.0 ends.1 last)
        | inr closing ↦ let more = front_of_fault whole frames (frames_of c.steps ++ c.held) ends.0 at rest fault.at fault.why ends.1 there in not_closed frames more.0 more.1 closing
      ]

  after : AfterSteps (relp conn) s c.steps c.late
  after = after_steps (relp conn) s now left b calls text talk c reached (steps_failures calls (calls_of c.steps) c.late c.made none)

  at_act : RelpFits conn s whole → (t : Talk) → IsRefusing t → (f : Frame) (end : ℕ) (act : RelpAct) → IsFront IsSpelling whole (frames_of c.steps ++ f ∷ []) end → IsAnswer (state_after (frames_of c.steps)) f act
      → IsRefused conn (count (calls_of c.steps)) act c.late c.part t → ⊥
  at_act fits t refusing f end (Store event txnr) front answer (fault, took, is, said) =
      let group = entry_of conn (count (calls_of c.steps)) txnr event ∷ [] in
      let first = first_answers after.desk after.found (takes group (Err fault)) [] c.late after.rest took after.by after.goes in
      let only : fault ≡ Take.DiskFault = only_disk after.desk first.found group fault first.met after.sure (fits c.steps after.desk f end event txnr after.course front answer) first.answers in
      subst IsRefusing (is ∙ ap talk_of only) refusing
  at_act fits t refusing f end (Say answer) front asked refused = absurd refused
  at_act fits t refusing f end (End answer) front asked refused = absurd refused

  not_refused : RelpFits conn s whole → (t : Talk) → IsRefusing t → EndsAtMove (relp conn) left b c.steps c.held c.at c.late c.part t → ⊥
  not_refused fits t refusing (inr last) = absurd last.2
  not_refused fits t refusing (inl (f, end, front, (act, answer, ends))) =
      at_act fits t refusing f end act (front_at end (f ∷ []) front) answer (refused_at conn (count (calls_of c.steps)) act c.late c.part t refusing ends)

  pub relp_allowed : (frames : List Frame) → RelpEnds whole frames → RelpFits conn s whole → length whole < 2 ^ 40 → IsAllowed talk
  relp_allowed frames ends fits short =
      allowed (relp conn) left b c.steps c.held c.at c.late c.part (not_cut frames ends) (not_faulty frames ends) (omega (arith, short, kept_short left whole b k)) (not_refused fits) talk c.ending

  -- the events of the acts, where nothing more was called
  took : (tail : List Frame) (more : List RelpAct) → Steps (state_after (frames_of c.steps)) tail more → flat_map relp_events more ≡ [] → c.late ≡ [] → RelpEnds whole (frames_of c.steps ++ tail) → Took whole calls c.steps
  took tail more later nothing ended ends =
      let are = moves_store conn [] c.steps tail more c.each later in
      let only : calls ≡ calls_of c.steps = c.made ∙ ap (λ (l : List Call). calls_of c.steps ++ l) ended ∙ append-nil (calls_of c.steps) in record {
        tail = tail;
        acts = are.acts;
        ends = ends;
        are = are.are;
        only = only;
        own = ap (λ (l : List Call). events_of (taken_of l)) only
            ∙ sym (append-nil (events_of (taken_of (calls_of c.steps))))
            ∙ ap (λ (l : List Event). events_of (taken_of (calls_of c.steps)) ++ l) (sym nothing)
            ∙ are.own;
      }

  took_at : (t : Talk) → IsDone t → Ending (relp conn) left b c.steps c.held c.at c.late c.part t → Took whole calls c.steps
  took_at Talk.Ended done ((over, stream, last), nothing) =
      let all : whole ≡ b = kept_all left whole b k over in
      let front = front_at c.at [] (subst (λ (l : List Frame). IsFront IsSpelling b l c.at) (sym (append-nil (frames_of c.steps ++ c.held))) c.front) in
      took [] [] tt refl nothing.0 (c.at, front, inl (last ∙ ap length (sym all)))
  took_at Talk.Closed done (inr last) = absurd last.2
  took_at Talk.Closed done (inl (f, end, front, (act, answer, (is, ended)))) =
      let ends : IsEnd act = subst IsEnd (sym is) tt in
      let over : state_after (frames_of c.steps ++ f ∷ []) ≡ Closed =
      (ends_when_closed (state_after (frames_of c.steps)) f act (state_after (frames_of c.steps ++ f ∷ [])) answer (answer.0, answer.1, state_then (frames_of c.steps) f answer.0 answer.1)).0 ends in
      let closing : closed (frames_of c.steps ++ f ∷ []) ≡ true = closed_by (closed (frames_of c.steps ++ f ∷ [])) (opened (frames_of c.steps ++ f ∷ [])) over in
      took (f ∷ []) (act ∷ []) (answer, (state_after (frames_of c.steps ++ f ∷ []), (answer.0, answer.1, state_then (frames_of c.steps) f answer.0 answer.1), tt))
      (ap (λ (x : RelpAct). flat_map relp_events (x ∷ [])) is) ended (end, front_at end (f ∷ []) front, inr closing)
  took_at t done e = absurd done

  pub relp_took : IsDone talk → Took whole calls c.steps
  relp_took done = took_at talk done c.ending

  pub relp_stored : IsDone talk → (events : List Event) × Stores Relp tokens whole events × Gains s now events
  relp_stored done =
      let t = relp_took done in
      let frames = frames_of c.steps ++ t.tail in
      (flat_map relp_events t.acts, (frames, t.ends, (t.acts, acts_by_frames frames t.acts t.are, refl)), gains s now calls (flat_map relp_events t.acts) reached none t.own)
