-- A connection of Lumberjack to whose end all may be done.
use Rattle.std.proofs.Common.{◌≡◌, inl, inr, ℕ, ◌+◌, ◌<◌, ◌^◌, List, [], ◌∷◌, ◌++◌, length, map, refl, sym, ◌∙◌, ap, subst, arith, append_assoc, length-append}
use Rattle.std.proofs.lemmas.List.{append-nil, map-append}
use Rattle.std.specs.Prelude.{Option, Ok, Err}
use Rattle.event_form.specs.declared.event.Event.{Event}
use Rattle.event_form.specs.declared.event.Entry.{Entry}
use Rattle.event_form.specs.declared.talk.Talk.{Talk}
use Rattle.event_form.specs.declared.talk.Why.{Why}
use Rattle.edge_io.specs.declared.proto.Proto.TheVariants.{Lumberjack}
use Rattle.edge_disk.specs.Disk.{Moment}
use Rattle.stream_grammar.specs.FieldFaults.{IsFieldStream, IsFieldFault}
use Rattle.stream_grammar.specs.Framing.{AreSpelled}
use Rattle.stream_grammar.proofs.FieldReadings.{field_fault_stays, field_stream_behind}
use Rattle.lumber_frame.specs.declared.frame.LumberFrame.{LumberFrame}
use Rattle.lumber_frame.specs.declared.side.Side.TheVariants.{Receiver}
use Rattle.lumber_frame.specs.Broken.{Broken}
use Rattle.lumber_frame.specs.Spelling.{Spells}
use Rattle.lumber_frame.proofs.FrameLaws.{lumber}
use Rattle.lumber_frame.proofs.ReadingLaws.{decides, nothing_read}
use Rattle.lumber_session.specs.Staged.{Staged, staged}
use Rattle.lumber_session.proofs.WindowLaws.{staged-append}
use Rattle.hec_session.specs.declared.tokens.Tokens.{Tokens}
use Rattle.spool_state.specs.SpoolState.{SpoolState}
use Rattle.spool_answers.specs.declared.receipt.Receipt.{Receipt}
use Rattle.spool_faults.specs.declared.fault.TakeFault.{TakeFault}
use Rattle.spool_faults.specs.declared.fault.TakeFault.TheVariants as Take
use Rattle.spool_answers.specs.Take.{Fits}
use Rattle.desk_access.specs.Call.{Call, takes, taken_of, failures_of}
use Rattle.desk_access.specs.Carried.{Carried, Ending, EndsAtMove, IsOver}
use Rattle.desk_access.specs.Protocol.{AreMoves}
use Rattle.desk_access.specs.Step.{Step, frames_of, calls_of, count}
use Rattle.desk_access.proofs.Moves.{taken_then}
use Rattle.conn_serve.specs.Front.{IsFront}
use Rattle.conn_serve.specs.Lumber.{lumberjack, entries_of, EndsAtGroup, StoresLast}
use Rattle.conn_serve.specs.Relp.{talk_of}
use Rattle.conn_serve.proofs.Acting.{none_by}
use Rattle.ending_laws.specs.Replaying.{LumberFits, LumberEnds, Stores, Gains, events_of}
use Rattle.bridge_parts.specs.Reached.{Reaches}
use Rattle.ending_laws.proofs.Desk.{first_answers, only_disk}
use Rattle.ending_laws.proofs.Endings.{IsDone, IsAllowed, IsRefusing, AfterSteps, Kept, after_steps, allowed, front_more, gains, kept_all, kept_short, steps_failures}

-- bytes that are frames and no more are a stream
whole_stream : (b : List ℕ) (frames : List LumberFrame) → LumberEnds b frames → IsFieldStream (Spells Receiver) (Broken Receiver) b frames (length b) []
whole_stream b frames spelled =
    let there = field_stream_behind (lumber Receiver) frames [] b [] [] 0 spelled (nothing_read Receiver) in
    let here = subst (λ (l : List ℕ). IsFieldStream (Spells Receiver) (Broken Receiver) l (frames ++ []) (length b + 0) []) (append-nil b) there in
    let end : length b + 0 ≡ length b = omega arith in
    subst (λ (n : ℕ). IsFieldStream (Spells Receiver) (Broken Receiver) b frames n []) end
    (subst (λ (l : List LumberFrame). IsFieldStream (Spells Receiver) (Broken Receiver) b l (length b + 0) []) (append-nil frames) here)

-- ---- what is staged

entries_events : (conn index : ℕ) (events : List Staged) → events_of (entries_of conn index events) ≡ map (λ (one : Staged). one.event) events
entries_events conn index [] = refl
entries_events conn index (one ∷ events) = ap (λ (l : List Event). one.event ∷ l) (entries_events conn (index + 1) events)

-- what one take took
took_events : (conn index : ℕ) (events : List Staged) (calls : List Call) (receipt : Receipt) → calls ≡ takes (entries_of conn index events) (Ok receipt) ∷ [] → events_of (taken_of calls) ≡ map (λ (one : Staged). one.event) events
took_events conn index events calls receipt is =
    ap (λ (l : List Call). events_of (taken_of l)) is ∙ ap events_of (append-nil (entries_of conn index events)) ∙ entries_events conn index events

moves_store : (conn : ℕ) (before steps : List (Step LumberFrame)) → AreMoves (lumberjack conn) before steps → events_of (taken_of (calls_of steps)) ≡ map (λ (one : Staged). one.event) (staged (frames_of steps))
moves_store conn before [] moves = refl
moves_store conn before (s ∷ steps) moves =
    ap events_of (taken_then s.calls (calls_of steps)) ∙ map-append (λ (e : Entry). e.event) (taken_of s.calls) (taken_of (calls_of steps))
    ∙ ap (λ (l : List Event). l ++ events_of (taken_of (calls_of steps))) (took_events conn (count (calls_of before)) (staged s.frames) s.calls moves.0.1.0 moves.0.1.1)
    ∙ ap (λ (l : List Event). map (λ (one : Staged). one.event) (staged s.frames) ++ l) (moves_store conn (before ++ s ∷ []) steps moves.1)
    ∙ sym (map-append (λ (one : Staged). one.event) (staged s.frames) (staged (frames_of steps)))
    ∙ ap (map (λ (one : Staged). one.event)) (sym (staged-append s.frames (frames_of steps)))

last_stores : (conn index : ℕ) (events : List Staged) (calls : List Call) (text : List ℕ) → StoresLast conn index events calls text → events_of (taken_of calls) ≡ map (λ (one : Staged). one.event) events
last_stores conn index [] calls text nothing = ap (λ (l : List Call). events_of (taken_of l)) nothing.0
last_stores conn index (one ∷ events) calls text stores = took_events conn index (one ∷ events) calls stores.0 stores.1

-- Where all was done, the bytes are the frames of the steps and those held, and the calls took all events that they stage: those held
-- last.
pub record Took (conn : ℕ) (whole : List ℕ) (calls : List Call) (steps : List (Step LumberFrame)) (held : List LumberFrame) (late : List Call) (part : List ℕ) : Type 0 where
  pub spelled : AreSpelled (Spells Receiver) (frames_of steps ++ held) whole
  pub own : events_of (taken_of calls) ≡ map (λ (one : Staged). one.event) (staged (frames_of steps ++ held))
  pub last : StoresLast conn (count (calls_of steps)) (staged held) late part

-- ---- the connection

closed_never : (fault : TakeFault) → Talk.Closed ≡ talk_of fault → ⊥
closed_never (Take.TooLarge need most) is = cc
closed_never (Take.Spent at) is = cc
closed_never (Take.Full need free) is = cc
closed_never (Take.NotSpool at) is = cc
closed_never Take.NoMemory is = cc
closed_never Take.DiskFault is = cc

-- at a refusal a group wasn't taken
refused_at : (group : List Entry) (seq : ℕ) (late : List Call) (part : List ℕ) (t : Talk) → IsRefusing t → EndsAtGroup group seq late part t → (fault : TakeFault) × (late ≡ takes group (Err fault) ∷ []) × (t ≡ talk_of fault)
refused_at group seq late part Talk.WriteFault is e = absurd is
refused_at group seq late part t is e = (e.0, e.1, e.2)

module _ (conn : ℕ) (tokens : Tokens) (s : SpoolState) (now : Moment) (left : Option (List ℕ)) (whole b : List ℕ) (calls : List Call) (text : List ℕ) (talk : Talk) (c : Carried (lumberjack conn) left b calls text talk)
    (reached : Reaches s now calls) (k : Kept left whole b) (none : failures_of calls ≡ 0) where
  front_at : (frames : List LumberFrame) (end : ℕ) → IsFront (Spells Receiver) b frames end → IsFront (Spells Receiver) whole frames end
  front_at frames end front = subst (λ (l : List ℕ). IsFront (Spells Receiver) l frames end) (sym k.joined) (front_more (Spells Receiver) b k.more frames end front)

  not_cut : (frames : List LumberFrame) → LumberEnds whole frames → (place : ℕ) → IsOver (lumberjack conn) left b (frames_of c.steps ++ c.held) c.at (Talk.Truncated place) → ⊥
  not_cut frames ends place (over, stream, short, is) =
      let all : whole ≡ b = kept_all left whole b k over in
      let here = subst (λ (l : List ℕ). IsFieldStream (Spells Receiver) (Broken Receiver) l frames (length whole) []) all (whole_stream whole frames ends) in
      let one = (decides Receiver).stream b (frames_of c.steps ++ c.held) frames c.at (length whole) stream.0 [] stream.1 here in
      omega (arith, one.1, short, ap length all)

  not_faulty : (frames : List LumberFrame) → LumberEnds whole frames → (place : ℕ) (why : Why) → IsOver (lumberjack conn) left b (frames_of c.steps ++ c.held) c.at (Talk.Fault place why) → ⊥
  not_faulty frames ends place why (at, rest, fault, is, place_is, why_is) =
      let there = subst (λ (l : List ℕ). IsFieldFault (Spells Receiver) (Broken Receiver) l (frames_of c.steps ++ c.held) at rest fault.at fault.why) (sym k.joined) (field_fault_stays k.more is) in
      (decides Receiver).apart whole (frames_of c.steps ++ c.held) frames at (length whole) rest [] fault there (whole_stream whole frames ends)

  after : AfterSteps (lumberjack conn) s c.steps c.late
  after = after_steps (lumberjack conn) s now left b calls text talk c reached (steps_failures calls (calls_of c.steps) c.late c.made none)

  -- a group that fits there is refused nowhere
  at_group : (t : Talk) → IsRefusing t → (frames : List LumberFrame) (seq : ℕ) → Fits after.desk.spool (entries_of conn (count (calls_of c.steps)) (staged frames))
      → EndsAtGroup (entries_of conn (count (calls_of c.steps)) (staged frames)) seq c.late c.part t → ⊥
  at_group t refusing frames seq fits ends =
      let group = entries_of conn (count (calls_of c.steps)) (staged frames) in
      let refused = refused_at group seq c.late c.part t refusing ends in
      let first = first_answers after.desk after.found (takes group (Err refused.0)) [] c.late after.rest refused.1 after.by after.goes in
      let only : refused.0 ≡ Take.DiskFault = only_disk after.desk first.found group refused.0 first.met after.sure fits first.answers in
      subst IsRefusing (refused.2 ∙ ap talk_of only) refusing

  not_refused : (frames : List LumberFrame) → LumberEnds whole frames → LumberFits conn s whole → (t : Talk) → IsRefusing t → EndsAtMove (lumberjack conn) left b c.steps c.held c.at c.late c.part t → ⊥
  not_refused frames ends fits t refusing (inl (f, end, front, (batch, stops))) =
      let there = subst (λ (l : List LumberFrame). IsFront (Spells Receiver) b l end) (append_assoc (frames_of c.steps) c.held (f ∷ [])) front in
      at_group t refusing (c.held ++ f ∷ []) _ (fits c.steps after.desk (c.held ++ f ∷ []) end after.course (front_at (frames_of c.steps ++ (c.held ++ f ∷ [])) end there) (inl batch)) stops
  not_refused frames ends fits t refusing (inr (over, is_over, (some, stops))) =
      at_group t refusing c.held _ (fits c.steps after.desk c.held c.at after.course (front_at (frames_of c.steps ++ c.held) c.at c.front)
      (inr (c.kept, at_end over is_over, some))) stops
    where
      at_end : (o : Talk) → IsOver (lumberjack conn) left b (frames_of c.steps ++ c.held) c.at o → c.at ≡ length whole
      at_end Talk.Ended (at_left, stream, last) = last ∙ ap length (sym (kept_all left whole b k at_left))
      at_end (Talk.Truncated place) o = absurd (not_cut frames ends place o)
      at_end (Talk.Fault place why) o = absurd (not_faulty frames ends place why o)
      at_end o never = absurd never

  pub lumber_allowed : (frames : List LumberFrame) → LumberEnds whole frames → LumberFits conn s whole → length whole < 2 ^ 40 → IsAllowed talk
  lumber_allowed frames ends fits short =
      allowed (lumberjack conn) left b c.steps c.held c.at c.late c.part (not_cut frames ends) (not_faulty frames ends) (omega (arith, short, kept_short left whole b k)) (not_refused frames ends fits) talk c.ending

  took_at : (t : Talk) → IsDone t → Ending (lumberjack conn) left b c.steps c.held c.at c.late c.part t → Took conn whole calls c.steps c.held c.late c.part
  took_at Talk.Ended done ((over, stream, last), late) =
      let all : whole ≡ b = kept_all left whole b k over in
      let front = front_at (frames_of c.steps ++ c.held) c.at c.front in
      let rest : front.rest ≡ [] = none_by front.rest (omega (arith, last, ap length all, front.ends, ap length front.whole, length-append front.front front.rest)) in
      let text_is : front.front ≡ whole = sym (front.whole ∙ ap (λ (l : List ℕ). front.front ++ l) rest ∙ append-nil front.front) in
      record {
        spelled = subst (AreSpelled (Spells Receiver) (frames_of c.steps ++ c.held)) text_is front.spelled;
        own = ap (λ (l : List Call). events_of (taken_of l)) c.made ∙ ap events_of (taken_then (calls_of c.steps) c.late) ∙ map-append (λ (e : Entry). e.event) (taken_of (calls_of c.steps)) (taken_of c.late)
            ∙ ap (λ (l : List Event). l ++ events_of (taken_of c.late)) (moves_store conn [] c.steps c.each)
            ∙ ap (λ (l : List Event). map (λ (one : Staged). one.event) (staged (frames_of c.steps)) ++ l) (last_stores conn (count (calls_of c.steps)) (staged c.held) c.late c.part late)
            ∙ sym (map-append (λ (one : Staged). one.event) (staged (frames_of c.steps)) (staged c.held))
            ∙ ap (map (λ (one : Staged). one.event)) (sym (staged-append (frames_of c.steps) c.held));
        last = late;
      }
  took_at Talk.Closed done (inl (f, end, front, (batch, (fault, took, is, said)))) = absurd (closed_never fault is)
  took_at Talk.Closed done (inr (over, is_over, (some, (fault, took, is, said)))) = absurd (closed_never fault is)
  took_at t done e = absurd done

  pub lumber_took : IsDone talk → Took conn whole calls c.steps c.held c.late c.part
  lumber_took done = took_at talk done c.ending

  pub lumber_stored : IsDone talk → (events : List Event) × Stores Lumberjack tokens whole events × Gains s now events
  lumber_stored done =
      let t = lumber_took done in
      let events = map (λ (one : Staged). one.event) (staged (frames_of c.steps ++ c.held)) in
      (events, (frames_of c.steps ++ c.held, t.spelled, refl), gains s now calls events reached none t.own)
