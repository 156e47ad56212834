-- The answers in the text of a RELP connection are those to the entries taken.
use Rattle.std.proofs.Common.{◌≡◌, inl, inr, ℕ, ◌+◌, ◌≤◌, ◌∙◌, Bool, true, false, if◌then◌else◌, List, [], ◌∷◌, ◌++◌, Option, length, drop, refl, sym, ap, subst, arith, append_assoc}
use Rattle.std.specs.Prelude.{codes, Ok, Err}
use Rattle.std.proofs.lemmas.List.{append-nil, take-append-drop}
use Rattle.event_form.specs.declared.event.Entry.{Entry}
use Rattle.event_form.specs.declared.event.Event.{Event}
use Rattle.event_form.specs.declared.talk.Talk.{Talk}
use Rattle.event_form.specs.declared.talk.Talk.TheVariants as talk
use Rattle.event_form.specs.declared.talk.Talk.TheVariants.{Ended, Fault, Truncated, Full, TooLarge, Busy, Spent, NoMore, TooMuch, ReadFault, WriteFault, DiskFault, NotSpool, NoMemory}
use Rattle.relp_frame.specs.declared.frame.Frame.{Frame}
use Rattle.relp_frame.specs.Spelling.{IsSpelling}
use Rattle.relp_frame.proofs.FrameLaws as frames
use Rattle.relp_frame.proofs.WriteLaws.{canonical_spells, spelling_fits}
use Rattle.relp_session.specs.declared.act.RelpAct.{RelpAct}
use Rattle.relp_session.specs.declared.act.RelpAct.TheVariants.{Store, Say, End}
use Rattle.relp_session.specs.declared.state.State.{State}
use Rattle.relp_session.specs.declared.state.State.TheVariants.{Unopened, Opened, Closed}
use Rattle.relp_session.specs.declared.request.Request.{Request}
use Rattle.relp_session.specs.declared.request.Request.TheVariants as ask
use Rattle.relp_session.specs.Answer.{act_of, reply, offers, stored, hint}
use Rattle.stream_grammar.specs.Framing.{AreSpelled}
use Rattle.stream_grammar.proofs.Streams.{spelled_append, spelled_strip}
use Rattle.edge_io.specs.declared.proto.Proto.TheVariants.{Relp}
use Rattle.spool_answers.specs.declared.receipt.Receipt.{Receipt}
use Rattle.spool_faults.specs.declared.fault.TakeFault.{TakeFault}
use Rattle.spool_faults.specs.declared.fault.TakeFault.TheVariants as fault
use Rattle.desk_access.specs.Call.{Call, takes}
use Rattle.desk_access.specs.Step.{Step, frames_of, calls_of, text_of}
use Rattle.desk_access.specs.Carried.{Carried, EndsAtMove, Ending}
use Rattle.desk_access.specs.Protocol.{IsNothing, AreMoves}
use Rattle.conn_serve.specs.Runs.{relp_runs, AreDue, answers_of, IsDueFor, EndsAtRun}
use Rattle.conn_serve.specs.Relp.{one_take, entry_of, last_text, Carries, IsDue, IsRefused, IsStarved, EndsAtAct}
use Rattle.conn_serve.specs.Acked.{is_success, successes, Acknowledges, AreOfFirst}
use Rattle.conn_serve.proofs.Grouping.{ToldEach, unit_of, each_none, each_refused, each_taken, each_then, of_first}
use Rattle.conn_serve.proofs.Fronts.{spelled_parts}
use Rattle.desk_access.proofs.Moves.{ending_cases}

pushed : (b : Bool) (t : ℕ) (xs ys : List ℕ) → (if b then t ∷ xs else xs) ++ ys ≡ (if b then t ∷ (xs ++ ys) else (xs ++ ys))
pushed true t xs ys = refl
pushed false t xs ys = refl

successes_then : (fs gs : List Frame) → successes (fs ++ gs) ≡ successes fs ++ successes gs
successes_then [] gs = refl
successes_then (f ∷ fs) gs = ap (λ (l : List ℕ). if is_success f then f.txnr ∷ l else l) (successes_then fs gs) ∙ sym (pushed (is_success f) f.txnr (successes fs) (successes gs))

-- the text is frames of which those that say 200 OK have the units of the entries taken
record Answers (calls : List Call) (text : List ℕ) : Type 0 where
  frames : List Frame
  spelled : AreSpelled IsSpelling frames text
  own : ToldEach (successes frames) calls

-- a `rsp` frame
abbrev rsp : ℕ → List ℕ → Frame
rsp txnr body = record { txnr = txnr; command = codes "rsp"; body = body }

abbrev closing : Frame
closing = record { txnr = 0; command = codes "serverclose"; body = [] }

rsp_spells : (txnr : ℕ) (body : List ℕ) → txnr ≤ 999999999 → length body ≤ 131072 → IsSpelling (rsp txnr body) (reply txnr body)
rsp_spells txnr body low short = canonical_spells (rsp txnr body) (record { txnr = low; command = record { letters = (refl, (refl, (refl, tt))); some = omega arith; few = omega arith }; body = short })

hint_spells : IsSpelling closing hint
hint_spells = canonical_spells closing (record { txnr = omega arith; command = record { letters = (refl, (refl, (refl, (refl, (refl, (refl, (refl, (refl, (refl, (refl, (refl, tt))))))))))); some = omega arith; few = omega arith }; body = omega arith })

one_answer : (f : Frame) (calls : List Call) (text spelt : List ℕ) → IsSpelling f spelt → text ≡ spelt → ToldEach (successes (f ∷ [])) calls → Answers calls text
one_answer f calls text spelt s e own = record { frames = f ∷ []; spelled = (text, [], subst (IsSpelling f) (sym e) s, sym (append-nil text), refl); own = own }

-- the take of an event that was answered Ok
took : (conn index txnr : ℕ) (event : Event) (receipt : Receipt) (calls : List Call) → calls ≡ one_take conn index txnr event (Ok receipt) → ToldEach (txnr ∷ []) calls
took conn index txnr event receipt calls is = each_taken calls (entry_of conn index txnr event ∷ []) receipt is

-- or that was not
refused : (conn index txnr : ℕ) (event : Event) (fault : TakeFault) (calls : List Call) → calls ≡ one_take conn index txnr event (Err fault) → ToldEach [] calls
refused conn index txnr event fault calls is = each_refused calls (entry_of conn index txnr event ∷ []) fault is

said : (txnr : ℕ) (body : List ℕ) (calls : List Call) (text : List ℕ) → txnr ≤ 999999999 → length body ≤ 131072 → successes (rsp txnr body ∷ []) ≡ [] → (calls ≡ []) × (text ≡ reply txnr body) → Answers calls text
said txnr body calls text low short none d = one_answer (rsp txnr body) calls text (reply txnr body) (rsp_spells txnr body low short) d.1 (subst (λ (l : List ℕ). ToldEach l calls) (sym none) (each_none calls d.0))

closes : (txnr : ℕ) (calls : List Call) (text : List ℕ) → txnr ≤ 999999999 → (calls ≡ []) × (text ≡ reply txnr [] ++ hint) → Answers calls text
closes txnr calls text low d = record {
  frames = rsp txnr [] ∷ closing ∷ [];
  spelled = (reply txnr [], hint, rsp_spells txnr [] low (omega arith), d.1, (hint, [], hint_spells, sym (append-nil hint), refl));
  own = each_none calls d.0;
}

-- the answers in the text that is due
due_answers : (state : State) (r : Request) (f : Frame) (conn index : ℕ) (calls : List Call) (text : List ℕ) → f.txnr ≤ 999999999 → IsDue conn index (act_of state r f) calls text → Answers calls text
due_answers Unopened ask.Open f conn index calls text low d = said f.txnr offers calls text low (omega arith) refl d
due_answers Unopened ask.OpenOther f conn index calls text low d = said f.txnr (codes "500 unsupported relp_version") calls text low (omega arith) refl d
due_answers Unopened ask.Syslog f conn index calls text low d = said f.txnr (codes "500 not open") calls text low (omega arith) refl d
due_answers Unopened ask.Close f conn index calls text low d = closes f.txnr calls text low d
due_answers Unopened ask.Other f conn index calls text low d = said f.txnr (codes "500 not open") calls text low (omega arith) refl d
due_answers Opened ask.Open f conn index calls text low d = said f.txnr (codes "500 already open") calls text low (omega arith) refl d
due_answers Opened ask.OpenOther f conn index calls text low d = said f.txnr (codes "500 already open") calls text low (omega arith) refl d
due_answers Opened ask.Syslog f conn index calls text low (inl d) = one_answer (rsp f.txnr (codes "200 OK")) calls text (stored f.txnr) (rsp_spells f.txnr (codes "200 OK") low (omega arith)) d.2 (took conn index f.txnr _ d.0 calls d.1)
due_answers Opened ask.Syslog f conn index calls text low (inr d) = one_answer closing calls text hint hint_spells d.3 (refused conn index f.txnr _ d.0 calls d.2)
due_answers Opened ask.Close f conn index calls text low d = closes f.txnr calls text low d
due_answers Opened ask.Other f conn index calls text low d = said f.txnr (codes "500 unknown command") calls text low (omega arith) refl d
due_answers Closed r f conn index calls text low d = record { frames = []; spelled = d.1; own = each_none calls d.0 }

-- what is done for an act writes the text that is due
carries_due : (conn index : ℕ) (act : RelpAct) (calls : List Call) (text : List ℕ) → Carries conn index act calls text → IsDue conn index act calls text
carries_due conn index (Store event txnr) calls text c = inl c
carries_due conn index (Say answer) calls text c = c
carries_due conn index (End answer) calls text c = absurd c

-- the unit of an entry that is due is its frame's number
unit_is : (s : State) (r : Request) (f : Frame) (event : Event) (txnr : ℕ) → Store event txnr ≡ act_of s r f → txnr ≡ f.txnr
unit_is Unopened ask.Open f event txnr is = absurd (cc is)
unit_is Unopened ask.OpenOther f event txnr is = absurd (cc is)
unit_is Unopened ask.Syslog f event txnr is = absurd (cc is)
unit_is Unopened ask.Close f event txnr is = absurd (cc is)
unit_is Unopened ask.Other f event txnr is = absurd (cc is)
unit_is Opened ask.Open f event txnr is = absurd (cc is)
unit_is Opened ask.OpenOther f event txnr is = absurd (cc is)
unit_is Opened ask.Syslog f event txnr is = cc is
unit_is Opened ask.Close f event txnr is = absurd (cc is)
unit_is Opened ask.Other f event txnr is = absurd (cc is)
unit_is Closed r f event txnr is = absurd (cc is)

-- the answers to the frames of a run are frames that say 200 OK, of the numbers of its entries
run_spelled : (conn index : ℕ) (state : State) (frames : List Frame) (entries : List Entry) (front : List ℕ) → AreDue conn index state frames entries → AreSpelled IsSpelling frames front
    → (fs : List Frame) × AreSpelled IsSpelling fs (answers_of entries) × (successes fs ≡ unit_of entries)
run_spelled conn index state [] [] front d s = ([], refl, refl)
run_spelled conn index state [] (e ∷ entries) front d s = absurd d
run_spelled conn index state (f ∷ frames) [] front d s = absurd d
run_spelled conn index state (f ∷ frames) (e ∷ entries) front d s =
    let rest = run_spelled conn (index + 1) state frames entries s.1 d.3 s.4 in
    let number : e.unit ≡ f.txnr = unit_is state d.0.0 f e.event e.unit d.0.2 in
    let low : e.unit ≤ 999999999 = omega (arith, number, (spelling_fits f s.0 s.2).txnr) in
    (rsp e.unit (codes "200 OK") ∷ rest.0, (stored e.unit, answers_of entries, rsp_spells e.unit (codes "200 OK") low (omega arith), refl, rest.1), ap (λ (l : List ℕ). e.unit ∷ l) rest.2)

run_answers : (conn index : ℕ) (state : State) (frames : List Frame) (entries : List Entry) (front : List ℕ) (receipt : Receipt) (calls : List Call) (text : List ℕ) → AreDue conn index state frames entries → AreSpelled IsSpelling frames front
    → calls ≡ takes entries (Ok receipt) ∷ [] → text ≡ answers_of entries → Answers calls text
run_answers conn index state frames entries front receipt calls text d s made says =
    let spelt = run_spelled conn index state frames entries front d s in
    record {
      frames = spelt.0;
      spelled = subst (AreSpelled IsSpelling spelt.0) (sym says) spelt.1;
      own = subst (λ (l : List ℕ). ToldEach l calls) (sym spelt.2) (each_taken calls entries receipt made);
    }

-- the answers of a step
move_answers : (most conn : ℕ) (before : List (Step Frame)) (x : Step Frame) (front : List ℕ) → (relp_runs most conn).IsMove before x → AreSpelled IsSpelling x.frames front → Answers x.calls x.text
move_answers most conn before x front (inl move) s =
    let f = move.0 in
    let row = move.2 in
    let here = subst (λ (l : List Frame). AreSpelled IsSpelling l front) move.1 s in
    let low : f.txnr ≤ 999999999 = (spelling_fits f here.0 here.2).txnr in
    let due = subst (λ (a : RelpAct). IsDue conn _ a x.calls x.text) row.1.2 (carries_due conn _ row.0 x.calls x.text row.2) in
    due_answers _ row.1.0 f conn _ x.calls x.text low due
move_answers most conn before x front (inr run) s = run_answers conn _ _ x.frames run.entries front run.receipt x.calls x.text run.brings.due s run.stores run.says

-- the answers of the steps
step_answers : (most conn : ℕ) (before steps : List (Step Frame)) (front : List ℕ) → AreMoves (relp_runs most conn) before steps → AreSpelled IsSpelling (frames_of steps) front → Answers (calls_of steps) (text_of steps)
step_answers most conn before [] front m s = record { frames = []; spelled = refl; own = each_none [] refl }
step_answers most conn before (x ∷ steps) front m s =
    let parts = spelled_parts IsSpelling x.frames (frames_of steps) front s in
    let first = move_answers most conn before x parts.0 m.0 parts.2 in
    let rest = step_answers most conn (before ++ x ∷ []) steps parts.1 m.1 parts.3 in record {
      frames = first.frames ++ rest.frames;
      spelled = spelled_append frames.relp_machine first.frames rest.frames x.text (text_of steps) first.spelled rest.spelled;
      own = subst (λ (l : List ℕ). ToldEach l (x.calls ++ calls_of steps)) (sym (successes_then first.frames rest.frames)) (each_then (successes first.frames) (successes rest.frames) x.calls (calls_of steps) first.own rest.own);
    }

-- the answers in the text of an ending, and in what would have followed
record LastAnswers (late : List Call) (part : List ℕ) : Type 0 where
  behind : List ℕ
  answers : Answers late (part ++ behind)

nothing_said : (late : List Call) (part : List ℕ) → ToldEach [] late → part ≡ [] → LastAnswers late part
nothing_said late part none e = record { behind = []; answers = record { frames = []; spelled = append-nil part ∙ e; own = none } }

nothing : (late : List Call) (part : List ℕ) → IsNothing late part → LastAnswers late part
nothing late part n = nothing_said late part (each_none late n.0) n.1

all_said : (late : List Call) (part : List ℕ) → Answers late part → LastAnswers late part
all_said late part a = record { behind = []; answers = subst (Answers late) (sym (append-nil part)) a }

by_fault : (late : List Call) (part : List ℕ) (fault : TakeFault) → ToldEach [] late → part ≡ last_text fault → LastAnswers late part
by_fault late part (fault.TooLarge need most) none e = all_said late part (one_answer closing late part hint hint_spells e none)
by_fault late part (fault.Spent end) none e = all_said late part (one_answer closing late part hint hint_spells e none)
by_fault late part (fault.Full need room) none e = all_said late part (one_answer closing late part hint hint_spells e none)
by_fault late part (fault.NotSpool at) none e = nothing_said late part none e
by_fault late part fault.NoMemory none e = nothing_said late part none e
by_fault late part fault.DiskFault none e = nothing_said late part none e

refusal_said : (conn index : ℕ) (act : RelpAct) (late : List Call) (part : List ℕ) (talk : Talk) → IsRefused conn index act late part talk → LastAnswers late part
refusal_said conn index (Store event txnr) late part talk r = by_fault late part r.0 (refused conn index txnr event r.0 late r.1) r.3
refusal_said conn index (Say answer) late part talk r = absurd r
refusal_said conn index (End answer) late part talk r = absurd r

starved_said : (conn index : ℕ) (act : RelpAct) (late : List Call) (part : List ℕ) → IsStarved conn index act late → part ≡ [] → LastAnswers late part
starved_said conn index (Store event txnr) late part s e = nothing_said late part (refused conn index txnr event s.0 late s.2) e
starved_said conn index (Say answer) late part s e = absurd s
starved_said conn index (End answer) late part s e = absurd s

act_answers : (state : State) (r : Request) (f : Frame) (conn index : ℕ) (late : List Call) (part : List ℕ) (talk : Talk) → f.txnr ≤ 999999999 → EndsAtAct conn index (act_of state r f) late part talk → LastAnswers late part
act_answers state r f conn index late part talk.Closed low e =
    let due = subst (λ (a : RelpAct). IsDue conn index a late part) (sym e.0) (e.1, refl) in
    all_said late part (due_answers state r f conn index late part low due)
act_answers state r f conn index late part WriteFault low e =
    let is : e.0 ≡ part ++ drop e.1 e.0 = sym (take-append-drop e.1 e.0) ∙ ap (λ (l : List ℕ). l ++ drop e.1 e.0) (sym e.4) in
    record { behind = drop e.1 e.0; answers = subst (Answers late) is (due_answers state r f conn index late e.0 low e.2) }
act_answers state r f conn index late part NoMemory low e = starved_said conn index (act_of state r f) late part e.0 e.1
act_answers state r f conn index late part Ended low e = refusal_said conn index (act_of state r f) late part Ended e
act_answers state r f conn index late part (Fault at why) low e = refusal_said conn index (act_of state r f) late part (Fault at why) e
act_answers state r f conn index late part (Truncated at) low e = refusal_said conn index (act_of state r f) late part (Truncated at) e
act_answers state r f conn index late part (Full need room) low e = refusal_said conn index (act_of state r f) late part (Full need room) e
act_answers state r f conn index late part (TooLarge need most) low e = refusal_said conn index (act_of state r f) late part (TooLarge need most) e
act_answers state r f conn index late part (Busy held) low e = refusal_said conn index (act_of state r f) late part (Busy held) e
act_answers state r f conn index late part (Spent end) low e = refusal_said conn index (act_of state r f) late part (Spent end) e
act_answers state r f conn index late part (NoMore run) low e = refusal_said conn index (act_of state r f) late part (NoMore run) e
act_answers state r f conn index late part (TooMuch at) low e = refusal_said conn index (act_of state r f) late part (TooMuch at) e
act_answers state r f conn index late part ReadFault low e = refusal_said conn index (act_of state r f) late part ReadFault e
act_answers state r f conn index late part DiskFault low e = refusal_said conn index (act_of state r f) late part DiskFault e
act_answers state r f conn index late part (NotSpool at) low e = refusal_said conn index (act_of state r f) late part (NotSpool at) e

-- the text at a run
run_ends : (conn index : ℕ) (state : State) (frames : List Frame) (entries : List Entry) (front : List ℕ) (late : List Call) (part : List ℕ) (talk : Talk) → AreDue conn index state frames entries → AreSpelled IsSpelling frames front → EndsAtRun entries late part talk
    → LastAnswers late part
run_ends conn index state frames entries front late part WriteFault d s (text, k, due, short, cut) =
    let is : text ≡ part ++ drop k text = sym (take-append-drop k text) ∙ ap (λ (l : List ℕ). l ++ drop k text) (sym cut) in
    record { behind = drop k text; answers = subst (Answers late) is (said_for due) }
  where
    said_for : IsDueFor entries late text → Answers late text
    said_for (inl taken) = run_answers conn index state frames entries front taken.0 late text d s taken.1 taken.2
    said_for (inr refused) = one_answer closing late text hint hint_spells refused.4 (each_refused late entries refused.0 refused.3)
run_ends conn index state frames entries front late part NoMemory d s e = nothing_said late part (each_refused late entries e.0 e.2) e.3
run_ends conn index state frames entries front late part talk d s e = by_fault late part e.0 (each_refused late entries e.0 e.2) e.4

module _ (most conn : ℕ) (left : Option (List ℕ)) (b : List ℕ) (steps : List (Step Frame)) (held : List Frame) (at : ℕ) (late : List Call) (part : List ℕ) where
  frame_answers : (f : Frame) (end : ℕ) (talk : Talk) → (relp_runs most conn).IsFront b (frames_of steps ++ held ++ f ∷ []) end → (relp_runs most conn).Stops steps held f late part talk → LastAnswers late part
  frame_answers f end talk front (inl stops) =
      let last = (spelled_parts IsSpelling (frames_of steps ++ held) (f ∷ []) front.front front.spelled).3 in
      let low : f.txnr ≤ 999999999 = (spelling_fits f last.0 last.2).txnr in
      act_answers _ stops.1.1.0 f conn _ late part talk low (subst (λ (a : RelpAct). EndsAtAct conn _ a late part talk) stops.1.1.2 stops.1.2)
  frame_answers f end talk front (inr (entries, brings, ends)) =
      let all = subst (λ (l : List Frame). AreSpelled IsSpelling l front.front) (append_assoc (frames_of steps) held (f ∷ [])) front.spelled in
      let last = (spelled_parts IsSpelling (frames_of steps) (held ++ f ∷ []) front.front all).3 in
      run_ends conn _ _ (held ++ f ∷ []) entries _ late part talk brings.due last ends

  ends_answers : (talk : Talk) → EndsAtMove (relp_runs most conn) left b steps held at late part talk → LastAnswers late part
  ends_answers talk (inl (f, end, front, stops)) = frame_answers f end talk front stops
  ends_answers talk (inr e) = absurd e.2

  end_answers : (talk : Talk) → Ending (relp_runs most conn) left b steps held at late part talk → LastAnswers late part
  end_answers talk e = ending_cases (relp_runs most conn) left b steps held at late part (λ _. LastAnswers late part) (λ _ n. nothing late part n.1) (λ _ n. nothing late part n) ends_answers talk e

-- what is acknowledged was taken
pub relp_acked : (most conn : ℕ) (left : Option (List ℕ)) (b : List ℕ) (calls : List Call) (text : List ℕ) (talk : Talk) → Carried (relp_runs most conn) left b calls text talk → (numbers : List ℕ) → Acknowledges Relp text numbers → AreOfFirst Relp calls numbers
relp_acked most conn left b calls text talk c numbers (answers, front, rest, spelled, whole, are) =
    let own_front = spelled_parts IsSpelling (frames_of c.steps) c.held c.front.front c.front.spelled in
    let first = step_answers most conn [] c.steps own_front.0 c.each own_front.2 in
    let last = end_answers most conn left b c.steps c.held c.at c.late c.part talk c.ending in
    let behind = last.answers in
    let all = spelled_append frames.relp_machine first.frames behind.frames (text_of c.steps) (c.part ++ last.behind) first.spelled behind.spelled in
    let same : text_of c.steps ++ (c.part ++ last.behind) ≡ front ++ (rest ++ last.behind) =
    sym (append_assoc (text_of c.steps) c.part last.behind) ∙ ap (λ (l : List ℕ). l ++ last.behind) (sym c.wrote ∙ whole) ∙ append_assoc front rest last.behind in
    let cut = spelled_strip frames.relp_machine answers (first.frames ++ behind.frames) front (rest ++ last.behind) spelled (subst (AreSpelled IsSpelling (first.frames ++ behind.frames)) same all) in
    let own : successes first.frames ++ successes behind.frames ≡ numbers ++ successes cut.0 =
    sym (successes_then first.frames behind.frames) ∙ ap successes cut.1 ∙ successes_then answers cut.0 ∙ ap (λ (l : List ℕ). l ++ successes cut.0) (sym are) in
    let told : ToldEach (successes first.frames ++ successes behind.frames) calls =
    subst (ToldEach (successes first.frames ++ successes behind.frames)) (sym c.made) (each_then (successes first.frames) (successes behind.frames) (calls_of c.steps) c.late first.own behind.own) in
    of_first Relp calls numbers (successes cut.0) (subst (λ (l : List ℕ). ToldEach l calls) own told)
