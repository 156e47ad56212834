-- How a session of RELP goes on, and how it ends.
use Rattle.std.proofs.Common.{◌≡◌, inl, inr, ℕ, ◌+◌, ◌^◌, ◌<◌, ◌≤◌, ◌∙◌, List, [], ◌∷◌, ◌++◌, Option, None, length, refl, sym, ap, subst, arith, append_assoc, length-append}
use Rattle.event_form.specs.declared.event.Entry.{Entry}
use Rattle.event_form.specs.declared.talk.Talk.{Talk}
use Rattle.event_form.specs.declared.talk.Talk.TheVariants.{NoMemory}
use Rattle.event_form.specs.declared.talk.Why.{Why}
use Rattle.relp_frame.specs.declared.frame.Frame.{Frame}
use Rattle.relp_frame.specs.declared.fault.RelpFault.{RelpFault}
use Rattle.relp_frame.specs.Reading as stream
use Rattle.relp_frame.specs.Spelling.{IsSpelling}
use Rattle.relp_frame.specs.Why.{why_of}
use Rattle.relp_session.specs.declared.state.State.{State}
use Rattle.relp_session.specs.declared.state.State.TheVariants.{Unopened}
use Rattle.relp_session.specs.declared.act.RelpAct.{RelpAct}
use Rattle.relp_session.specs.declared.act.RelpAct.TheVariants.{Store, Say, End}
use Rattle.stream_grammar.specs.Reading.{Window, Reads, Gives}
use Rattle.desk_access.specs.Call.{Call}
use Rattle.desk_access.specs.Step.{Step, frames_of, calls_of, count}
use Rattle.desk_access.specs.Protocol.{AreMoves}
use Rattle.desk_access.specs.Carried.{Carried}
use Rattle.desk_access.proofs.Moves.{count_then}
use Rattle.conn_serve.specs.Relp.{Carries}
use Rattle.conn_serve.specs.Runs.{relp_runs}
use Rattle.conn_serve.specs.Says.{CouldEnd}
use Rattle.conn_serve.specs.Handled.{Served, Closing, ReadBy}
use Rattle.conn_serve.specs.Done.{Done, Leads, LeadsBy, SoFar, Anyway}
use Rattle.conn_serve.specs.RelpServing.{Holds, HoldsOf, Handles, EndsWithin, EndsOf, CouldEndWithin, CouldEndOf}
use Rattle.conn_serve.proofs.Acting.{none_by}
use Rattle.conn_serve.proofs.Handling.{handled_none, carried_starved, carried_over}
use Rattle.conn_serve.proofs.Leading.{done_start, done_map}
use Rattle.conn_serve.proofs.Runs.{due_length, held_length, run_none}
use Rattle.conn_serve.proofs.Windowed.{Laws, Framed, Kind, read_next}
use Rattle.conn_serve.proofs.Windowed as windowed

-- ---- the format

some_bytes : (f : Frame) (x : List ℕ) → IsSpelling f x → 0 < length x
some_bytes f x is = omega (arith, ap length is.whole, length-append is.txnr (32 ∷ (f.command ++ 32 ∷ (is.datalen ++ is.ending))))

laws : Laws stream.relp IsSpelling
laws = record {
  whole_front = λ b frames at rest i. record { front = i.front; rest = rest; spelled = i.spelled; ends = i.ends; whole = i.whole };
  whole_size = λ b frames at rest i. omega (arith, i.ends, ap length i.whole, length-append i.front rest);
  faulty_front = λ b frames at rest e i.
      let s = i.stream in
      record { front = s.front; rest = rest ++ i.byte ∷ i.more; spelled = s.spelled; ends = s.ends; whole = i.whole ∙ ap (λ (l : List ℕ). l ++ i.byte ∷ i.more) s.whole ∙ append_assoc s.front rest (i.byte ∷ i.more) };
  faulty_fed = λ b more frames at rest e i.
      record { good = i.good; byte = i.byte; more = i.more ++ more; whole = ap (λ (l : List ℕ). l ++ more) i.whole ∙ append_assoc i.good (i.byte ∷ i.more) more; ends = i.ends; stream = i.stream; fault = i.fault; reason = i.reason };
  some = some_bytes;
}

-- where a frame is given, one less waits
pub fewer : (w w' : Window RelpFault) (f : Frame) → Gives stream.relp IsSpelling w f w' → length w'.whole < length w.whole
fewer w w' f g = omega (arith, ap length g.first, length-append g.text w'.whole, laws.some f g.text g.spelled)

-- the place and the reason of a fault
abbrev pub place : RelpFault → ℕ
place e = e.at

abbrev pub reason : RelpFault → Why
reason e = why_of e.why

pub framed : (most conn : ℕ) → Framed (relp_runs most conn) stream.relp IsSpelling place reason
framed most conn = record {
  laws = laws;
  fronts = λ b frames at i. i;
  wholes = λ b frames at rest i. (rest, i);
  faults = λ b frames at rest e i. (at, rest, e, i, refl, refl);
}

-- ---- what was handled

-- a session of RELP
abbrev pub kind : ℕ → ℕ → State → List Entry → Kind Frame RelpFault
kind most conn state entries = record {
  protocol = relp_runs most conn;
  format = stream.relp;
  Spells = IsSpelling;
  place_of = place;
  why_of = reason;
  framed = framed most conn;
  Handles = Handles most conn state entries;
  handled = λ frames calls text h. h.holds.handled;
}

-- where no entry is staged, no frame is held
pub none_held : (most conn : ℕ) (frames : List Frame) (calls : List Call) (text : List ℕ) (k : Holds most conn [] frames calls text) → k.handled.held ≡ []
none_held most conn frames calls text k = none_by k.handled.held (held_length most conn [] frames calls text k)

-- so what is held may be given up
pub none_given_up : (most conn : ℕ) (state : State) (frames : List Frame) (calls : List Call) (text : List ℕ) (h : Handles most conn state [] frames calls text) → h.holds.handled.held ≡ []
none_given_up most conn state frames calls text h = none_held most conn frames calls text h.holds

-- an act takes at most one entry
pub count_carries : (conn index : ℕ) (act : RelpAct) (calls : List Call) (text : List ℕ) → Carries conn index act calls text → count calls ≤ 1
count_carries conn index (Store event txnr) calls text c = omega (arith, ap count c.1)
count_carries conn index (Say answer) calls text c = omega (arith, ap count c.0)
count_carries conn index (End answer) calls text c = absurd c

-- a step takes no more entries than it has frames
count_move : (most conn : ℕ) (before : List (Step Frame)) (s : Step Frame) → (relp_runs most conn).IsMove before s → count s.calls ≤ length s.frames
count_move most conn before s (inl move) = omega (arith, count_carries conn _ move.2.0 s.calls s.text move.2.2, ap length move.1)
count_move most conn before s (inr run) = omega (arith, ap count run.stores, length-append run.entries [], due_length conn _ _ s.frames run.entries run.brings.due)

-- there are no more entries than frames
count_moves : (most conn : ℕ) (before steps : List (Step Frame)) → AreMoves (relp_runs most conn) before steps → count (calls_of steps) ≤ length (frames_of steps)
count_moves most conn before [] m = omega arith
count_moves most conn before (s ∷ steps) m =
    omega (arith, count_then s.calls (calls_of steps), count_move most conn before s m.0, length-append s.frames (frames_of steps), count_moves most conn (before ++ s ∷ []) steps m.1)

handles_few : (most conn : ℕ) (state : State) (entries : List Entry) (frames : List Frame) (calls : List Call) (text : List ℕ) → Handles most conn state entries frames calls text → count calls + length entries ≤ length frames
handles_few most conn state entries frames calls text k =
    let h = k.holds.handled in
    omega (arith, ap count h.made, count_moves most conn [] h.steps h.each, ap length h.whole, length-append (frames_of h.steps) h.held, held_length most conn entries frames calls text k.holds)

-- no more entries are taken and staged than a connection may have bytes
pub so_far_few : (most conn : ℕ) (w : Window RelpFault) (state : State) (entries : List Entry) (fault : Option RelpFault) (n more : ℕ) → SoFar (Served (Handles most conn state entries) (ReadBy stream.relp IsSpelling w fault)) n more → n + length entries ≤ 2 ^ 40
so_far_few most conn w state entries fault n more s =
    omega (arith, s.counted, handles_few most conn state entries s.served.frames s.calls s.text s.served.handled, windowed.frames_few (kind most conn state entries) w fault n more s)

-- nothing was served
pub served_none : (most conn : ℕ) (w : Window RelpFault) (state : State) (fault : Option RelpFault) → Reads stream.relp IsSpelling [] [] w → state ≡ Unopened → fault ≡ w.fault → Served (Handles most conn state []) (ReadBy stream.relp IsSpelling w fault) [] [] []
served_none most conn w state fault reads new told = record {
  frames = [];
  handled = record { holds = record { handled = handled_none (relp_runs most conn) ([], record { due = tt; run = run_none most }); entries_are = refl }; state_is = new };
  reads = record { reads = reads; told = told };
}

-- no memory was found for a session
pub none_carried : (most conn : ℕ) (left : Option (List ℕ)) → Carried (relp_runs most conn) left [] [] [] NoMemory
none_carried most conn left =
    carried_starved (relp_runs most conn) left [] [] 0 [] [] (handled_none (relp_runs most conn) ([], record { due = tt; run = run_none most })) (record { front = []; rest = []; spelled = refl; ends = refl; whole = refl })

module _ (ran : List Call → Type 0) (written written' : Option (List ℕ)) (n n' most conn : ℕ) (w w' : Window RelpFault) (state : State) (entries : List Entry) (fault : Option RelpFault) (f : Frame) (g : Gives stream.relp IsSpelling w f w') where
  -- a frame more
  pub served_frame : (state' : State) (entries' : List Entry) → Done ran written written' n n' (LeadsBy n (Handles most conn state entries) (λ frames. Handles most conn state' entries' (frames ++ f ∷ [])))
      → Done ran written written' n n' (Leads n (Served (Handles most conn state entries) (ReadBy stream.relp IsSpelling w fault)) (Served (Handles most conn state' entries') (ReadBy stream.relp IsSpelling w' fault)))
  served_frame state' entries' d = done_map ran written written' n n' _ _ d (λ calls text leads fed called said counted s.
      record { frames = s.frames ++ f ∷ []; handled = leads s.frames called said counted s.handled; reads = read_next stream.relp IsSpelling w w' fault f g fed s.frames s.reads })

  -- the connection ends at the frame, or before it
  pub served_halt : (talk : Talk) → Done ran written written' n n' (LeadsBy n (Handles most conn state entries) (λ frames. EndsWithin most conn talk (frames ++ f ∷ [])))
      → Done ran written written' n n' (Leads n (Served (Handles most conn state entries) (ReadBy stream.relp IsSpelling w fault)) (Anyway (Carried (relp_runs most conn)) talk))
  served_halt talk d = done_map ran written written' n n' _ _ d (λ calls text leads fed called said counted s left more.
      let next = windowed.front_next (kind most conn state entries) w fault left fed called said s more f w' g in leads s.frames called said counted s.handled left (fed ++ more) next.0 next.1)

-- A text that is due for the next frame is what a connection has carried that ends there.
pub due_carried : (n most conn : ℕ) (w w' : Window RelpFault) (state : State) (entries : List Entry) (fault : Option RelpFault) (f : Frame) → Gives stream.relp IsSpelling w f w' → (calls : List Call) (text : List ℕ)
    → LeadsBy n (Handles most conn state entries) (λ frames. CouldEndWithin most conn (frames ++ f ∷ [])) calls text
    → Leads n (Served (Handles most conn state entries) (ReadBy stream.relp IsSpelling w fault)) (CouldEnd (Carried (relp_runs most conn))) calls text
due_carried n most conn w w' state entries fault f g calls text due = λ fed called said counted s more.
    let next = windowed.front_next (kind most conn state entries) w fault None fed called said s more f w' g in
    due s.frames called said counted s.handled (fed ++ more) next.0 next.1

-- nothing is left to be done where the input is over
pub finished : (most conn : ℕ) (state : State) (left : Option (List ℕ)) (over : Talk) (fed : List ℕ) (called : List Call) (said : List ℕ) → Closing (relp_runs most conn) (Handles most conn state []) left over fed called said → Carried (relp_runs most conn) left fed (called ++ []) (said ++ []) over
finished most conn state left over fed called said c =
    carried_over (relp_runs most conn) left fed c.frames c.at called said c.handled.holds.handled c.front over [] [] c.is_over (none_held most conn c.frames called said c.handled.holds, (refl, refl))

-- the same of the number that a connection still has
module _ (ran : List Call → Type 0) (written written' : Option (List ℕ)) (n n' most k conn : ℕ) (same : k ≡ conn) (w : Window RelpFault) (state : State) (entries : List Entry) (fault : Option RelpFault) where
  pub served_by : (w' : Window RelpFault) (state' : State) (entries' : List Entry) → Done ran written written' n n' (Leads n (Served (Handles most k state entries) (ReadBy stream.relp IsSpelling w fault)) (Served (Handles most k state' entries') (ReadBy stream.relp IsSpelling w' fault)))
      → Done ran written written' n n' (Leads n (Served (Handles most conn state entries) (ReadBy stream.relp IsSpelling w fault)) (Served (Handles most conn state' entries') (ReadBy stream.relp IsSpelling w' fault)))
  served_by w' state' entries' d =
      subst (λ (c : ℕ). Done ran written written' n n' (Leads n (Served (Handles most c state entries) (ReadBy stream.relp IsSpelling w fault)) (Served (Handles most c state' entries') (ReadBy stream.relp IsSpelling w' fault)))) same d

  pub halted_by : (talk : Talk) → Done ran written written' n n' (Leads n (Served (Handles most k state entries) (ReadBy stream.relp IsSpelling w fault)) (Anyway (Carried (relp_runs most k)) talk))
      → Done ran written written' n n' (Leads n (Served (Handles most conn state entries) (ReadBy stream.relp IsSpelling w fault)) (Anyway (Carried (relp_runs most conn)) talk))
  halted_by talk d = subst (λ (c : ℕ). Done ran written written' n n' (Leads n (Served (Handles most c state entries) (ReadBy stream.relp IsSpelling w fault)) (Anyway (Carried (relp_runs most c)) talk))) same d

-- no frame was served
pub served_still : (ran : List Call → Type 0) (written : Option (List ℕ)) (n most conn : ℕ) (w w' : Window RelpFault) (state : State) (entries : List Entry) (fault : Option RelpFault) → w' ≡ w → ran []
    → Done ran written written n n (Leads n (Served (Handles most conn state entries) (ReadBy stream.relp IsSpelling w fault)) (Served (Handles most conn state entries) (ReadBy stream.relp IsSpelling w' fault)))
served_still ran written n most conn w w' state entries fault same none =
    subst (λ (v : Window RelpFault). Done ran written written n n (Leads n (Served (Handles most conn state entries) (ReadBy stream.relp IsSpelling w fault)) (Served (Handles most conn state entries) (ReadBy stream.relp IsSpelling v fault)))) (sym same)
    (done_start ran written n (Served (Handles most conn state entries) (ReadBy stream.relp IsSpelling w fault)) none)

-- ---- at the end of the whole frames

module _ (most conn k : ℕ) (same : k ≡ conn) (w : Window RelpFault) (state : State) (entries : List Entry) (fault : Option RelpFault) (n : ℕ) where
  -- what is staged may be stored and answered
  pub last_due : (calls : List Call) (text : List ℕ) → LeadsBy n (HoldsOf k entries) (CouldEndOf k) calls text → Leads n (Served (Handles most conn state entries) (ReadBy stream.relp IsSpelling w fault)) (CouldEnd (Carried (relp_runs most conn))) calls text
  last_due calls text due = λ fed called said counted s more.
      let here = subst (λ (c : ℕ). LeadsBy n (HoldsOf c entries) (CouldEndOf c) calls text) same due in
      let front = windowed.front_more (kind most conn state entries) w fault None fed called said s more in
      here (record { most = most; frames = s.frames }) called said counted s.handled.holds (fed ++ more) front.0 front.1

  module _ (ran : List Call → Type 0) (written written' : Option (List ℕ)) (n' : ℕ) where
    -- it was
    pub last_stored : Done ran written written' n n' (LeadsBy n (HoldsOf k entries) (HoldsOf k []))
        → Done ran written written' n n' (Leads n (Served (Handles most conn state entries) (ReadBy stream.relp IsSpelling w fault)) (Served (Handles most conn state []) (ReadBy stream.relp IsSpelling w fault)))
    last_stored d =
        let here = subst (λ (c : ℕ). Done ran written written' n n' (LeadsBy n (HoldsOf c entries) (HoldsOf c []))) same d in
        done_map ran written written' n n' _ _ here (λ calls text leads fed called said counted s. record {
          frames = s.frames;
          handled = record { holds = leads (record { most = most; frames = s.frames }) called said counted s.handled.holds; state_is = s.handled.state_is };
          reads = s.reads;
        })

    -- or the connection ends in that
    pub last_halt : (talk : Talk) → Done ran written written' n n' (LeadsBy n (HoldsOf k entries) (EndsOf k talk))
        → Done ran written written' n n' (Leads n (Served (Handles most conn state entries) (ReadBy stream.relp IsSpelling w fault)) (Anyway (Carried (relp_runs most conn)) talk))
    last_halt talk d =
        let here = subst (λ (c : ℕ). Done ran written written' n n' (LeadsBy n (HoldsOf c entries) (EndsOf c talk))) same d in
        done_map ran written written' n n' _ _ here (λ calls text leads fed called said counted s left more.
        let front = windowed.front_more (kind most conn state entries) w fault left fed called said s more in
        leads (record { most = most; frames = s.frames }) called said counted s.handled.holds left (fed ++ more) front.0 front.1)
