-- What was done for a frame of RELP, and for a run.
use Rattle.std.proofs.Common.{◌≡◌, ◌⊎◌, inl, inr, ℕ, zero, suc, ◌+◌, ◌<◌, ◌≤◌, ◌∙◌, List, [], ◌∷◌, ◌++◌, Option, None, length, take, drop, refl, sym, ap, subst, arith, append_assoc, length-append, length-take}
use Rattle.std.specs.Prelude.{Bool, true, false, Ok, Err}
use Rattle.std.specs.Io.KnownBytes.{Appends}
use Rattle.std.proofs.lemmas.List.{append-nil}
use Rattle.event_form.specs.declared.event.Entry.{Entry}
use Rattle.event_form.specs.declared.event.Event.{Event}
use Rattle.event_form.specs.declared.talk.Talk.{Talk}
use Rattle.event_form.specs.declared.talk.Talk.TheVariants.{NoMemory, WriteFault, Closed}
use Rattle.edge_io.proofs.Known.{appends_then}
use Rattle.relp_frame.specs.declared.frame.Frame.{Frame}
use Rattle.relp_frame.specs.Spelling.{IsSpelling}
use Rattle.relp_session.specs.Answer.{IsAnswer, hint}
use Rattle.relp_session.specs.declared.act.RelpAct.{RelpAct}
use Rattle.relp_session.specs.declared.act.RelpAct.TheVariants.{Store, Say, End}
use Rattle.relp_session.specs.declared.act.RelpActRef.{RelpActRef}
use Rattle.relp_session.specs.declared.act.RelpActRef.TheVariants as lent
use Rattle.relp_session.specs.Row.{act_lent, answer_text}
use Rattle.relp_session.specs.declared.state.State.{State}
use Rattle.relp_session.specs.Session.{state_after}
use Rattle.spool_answers.specs.declared.receipt.Receipt.{Receipt}
use Rattle.spool_faults.specs.declared.fault.TakeFault.{TakeFault}
use Rattle.spool_faults.specs.declared.fault.TakeFault.TheVariants as take_fault
use Rattle.spool_answers.specs.Take.{IsRefusal}
use Rattle.desk_access.specs.Batch.{AreNext}
use Rattle.desk_access.specs.Call.{Call, takes}
use Rattle.desk_access.specs.Step.{Step, frames_of, calls_of, count}
use Rattle.desk_access.specs.Carried.{Carried}
use Rattle.desk_access.specs.Endings.{IsAtMove}
use Rattle.desk_access.proofs.Moves.{count_then}
use Rattle.conn_serve.proofs.Leading.{done_map}
use Rattle.conn_serve.specs.Relp.{entry_of, talk_of, last_text, Carries, IsDue, EndsAtAct}
use Rattle.conn_serve.specs.Runs.{answers_of, IsRun, EndsAtRun, relp_runs}
use Rattle.conn_serve.specs.Done.{Done, LeadsBy}
use Rattle.conn_serve.specs.Terms.{most_of}
use Rattle.conn_serve.specs.RelpServing.{CouldEndOf, CouldEndWithin, EndsAtFront, EndsByFault, EndsOf, EndsWithin, HaltsAtAct, Handles, HasRoom, Holds, HoldsNext, HoldsOf, IsDueForFront, IsStaged, StoresFront, StoresNothing}
use Rattle.conn_serve.proofs.Fronts.{front_first}
use Rattle.conn_serve.proofs.Handling.{handled_push, carried_at, carried_starved}
use Rattle.conn_serve.proofs.Runs.{front_stored, front_due, front_ends, held_next, held_starved, run_none, size_then}
use Rattle.conn_serve.proofs.RelpSessions.{none_held}
use Rattle.conn_serve.proofs.Saying.{has_carried}

-- ---- a frame more

pub within_next : (most conn : ℕ) (talk : Talk) (frames : List Frame) (f : Frame) (calls : List Call) (text : List ℕ) → EndsWithin most conn talk frames calls text → EndsWithin most conn talk (frames ++ f ∷ []) calls text
within_next most conn talk frames f calls text e left b at front = let i = front_first IsSpelling b frames (f ∷ []) at front in e left b i.0 i.1

pub could_next : (most conn : ℕ) (frames : List Frame) (f : Frame) (calls : List Call) (text : List ℕ) → CouldEndWithin most conn frames calls text → CouldEndWithin most conn (frames ++ f ∷ []) calls text
could_next most conn frames f calls text e b at front = let i = front_first IsSpelling b frames (f ∷ []) at front in e b i.0 i.1

-- ---- frames that store nothing

pub due_text : (conn index : ℕ) (act : RelpActRef) → StoresNothing (act_lent act) → IsDue conn index (act_lent act) [] (answer_text act)
due_text conn index (lent.Store text txnr) none = absurd none
due_text conn index (lent.Say text txnr) none = (refl, refl)
due_text conn index (lent.Close txnr) none = (refl, refl)
due_text conn index lent.Nothing none = (refl, refl)

-- a text that is due then is that of the act carried out, or of the close
due_parts : (conn index : ℕ) (act : RelpAct) (text : List ℕ) → StoresNothing act → IsDue conn index act [] text → Carries conn index act [] text ⊎ EndsAtAct conn index act [] text Closed
due_parts conn index (Store event txnr) text none due = absurd none
due_parts conn index (Say answer) text none due = inl due
due_parts conn index (End answer) text none due = inr (ap End (sym due.1), due.0)

-- No frame is held, and the next one stores nothing.
module _ (most conn : ℕ) (frames : List Frame) (called : List Call) (said : List ℕ) (k : Holds most conn [] frames called said) (f : Frame) (act : RelpAct) (answers : IsAnswer (state_after frames) f act) where
  none : k.handled.held ≡ []
  none = none_held most conn frames called said k

  here : IsAnswer (state_after (frames_of k.handled.steps)) f act
  here =
      let now : state_after frames ≡ state_after (frames_of k.handled.steps) = ap state_after (k.handled.whole ∙ ap (λ (l : List Frame). frames_of k.handled.steps ++ l) none ∙ append-nil (frames_of k.handled.steps)) in
      subst (λ (x : State). IsAnswer x f act) now answers

  -- it is answered
  pub holds_said : (text : List ℕ) → Carries conn (count (calls_of k.handled.steps)) act [] text → Holds most conn [] (frames ++ f ∷ []) (called ++ []) (said ++ text)
  holds_said text carries =
      let step : Step Frame = record { frames = f ∷ []; calls = []; text = text } in
      record {
        handled = handled_push (relp_runs most conn) frames called said k.handled f step (ap (λ (l : List Frame). l ++ f ∷ []) (sym none)) (inl (f, refl, (act, here, carries))) ([], record { due = tt; run = run_none most });
        entries_are = refl;
      }

  -- the connection ends there
  pub ends_said : (talk : Talk) (part : List ℕ) → IsAtMove talk → HaltsAtAct conn (count (calls_of k.handled.steps)) act talk [] part → EndsWithin most conn talk (frames ++ f ∷ []) (called ++ []) (said ++ part)
  ends_said talk part is halts left b at front =
      let first = front_first IsSpelling b frames (f ∷ []) at front in
      carried_at (relp_runs most conn) left b frames first.0 called said k.handled first.1 f at [] part talk is front
      (elim halts [
        | inl starved ↦ inl starved
        | inr ends ↦ inr (inl (none, (act, here, ends)))
      ])

  -- and so may one do that has written what is due
  pub due_said : (text : List ℕ) → StoresNothing act → IsDue conn (count (calls_of k.handled.steps)) act [] text → CouldEndWithin most conn (frames ++ f ∷ []) (called ++ []) (said ++ text)
  due_said text nothing due b at front =
      elim (due_parts conn (count (calls_of k.handled.steps)) act text nothing due) [
        | inl carries ↦
            let after = holds_said text carries in
            has_carried (Carried (relp_runs most conn)) None b NoMemory _ _ (carried_starved (relp_runs most conn) None b (frames ++ f ∷ []) at (called ++ []) (said ++ text) after.handled front)
        | inr ends ↦ has_carried (Carried (relp_runs most conn)) None b Closed _ _ (ends_said Closed text tt (inr ends) None b at front)
      ]

-- What is staged was stored, and then the frame is served.
module _ (ran : List Call → Type 0) (w w' w'' : Option (List ℕ)) (n n' most conn : ℕ) (core core' : State) (entries : List Entry) (f : Frame) (act : RelpAct) (answers : IsAnswer core f act)
    (after : (before : List Frame) → core ≡ state_after before → core' ≡ state_after (before ++ f ∷ [])) (d : Done ran w w' n n' (LeadsBy n (HoldsOf conn entries) (HoldsOf conn []))) where
  now : (frames : List Frame) (called : List Call) (said : List ℕ) → n ≡ count called → Handles most conn core entries frames called said → Holds most conn [] frames (called ++ d.calls) (said ++ d.text)
  now frames called said counted h = d.is (record { most = most; frames = frames }) called said counted h.holds

  -- it was answered
  pub frame_said : (text : List ℕ) → Appends w' w'' text → ((conn index : ℕ) → Carries conn index act [] text) → Done ran w w'' n n' (LeadsBy n (Handles most conn core entries) (λ frames. Handles most conn core' [] (frames ++ f ∷ [])))
  frame_said text wrote carries = record {
    calls = d.calls;
    text = d.text ++ text;
    made = d.made;
    wrote = appends_then w w' w'' d.text text d.wrote wrote;
    counted = d.counted;
    is = λ frames called said counted h.
        let k = now frames called said counted h in
        let holds = holds_said most conn frames (called ++ d.calls) (said ++ d.text) k f act (subst (λ (x : State). IsAnswer x f act) h.state_is answers) text (carries conn (count (calls_of k.handled.steps))) in record {
          holds = subst (λ (l : List Call). Holds most conn [] (frames ++ f ∷ []) l (said ++ (d.text ++ text))) (append-nil (called ++ d.calls))
              (subst (λ (l : List ℕ). Holds most conn [] (frames ++ f ∷ []) ((called ++ d.calls) ++ []) l) (append_assoc said d.text text) holds);
          state_is = after frames h.state_is;
        };
  }

  -- it was not, or the connection ends by it
  pub frame_unsaid : (talk : Talk) (part : List ℕ) → IsAtMove talk → Appends w' w'' part → ((conn index : ℕ) → HaltsAtAct conn index act talk [] part) → Done ran w w'' n n' (LeadsBy n (Handles most conn core entries) (λ frames. EndsWithin most conn talk (frames ++ f ∷ [])))
  frame_unsaid talk part is wrote halts = record {
    calls = d.calls;
    text = d.text ++ part;
    made = d.made;
    wrote = appends_then w w' w'' d.text part d.wrote wrote;
    counted = d.counted;
    is = λ frames called said counted h.
        let k = now frames called said counted h in
        let ends = ends_said most conn frames (called ++ d.calls) (said ++ d.text) k f act (subst (λ (x : State). IsAnswer x f act) h.state_is answers) talk part is (halts conn (count (calls_of k.handled.steps))) in
        subst (λ (l : List Call). EndsWithin most conn talk (frames ++ f ∷ []) l (said ++ (d.text ++ part))) (append-nil (called ++ d.calls))
        (subst (λ (l : List ℕ). EndsWithin most conn talk (frames ++ f ∷ []) ((called ++ d.calls) ++ []) l) (append_assoc said d.text part) ends);
  }

  -- what is due then may be written
  pub frame_due : (text : List ℕ) → StoresNothing act → ((conn index : ℕ) → IsDue conn index act [] text) → LeadsBy n (Handles most conn core entries) (λ frames. CouldEndWithin most conn (frames ++ f ∷ [])) d.calls (d.text ++ text)
  frame_due text nothing due = λ frames called said counted h.
      let k = now frames called said counted h in
      let could = due_said most conn frames (called ++ d.calls) (said ++ d.text) k f act (subst (λ (x : State). IsAnswer x f act) h.state_is answers) text nothing (due conn (count (calls_of k.handled.steps))) in
      subst (λ (l : List Call). CouldEndWithin most conn (frames ++ f ∷ []) l (said ++ (d.text ++ text))) (append-nil (called ++ d.calls))
      (subst (λ (l : List ℕ). CouldEndWithin most conn (frames ++ f ∷ []) ((called ++ d.calls) ++ []) l) (append_assoc said d.text text) could)

-- ---- the first of a run

module _ (ran : List Call → Type 0) (w w' : Option (List ℕ)) (n n' : ℕ) (entries : List Entry) (many : ℕ) (some : 0 < many) (few : many ≤ length entries) where
  counts : (receipt : Receipt) → count (takes (take many entries) (Ok receipt) ∷ []) ≡ many
  counts receipt = omega (arith, length-append (take many entries) [], length-take many entries, few)

  -- they were stored and answered
  pub front_goes : (receipt : Receipt) (left : List Entry) (text : List ℕ) → ran (takes (take many entries) (Ok receipt) ∷ []) → n' ≡ n + many → text ≡ answers_of (take many entries) → Appends w w' text → left ≡ drop many entries → Done ran w w' n n' (StoresFront entries left)
  front_goes receipt left text made counted says wrote rest = record {
    calls = takes (take many entries) (Ok receipt) ∷ [];
    text = text;
    made = made;
    wrote = wrote;
    counted = omega (arith, counted, counts receipt);
    is = record { many = many; some = some; few = few; receipt = receipt; stores = refl; says = says; rest = rest };
  }

  -- their answers were cut short
  pub front_unsaid : (receipt : Receipt) (text : List ℕ) (k : ℕ) (talk : Talk) → ran (takes (take many entries) (Ok receipt) ∷ []) → n' ≡ n + many → text ≡ answers_of (take many entries) → talk ≡ WriteFault → k < length text → Appends w w' (take k text) → Done ran w w' n n' (EndsAtFront entries talk)
  front_unsaid receipt text k talk made counted says is short wrote = record {
    calls = takes (take many entries) (Ok receipt) ∷ [];
    text = take k text;
    made = made;
    wrote = wrote;
    counted = omega (arith, counted, counts receipt);
    is = record {
      many = many;
      some = some;
      few = few;
      ends = subst (λ (t : Talk). EndsAtRun (take many entries) (takes (take many entries) (Ok receipt) ∷ []) (take k text) t) (sym is) (text, k, inl (receipt, refl, says), short, refl);
    };
  }

fault_ends : (es : List Entry) (fault : TakeFault) (part : List ℕ) → (IsRefusal fault → length es ≡ 1) → part ≡ last_text fault → EndsAtRun es (takes es (Err fault) ∷ []) part (talk_of fault)
fault_ends es (take_fault.TooLarge need most) part one is = (take_fault.TooLarge need most, one, refl, refl, is)
fault_ends es (take_fault.Spent end) part one is = (take_fault.Spent end, one, refl, refl, is)
fault_ends es (take_fault.Full need room) part one is = (take_fault.Full need room, one, refl, refl, is)
fault_ends es (take_fault.NotSpool at) part one is = (take_fault.NotSpool at, one, refl, refl, is)
fault_ends es take_fault.NoMemory part one is = (take_fault.NoMemory, inr refl, refl, is)
fault_ends es take_fault.DiskFault part one is = (take_fault.DiskFault, one, refl, refl, is)

by_fault : (es : List Entry) (fault : TakeFault) (part : List ℕ) (talk : Talk) → (IsRefusal fault → length es ≡ 1) → EndsByFault fault part talk → EndsAtRun es (takes es (Err fault) ∷ []) part talk
by_fault es fault part talk one (inl said) = subst (EndsAtRun es (takes es (Err fault) ∷ []) part) (sym said.0) (fault_ends es fault part one said.1)
by_fault es fault part talk one (inr (inl cut)) =
    subst (EndsAtRun es (takes es (Err fault) ∷ []) part) (sym cut.1) (hint, cut.2.0, inr (fault, cut.0, one cut.0, refl, refl), cut.2.1, cut.2.2)
by_fault es fault part talk one (inr (inr starved)) = subst (EndsAtRun es (takes es (Err fault) ∷ []) part) (sym starved.1) (fault, inl (starved.0, one starved.0), refl, starved.2)

-- they were not stored
pub front_refused : (ran : List Call → Type 0) (w w' : Option (List ℕ)) (n n' : ℕ) (entries : List Entry) (many : ℕ) (fault : TakeFault) (part : List ℕ) (talk : Talk) → 0 < many → many ≤ length entries → (IsRefusal fault → many ≡ 1)
    → ran (takes (take many entries) (Err fault) ∷ []) → n' ≡ n → Appends w w' part → EndsByFault fault part talk → Done ran w w' n n' (EndsAtFront entries talk)
front_refused ran w w' n n' entries many fault part talk some few alone made same wrote by = record {
  calls = takes (take many entries) (Err fault) ∷ [];
  text = part;
  made = made;
  wrote = wrote;
  counted = omega (arith, same);
  is = record { many = many; some = some; few = few; ends = by_fault (take many entries) fault part talk (λ refused. omega (arith, alone refused, length-take many entries, few)) by };
}

-- the hint is due after a refusal
pub hint_due : (entries : List Entry) (many : ℕ) (fault : TakeFault) → 0 < many → many ≤ length entries → (IsRefusal fault → many ≡ 1) → IsRefusal fault → IsDueForFront entries (takes (take many entries) (Err fault) ∷ []) hint
hint_due entries many fault some few alone refused = record { many = many; some = some; few = few; due = inr (fault, refused, omega (arith, alone refused, length-take many entries, few), refl, refl) }

pub answers_due : (entries : List Entry) (many : ℕ) (receipt : Receipt) (text : List ℕ) → 0 < many → many ≤ length entries → text ≡ answers_of (take many entries) → IsDueForFront entries (takes (take many entries) (Ok receipt) ∷ []) text
answers_due entries many receipt text some few says = record { many = many; some = some; few = few; due = inl (receipt, refl, says) }

-- the next entries, behind the first of them
pub next_drop : (conn index : ℕ) (entries : List Entry) (n : ℕ) → n ≤ length entries → AreNext conn index entries → AreNext conn (index + n) (drop n entries)
next_drop conn index entries zero few next = let same : index ≡ index + 0 = omega arith in subst (λ (i : ℕ). AreNext conn i entries) same next
next_drop conn index [] (suc n) few next = absurd (omega (arith, few))
next_drop conn index (e ∷ entries) (suc n) few next =
    let same : (index + 1) + n ≡ index + suc n = omega arith in
    subst (λ (i : ℕ). AreNext conn i (drop n entries)) same (next_drop conn (index + 1) entries n (omega (arith, few)) next.2)

-- ---- one more

pub next_push : (conn index : ℕ) (entries : List Entry) (e : Entry) → AreNext conn index entries → e.conn ≡ conn → e.index ≡ index + length entries → AreNext conn index (entries ++ e ∷ [])
next_push conn index [] e next same at = let here : e.index ≡ index = omega (arith, at) in (same, here, tt)
next_push conn index (x ∷ entries) e next same at = (next.0, next.1, next_push conn (index + 1) entries e next.2 same (omega (arith, at)))

pub run_push : (most size : ℕ) (entries : List Entry) (e : Entry) → HasRoom most entries size → length e.event.text ≡ size → IsRun most (entries ++ e ∷ [])
run_push most size entries e room is = record {
  few = omega (arith, room.few, length-append entries (e ∷ []));
  short = λ several. omega (arith, is, size_then entries (e ∷ []), room.short (omega (arith, several, length-append entries (e ∷ []))));
}

pub staged_push : (most conn taken size : ℕ) (entries : List Entry) (e : Entry) → IsStaged most conn taken entries → HasRoom most entries size → e.conn ≡ conn → e.index ≡ taken + length entries → length e.event.text ≡ size → IsStaged most conn taken (entries ++ e ∷ [])
staged_push most conn taken size entries e staged room same at is = record { run = run_push most size entries e room is; next = next_push conn taken entries e staged.next same at }

pub staged_none : (most conn taken : ℕ) → IsStaged most conn taken []
staged_none most conn taken = record { run = run_none most; next = tt }

pub room_none : (most size : ℕ) → 0 < most → HasRoom most [] size
room_none most size some = record { few = omega (arith, some); short = λ is. absurd (omega (arith, is)) }

-- ---- by what is held

module _ (ran : List Call → Type 0) (w w' : Option (List ℕ)) (n n' conn : ℕ) (entries : List Entry) where
  pub stores_leads : (left : List Entry) → Done ran w w' n n' (StoresFront entries left) → Done ran w w' n n' (LeadsBy n (HoldsOf conn entries) (HoldsOf conn left))
  stores_leads left d = done_map ran w w' n n' (StoresFront entries left) (LeadsBy n (HoldsOf conn entries) (HoldsOf conn left)) d (λ calls text s course called said counted k. front_stored course.most conn entries course.frames called said k left calls text s)

  pub ends_leads : (talk : Talk) → IsAtMove talk → Done ran w w' n n' (EndsAtFront entries talk) → Done ran w w' n n' (LeadsBy n (HoldsOf conn entries) (EndsOf conn talk))
  ends_leads talk is d = done_map ran w w' n n' (EndsAtFront entries talk) (LeadsBy n (HoldsOf conn entries) (EndsOf conn talk)) d (λ calls text e course called said counted k. front_ends course.most conn entries course.frames called said k talk calls text is e)

  -- none is left
  pub holds_none : (left : List Entry) → left ≡ [] → Done ran w w' n n' (LeadsBy n (HoldsOf conn entries) (HoldsOf conn left)) → Done ran w w' n n' (LeadsBy n (HoldsOf conn entries) (HoldsOf conn []))
  holds_none left none d = subst (λ (es : List Entry). Done ran w w' n n' (LeadsBy n (HoldsOf conn entries) (HoldsOf conn es))) none d

  -- of runs that have so many events at most
  module _ (most k : ℕ) (es : List Entry) (same : k ≡ conn) (is : es ≡ entries) where
    pub course_leads : (left : List Entry) → left ≡ [] → Done ran w w' n n' (LeadsBy n (HoldsOf k es) (HoldsOf k [])) → Done ran w w' n n' (LeadsBy n (Holds most conn entries) (Holds most conn left))
    course_leads left none d =
        let here = subst (λ (x : List Entry). Done ran w w' n n' (LeadsBy n (HoldsOf conn x) (HoldsOf conn []))) is (subst (λ (c : ℕ). Done ran w w' n n' (LeadsBy n (HoldsOf c es) (HoldsOf c []))) same d) in
        done_map ran w w' n n' (LeadsBy n (HoldsOf conn entries) (HoldsOf conn [])) (LeadsBy n (Holds most conn entries) (Holds most conn left)) here
        (λ calls text leads frames called said counted h. subst (λ (l : List Entry). Holds most conn l frames (called ++ calls) (said ++ text)) (sym none) (leads (record { most = most; frames = frames }) called said counted h))

    pub course_ends : (talk : Talk) → Done ran w w' n n' (LeadsBy n (HoldsOf k es) (EndsOf k talk)) → Done ran w w' n n' (LeadsBy n (Holds most conn entries) (EndsWithin most conn talk))
    course_ends talk d =
        let here = subst (λ (x : List Entry). Done ran w w' n n' (LeadsBy n (HoldsOf conn x) (EndsOf conn talk))) is (subst (λ (c : ℕ). Done ran w w' n n' (LeadsBy n (HoldsOf c es) (EndsOf c talk))) same d) in
        done_map ran w w' n n' (LeadsBy n (HoldsOf conn entries) (EndsOf conn talk)) (LeadsBy n (Holds most conn entries) (EndsWithin most conn talk)) here
        (λ calls text leads frames called said counted h. leads (record { most = most; frames = frames }) called said counted h)

  -- for want of memory the connection ends there
  pub starved_leads : (most : ℕ) (left : List Entry) → Done ran w w' n n' (LeadsBy n (Holds most conn entries) (Holds most conn left)) → Done ran w w' n n' (LeadsBy n (Holds most conn entries) (EndsWithin most conn NoMemory))
  starved_leads most left d = done_map ran w w' n n' _ _ d (λ calls text leads frames called said counted k. held_starved most conn left frames (called ++ calls) (said ++ text) (leads frames called said counted k))

  -- one more is held
  pub next_leads : (most : ℕ) (mid : List Entry) (event : Event) (txnr : ℕ) → IsRun most (mid ++ entry_of conn (n' + length mid) txnr event ∷ []) → Done ran w w' n n' (LeadsBy n (Holds most conn entries) (Holds most conn mid))
      → Done ran w w' n n' (LeadsBy n (Holds most conn entries) (HoldsNext most conn (mid ++ entry_of conn (n' + length mid) txnr event ∷ []) event txnr))
  next_leads most mid event txnr run d = record {
    calls = d.calls;
    text = d.text;
    made = d.made;
    wrote = d.wrote;
    counted = d.counted;
    is = λ frames called said counted k f answer.
        held_next most conn mid frames (called ++ d.calls) (said ++ d.text) (d.is frames called said counted k) f (entry_of conn (n' + length mid) txnr event) answer refl (omega (arith, counted, d.counted, count_then called d.calls)) run;
  }

pub due_leads : (n conn : ℕ) (entries : List Entry) (calls : List Call) (text : List ℕ) → IsDueForFront entries calls text → LeadsBy n (HoldsOf conn entries) (CouldEndOf conn) calls text
due_leads n conn entries calls text due = λ course called said counted k. front_due course.most conn entries course.frames called said k calls text due

pub most_some : (group : Bool) → 0 < most_of group
most_some true = omega arith
most_some false = omega arith

pub most_few : (group : Bool) → most_of group ≤ 512
most_few true = omega arith
most_few false = omega arith

pub course_due : (n conn : ℕ) (entries : List Entry) (most k : ℕ) (es : List Entry) → k ≡ conn → es ≡ entries → (calls : List Call) (text : List ℕ) → LeadsBy n (HoldsOf k es) (CouldEndOf k) calls text → LeadsBy n (Holds most conn entries) (CouldEndWithin most conn) calls text
course_due n conn entries most k es same is calls text due =
    let here = subst (λ (x : List Entry). LeadsBy n (HoldsOf conn x) (CouldEndOf conn) calls text) is (subst (λ (c : ℕ). LeadsBy n (HoldsOf c es) (CouldEndOf c) calls text) same due) in
    λ frames called said counted h. here (record { most = most; frames = frames }) called said counted h

-- ---- by how far the session is

module _ (n most conn : ℕ) (core : State) (entries : List Entry) (f : Frame) where
  -- what may be written for what is held, may be for the frame
  pub frame_could : (calls : List Call) (text : List ℕ) → LeadsBy n (Holds most conn entries) (CouldEndWithin most conn) calls text → LeadsBy n (Handles most conn core entries) (λ frames. CouldEndWithin most conn (frames ++ f ∷ [])) calls text
  frame_could calls text leads = λ frames called said counted h. could_next most conn frames f (called ++ calls) (said ++ text) (leads frames called said counted h.holds)

  module _ (ran : List Call → Type 0) (w w' : Option (List ℕ)) (n' : ℕ) where
    -- the connection ends before the frame
    pub frame_ends : (talk : Talk) → Done ran w w' n n' (LeadsBy n (Holds most conn entries) (EndsWithin most conn talk)) → Done ran w w' n n' (LeadsBy n (Handles most conn core entries) (λ frames. EndsWithin most conn talk (frames ++ f ∷ [])))
    frame_ends talk d = done_map ran w w' n n' (LeadsBy n (Holds most conn entries) (EndsWithin most conn talk)) (LeadsBy n (Handles most conn core entries) (λ frames. EndsWithin most conn talk (frames ++ f ∷ []))) d
        (λ calls text leads frames called said counted h. within_next most conn talk frames f (called ++ calls) (said ++ text) (leads frames called said counted h.holds))

    -- its event is held
    pub frame_held : (core' : State) (entries' : List Entry) (event : Event) (txnr : ℕ) → IsAnswer core f (Store event txnr) → ((before : List Frame) → core ≡ state_after before → core' ≡ state_after (before ++ f ∷ []))
        → Done ran w w' n n' (LeadsBy n (Holds most conn entries) (HoldsNext most conn entries' event txnr)) → Done ran w w' n n' (LeadsBy n (Handles most conn core entries) (λ frames. Handles most conn core' entries' (frames ++ f ∷ [])))
    frame_held core' entries' event txnr answer after d = done_map ran w w' n n' (LeadsBy n (Holds most conn entries) (HoldsNext most conn entries' event txnr)) (LeadsBy n (Handles most conn core entries) (λ frames. Handles most conn core' entries' (frames ++ f ∷ []))) d
        (λ calls text leads frames called said counted h. record {
          holds = leads frames called said counted h.holds f (subst (λ (x : State). IsAnswer x f (Store event txnr)) h.state_is answer);
          state_is = after frames h.state_is;
        })
