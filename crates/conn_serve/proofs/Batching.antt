-- The batches of a connection, and the entries of what is staged.
use Rattle.std.proofs.Common.{◌≡◌, ◌↔◌, ℕ, ◌+◌, ◌<◌, ◌∙◌, Bool, true, false, List, [], ◌∷◌, ◌++◌, map, length, refl, sym, ap, subst, arith, append_assoc, length-append}
use Rattle.std.specs.Prelude.{IsTrue}
use Rattle.std.specs.List.{All}
use Rattle.std.proofs.lemmas.List.{append-nil, append_cancel_right}
use Rattle.std.proofs.lemmas.List.Elements.{All-nil, All-cons}
use Rattle.std.proofs.lemmas.Bool.{false≢true}
use Rattle.event_form.specs.declared.event.Entry.{Entry}
use Rattle.event_form.specs.declared.talk.Talk.{Talk}
use Rattle.lumber_frame.specs.declared.frame.LumberFrame.{LumberFrame}
use Rattle.lumber_frame.specs.declared.frame.LumberFrame.TheVariants.{Window, Pairs, Json, Ack}
use Rattle.lumber_session.specs.declared.act.LumberAct.{LumberAct}
use Rattle.lumber_session.specs.Staged.{Staged, staged_by, staged}
use Rattle.lumber_session.specs.Batches.{Ends, EndsNowhere, IsBatch, AreBatches}
use Rattle.lumber_session.specs.Acts.{Tells, act_of, commits, last_seq}
use Rattle.lumber_session.specs.Counting.{Core, IsBehind}
use Rattle.lumber_session.proofs.WindowLaws.{staged_push}
use Rattle.lumber_session.proofs.CutLaws.{nowhere_none, nowhere_on, one_cut, nowhere_few}
use Rattle.desk_access.specs.Batch.{AreNext, MayTake}
use Rattle.desk_access.specs.Call.{Call}
use Rattle.conn_serve.specs.Groups.{IsFrameEntry}
use Rattle.desk_access.specs.Step.{Step, frames_of, calls_of, count}
use Rattle.desk_access.specs.Protocol.{AreMoves}
use Rattle.conn_serve.specs.Relp.{entry_of}
use Rattle.conn_serve.specs.Lumber.{lumberjack, entries_of, StoresGroup, EndsAtGroup}
use Rattle.conn_serve.specs.Handled.{Handled}
use Rattle.conn_serve.specs.LumberServing.{Handles, stages, last_behind}
use Rattle.desk_access.proofs.Moves.{frames_then}
use Rattle.conn_serve.proofs.Handling.{handled_none, handled_hold, handled_push}

pub entries_then : (conn index : ℕ) (xs ys : List Staged) → entries_of conn index (xs ++ ys) ≡ entries_of conn index xs ++ entries_of conn (index + length xs) ys
entries_then conn index [] ys = let same : index ≡ index + 0 = omega arith in ap (λ (n : ℕ). entries_of conn n ys) same
entries_then conn index (x ∷ xs) ys =
    let same : (index + 1) + length xs ≡ index + length (x ∷ xs) = omega arith in
    ap (λ (l : List Entry). entry_of conn index x.seq x.event ∷ l) (entries_then conn (index + 1) xs ys ∙ ap (λ (n : ℕ). entries_of conn (index + 1) xs ++ entries_of conn n ys) same)

pub entries_count : (conn index : ℕ) (xs : List Staged) → length (entries_of conn index xs) ≡ length xs
entries_count conn index [] = refl
entries_count conn index (x ∷ xs) = omega (arith, entries_count conn (index + 1) xs)

pub entries_next : (conn index : ℕ) (xs : List Staged) → AreNext conn index (entries_of conn index xs)
entries_next conn index [] = tt
entries_next conn index (x ∷ xs) = (refl, refl, entries_next conn (index + 1) xs)

pub next_conn : (conn index : ℕ) (es : List Entry) → AreNext conn index es → All (λ (e : Entry). e.conn ≡ conn) es
next_conn conn index [] n = All-nil (λ (e : Entry). e.conn ≡ conn)
next_conn conn index (e ∷ es) n = All-cons (λ (e : Entry). e.conn ≡ conn) e es n.0 (next_conn conn (index + 1) es n.2)

pub may_take_next : (may : ℕ → ℕ → Type 0) (conn index : ℕ) (es : List Entry) → may conn index → AreNext conn index es → MayTake may es
may_take_next may conn index [] m n = tt
may_take_next may conn index (e ∷ es) m n =
    (subst (λ (c : ℕ). may c e.index) (sym n.0) (subst (may conn) (sym n.1) m), subst (λ (c : ℕ). AreNext c (e.index + 1) es) (sym n.0) (subst (λ (i : ℕ). AreNext conn (i + 1) es) (sym n.1) n.2))

last_then : (xs : List Staged) (s : Staged) (more : List Staged) → last_seq (xs ++ s ∷ more) ≡ last_seq (s ∷ more)
last_then [] s more = refl
last_then (x ∷ []) s more = refl
last_then (x ∷ y ∷ xs) s more = last_then (y ∷ xs) s more

last_on : (last : ℕ) (xs ys : List Staged) → (0 < length xs → last ≡ last_seq xs) → 0 < length (xs ++ ys) → last_behind last ys ≡ last_seq (xs ++ ys)
last_on last xs [] is some = is (omega (arith, some, ap length (append-nil xs))) ∙ ap last_seq (sym (append-nil xs))
last_on last xs (s ∷ more) is some = sym (last_then xs s more)

-- the steps are the batches of the frames
steps_cut : (conn : ℕ) (before steps : List (Step LumberFrame)) (held : List LumberFrame) → AreMoves (lumberjack conn) before steps → EndsNowhere (frames_of (before ++ steps)) held
    → AreBatches (frames_of before) (frames_of steps ++ held) (map (λ (s : Step LumberFrame). s.frames) steps) held
steps_cut conn before [] held m k = (refl, subst (λ (l : List (Step LumberFrame)). EndsNowhere (frames_of l) held) (append-nil before) k)
steps_cut conn before (s ∷ steps) held m k =
    let deeper = steps_cut conn (before ++ s ∷ []) steps held m.1 (subst (λ (l : List (Step LumberFrame)). EndsNowhere (frames_of l) held) (sym (append_assoc before (s ∷ []) steps)) k) in
    let here : frames_of (before ++ s ∷ []) ≡ frames_of before ++ s.frames = frames_then before (s ∷ []) ∙ ap (λ (l : List LumberFrame). frames_of before ++ l) (append-nil s.frames) in
    (frames_of steps ++ held, append_assoc s.frames (frames_of steps) held, m.0.0, subst (λ (l : List LumberFrame). AreBatches l (frames_of steps ++ held) (map (λ (s : Step LumberFrame). s.frames) steps) held) here deeper)

act_commits : (f : LumberFrame) (ends : Bool) (before rest : List LumberFrame) → IsTrue ends ↔ Ends before rest f → commits (act_of f ends) ≡ ends
act_commits (Window size) true before rest x = refl
act_commits (Window size) false before rest x = refl
act_commits (Pairs seq text) ends before rest x = refl
act_commits (Json seq text) ends before rest x = refl
act_commits (Ack seq) true before rest x = absurd (x.0 refl)
act_commits (Ack seq) false before rest x = refl

act_stages : (f : LumberFrame) (ends : Bool) → stages (act_of f ends) ≡ staged_by f
act_stages (Window size) true = refl
act_stages (Window size) false = refl
act_stages (Pairs seq text) ends = refl
act_stages (Json seq text) ends = refl
act_stages (Ack seq) ends = refl

-- What an act tells after these steps and the frames held.
pub record Told (steps : List (Step LumberFrame)) (held : List LumberFrame) (f : LumberFrame) (act : LumberAct) : Type 0 where
  pub ends : IsTrue (commits act) ↔ Ends (frames_of steps) held f
  pub stages_are : staged (held ++ f ∷ []) ≡ staged held ++ stages act

pub told : (conn : ℕ) (steps : List (Step LumberFrame)) (held frames : List LumberFrame) (f : LumberFrame) (act : LumberAct) → AreMoves (lumberjack conn) [] steps → EndsNowhere (frames_of steps) held → frames ≡ frames_of steps ++ held → Tells frames f act → Told steps held f act
told conn steps held frames f act m k whole t =
    let cut = subst (λ (l : List LumberFrame). AreBatches [] l (map (λ (s : Step LumberFrame). s.frames) steps) held) (sym whole) (steps_cut conn [] steps held m k) in
    let one = one_cut frames t.batches (map (λ (s : Step LumberFrame). s.frames) steps) t.rest held t.cut cut in
    let front : t.before ≡ frames_of steps = append_cancel_right t.before (frames_of steps) held (ap (λ (l : List LumberFrame). t.before ++ l) (sym one.1) ∙ sym t.whole ∙ whole) in
    let exactly : IsTrue t.ends ↔ Ends (frames_of steps) held f = subst (λ (l : List LumberFrame). IsTrue t.ends ↔ Ends l held f) front (subst (λ (l : List LumberFrame). IsTrue t.ends ↔ Ends t.before l f) one.1 t.exactly) in
    let same : t.ends ≡ commits act = sym (act_commits f t.ends (frames_of steps) held exactly) ∙ ap commits (sym t.told) in
    record {
      ends = subst (λ (b : Bool). IsTrue b ↔ Ends (frames_of steps) held f) same exactly;
      stages_are = staged_push held f ∙ ap (λ (l : List Staged). staged held ++ l) (sym (act_stages f t.ends) ∙ ap stages (sym t.told));
    }

-- where a batch ends, something is staged
pub some_staged : (before held : List LumberFrame) (f : LumberFrame) → Ends before held f → 0 < length (staged (held ++ f ∷ []))
some_staged before held (Window size) e = omega (arith, e.1, ap length (staged_push held (Window size)), length-append (staged held) [])
some_staged before held (Pairs seq text) e = omega (arith, ap length (staged_push held (Pairs seq text)), length-append (staged held) (staged_by (Pairs seq text)))
some_staged before held (Json seq text) e = omega (arith, ap length (staged_push held (Json seq text)), length-append (staged held) (staged_by (Json seq text)))
some_staged before held (Ack seq) e = absurd e

pub handles_none : (conn : ℕ) (core : Core) (entries : List Entry) (last : ℕ) → IsBehind [] core → core.due ≡ false → entries ≡ [] → Handles conn core entries last [] [] []
handles_none conn core entries last behind ready none = record {
  handled = handled_none (lumberjack conn) (nowhere_none []);
  behind = behind;
  ready = ready;
  entries_are = none;
  last_is = λ some. absurd (omega (arith, some));
  limits = subst (All IsFrameEntry) (sym none) (All-nil IsFrameEntry);
}

-- What was handled, and the act for the next frame, of which the event was staged.
module _ (conn : ℕ) (core : Core) (entries entries' : List Entry) (last last' taken : ℕ) (frames : List LumberFrame) (called : List Call) (said : List ℕ) (f : LumberFrame) (act : LumberAct)
    (h : Handles conn core entries last frames called said) (tells : Tells frames f act) (counted : taken ≡ count called)
    (entries_are : entries' ≡ entries ++ entries_of conn (taken + length entries) (stages act)) (last_is : last' ≡ last_behind last (stages act)) where
  here : Told h.handled.steps h.handled.held f act
  here = told conn h.handled.steps h.handled.held frames f act h.handled.each h.handled.kept h.handled.whole tells

  abbrev events : List Staged
  events = staged (h.handled.held ++ f ∷ [])

  pub now_staged : entries' ≡ entries_of conn (count called) (staged (h.handled.held ++ f ∷ []))
  now_staged =
      let size : length entries ≡ length (staged h.handled.held) = ap length h.entries_are ∙ entries_count conn (count called) (staged h.handled.held) in
      let index : taken + length entries ≡ count called + length (staged h.handled.held) = omega (arith, counted, size) in
      entries_are ∙ ap (λ (l : List Entry). l ++ entries_of conn (taken + length entries) (stages act)) h.entries_are
      ∙ ap (λ (n : ℕ). entries_of conn (count called) (staged h.handled.held) ++ entries_of conn n (stages act)) index
      ∙ sym (entries_then conn (count called) (staged h.handled.held) (stages act)) ∙ ap (entries_of conn (count called)) (sym here.stages_are)

  now_last : 0 < length events → last' ≡ last_seq events
  now_last some =
      last_is ∙ last_on last (staged h.handled.held) (stages act) h.last_is (subst (λ (l : List Staged). 0 < length l) here.stages_are some) ∙ ap last_seq (sym here.stages_are)

  -- no batch ends with the frame
  pub handles_on : (core' : Core) → IsBehind (frames ++ f ∷ []) core' → core'.due ≡ false → commits act ≡ false → All IsFrameEntry entries' → Handles conn core' entries' last' (frames ++ f ∷ []) called said
  handles_on core' behind ready none limits = record {
    handled = handled_hold (lumberjack conn) frames called said h.handled f (nowhere_on (frames_of h.handled.steps) h.handled.held f h.handled.kept (λ e. false≢true (sym none ∙ here.ends.1 e)));
    behind = behind;
    ready = ready;
    entries_are = now_staged;
    last_is = now_last;
    limits = limits;
  }

  -- a batch ends with it
  module _ (due : commits act ≡ true) where
    ended : Ends (frames_of h.handled.steps) h.handled.held f
    ended = here.ends.0 due

    batch : IsBatch (frames_of h.handled.steps) (h.handled.held ++ f ∷ [])
    batch = record { front = h.handled.held; last = f; whole = refl; open_before = h.handled.kept; ends = ended }

    index_is : count called ≡ count (calls_of h.handled.steps)
    index_is = ap count h.handled.made

    group_is : entries' ≡ entries_of conn (count (calls_of h.handled.steps)) events
    group_is = now_staged ∙ ap (λ (n : ℕ). entries_of conn n events) index_is

    last_staged : last' ≡ last_seq events
    last_staged = now_last (some_staged (frames_of h.handled.steps) h.handled.held f ended)

    pub handles_batch : (core' : Core) (last'' : ℕ) (calls : List Call) (text : List ℕ) → IsBehind (frames ++ f ∷ []) core' → core'.due ≡ false → StoresGroup entries' last' calls text → Handles conn core' [] last'' (frames ++ f ∷ []) (called ++ calls) (said ++ text)
    handles_batch core' last'' calls text behind ready stores =
        let step : Step LumberFrame = record { frames = h.handled.held ++ f ∷ []; calls = calls; text = text } in
        let there : StoresGroup (entries_of conn (count (calls_of h.handled.steps)) events) (last_seq events) calls text =
        subst (λ (n : ℕ). StoresGroup (entries_of conn (count (calls_of h.handled.steps)) events) n calls text) last_staged (subst (λ (g : List Entry). StoresGroup g last' calls text) group_is stores) in record {
          handled = handled_push (lumberjack conn) frames called said h.handled f step refl (batch, there) (nowhere_none (frames_of (h.handled.steps ++ step ∷ [])));
          behind = behind;
          ready = ready;
          entries_are = refl;
          last_is = λ some. absurd (omega (arith, some));
          limits = All-nil IsFrameEntry;
        }

    pub handled_batch : (calls : List Call) (text : List ℕ) → StoresGroup entries' last' calls text → Handled (lumberjack conn) (frames ++ f ∷ []) (called ++ calls) (said ++ text)
    handled_batch calls text stores =
        let step : Step LumberFrame = record { frames = h.handled.held ++ f ∷ []; calls = calls; text = text } in
        let there : StoresGroup (entries_of conn (count (calls_of h.handled.steps)) events) (last_seq events) calls text =
        subst (λ (n : ℕ). StoresGroup (entries_of conn (count (calls_of h.handled.steps)) events) n calls text) last_staged (subst (λ (g : List Entry). StoresGroup g last' calls text) group_is stores) in
        handled_push (lumberjack conn) frames called said h.handled f step refl (batch, there) (nowhere_none (frames_of (h.handled.steps ++ step ∷ [])))

    pub handles_stop : (late : List Call) (part : List ℕ) (talk : Talk) → EndsAtGroup entries' last' late part talk → (lumberjack conn).Stops h.handled.steps h.handled.held f late part talk
    handles_stop late part talk e =
        (batch, subst (λ (n : ℕ). EndsAtGroup (entries_of conn (count (calls_of h.handled.steps)) events) n late part talk) last_staged (subst (λ (g : List Entry). EndsAtGroup g last' late part talk) group_is e))

-- fewer entries are staged than a batch has
pub handles_few : (conn : ℕ) (core : Core) (entries : List Entry) (last : ℕ) (frames : List LumberFrame) (called : List Call) (said : List ℕ) → Handles conn core entries last frames called said → length entries < 256
handles_few conn core entries last frames called said h =
    omega (arith, ap length h.entries_are, entries_count conn (count called) (staged h.handled.held), (nowhere_few (frames_of h.handled.steps) h.handled.held h.handled.kept).frames)

pub handles_next : (conn : ℕ) (core : Core) (entries : List Entry) (last taken : ℕ) (frames : List LumberFrame) (called : List Call) (said : List ℕ) → Handles conn core entries last frames called said → taken ≡ count called → AreNext conn taken entries
handles_next conn core entries last taken frames called said h counted =
    subst (λ (n : ℕ). AreNext conn n entries) (sym counted) (subst (AreNext conn (count called)) (sym h.entries_are) (entries_next conn (count called) (staged h.handled.held)))
