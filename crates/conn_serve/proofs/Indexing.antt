-- The calls of a connection take entries of its number alone, with indexes from 0 on.
use Rattle.std.proofs.Common.{◌≡◌, ◌⊎◌, inl, inr, ℕ, ◌+◌, ◌∙◌, List, [], ◌∷◌, ◌++◌, Bool, true, false, Option, length, refl, sym, ap, subst, arith, length-append}
use Rattle.std.specs.Prelude.{Result, Ok, Err}
use Rattle.event_form.specs.declared.event.Entry.{Entry}
use Rattle.event_form.specs.declared.event.Event.{Event}
use Rattle.event_form.specs.declared.talk.Talk.{Talk}
use Rattle.edge_io.specs.declared.proto.Proto.TheVariants.{Relp, Lumberjack, Hec}
use Rattle.spool_answers.specs.declared.receipt.Receipt.{Receipt}
use Rattle.spool_faults.specs.declared.fault.TakeFault.{TakeFault}
use Rattle.hec_session.specs.declared.act.HecAct.{HecAct}
use Rattle.hec_session.specs.declared.act.HecAct.TheVariants as hec_act
use Rattle.hec_session.specs.declared.tokens.Tokens.{Tokens}
use Rattle.http_edge.specs.declared.request.HttpItem.{HttpItem}
use Rattle.http_edge.specs.declared.request.HttpItem.TheVariants.{Continue, Request}
use Rattle.relp_frame.specs.declared.frame.Frame.{Frame}
use Rattle.relp_session.specs.declared.act.RelpAct.{RelpAct}
use Rattle.relp_session.specs.declared.act.RelpAct.TheVariants.{Store, Say, End}
use Rattle.lumber_frame.specs.declared.frame.LumberFrame.{LumberFrame}
use Rattle.lumber_session.specs.Staged.{Staged, staged}
use Rattle.desk_access.specs.Batch.{AreNext}
use Rattle.desk_access.specs.Call.{Call, takes, issues, settles, forgets, taken_by, taken_of}
use Rattle.desk_access.specs.Step.{Step, frames_of, calls_of, count}
use Rattle.relp_session.specs.Session.{state_after}
use Rattle.desk_access.specs.Protocol.{Protocol, AreMoves}
use Rattle.desk_access.specs.Carried.{Carried, Ending, EndsAtMove}
use Rattle.desk_access.proofs.Moves.{calls_then, count_then, ending_cases}
use Rattle.conn_serve.specs.Runs.{relp_runs, EndsAtRun}
use Rattle.conn_serve.specs.Relp.{entry_of, one_take, Carries, IsDue, IsRefused, IsStarved, EndsAtAct}
use Rattle.conn_serve.specs.Lumber.{lumberjack, entries_of, EndsAtGroup, StoresLast}
use Rattle.conn_serve.specs.Hec as collector
use Rattle.conn_serve.specs.Hec.{hec}
use Rattle.conn_serve.specs.Numbering.{AreOfConn, CallsAreOfConn}
use Rattle.conn_serve.proofs.Batching as batch
use Rattle.conn_serve.proofs.Runs.{due_next}
use Rattle.conn_serve.proofs.HecEntries as requests

of_then : (conn index : ℕ) (xs ys : List Call) → AreOfConn conn index xs → AreOfConn conn (index + count xs) ys → AreOfConn conn index (xs ++ ys)
of_then conn index [] ys p q = subst (λ (i : ℕ). AreOfConn conn i ys) (omega arith) q
of_then conn index (x ∷ xs) ys p q =
    (p.0, of_then conn (index + length (taken_by x)) xs ys p.1 (subst (λ (i : ℕ). AreOfConn conn i ys) (omega (arith, length-append (taken_by x) (taken_of xs))) q))

-- the first of the calls
pub of_first : (conn index : ℕ) (xs ys : List Call) → AreOfConn conn index (xs ++ ys) → AreOfConn conn index xs
of_first conn index [] ys are = tt
of_first conn index (x ∷ xs) ys are = (are.0, of_first conn (index + length (taken_by x)) xs ys are.1)

-- ---- the calls of one step

module _ (conn index : ℕ) where
  of_none : (calls : List Call) → calls ≡ [] → AreOfConn conn index calls
  of_none calls is = subst (AreOfConn conn index) (sym is) tt

  of_group : (group : List Entry) (answer : Result Receipt TakeFault) (calls : List Call) → AreNext conn index group → calls ≡ takes group answer ∷ [] → AreOfConn conn index calls
  of_group group answer calls next is = subst (AreOfConn conn index) (sym is) (next, tt)

  -- RELP
  of_event : (unit : ℕ) (event : Event) (answer : Result Receipt TakeFault) (calls : List Call) → calls ≡ one_take conn index unit event answer → AreOfConn conn index calls
  of_event unit event answer calls is = of_group (entry_of conn index unit event ∷ []) answer calls (refl, refl, tt) is

  of_carried : (act : RelpAct) (calls : List Call) (text : List ℕ) → Carries conn index act calls text → AreOfConn conn index calls
  of_carried (Store event txnr) calls text c = of_event txnr event (Ok c.0) calls c.1
  of_carried (Say answer) calls text c = of_none calls c.0
  of_carried (End answer) calls text c = absurd c

  of_due : (act : RelpAct) (late : List Call) (text : List ℕ) → IsDue conn index act late text → AreOfConn conn index late
  of_due (Store event txnr) late text (inl stored) = of_event txnr event (Ok stored.0) late stored.1
  of_due (Store event txnr) late text (inr refused) = of_event txnr event (Err refused.0) late refused.2
  of_due (Say answer) late text due = of_none late due.0
  of_due (End answer) late text due = of_none late due.0

  of_refused : (act : RelpAct) (late : List Call) (part : List ℕ) (talk : Talk) → IsRefused conn index act late part talk → AreOfConn conn index late
  of_refused (Store event txnr) late part talk r = of_event txnr event (Err r.0) late r.1
  of_refused (Say answer) late part talk r = absurd r
  of_refused (End answer) late part talk r = absurd r

  of_starved : (act : RelpAct) (late : List Call) → IsStarved conn index act late → AreOfConn conn index late
  of_starved (Store event txnr) late s = of_event txnr event (Err s.0) late s.2
  of_starved (Say answer) late s = absurd s
  of_starved (End answer) late s = absurd s

  of_act : (act : RelpAct) (late : List Call) (part : List ℕ) (talk : Talk) → EndsAtAct conn index act late part talk → AreOfConn conn index late
  of_act act late part Talk.Closed e = of_none late e.1
  of_act act late part Talk.WriteFault e = of_due act late e.0 e.2
  of_act act late part Talk.NoMemory e = of_starved act late e.0
  of_act act late part talk e = of_refused act late part talk e

  -- Lumberjack
  of_batch : (events : List Staged) (seq : ℕ) (late : List Call) (part : List ℕ) (talk : Talk) → EndsAtGroup (entries_of conn index events) seq late part talk → AreOfConn conn index late
  of_batch events seq late part Talk.WriteFault e = of_group (entries_of conn index events) (Ok e.0) late (batch.entries_next conn index events) e.2
  of_batch events seq late part talk e = of_group (entries_of conn index events) (Err e.0) late (batch.entries_next conn index events) e.1

  of_last : (events : List Staged) (late : List Call) (part : List ℕ) → StoresLast conn index events late part → AreOfConn conn index late
  of_last [] late part none = of_none late none.0
  of_last (s ∷ more) late part stored = of_group (entries_of conn index (s ∷ more)) (Ok stored.0) late (batch.entries_next conn index (s ∷ more)) stored.1

  -- the collector
  of_request : (unit : ℕ) (events : List Event) (answer : Result Receipt TakeFault) (calls : List Call) → calls ≡ collector.takes_all conn index unit events answer ∷ [] → AreOfConn conn index calls
  of_request unit events answer calls is = of_group (collector.entries_of conn index unit events) answer calls (requests.entries_next conn index unit events) is

  -- a take under an id that was issued, and then the id is settled or forgotten
  under_id : (channel id : ℕ) (events : List Event) (answer : Result Receipt TakeFault) (last : Call) → AreOfConn conn ((index + 0) + length (taken_by (collector.takes_all conn index id events answer))) (last ∷ [])
      → AreOfConn conn index (issues channel (Ok id) ∷ collector.takes_all conn index id events answer ∷ last ∷ [])
  under_id channel id events answer last rest =
      let same : index ≡ index + 0 = omega arith in
      (tt, (subst (λ (i : ℕ). AreNext conn i (collector.entries_of conn index id events)) same (requests.entries_next conn index id events), rest))

  of_done : (act : HecAct) (closing : Bool) (calls : List Call) (text : List ℕ) → collector.IsDone conn index act closing calls text → AreOfConn conn index calls
  of_done (hec_act.Say say) closing calls text d = of_none calls d.2
  of_done (hec_act.StoreThenSay events) closing calls text d = of_request 0 events.items (Ok d.0) calls d.1
  of_done (hec_act.SayThenStore channel events) closing calls text (id, receipt, unsettled, made, said) =
      subst (AreOfConn conn index) (sym made) (under_id channel id events.items (Ok receipt) (settles channel id unsettled) (tt, tt))
  of_done (hec_act.Ask channel ids) closing calls text d = subst (AreOfConn conn index) (sym d.1) (tt, tt)

  of_denied : (act : HecAct) (late : List Call) (part : List ℕ) (talk : Talk) → collector.IsRefused conn index act late part talk → AreOfConn conn index late
  of_denied (hec_act.Say say) late part talk r = absurd r
  of_denied (hec_act.StoreThenSay events) late part talk r = of_request 0 events.items (Err r.0) late r.1
  of_denied (hec_act.SayThenStore channel events) late part talk r = subst (AreOfConn conn index) (sym r.1) (tt, tt)
  of_denied (hec_act.Ask channel ids) late part talk r = absurd r

  of_unstored : (act : HecAct) (closing : Bool) (late : List Call) (part : List ℕ) (talk : Talk) → collector.IsUnstored conn index act closing late part talk → AreOfConn conn index late
  of_unstored (hec_act.Say say) closing late part talk u = absurd u
  of_unstored (hec_act.StoreThenSay events) closing late part talk u = absurd u
  of_unstored (hec_act.SayThenStore channel events) closing late part talk (id, fault, held, made, said, is) =
      subst (AreOfConn conn index) (sym made) (under_id channel id events.items (Err fault) (forgets channel id held) (tt, tt))
  of_unstored (hec_act.Ask channel ids) closing late part talk u = absurd u

  of_either : (act : HecAct) (closing : Bool) (late : List Call) (part : List ℕ) (talk : Talk) → collector.IsRefused conn index act late part talk ⊎ collector.IsUnstored conn index act closing late part talk → AreOfConn conn index late
  of_either act closing late part talk (inl refused) = of_denied act late part talk refused
  of_either act closing late part talk (inr unstored) = of_unstored act closing late part talk unstored

  of_forgotten : (channel id : ℕ) (calls : List Call) → collector.IsForgotten channel id calls → AreOfConn conn index calls
  of_forgotten channel id calls f = subst (AreOfConn conn index) (sym f.1) (tt, (tt, tt))

  of_wanting : (act : HecAct) (late : List Call) → collector.IsStarved act late → AreOfConn conn index late
  of_wanting (hec_act.Say say) late s = absurd s
  of_wanting (hec_act.StoreThenSay events) late s = absurd s
  of_wanting (hec_act.SayThenStore channel events) late s = of_forgotten channel s.0 late s.1
  of_wanting (hec_act.Ask channel ids) late s = subst (AreOfConn conn index) (sym s.1) (tt, tt)

  of_owed : (act : HecAct) (closing : Bool) (late : List Call) (text : List ℕ) → collector.IsDue conn index act closing late text → AreOfConn conn index late
  of_owed (hec_act.SayThenStore channel events) closing late text (inl forgotten) = of_forgotten channel forgotten.0 late forgotten.1
  of_owed (hec_act.SayThenStore channel events) closing late text (inr refused) = of_denied (hec_act.SayThenStore channel events) late text refused.0 refused.1
  of_owed (hec_act.Say say) closing late text (inl done) = of_done (hec_act.Say say) closing late text done
  of_owed (hec_act.Say say) closing late text (inr refused) = absurd refused.1
  of_owed (hec_act.StoreThenSay events) closing late text (inl done) = of_done (hec_act.StoreThenSay events) closing late text done
  of_owed (hec_act.StoreThenSay events) closing late text (inr refused) = of_denied (hec_act.StoreThenSay events) late text refused.0 refused.1
  of_owed (hec_act.Ask channel ids) closing late text (inl done) = of_done (hec_act.Ask channel ids) closing late text done
  of_owed (hec_act.Ask channel ids) closing late text (inr refused) = absurd refused.1

  of_answer : (act : HecAct) (closing : Bool) (late : List Call) (part : List ℕ) (talk : Talk) → collector.EndsAtAct conn index act closing late part talk → AreOfConn conn index late
  of_answer act closing late part Talk.Closed e = of_done act true late part e.1
  of_answer act closing late part Talk.WriteFault e = of_owed act closing late e.0 e.1
  of_answer act closing late part Talk.NoMemory (inl starved) = of_wanting act late starved.0
  of_answer act closing late part Talk.NoMemory (inr either) = of_either act closing late part Talk.NoMemory either
  of_answer act closing late part talk e = of_either act closing late part talk e

  of_item : (tokens : Tokens) (item : HttpItem) (calls : List Call) (text : List ℕ) → collector.CarriesItem tokens conn index item calls text → AreOfConn conn index calls
  of_item tokens Continue calls text c = of_none calls c.0
  of_item tokens (Request r) calls text c = of_done c.0 false calls text c.3

  of_stop : (tokens : Tokens) (item : HttpItem) (late : List Call) (part : List ℕ) (talk : Talk) → collector.StopsAtItem tokens conn index item late part talk → AreOfConn conn index late
  of_stop tokens Continue late part Talk.WriteFault s = of_none late s.0
  of_stop tokens Continue late part talk s = absurd s
  of_stop tokens (Request r) late part talk s = of_answer s.0 _ late part talk s.2

  of_saying : (over : Talk) (late : List Call) (part : List ℕ) → collector.SaysLast over late part → AreOfConn conn index late
  of_saying (Talk.Fault at why) late part s = of_none late s.0
  of_saying over late part s = of_none late s.0

  of_cut : (over : Talk) (late : List Call) (part : List ℕ) (talk : Talk) → collector.StopsSaying over late part talk → AreOfConn conn index late
  of_cut (Talk.Fault at why) late part Talk.WriteFault s = of_none late s.0
  of_cut over late part talk s = absurd s

-- ---- the calls at the ending

run_of : (conn index : ℕ) (entries : List Entry) (late : List Call) (part : List ℕ) (talk : Talk) → AreNext conn index entries → EndsAtRun entries late part talk → AreOfConn conn index late
run_of conn index entries late part Talk.WriteFault next (text, k, inl taken, short, cut) = of_group conn index entries (Ok taken.0) late next taken.1
run_of conn index entries late part Talk.WriteFault next (text, k, inr refused, short, cut) = of_group conn index entries (Err refused.0) late next refused.3
run_of conn index entries late part Talk.NoMemory next e = of_group conn index entries (Err e.0) late next e.2
run_of conn index entries late part talk next e = of_group conn index entries (Err e.0) late next e.2

relp_step : (most conn : ℕ) (before : List (Step Frame)) (s : Step Frame) → (relp_runs most conn).IsMove before s → AreOfConn conn (count (calls_of before)) s.calls
relp_step most conn before s (inl move) = of_carried conn _ move.2.0 s.calls s.text move.2.2
relp_step most conn before s (inr run) =
    of_group conn (count (calls_of before)) run.entries (Ok run.receipt) s.calls (due_next conn (count (calls_of before)) (state_after (frames_of before)) s.frames run.entries run.brings.due) run.stores

module _ (most conn : ℕ) (left : Option (List ℕ)) (b : List ℕ) (steps : List (Step Frame)) (held : List Frame) (at : ℕ) (late : List Call) (part : List ℕ) where
  relp_move : (talk : Talk) → EndsAtMove (relp_runs most conn) left b steps held at late part talk → AreOfConn conn (count (calls_of steps)) late
  relp_move talk (inl (f, end, front, inl stops)) = of_act conn _ stops.1.0 late part talk stops.1.2
  relp_move talk (inl (f, end, front, inr (entries, brings, ends))) =
      run_of conn (count (calls_of steps)) entries late part talk (due_next conn (count (calls_of steps)) (state_after (frames_of steps)) (held ++ f ∷ []) entries brings.due) ends
  relp_move talk (inr last) = absurd last.2

  relp_ending : (talk : Talk) → Ending (relp_runs most conn) left b steps held at late part talk → AreOfConn conn (count (calls_of steps)) late
  relp_ending talk e = ending_cases (relp_runs most conn) left b steps held at late part (λ t. AreOfConn conn (count (calls_of steps)) late) (λ t none. of_none conn _ late none.1.0) (λ t none. of_none conn _ late none.0) relp_move talk e

module _ (conn : ℕ) (left : Option (List ℕ)) (b : List ℕ) (steps : List (Step LumberFrame)) (held : List LumberFrame) (at : ℕ) (late : List Call) (part : List ℕ) where
  lumber_move : (talk : Talk) → EndsAtMove (lumberjack conn) left b steps held at late part talk → AreOfConn conn (count (calls_of steps)) late
  lumber_move talk (inl frame) = of_batch conn _ (staged (held ++ frame.0 ∷ [])) _ late part talk frame.3.1
  lumber_move talk (inr last) = of_batch conn _ (staged held) _ late part talk last.2.1

  lumber_ending : (talk : Talk) → Ending (lumberjack conn) left b steps held at late part talk → AreOfConn conn (count (calls_of steps)) late
  lumber_ending talk e = ending_cases (lumberjack conn) left b steps held at late part (λ t. AreOfConn conn (count (calls_of steps)) late) (λ t m. of_last conn _ (staged held) late part m) (λ t none. of_none conn _ late none.0) lumber_move talk e

module _ (tokens : Tokens) (conn : ℕ) (left : Option (List ℕ)) (b : List ℕ) (steps : List (Step HttpItem)) (held : List HttpItem) (at : ℕ) (late : List Call) (part : List ℕ) where
  hec_move : (talk : Talk) → EndsAtMove (hec tokens conn) left b steps held at late part talk → AreOfConn conn (count (calls_of steps)) late
  hec_move talk (inl frame) = of_stop conn _ tokens frame.0 late part talk frame.3
  hec_move talk (inr last) = of_cut conn _ last.0 late part talk last.2

  hec_ending : (talk : Talk) → Ending (hec tokens conn) left b steps held at late part talk → AreOfConn conn (count (calls_of steps)) late
  hec_ending talk e = ending_cases (hec tokens conn) left b steps held at late part (λ t. AreOfConn conn (count (calls_of steps)) late) (λ t m. of_saying conn _ t late part m) (λ t none. of_none conn _ late none.0) hec_move talk e

-- ---- a connection

steps_of : {F : Type 0} (p : Protocol F) (conn : ℕ) → ((before : List (Step F)) (s : Step F) → p.IsMove before s → AreOfConn conn (count (calls_of before)) s.calls) → (before steps : List (Step F)) → AreMoves p before steps → AreOfConn conn (count (calls_of before)) (calls_of steps)
steps_of p conn each before [] are = tt
steps_of p conn each before (s ∷ steps) are =
    let rest = steps_of p conn each (before ++ s ∷ []) steps are.1 in
    let counted : count (calls_of (before ++ s ∷ [])) ≡ count (calls_of before) + count s.calls =
    ap count (calls_then before (s ∷ [])) ∙ count_then (calls_of before) (s.calls ++ []) ∙ ap (λ (n : ℕ). count (calls_of before) + n) (count_then s.calls []) ∙ omega arith in
    of_then conn (count (calls_of before)) s.calls (calls_of steps) (each before s are.0) (subst (λ (i : ℕ). AreOfConn conn i (calls_of steps)) counted rest)

all_of : {F : Type 0} (p : Protocol F) (conn : ℕ) (left : Option (List ℕ)) (b : List ℕ) (calls : List Call) (text : List ℕ) (talk : Talk) (c : Carried p left b calls text talk)
    → ((before : List (Step F)) (s : Step F) → p.IsMove before s → AreOfConn conn (count (calls_of before)) s.calls) → AreOfConn conn (count (calls_of c.steps)) c.late → AreOfConn conn 0 calls
all_of p conn left b calls text talk c each last =
    subst (AreOfConn conn 0) (sym c.made) (of_then conn 0 (calls_of c.steps) c.late (steps_of p conn each [] c.steps c.each) (subst (λ (i : ℕ). AreOfConn conn i c.late) (omega arith) last))

pub calls_are_of_conn : CallsAreOfConn
calls_are_of_conn Relp terms conn left b calls text talk c =
    all_of (relp_runs terms.most conn) conn left b calls text talk c (λ before s move. relp_step terms.most conn before s move) (relp_ending terms.most conn left b c.steps c.held c.at c.late c.part talk c.ending)
calls_are_of_conn Lumberjack terms conn left b calls text talk c =
    all_of (lumberjack conn) conn left b calls text talk c (λ before s move. of_group conn _ _ (Ok move.1.0) s.calls (batch.entries_next conn _ (staged s.frames)) move.1.1) (lumber_ending conn left b c.steps c.held c.at c.late c.part talk c.ending)
calls_are_of_conn Hec terms conn left b calls text talk c =
    all_of (hec terms.tokens conn) conn left b calls text talk c (λ before s move. of_item conn _ terms.tokens move.0 s.calls s.text move.2) (hec_ending terms.tokens conn left b c.steps c.held c.at c.late c.part talk c.ending)
