-- The calls of a connection, by its protocol, are ones that a desk's only caller may make.
use Rattle.std.proofs.Common.{◌≡◌, ◌⊎◌, inl, inr, ℕ, ◌+◌, ◌^◌, ◌≤◌, ◌<◌, List, [], ◌∷◌, ◌++◌, length, refl, sym, ap, subst, arith}
use Rattle.std.specs.Prelude.{All, Bool, true, Option, Result, Ok, Err}
use Rattle.std.proofs.lemmas.List.{length-map}
use Rattle.std.proofs.lemmas.List.Elements.{All-nil, All-cons, All-head}
use Rattle.event_form.specs.declared.event.Entry.{Entry}
use Rattle.event_form.specs.declared.event.Event.{Event}
use Rattle.event_form.specs.declared.talk.Talk.{Talk}
use Rattle.spool_answers.specs.declared.receipt.Receipt.{Receipt}
use Rattle.spool_faults.specs.declared.fault.TakeFault.{TakeFault}
use Rattle.stream_grammar.specs.Framing.{AreSpelled}
use Rattle.relp_frame.specs.declared.frame.Frame.{Frame}
use Rattle.relp_frame.specs.Spelling as relp_frames
use Rattle.relp_frame.proofs.WriteLaws.{spelling_fits}
use Rattle.relp_session.specs.declared.act.RelpAct.{RelpAct}
use Rattle.relp_session.specs.declared.act.RelpAct.TheVariants.{Store, Say, End}
use Rattle.relp_session.specs.declared.request.Request.{Request as Wish}
use Rattle.relp_session.specs.declared.request.Request.TheVariants.{Open, OpenOther, Syslog, Close, Other}
use Rattle.relp_session.specs.declared.state.State.{State}
use Rattle.relp_session.specs.declared.state.State.TheVariants.{Unopened, Opened, Closed}
use Rattle.relp_session.specs.Answer.{IsAnswer, act_of}
use Rattle.http_edge.specs.declared.request.HttpItem.{HttpItem}
use Rattle.http_edge.specs.declared.request.HttpItem.TheVariants.{Continue, Request}
use Rattle.hec_session.specs.Acts.{IsCutBy, IsActFor, event_of}
use Rattle.hec_session.specs.Checks.{task_of}
use Rattle.hec_session.specs.declared.act.HecAct.{HecAct}
use Rattle.hec_session.specs.declared.act.HecAct.TheVariants as hec_act
use Rattle.hec_session.specs.declared.code.HecCode.{HecCode}
use Rattle.hec_session.specs.declared.endpoint.Form.{Form}
use Rattle.hec_session.specs.declared.endpoint.Form.TheVariants.{Objects, Raw}
use Rattle.hec_session.specs.declared.task.Task.{Task}
use Rattle.hec_session.specs.declared.task.Task.TheVariants as task
use Rattle.hec_session.specs.declared.tokens.Tokens.{Tokens}
use Rattle.desk_access.specs.Division.{DividedRun}
use Rattle.desk_access.specs.Batch.{AreNext, AreOfUnit, Belongs, IsPlain}
use Rattle.desk_access.specs.Call.{Call, asks, TookSurely}
use Rattle.desk_access.specs.Step.{Step, frames_of, calls_of, count}
use Rattle.desk_access.specs.Carried.{Carried, Ending, EndsAtMove}
use Rattle.desk_access.proofs.Moves.{ending_cases}
use Rattle.desk_access.proofs.Nexts.{all_left, all_right}
use Rattle.spool_turns.specs.Replays.{MayMake}
use Rattle.conn_serve.specs.Relp.{relp, entry_of, one_take, Carries, IsDue, IsRefused, IsStarved, EndsAtAct}
use Rattle.conn_serve.specs.Hec as collector
use Rattle.conn_serve.specs.Hec.{hec}
use Rattle.bridge_laws.proofs.OnlyCaller.{IsReady, IsDoable, AreSure, may_none, may_plain, may_settle, may_forget, sure_none, sure_group}
use Rattle.bridge_laws.proofs.OnlyCaller.{sure_settled, connection_may}

-- ---- RELP

-- a transaction number is below 10^9
abbrev HasNumber : Frame → Type 0
HasNumber f = f.txnr ≤ 999999999

relp_spelled : (fs : List Frame) (b : List ℕ) → AreSpelled relp_frames.IsSpelling fs b → All HasNumber fs
relp_spelled [] b s = All-nil HasNumber
relp_spelled (f ∷ fs) b (x, y, spells, is, rest) = All-cons HasNumber f fs (spelling_fits f x spells).txnr (relp_spelled fs y rest)

abbrev HasPlainUnit : RelpAct → Type 0
HasPlainUnit (Store event txnr) = txnr < 2 ^ 32
HasPlainUnit act = Unit {0}

row_plain : (state : State) (r : Wish) (f : Frame) → HasNumber f → HasPlainUnit (act_of state r f)
row_plain Opened Syslog f small = omega (arith, small)
row_plain Opened Open f small = tt
row_plain Opened OpenOther f small = tt
row_plain Opened Close f small = tt
row_plain Opened Other f small = tt
row_plain Unopened Open f small = tt
row_plain Unopened OpenOther f small = tt
row_plain Unopened Syslog f small = tt
row_plain Unopened Close f small = tt
row_plain Unopened Other f small = tt
row_plain Closed r f small = tt

answer_plain : (state : State) (f : Frame) (act : RelpAct) → HasNumber f → IsAnswer state f act → HasPlainUnit act
answer_plain state f act small (r, wish, is) = subst HasPlainUnit (sym is) (row_plain state r f small)

module _ (run : DividedRun) (conn : ℕ) (own : List Call) (ready : IsReady run conn own) where
  relp_take : (unit : ℕ) (event : Event) (answer : Result Receipt TakeFault) (calls : List Call) → unit < 2 ^ 32 → calls ≡ one_take conn (count own) unit event answer → MayMake run 1 0 own calls
  relp_take unit event answer calls plain is =
      let entry = entry_of conn (count own) unit event in
      may_plain run conn own (entry ∷ []) answer calls ready (refl, refl, tt) (All-cons IsPlain entry [] plain (All-nil IsPlain)) is

  relp_carried : (act : RelpAct) (calls : List Call) (text : List ℕ) → HasPlainUnit act → Carries conn (count own) act calls text
      → IsDoable run conn own calls
  relp_carried (Store event txnr) calls text plain c = (
    relp_take txnr event (Ok c.0) calls plain c.1,
    sure_group conn (count own) (entry_of conn (count own) txnr event ∷ []) c.0 calls
        (refl, refl, tt) c.1,
  )
  relp_carried (Say answer) calls text plain c = (may_none run conn own calls c.0, sure_none conn calls c.0)
  relp_carried (End answer) calls text plain c = absurd c

  relp_due : (act : RelpAct) (late : List Call) (text : List ℕ) → HasPlainUnit act → IsDue conn (count own) act late text
      → MayMake run 1 0 own late
  relp_due (Store event txnr) late text plain (inl stored) = relp_take txnr event (Ok stored.0) late plain stored.1
  relp_due (Store event txnr) late text plain (inr refused) = relp_take txnr event (Err refused.0) late plain refused.2
  relp_due (Say answer) late text plain due = may_none run conn own late due.0
  relp_due (End answer) late text plain due = may_none run conn own late due.0

  relp_refused : (act : RelpAct) (late : List Call) (part : List ℕ) (talk : Talk) → HasPlainUnit act → IsRefused conn
      (count own) act late part talk → MayMake run 1 0 own late
  relp_refused (Store event txnr) late part talk plain r = relp_take txnr event (Err r.0) late plain r.1
  relp_refused (Say answer) late part talk plain r = absurd r
  relp_refused (End answer) late part talk plain r = absurd r

  relp_starved : (act : RelpAct) (late : List Call) → HasPlainUnit act → IsStarved conn (count own) act late → MayMake run 1 0 own late
  relp_starved (Store event txnr) late plain s = relp_take txnr event (Err s.0) late plain s.2
  relp_starved (Say answer) late plain s = absurd s
  relp_starved (End answer) late plain s = absurd s

  relp_ends : (act : RelpAct) (late : List Call) (part : List ℕ) (talk : Talk) → HasPlainUnit act → EndsAtAct conn
      (count own) act late part talk → MayMake run 1 0 own late
  relp_ends act late part Talk.Closed plain e = may_none run conn own late e.1
  relp_ends act late part Talk.WriteFault plain e = relp_due act late e.0 plain e.2
  relp_ends act late part Talk.NoMemory plain e = relp_starved act late plain e.0
  relp_ends act late part talk plain e = relp_refused act late part talk plain e

module _ (run : DividedRun) (conn : ℕ) (left : Option (List ℕ)) (b : List ℕ) (steps : List (Step Frame)) (held : List Frame) (at : ℕ) (late : List Call) (part : List ℕ) (ready : IsReady run conn (calls_of steps)) where
  relp_move : (talk : Talk) → EndsAtMove (relp conn) left b steps held at late part talk → MayMake run 1 0 (calls_of steps) late
  relp_move talk (inl frame) =
      let here =
      All-head HasNumber frame.0 [] (all_right HasNumber (frames_of steps ++ held) (frame.0 ∷ []) (relp_spelled _ _ frame.2.spelled)) in
      relp_ends run conn (calls_of steps) ready frame.3.0 late part talk (answer_plain _ frame.0 frame.3.0 here frame.3.1) frame.3.2
  relp_move talk (inr last) = absurd last.2

  relp_last : (talk : Talk) → Ending (relp conn) left b steps held at late part talk → MayMake run 1 0 (calls_of steps) late
  relp_last talk e =
      ending_cases (relp conn) left b steps held at late part (λ t. MayMake run 1 0 (calls_of steps) late)
      (λ t none. may_none run conn (calls_of steps) late none.0)
      (λ t none. may_none run conn (calls_of steps) late none.0) relp_move talk e

pub relp_may : (run : DividedRun) (conn : ℕ) (left : Option (List ℕ)) (b : List ℕ) (calls : List Call) (text : List ℕ) (talk : Talk) → Belongs run 0 conn → Carried (relp conn) left b calls text talk → MayMake run 1 0 [] calls
relp_may run conn left b calls text talk belongs c =
    connection_may (relp conn) HasNumber run conn
    (λ before s fits move ready.
    let here = All-head HasNumber move.0 [] (subst (All HasNumber) move.1 fits) in
    relp_carried run conn (calls_of before) ready move.2.0 s.calls s.text (answer_plain _ move.0 move.2.0 here move.2.1) move.2.2)
    left b calls text talk c belongs (all_left HasNumber (frames_of c.steps) c.held (relp_spelled _ _ c.front.spelled))
    (λ ready. relp_last run conn left b c.steps c.held c.at c.late c.part ready talk c.ending)

-- ---- the collector

hec_next : (conn index unit : ℕ) (events : List Event) → AreNext conn index (collector.entries_of conn index unit events)
hec_next conn index unit [] = tt
hec_next conn index unit (event ∷ events) = (refl, refl, hec_next conn (index + 1) unit events)

hec_unit : (conn index unit : ℕ) (events : List Event) → AreOfUnit unit (collector.entries_of conn index unit events)
hec_unit conn index unit [] = All-nil (λ (e : Entry). e.unit ≡ unit)
hec_unit conn index unit (event ∷ events) =
    All-cons (λ (e : Entry). e.unit ≡ unit) (entry_of conn index unit event) (collector.entries_of conn (index + 1) unit events) refl
    (hec_unit conn (index + 1) unit events)

hec_plain : (conn index : ℕ) (events : List Event) → All IsPlain (collector.entries_of conn index 0 events)
hec_plain conn index [] = All-nil IsPlain
hec_plain conn index (event ∷ events) =
    All-cons IsPlain (entry_of conn index 0 event) (collector.entries_of conn (index + 1) 0 events) (omega arith)
    (hec_plain conn (index + 1) events)

hec_count : (conn index unit : ℕ) (events : List Event) → length (collector.entries_of conn index unit events) ≡ length events
hec_count conn index unit [] = refl
hec_count conn index unit (event ∷ events) = omega (arith, hec_count conn (index + 1) unit events)

-- events that are stored under an id are some
abbrev HasSome : HecAct → Type 0
HasSome (hec_act.SayThenStore channel events) = 0 < length events.items
HasSome act = Unit {0}

cut_some : (form : Form) (body : List ℕ) (texts : List (List ℕ)) → IsCutBy form body (Ok texts) → 0 < length texts
cut_some Objects body texts cut = cut.1.some
cut_some Raw body texts cut = cut.1.some

act_some : (body : List ℕ) (due : Result Task HecCode) (act : HecAct) → IsActFor body due act → HasSome act
act_some body (Ok (task.Store form)) (hec_act.SayThenStore channel events) is = absurd is
act_some body (Ok (task.StoreOn form on)) (hec_act.SayThenStore channel events) is =
    let some = cut_some form body is.1.0 is.1.1 in
    omega (arith, some, ap length is.1.2, length-map is.1.0 (event_of form))
act_some body (Ok (task.AskOn on)) (hec_act.SayThenStore channel events) is = absurd is
act_some body (Err code) (hec_act.SayThenStore channel events) is = absurd (cc is)
act_some body due (hec_act.Say say) is = tt
act_some body due (hec_act.StoreThenSay events) is = tt
act_some body due (hec_act.Ask channel ids) is = tt

module _ (run : DividedRun) (conn : ℕ) (own : List Call) (ready : IsReady run conn own) where
  hec_take : (events : List Event) (answer : Result Receipt TakeFault) (calls : List Call) → calls ≡ collector.takes_all conn (count own) 0 events answer ∷ [] → MayMake run 1 0 own calls
  hec_take events answer calls is = may_plain run conn own (collector.entries_of conn (count own) 0 events) answer calls ready (hec_next conn (count own) 0 events) (hec_plain conn (count own) events) is

  hec_done : (act : HecAct) (closing : Bool) (calls : List Call) (text : List ℕ) → HasSome act → collector.IsDone conn
      (count own) act closing calls text → IsDoable run conn own calls
  hec_done (hec_act.Say say) closing calls text some d = (may_none run conn own calls d.2, sure_none conn calls d.2)
  hec_done (hec_act.StoreThenSay events) closing calls text some d = (
    hec_take events.items (Ok d.0) calls d.1,
    sure_group conn (count own)
        (collector.entries_of conn (count own) 0 events.items) d.0 calls (hec_next conn (count own) 0 events.items) d.1,
  )
  hec_done (hec_act.SayThenStore channel events) closing calls text some (id, receipt, unsettled, made, said) =
      let group = collector.entries_of conn (count own) id events.items in
      let follow = hec_next conn (count own) id events.items in (
        may_settle run conn own channel id group receipt unsettled calls ready follow (hec_unit conn (count own) id events.items)
            (omega (arith, some, hec_count conn (count own) id events.items)) made,
        sure_settled conn (count own) channel id group receipt unsettled calls follow made,
      )
  hec_done (hec_act.Ask channel ids) closing calls text some d = (
    subst (MayMake run 1 0 own) (sym d.1) (tt, tt),
    subst (AreSure conn) (sym d.1) (
      All-cons TookSurely (asks channel ids.items d.0) [] tt (All-nil TookSurely),
      All-nil
          (λ (e : Entry). e.conn ≡ conn),
    ),
  )

  hec_refused : (act : HecAct) (late : List Call) (part : List ℕ) (talk : Talk) → collector.IsRefused conn (count own) act late part talk
      → MayMake run 1 0 own late
  hec_refused (hec_act.Say say) late part talk r = absurd r
  hec_refused (hec_act.StoreThenSay events) late part talk r = hec_take events.items (Err r.0) late r.1
  hec_refused (hec_act.SayThenStore channel events) late part talk r = subst (MayMake run 1 0 own) (sym r.1) (tt, tt)
  hec_refused (hec_act.Ask channel ids) late part talk r = absurd r

  hec_unstored : (act : HecAct) (closing : Bool) (late : List Call) (part : List ℕ) (talk : Talk) → collector.IsUnstored conn
      (count own) act closing late part talk → MayMake run 1 0 own late
  hec_unstored (hec_act.Say say) closing late part talk u = absurd u
  hec_unstored (hec_act.StoreThenSay events) closing late part talk u = absurd u
  hec_unstored (hec_act.SayThenStore channel events) closing late part talk (id, fault, held, made, said, is) =
      may_forget run conn own channel id (collector.entries_of conn (count own) id events.items) (Err fault) held late ready
      (hec_next conn (count own) id events.items) (hec_unit conn (count own) id events.items) made
  hec_unstored (hec_act.Ask channel ids) closing late part talk u = absurd u

  hec_either : (act : HecAct) (closing : Bool) (late : List Call) (part : List ℕ) (talk : Talk) → collector.IsRefused conn
      (count own) act late part talk ⊎ collector.IsUnstored conn (count own) act closing late part talk → MayMake run 1 0 own late
  hec_either act closing late part talk (inl refused) = hec_refused act late part talk refused
  hec_either act closing late part talk (inr unstored) = hec_unstored act closing late part talk unstored

  hec_forgotten : (channel id : ℕ) (calls : List Call) → collector.IsForgotten channel id calls → MayMake run 1 0 own calls
  hec_forgotten channel id calls f = subst (MayMake run 1 0 own) (sym f.1) (tt, (tt, tt))

  hec_starved : (act : HecAct) (late : List Call) → collector.IsStarved act late → MayMake run 1 0 own late
  hec_starved (hec_act.Say say) late s = absurd s
  hec_starved (hec_act.StoreThenSay events) late s = absurd s
  hec_starved (hec_act.SayThenStore channel events) late s = hec_forgotten channel s.0 late s.1
  hec_starved (hec_act.Ask channel ids) late s = subst (MayMake run 1 0 own) (sym s.1) (tt, tt)

  hec_due : (act : HecAct) (closing : Bool) (late : List Call) (text : List ℕ) → HasSome act → collector.IsDue conn
      (count own) act closing late text → MayMake run 1 0 own late
  hec_due (hec_act.SayThenStore channel events) closing late text some (inl forgotten) = hec_forgotten channel forgotten.0 late forgotten.1
  hec_due (hec_act.SayThenStore channel events) closing late text some (inr refused) =
      hec_refused (hec_act.SayThenStore channel events) late text refused.0 refused.1
  hec_due (hec_act.Say say) closing late text some (inl done) = (hec_done (hec_act.Say say) closing late text some done).0
  hec_due (hec_act.Say say) closing late text some (inr refused) = absurd refused.1
  hec_due (hec_act.StoreThenSay events) closing late text some (inl done) =
      (hec_done (hec_act.StoreThenSay events) closing late text some done).0
  hec_due (hec_act.StoreThenSay events) closing late text some (inr refused) =
      hec_refused (hec_act.StoreThenSay events) late text refused.0 refused.1
  hec_due (hec_act.Ask channel ids) closing late text some (inl done) = (hec_done (hec_act.Ask channel ids) closing late text some done).0
  hec_due (hec_act.Ask channel ids) closing late text some (inr refused) = absurd refused.1

  hec_ends : (act : HecAct) (closing : Bool) (late : List Call) (part : List ℕ) (talk : Talk) → HasSome act → collector.EndsAtAct conn
      (count own) act closing late part talk → MayMake run 1 0 own late
  hec_ends act closing late part Talk.Closed some e = (hec_done act true late part some e.1).0
  hec_ends act closing late part Talk.WriteFault some e = hec_due act closing late e.0 some e.1
  hec_ends act closing late part Talk.NoMemory some (inl starved) = hec_starved act late starved.0
  hec_ends act closing late part Talk.NoMemory some (inr either) = hec_either act closing late part Talk.NoMemory either
  hec_ends act closing late part talk some e = hec_either act closing late part talk e

  hec_item : (tokens : Tokens) (item : HttpItem) (calls : List Call) (text : List ℕ) → collector.CarriesItem tokens conn
      (count own) item calls text → IsDoable run conn own calls
  hec_item tokens Continue calls text c = (may_none run conn own calls c.0, sure_none conn calls c.0)
  hec_item tokens (Request r) calls text c = hec_done c.0 _ calls text (act_some r.body (task_of tokens r) c.0 c.1) c.3

  hec_stop : (tokens : Tokens) (item : HttpItem) (late : List Call) (part : List ℕ) (talk : Talk) → collector.StopsAtItem tokens conn
      (count own) item late part talk → MayMake run 1 0 own late
  hec_stop tokens Continue late part Talk.WriteFault s = may_none run conn own late s.0
  hec_stop tokens Continue late part talk s = absurd s
  hec_stop tokens (Request r) late part talk s = hec_ends s.0 _ late part talk (act_some r.body (task_of tokens r) s.0 s.1) s.2

  hec_saying : (over : Talk) (late : List Call) (part : List ℕ) → collector.SaysLast over late part → MayMake run 1 0 own late
  hec_saying (Talk.Fault at why) late part s = may_none run conn own late s.0
  hec_saying over late part s = may_none run conn own late s.0

  hec_cut : (over : Talk) (late : List Call) (part : List ℕ) (talk : Talk) → collector.StopsSaying over late part talk
      → MayMake run 1 0 own late
  hec_cut (Talk.Fault at why) late part Talk.WriteFault s = may_none run conn own late s.0
  hec_cut over late part talk s = absurd s

module _ (tokens : Tokens) (run : DividedRun) (conn : ℕ) (left : Option (List ℕ)) (b : List ℕ) (steps : List (Step HttpItem)) (held : List HttpItem) (at : ℕ) (late : List Call) (part : List ℕ) (ready : IsReady run conn (calls_of steps)) where
  hec_move : (talk : Talk) → EndsAtMove (hec tokens conn) left b steps held at late part talk → MayMake run 1 0 (calls_of steps) late
  hec_move talk (inl frame) = hec_stop run conn (calls_of steps) ready tokens frame.0 late part talk frame.3
  hec_move talk (inr last) = hec_cut run conn (calls_of steps) ready last.0 late part talk last.2

  hec_last : (talk : Talk) → Ending (hec tokens conn) left b steps held at late part talk → MayMake run 1 0 (calls_of steps) late
  hec_last talk e =
      ending_cases (hec tokens conn) left b steps held at late part (λ t. MayMake run 1 0 (calls_of steps) late)
      (λ t m. hec_saying run conn (calls_of steps) ready t late part m)
      (λ t none. may_none run conn (calls_of steps) late none.0) hec_move talk e

abbrev AnyItem : HttpItem → Type 0
AnyItem item = Unit {0}

pub hec_may : (tokens : Tokens) (run : DividedRun) (conn : ℕ) (left : Option (List ℕ)) (b : List ℕ) (calls : List Call) (text : List ℕ) (talk : Talk) → Belongs run 0 conn → Carried (hec tokens conn) left b calls text talk → MayMake run 1 0 [] calls
hec_may tokens run conn left b calls text talk belongs c =
    connection_may (hec tokens conn) AnyItem run conn
    (λ before s fits move ready. hec_item run conn (calls_of before) ready tokens move.0 s.calls s.text move.2)
    left b calls text talk c belongs (λ k d lt. tt)
    (λ ready. hec_last tokens run conn left b c.steps c.held c.at c.late c.part ready talk c.ending)
