-- Which calls of a connection were answered that the disk failed: one where it ended so, and else none.
use Rattle.std.proofs.Common.{◌≡◌, ◌⊎◌, inl, inr, ℕ, List, [], ◌∷◌, ◌++◌, length, Bool, true, false, Option, refl, sym, ◌∙◌, ap, subst, arith}
use Rattle.std.specs.Prelude.{Ok, Err}
use Rattle.event_form.specs.declared.event.Entry.{Entry}
use Rattle.event_form.specs.declared.talk.Talk.{Talk}
use Rattle.edge_io.specs.declared.proto.Proto.{Proto}
use Rattle.edge_io.specs.declared.proto.Proto.TheVariants.{Relp, Lumberjack, Hec}
use Rattle.spool_faults.specs.declared.fault.TakeFault.{TakeFault}
use Rattle.spool_faults.specs.declared.fault.TakeFault.TheVariants as Take
use Rattle.spool_answers.specs.Take.{IsRefusal}
use Rattle.hec_ids.specs.declared.fault.IssueFault.{IssueFault}
use Rattle.hec_ids.specs.declared.fault.IssueFault.TheVariants as issue
use Rattle.hec_session.specs.declared.act.HecAct.{HecAct}
use Rattle.hec_session.specs.declared.act.HecAct.TheVariants as hec_act
use Rattle.hec_session.specs.declared.tokens.Tokens.{Tokens}
use Rattle.http_edge.specs.declared.request.HttpItem.{HttpItem}
use Rattle.http_edge.specs.declared.request.HttpItem.TheVariants.{Continue, Request}
use Rattle.desk_access.specs.Call.{Call, takes, issues, forgets, failures_of}
use Rattle.desk_access.specs.Journal.{failures_then}
use Rattle.relp_frame.specs.declared.frame.Frame.{Frame}
use Rattle.relp_session.specs.declared.act.RelpAct.{RelpAct}
use Rattle.relp_session.specs.declared.act.RelpAct.TheVariants.{Store, Say, End}
use Rattle.lumber_frame.specs.declared.frame.LumberFrame.{LumberFrame}
use Rattle.lumber_session.specs.Staged.{Staged}
use Rattle.desk_access.specs.Step.{Step, calls_of}
use Rattle.desk_access.specs.Protocol.{Protocol, AreMoves}
use Rattle.desk_access.specs.Carried.{Carried, Ending, EndsAtMove}
use Rattle.desk_access.proofs.Moves.{ending_cases}
use Rattle.conn_serve.specs.Relp.{entry_of, one_take, talk_of, Carries, IsDue, IsRefused, IsStarved, EndsAtAct}
use Rattle.conn_serve.specs.Runs.{relp_runs, IsDueFor, EndsAtRun}
use Rattle.conn_serve.specs.Lumber.{lumberjack, EndsAtGroup, StoresLast}
use Rattle.conn_serve.specs.Hec as collector
use Rattle.conn_serve.specs.Hec.{hec, talk_of_issue}
use Rattle.conn_serve.specs.DiskFaults.{TellsFailures, DiskFaultIsTold}

-- the connection ended by another fault than the disk's
abbrev IsOther : Talk → Type 0
IsOther talk = talk ≡ Talk.DiskFault → ⊥

-- no call was, or one whose reply was cut short
abbrev Quiet : Proto → ℕ → Talk → Type 0
Quiet proto failures talk = (failures ≡ 0) ⊎ ((proto ≡ Hec) × (talk ≡ Talk.WriteFault) × (failures ≡ 1))

-- ---- one take

err_quiet : (group : List Entry) (fault : TakeFault) → (fault ≡ Take.DiskFault → ⊥) → failures_of (takes group (Err fault) ∷ []) ≡ 0
err_quiet group (Take.TooLarge need most) other = refl
err_quiet group (Take.Spent end) other = refl
err_quiet group (Take.Full need room) other = refl
err_quiet group (Take.NotSpool at) other = refl
err_quiet group Take.NoMemory other = refl
err_quiet group Take.DiskFault other = absurd (other refl)

refusal_other : (fault : TakeFault) → IsRefusal fault → fault ≡ Take.DiskFault → ⊥
refusal_other (Take.TooLarge need most) refused is = absurd (cc)
refusal_other (Take.Spent end) refused is = absurd (cc)
refusal_other (Take.Full need room) refused is = absurd (cc)
refusal_other (Take.NotSpool at) refused is = absurd (cc)
refusal_other Take.NoMemory refused is = absurd (cc)
refusal_other Take.DiskFault refused is = refused

fault_of_disk : (fault : TakeFault) → Talk.DiskFault ≡ talk_of fault → fault ≡ Take.DiskFault
fault_of_disk (Take.TooLarge need most) is = absurd (cc)
fault_of_disk (Take.Spent end) is = absurd (cc)
fault_of_disk (Take.Full need room) is = absurd (cc)
fault_of_disk (Take.NotSpool at) is = absurd (cc)
fault_of_disk Take.NoMemory is = absurd (cc)
fault_of_disk Take.DiskFault is = refl

-- ---- RELP

carries_quiet : (conn index : ℕ) (act : RelpAct) (calls : List Call) (text : List ℕ) → Carries conn index act calls text → failures_of calls ≡ 0
carries_quiet conn index (Store event txnr) calls text c = ap failures_of c.1
carries_quiet conn index (Say answer) calls text c = ap failures_of c.0
carries_quiet conn index (End answer) calls text c = absurd c

due_quiet : (conn index : ℕ) (act : RelpAct) (late : List Call) (text : List ℕ) → IsDue conn index act late text → failures_of late ≡ 0
due_quiet conn index (Store event txnr) late text (inl stored) = ap failures_of stored.1
due_quiet conn index (Store event txnr) late text (inr refused) = ap failures_of refused.2 ∙ err_quiet (entry_of conn index txnr event ∷ []) refused.0 (refusal_other refused.0 refused.1)
due_quiet conn index (Say answer) late text due = ap failures_of due.0
due_quiet conn index (End answer) late text due = ap failures_of due.0

starved_other : (fault : TakeFault) → IsRefusal fault ⊎ (fault ≡ Take.NoMemory) → fault ≡ Take.DiskFault → ⊥
starved_other fault (inl refused) is = refusal_other fault refused is
starved_other fault (inr starved) is = cc

starved_quiet : (conn index : ℕ) (act : RelpAct) (late : List Call) → IsStarved conn index act late → failures_of late ≡ 0
starved_quiet conn index (Store event txnr) late s = ap failures_of s.2 ∙ err_quiet (entry_of conn index txnr event ∷ []) s.0 (starved_other s.0 s.1)
starved_quiet conn index (Say answer) late s = absurd s
starved_quiet conn index (End answer) late s = absurd s

refused_quiet : (conn index : ℕ) (act : RelpAct) (late : List Call) (part : List ℕ) (talk : Talk) → IsRefused conn index act late part talk → IsOther talk → failures_of late ≡ 0
refused_quiet conn index (Store event txnr) late part talk r other = ap failures_of r.1 ∙ err_quiet (entry_of conn index txnr event ∷ []) r.0 (λ is. other (r.2 ∙ ap talk_of is))
refused_quiet conn index (Say answer) late part talk r other = absurd r
refused_quiet conn index (End answer) late part talk r other = absurd r

act_quiet : (conn index : ℕ) (act : RelpAct) (late : List Call) (part : List ℕ) (talk : Talk) → EndsAtAct conn index act late part talk → IsOther talk → failures_of late ≡ 0
act_quiet conn index act late part Talk.Closed e other = ap failures_of e.1
act_quiet conn index act late part Talk.WriteFault e other = due_quiet conn index act late e.0 e.2
act_quiet conn index act late part Talk.NoMemory e other = starved_quiet conn index act late e.0
act_quiet conn index act late part talk e other = refused_quiet conn index act late part talk e other

refused_by_disk : (conn index : ℕ) (act : RelpAct) (late : List Call) (part : List ℕ) → IsRefused conn index act late part Talk.DiskFault → failures_of late ≡ 1
refused_by_disk conn index (Store event txnr) late part r =
    ap failures_of r.1 ∙ ap (λ (fault : TakeFault). failures_of (one_take conn index txnr event (Err fault))) (fault_of_disk r.0 r.2)
refused_by_disk conn index (Say answer) late part r = absurd r
refused_by_disk conn index (End answer) late part r = absurd r

-- a run
run_due_quiet : (entries : List Entry) (late : List Call) (text : List ℕ) → IsDueFor entries late text → failures_of late ≡ 0
run_due_quiet entries late text (inl stored) = ap failures_of stored.1
run_due_quiet entries late text (inr refused) = ap failures_of refused.3 ∙ err_quiet entries refused.0 (refusal_other refused.0 refused.1)

run_starved : (entries : List Entry) (fault : TakeFault) → (IsRefusal fault × (length entries ≡ 1)) ⊎ (fault ≡ Take.NoMemory) → fault ≡ Take.DiskFault → ⊥
run_starved entries fault (inl refused) is = refusal_other fault refused.0 is
run_starved entries fault (inr starved) is = cc

run_quiet : (entries : List Entry) (late : List Call) (part : List ℕ) (talk : Talk) → EndsAtRun entries late part talk → IsOther talk → failures_of late ≡ 0
run_quiet entries late part Talk.WriteFault e other = run_due_quiet entries late e.0 e.2
run_quiet entries late part Talk.NoMemory e other = ap failures_of e.2 ∙ err_quiet entries e.0 (run_starved entries e.0 e.1)
run_quiet entries late part talk e other = ap failures_of e.2 ∙ err_quiet entries e.0 (λ is. other (e.3 ∙ ap talk_of is))

run_by_disk : (entries : List Entry) (late : List Call) (part : List ℕ) → EndsAtRun entries late part Talk.DiskFault → failures_of late ≡ 1
run_by_disk entries late part e = ap failures_of e.2 ∙ ap (λ (fault : TakeFault). failures_of (takes entries (Err fault) ∷ [])) (fault_of_disk e.0 e.3)

relp_move_quiet : (most conn : ℕ) (before : List (Step Frame)) (s : Step Frame) → (relp_runs most conn).IsMove before s → failures_of s.calls ≡ 0
relp_move_quiet most conn before s (inl move) = carries_quiet conn _ move.2.0 s.calls s.text move.2.2
relp_move_quiet most conn before s (inr run) = ap failures_of run.stores

module _ (most conn : ℕ) (left : Option (List ℕ)) (b : List ℕ) (steps : List (Step Frame)) (held : List Frame) (at : ℕ) (late : List Call) (part : List ℕ) where
  relp_by_disk : EndsAtMove (relp_runs most conn) left b steps held at late part Talk.DiskFault → failures_of late ≡ 1
  relp_by_disk (inl (f, end, front, inl stops)) = refused_by_disk conn _ stops.1.0 late part stops.1.2
  relp_by_disk (inl (f, end, front, inr run)) = run_by_disk run.0 late part run.2
  relp_by_disk (inr last) = absurd last.2

  relp_move : (talk : Talk) → EndsAtMove (relp_runs most conn) left b steps held at late part talk → IsOther talk → failures_of late ≡ 0
  relp_move talk (inl (f, end, front, inl stops)) other = act_quiet conn _ stops.1.0 late part talk stops.1.2 other
  relp_move talk (inl (f, end, front, inr run)) other = run_quiet run.0 late part talk run.2 other
  relp_move talk (inr last) other = absurd last.2

  relp_quiet : (talk : Talk) → Ending (relp_runs most conn) left b steps held at late part talk → IsOther talk → failures_of late ≡ 0
  relp_quiet talk e = ending_cases (relp_runs most conn) left b steps held at late part (λ t. IsOther t → failures_of late ≡ 0) (λ t none other. ap failures_of none.1.0) (λ t none other. ap failures_of none.0) relp_move talk e

-- ---- Lumberjack

group_by_disk : (group : List Entry) (late : List Call) (part : List ℕ) → EndsAtGroup group 0 late part Talk.DiskFault → failures_of late ≡ 1
group_by_disk group late part e = ap failures_of e.1 ∙ ap (λ (fault : TakeFault). failures_of (takes group (Err fault) ∷ [])) (fault_of_disk e.0 e.2)

group_quiet : (group : List Entry) (seq : ℕ) (late : List Call) (part : List ℕ) (talk : Talk) → EndsAtGroup group seq late part talk → IsOther talk → failures_of late ≡ 0
group_quiet group seq late part Talk.WriteFault e other = ap failures_of e.2
group_quiet group seq late part talk e other = ap failures_of e.1 ∙ err_quiet group e.0 (λ is. other (e.2 ∙ ap talk_of is))

last_quiet : (conn index : ℕ) (events : List Staged) (late : List Call) (part : List ℕ) → StoresLast conn index events late part → failures_of late ≡ 0
last_quiet conn index [] late part none = ap failures_of none.0
last_quiet conn index (s ∷ more) late part stored = ap failures_of stored.1

module _ (conn : ℕ) (left : Option (List ℕ)) (b : List ℕ) (steps : List (Step LumberFrame)) (held : List LumberFrame) (at : ℕ) (late : List Call) (part : List ℕ) where
  lumber_by_disk : EndsAtMove (lumberjack conn) left b steps held at late part Talk.DiskFault → failures_of late ≡ 1
  lumber_by_disk (inl frame) = group_by_disk _ late part frame.3.1
  lumber_by_disk (inr last) = group_by_disk _ late part last.2.1

  lumber_move : (talk : Talk) → EndsAtMove (lumberjack conn) left b steps held at late part talk → IsOther talk → failures_of late ≡ 0
  lumber_move talk (inl frame) other = group_quiet _ _ late part talk frame.3.1 other
  lumber_move talk (inr last) other = group_quiet _ _ late part talk last.2.1 other

  lumber_quiet : (talk : Talk) → Ending (lumberjack conn) left b steps held at late part talk → IsOther talk → failures_of late ≡ 0
  lumber_quiet talk e = ending_cases (lumberjack conn) left b steps held at late part (λ t. IsOther t → failures_of late ≡ 0) (λ t m other. last_quiet conn _ _ late part m) (λ t none other. ap failures_of none.0) lumber_move talk e

-- ---- the collector

issue_other : (fault : IssueFault) → Talk.DiskFault ≡ talk_of_issue fault → ⊥
issue_other (issue.NoMore run) is = cc
issue_other (issue.Busy held) is = cc
issue_other issue.NoMemory is = cc

-- one call at most
err_some : (group : List Entry) (fault : TakeFault) → (failures_of (takes group (Err fault) ∷ []) ≡ 0) ⊎ (failures_of (takes group (Err fault) ∷ []) ≡ 1)
err_some group (Take.TooLarge need most) = inl refl
err_some group (Take.Spent end) = inl refl
err_some group (Take.Full need room) = inl refl
err_some group (Take.NotSpool at) = inl refl
err_some group Take.NoMemory = inl refl
err_some group Take.DiskFault = inr refl

err_by_disk : (group : List Entry) (fault : TakeFault) → Talk.DiskFault ≡ talk_of fault → failures_of (takes group (Err fault) ∷ []) ≡ 1
err_by_disk group fault is = ap (λ (f : TakeFault). failures_of (takes group (Err f) ∷ [])) (fault_of_disk fault is)

-- an id was issued before, and forgotten after
under_id : (channel id : ℕ) (group : List Entry) (fault : TakeFault) (held : Bool) → failures_of (issues channel (Ok id) ∷ takes group (Err fault) ∷ forgets channel id held ∷ []) ≡ failures_of (takes group (Err fault) ∷ [])
under_id channel id group fault held = omega arith

module _ (conn index : ℕ) where
  done_quiet : (act : HecAct) (closing : Bool) (calls : List Call) (text : List ℕ) → collector.IsDone conn index act closing calls text → failures_of calls ≡ 0
  done_quiet (hec_act.Say say) closing calls text d = ap failures_of d.2
  done_quiet (hec_act.StoreThenSay events) closing calls text d = ap failures_of d.1
  done_quiet (hec_act.SayThenStore channel events) closing calls text d = ap failures_of d.3
  done_quiet (hec_act.Ask channel ids) closing calls text d = ap failures_of d.1

  denied_quiet : (act : HecAct) (late : List Call) (part : List ℕ) (talk : Talk) → collector.IsRefused conn index act late part talk → IsOther talk → failures_of late ≡ 0
  denied_quiet (hec_act.Say say) late part talk r other = absurd r
  denied_quiet (hec_act.StoreThenSay events) late part talk (fault, took, said, is) other =
      ap failures_of took ∙ err_quiet (collector.entries_of conn index 0 events.items) fault (λ by. other (is ∙ ap talk_of by))
  denied_quiet (hec_act.SayThenStore channel events) late part talk (fault, issued, said, is) other = ap failures_of issued
  denied_quiet (hec_act.Ask channel ids) late part talk r other = absurd r

  denied_some : (act : HecAct) (late : List Call) (part : List ℕ) (talk : Talk) → collector.IsRefused conn index act late part talk → (failures_of late ≡ 0) ⊎ (failures_of late ≡ 1)
  denied_some (hec_act.Say say) late part talk r = absurd r
  denied_some (hec_act.StoreThenSay events) late part talk (fault, took, said, is) = elim (err_some (collector.entries_of conn index 0 events.items) fault) [ inl none ↦ inl (ap failures_of took ∙ none) | inr one ↦ inr (ap failures_of took ∙ one) ]
  denied_some (hec_act.SayThenStore channel events) late part talk (fault, issued, said, is) = inl (ap failures_of issued)
  denied_some (hec_act.Ask channel ids) late part talk r = absurd r

  denied_by_disk : (act : HecAct) (late : List Call) (part : List ℕ) → collector.IsRefused conn index act late part Talk.DiskFault → failures_of late ≡ 1
  denied_by_disk (hec_act.Say say) late part r = absurd r
  denied_by_disk (hec_act.StoreThenSay events) late part (fault, took, said, is) = ap failures_of took ∙ err_by_disk (collector.entries_of conn index 0 events.items) fault is
  denied_by_disk (hec_act.SayThenStore channel events) late part (fault, issued, said, is) = absurd (issue_other fault is)
  denied_by_disk (hec_act.Ask channel ids) late part r = absurd r

  unstored_quiet : (act : HecAct) (closing : Bool) (late : List Call) (part : List ℕ) (talk : Talk) → collector.IsUnstored conn index act closing late part talk → IsOther talk → failures_of late ≡ 0
  unstored_quiet (hec_act.Say say) closing late part talk u other = absurd u
  unstored_quiet (hec_act.StoreThenSay events) closing late part talk u other = absurd u
  unstored_quiet (hec_act.SayThenStore channel events) closing late part talk (id, fault, held, made, said, is) other =
      let group = collector.entries_of conn index id events.items in
      ap failures_of made ∙ under_id channel id group fault held ∙ err_quiet group fault (λ by. other (is ∙ ap talk_of by))
  unstored_quiet (hec_act.Ask channel ids) closing late part talk u other = absurd u

  unstored_by_disk : (act : HecAct) (closing : Bool) (late : List Call) (part : List ℕ) → collector.IsUnstored conn index act closing late part Talk.DiskFault → failures_of late ≡ 1
  unstored_by_disk (hec_act.Say say) closing late part u = absurd u
  unstored_by_disk (hec_act.StoreThenSay events) closing late part u = absurd u
  unstored_by_disk (hec_act.SayThenStore channel events) closing late part (id, fault, held, made, said, is) =
      let group = collector.entries_of conn index id events.items in
      ap failures_of made ∙ under_id channel id group fault held ∙ err_by_disk group fault is
  unstored_by_disk (hec_act.Ask channel ids) closing late part u = absurd u

  wanting_quiet : (act : HecAct) (late : List Call) → collector.IsStarved act late → failures_of late ≡ 0
  wanting_quiet (hec_act.Say say) late s = absurd s
  wanting_quiet (hec_act.StoreThenSay events) late s = absurd s
  wanting_quiet (hec_act.SayThenStore channel events) late (id, (held, made)) = ap failures_of made
  wanting_quiet (hec_act.Ask channel ids) late (known, asked) = ap failures_of asked

  owed_some : (act : HecAct) (closing : Bool) (late : List Call) (text : List ℕ) → collector.IsDue conn index act closing late text → (failures_of late ≡ 0) ⊎ (failures_of late ≡ 1)
  owed_some (hec_act.SayThenStore channel events) closing late text (inl (id, (held, made), said)) = inl (ap failures_of made)
  owed_some (hec_act.SayThenStore channel events) closing late text (inr (talk, refused)) = denied_some (hec_act.SayThenStore channel events) late text talk refused
  owed_some (hec_act.Say say) closing late text (inl done) = inl (done_quiet (hec_act.Say say) closing late text done)
  owed_some (hec_act.Say say) closing late text (inr (talk, refused)) = absurd refused
  owed_some (hec_act.StoreThenSay events) closing late text (inl done) = inl (done_quiet (hec_act.StoreThenSay events) closing late text done)
  owed_some (hec_act.StoreThenSay events) closing late text (inr (talk, refused)) = denied_some (hec_act.StoreThenSay events) late text talk refused
  owed_some (hec_act.Ask channel ids) closing late text (inl done) = inl (done_quiet (hec_act.Ask channel ids) closing late text done)
  owed_some (hec_act.Ask channel ids) closing late text (inr (talk, refused)) = absurd refused

  either_quiet : (act : HecAct) (closing : Bool) (late : List Call) (part : List ℕ) (talk : Talk) → collector.IsRefused conn index act late part talk ⊎ collector.IsUnstored conn index act closing late part talk → IsOther talk → failures_of late ≡ 0
  either_quiet act closing late part talk (inl refused) other = denied_quiet act late part talk refused other
  either_quiet act closing late part talk (inr unstored) other = unstored_quiet act closing late part talk unstored other

  either_by_disk : (act : HecAct) (closing : Bool) (late : List Call) (part : List ℕ) → collector.IsRefused conn index act late part Talk.DiskFault ⊎ collector.IsUnstored conn index act closing late part Talk.DiskFault → failures_of late ≡ 1
  either_by_disk act closing late part (inl refused) = denied_by_disk act late part refused
  either_by_disk act closing late part (inr unstored) = unstored_by_disk act closing late part unstored

  ends_quiet : (act : HecAct) (closing : Bool) (late : List Call) (part : List ℕ) (talk : Talk) → collector.EndsAtAct conn index act closing late part talk → IsOther talk → Quiet Hec (failures_of late) talk
  ends_quiet act closing late part Talk.Closed e other = inl (done_quiet act true late part e.1)
  ends_quiet act closing late part Talk.WriteFault e other = elim (owed_some act closing late e.0 e.1) [ inl none ↦ inl none | inr one ↦ inr (refl, refl, one) ]
  ends_quiet act closing late part Talk.NoMemory (inl starved) other = inl (wanting_quiet act late starved.0)
  ends_quiet act closing late part Talk.NoMemory (inr either) other = inl (either_quiet act closing late part Talk.NoMemory either other)
  ends_quiet act closing late part talk e other = inl (either_quiet act closing late part talk e other)

  item_quiet : (tokens : Tokens) (i : HttpItem) (calls : List Call) (text : List ℕ) → collector.CarriesItem tokens conn index i calls text → failures_of calls ≡ 0
  item_quiet tokens Continue calls text c = ap failures_of c.0
  item_quiet tokens (Request r) calls text c = done_quiet c.0 false calls text c.3

  stop_quiet : (tokens : Tokens) (i : HttpItem) (late : List Call) (part : List ℕ) (talk : Talk) → collector.StopsAtItem tokens conn index i late part talk → IsOther talk → Quiet Hec (failures_of late) talk
  stop_quiet tokens Continue late part Talk.WriteFault s other = inl (ap failures_of s.0)
  stop_quiet tokens Continue late part talk s other = absurd s
  stop_quiet tokens (Request r) late part talk s other = ends_quiet s.0 _ late part talk s.2 other

  stop_by_disk : (tokens : Tokens) (i : HttpItem) (late : List Call) (part : List ℕ) → collector.StopsAtItem tokens conn index i late part Talk.DiskFault → failures_of late ≡ 1
  stop_by_disk tokens Continue late part s = absurd s
  stop_by_disk tokens (Request r) late part s = either_by_disk s.0 _ late part s.2

says_quiet : (over : Talk) (late : List Call) (part : List ℕ) → collector.SaysLast over late part → failures_of late ≡ 0
says_quiet (Talk.Fault at why) late part s = ap failures_of s.0
says_quiet over late part s = ap failures_of s.0

cut_quiet : (over : Talk) (late : List Call) (part : List ℕ) (talk : Talk) → collector.StopsSaying over late part talk → failures_of late ≡ 0
cut_quiet (Talk.Fault at why) late part Talk.WriteFault s = ap failures_of s.0
cut_quiet over late part talk s = absurd s

cut_by_disk : (over : Talk) (late : List Call) (part : List ℕ) → collector.StopsSaying over late part Talk.DiskFault → failures_of late ≡ 1
cut_by_disk (Talk.Fault at why) late part s = absurd s
cut_by_disk over late part s = absurd s

module _ (tokens : Tokens) (conn : ℕ) (left : Option (List ℕ)) (b : List ℕ) (steps : List (Step HttpItem)) (held : List HttpItem) (at : ℕ) (late : List Call) (part : List ℕ) where
  hec_by_disk : EndsAtMove (hec tokens conn) left b steps held at late part Talk.DiskFault → failures_of late ≡ 1
  hec_by_disk (inl frame) = stop_by_disk conn _ tokens frame.0 late part frame.3
  hec_by_disk (inr last) = cut_by_disk last.0 late part last.2

  hec_move : (talk : Talk) → EndsAtMove (hec tokens conn) left b steps held at late part talk → IsOther talk → Quiet Hec (failures_of late) talk
  hec_move talk (inl frame) other = stop_quiet conn _ tokens frame.0 late part talk frame.3 other
  hec_move talk (inr last) other = inl (cut_quiet last.0 late part talk last.2)

  hec_quiet : (talk : Talk) → Ending (hec tokens conn) left b steps held at late part talk → IsOther talk → Quiet Hec (failures_of late) talk
  hec_quiet talk e = ending_cases (hec tokens conn) left b steps held at late part (λ t. IsOther t → Quiet Hec (failures_of late) t) (λ t m other. inl (says_quiet t late part m)) (λ t none other. inl (ap failures_of none.0)) hec_move talk e

-- ---- a connection

steps_quiet : {F : Type 0} (p : Protocol F) → ((before : List (Step F)) (s : Step F) → p.IsMove before s → failures_of s.calls ≡ 0) → (before steps : List (Step F)) → AreMoves p before steps → failures_of (calls_of steps) ≡ 0
steps_quiet p quiet before [] are = refl
steps_quiet p quiet before (s ∷ steps) are = omega (arith, failures_then s.calls (calls_of steps), quiet before s are.0, steps_quiet p quiet (before ++ s ∷ []) steps are.1)

-- they are those at its ending
at_ending : {F : Type 0} (p : Protocol F) (left : Option (List ℕ)) (b : List ℕ) (calls : List Call) (text : List ℕ) (talk : Talk) (c : Carried p left b calls text talk) → ((before : List (Step F)) (s : Step F) → p.IsMove before s → failures_of s.calls ≡ 0) → failures_of calls ≡ failures_of c.late
at_ending p left b calls text talk c quiet = omega (arith, ap failures_of c.made, failures_then (calls_of c.steps) c.late, steps_quiet p quiet [] c.steps c.each)

tells : {F : Type 0} (p : Protocol F) (proto : Proto) (left : Option (List ℕ)) (b : List ℕ) (calls : List Call) (text : List ℕ) (talk : Talk) (c : Carried p left b calls text talk) → failures_of calls ≡ failures_of c.late
    → (EndsAtMove p left b c.steps c.held c.at c.late c.part Talk.DiskFault → failures_of c.late ≡ 1) → (IsOther talk → Quiet proto (failures_of c.late) talk) → TellsFailures proto (failures_of calls) talk
tells p proto left b calls text talk c same by_disk quiet = record {
  cause = λ is. same ∙ by_disk (subst (λ (t : Talk). Ending p left b c.steps c.held c.at c.late c.part t) is c.ending);
  quiet = λ other. subst (λ (n : ℕ). Quiet proto n talk) (sym same) (quiet other);
}

pub disk_fault_is_told : DiskFaultIsTold
disk_fault_is_told Relp terms conn left b calls text talk c =
    tells (relp_runs terms.most conn) Relp left b calls text talk c (at_ending (relp_runs terms.most conn) left b calls text talk c (λ before s move. relp_move_quiet terms.most conn before s move))
    (relp_by_disk terms.most conn left b c.steps c.held c.at c.late c.part) (λ other. inl (relp_quiet terms.most conn left b c.steps c.held c.at c.late c.part talk c.ending other))
disk_fault_is_told Lumberjack terms conn left b calls text talk c =
    tells (lumberjack conn) Lumberjack left b calls text talk c (at_ending (lumberjack conn) left b calls text talk c (λ before s move. ap failures_of move.1.1))
    (lumber_by_disk conn left b c.steps c.held c.at c.late c.part) (λ other. inl (lumber_quiet conn left b c.steps c.held c.at c.late c.part talk c.ending other))
disk_fault_is_told Hec terms conn left b calls text talk c =
    tells (hec terms.tokens conn) Hec left b calls text talk c (at_ending (hec terms.tokens conn) left b calls text talk c (λ before s move. item_quiet conn _ terms.tokens move.0 s.calls s.text move.2))
    (hec_by_disk terms.tokens conn left b c.steps c.held c.at c.late c.part) (λ other. hec_quiet terms.tokens conn left b c.steps c.held c.at c.late c.part talk c.ending other)
