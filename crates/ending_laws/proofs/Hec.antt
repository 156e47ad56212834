-- A connection of the collector's protocol to whose end all may be done.
use Rattle.std.proofs.Common.{◌≡◌, ◌⊎◌, inl, inr, ℕ, ◌+◌, ◌<◌, ◌≤◌, ◌^◌, Bool, true, false, List, [], ◌∷◌, ◌++◌, length, flat_map, refl, sym, ◌∙◌, ap, subst, arith, append_assoc, length-append}
use Rattle.std.proofs.lemmas.List.{append-nil, map-append}
use Rattle.std.proofs.lemmas.List.Elements.{Contains-append_cases, Contains-append_left, Contains-push, Contains-push_cases}
use Rattle.std.specs.Prelude.{Option, Ok, Err}
use Rattle.std.specs.List.{Contains}
use Rattle.event_form.specs.declared.event.Event.{Event}
use Rattle.event_form.specs.declared.event.Entry.{Entry}
use Rattle.event_form.specs.declared.talk.Talk.{Talk}
use Rattle.event_form.specs.declared.talk.Why.{Why}
use Rattle.edge_io.specs.declared.proto.Proto.TheVariants.{Hec}
use Rattle.edge_disk.specs.Disk.{Moment}
use Rattle.stream_grammar.specs.Framing.{AreSpelled, HasNoFrame}
use Rattle.http_edge.specs.declared.fault.HttpWhy.{HttpWhy}
use Rattle.http_edge.specs.declared.request.HttpItem.{HttpItem}
use Rattle.http_edge.specs.declared.request.HttpItem.TheVariants.{Continue, Request}
use Rattle.http_edge.specs.declared.request.HttpRequest.{HttpRequest}
use Rattle.http_edge.specs.Fields.{closes}
use Rattle.http_edge.specs.HttpStream.{AreRequests, IsFaulty, IsOpen, IsRequest, IsStream, items_if, items_of}
use Rattle.http_edge.proofs.FaultLaws.{begins_more, fault_more}
use Rattle.http_edge.proofs.FaultOnceLaws.{fault_no_request, fault_or_stream}
use Rattle.http_edge.proofs.FeedLaws.{requests_more_text}
use Rattle.http_edge.proofs.OnceLaws.{requests_once}
use Rattle.http_edge.proofs.OpeningLaws.{open_nil}
use Rattle.http_edge.proofs.ReadingLaws.{open_no_request}
use Rattle.http_edge.proofs.StreamLaws.{items_append}
use Rattle.hec_ids.specs.declared.fault.IssueFault.TheVariants as issue
use Rattle.hec_session.specs.declared.act.HecAct.{HecAct}
use Rattle.hec_session.specs.declared.act.HecAct.TheVariants.{StoreThenSay, SayThenStore, Ask, Say}
use Rattle.hec_session.specs.declared.tokens.Tokens.{Tokens}
use Rattle.spool_state.specs.SpoolState.{SpoolState}
use Rattle.spool_faults.specs.declared.fault.TakeFault.TheVariants as Take
use Rattle.spool_answers.specs.Take.{Fits}
use Rattle.desk_access.specs.Call.{Call, takes, issues, forgets, taken_of, failures_of}
use Rattle.desk_access.specs.Carried.{Carried, Ending, EndsAtMove, IsOver}
use Rattle.desk_access.specs.Protocol.{AreMoves}
use Rattle.desk_access.specs.Step.{Step, frames_of, calls_of, count}
use Rattle.desk_access.proofs.Moves.{taken_then}
use Rattle.conn_serve.specs.Hec.{hec, AreTold, CarriesItem, EndsAtAct, IsDone as IsActDone, IsRefused, IsUnstored, StopsAtItem, StopsSaying, entries_of, talk_of_issue}
use Rattle.conn_serve.specs.Relp.{talk_of}
use Rattle.conn_serve.proofs.Acting.{none_by}
use Rattle.ending_laws.specs.Replaying.{HasClosing, HecEnds, HecFits, HecStores, IsGranted, Stores, Gains, events_of, hec_events}
use Rattle.bridge_parts.specs.Reached.{Reaches}
use Rattle.ending_laws.proofs.Desk.{first_answers, issued_is, only_disk, only_memory}
use Rattle.ending_laws.proofs.Endings.{IsDone, IsAllowed, IsRefusing, AfterSteps, Kept, after_steps, allowed, gains, kept_all, kept_short, steps_failures}

-- ---- requests at the front of bytes

-- they are the first of all requests
front_first : (rs ss : List HttpRequest) (x y rest last : List ℕ) → AreSpelled IsRequest rs x → AreSpelled IsRequest ss y → HasNoFrame IsRequest last
    → x ++ rest ≡ y ++ last → (more : List HttpRequest) × (ss ≡ rs ++ more) × (length x ≤ length y)
front_first [] ss x y rest last a b none e = (ss, refl, omega (arith, ap length a))
front_first (r ∷ rs) [] x y rest last (u, v, is, f, more) b none e =
    absurd (none r u (v ++ rest) is (ap (λ (w : List ℕ). w ++ last) (sym b) ∙ sym e ∙ ap (λ (w : List ℕ). w ++ rest) f ∙ append_assoc u v rest))
front_first (r ∷ rs) (s ∷ ss) x y rest last (u, v, is, f, more) (z, w, also, g, less) none e =
    let q = requests_once r s u z (v ++ rest) (w ++ last) is also (sym (append_assoc u v rest) ∙ ap (λ (l : List ℕ). l ++ rest) (sym f) ∙ e ∙ ap (λ (l : List ℕ). l ++ last) g ∙ append_assoc z w last) in
    let t = front_first rs ss v w rest last more less none q.2 in
    let long : length u ≡ length z = ap length q.1 in
    (t.0, (λ i. sym q.0 i ∷ t.1 i), omega (arith, ap length f, ap length g, length-append u v, length-append z w, long, t.2))

-- what was told of them is the first of what was told of all
first_told : (b : List ℕ) (items before : List HttpItem) (at end : ℕ) (last : List ℕ) → (t : AreTold b items at) → AreRequests b before end last
    → HasNoFrame IsRequest last → (more : List HttpItem) × (before ≡ t.before ++ more) × (at ≤ end)
first_told b items before at end last t a none =
    let q = front_first t.requests.requests a.requests t.requests.front a.front t.rest last t.requests.spelled a.spelled none (sym t.requests.whole ∙ a.whole) in (
      flat_map items_of q.0,
      a.items_are ∙ ap (flat_map items_of) q.1 ∙ items_append t.requests.requests q.0 ∙ ap (λ (l : List HttpItem). l ++ flat_map items_of q.0) (sym t.requests.items_are),
      omega (arith, t.requests.at_is, a.at_is, q.2),
    )

-- whole requests and no more are a stream
none_left : (b : List ℕ) (items : List HttpItem) (at : ℕ) (rest : List ℕ) → AreRequests b items at rest → at ≡ length b → rest ≡ []
none_left b items at rest a last = none_by rest (omega (arith, last, a.at_is, ap length a.whole, length-append a.front rest))

open_none : (rest : List ℕ) → rest ≡ [] → IsOpen rest []
open_none rest none = subst (λ (l : List ℕ). IsOpen l []) (sym none) (inl (omega arith, open_nil, refl))

whole_stream : (b : List ℕ) (items : List HttpItem) (at : ℕ) (rest : List ℕ) → AreRequests b items at rest → at ≡ length b → IsStream b items at rest
whole_stream b items at rest a last = record { before = items; told = []; requests = a; items_are = sym (append-nil items); going = open_none rest (none_left b items at rest a last) }

-- no bytes have a byte after others
no_byte : (rest a : List ℕ) (x : ℕ) (b : List ℕ) → rest ≡ [] → rest ≡ a ++ x ∷ b → ⊥
no_byte rest a x b none is = omega (arith, ap length none, ap length is, length-append a (x ∷ b))

faulty_more : (b more : List ℕ) (items : List HttpItem) (at place : ℕ) (why : HttpWhy) → IsFaulty b items at place why → IsFaulty (b ++ more) items at place why
faulty_more b more items at place why f = record {
  before = f.before;
  told = f.told;
  rest = f.rest ++ more;
  offset = f.offset;
  requests = requests_more_text b more f.rest f.before at f.requests;
  items_are = f.items_are;
  place_is = f.place_is;
  fault = fault_more f.rest more why f.offset f.told f.fault;
}

-- what was told stays told, whatever follows
pub told_more : (b : List ℕ) (items : List HttpItem) (at : ℕ) (piece : List ℕ) → AreTold b items at → AreTold (b ++ piece) items at
told_more b items at piece t = record {
  before = t.before;
  rest = t.rest ++ piece;
  told = t.told;
  requests = requests_more_text b piece t.rest t.before at t.requests;
  items_are = t.items_are;
  going = elim t.going [ inl none ↦ inl none | inr head ↦ inr (head.0, head.1 ++ piece, begins_more t.rest head.0 head.1 piece head.2, head.3) ];
}

-- ---- a request that closes the connection

only_one : (x y : HttpItem) → Contains (x ∷ []) y → x ≡ y
only_one x y c = elim (Contains-push_cases [] x y c) [ inl none ↦ absurd (omega (arith, none.1)) | inr is ↦ is ]

not_leave : (r : HttpRequest) → Continue ≡ Request r → ⊥
not_leave r is = cc

not_in_if : (told : Bool) (r : HttpRequest) → Contains (items_if told) (Request r) → ⊥
not_in_if true r c = not_leave r (only_one Continue (Request r) c)
not_in_if false r c = omega (arith, c.1)

-- it is a whole one
closing_whole : (b : List ℕ) (items : List HttpItem) (at : ℕ) (r : HttpRequest) → (t : AreTold b items at) → Contains items (Request r) → Contains t.before (Request r)
closing_whole b items at r t c = elim (Contains-append_cases t.before t.told (Request r) (subst (λ (l : List HttpItem). Contains l (Request r)) t.items_are c)) [
  | inl there ↦ there
  | inr told ↦ elim t.going [
    | inl none ↦ absurd (omega (arith, (subst (λ (l : List HttpItem). Contains l (Request r)) none told).1))
    | inr head ↦ absurd (not_in_if _ r (subst (λ (l : List HttpItem). Contains l (Request r)) head.3 told))
  ]
]

-- no move was made for one
none_closes : (tokens : Tokens) (conn : ℕ) (before steps : List (Step HttpItem)) (r : HttpRequest) → AreMoves (hec tokens conn) before steps → closes r ≡ true → Contains (frames_of steps) (Request r) → ⊥
none_closes tokens conn before [] r moves closing c = omega (arith, c.1)
none_closes tokens conn before (s ∷ steps) r moves closing c = elim (Contains-append_cases s.frames (frames_of steps) (Request r) c) [
  | inl here ↦
      let move = moves.0 in
      let is : move.0 ≡ Request r = only_one move.0 (Request r) (subst (λ (l : List HttpItem). Contains l (Request r)) move.1 here) in
      let carries = subst (λ (i : HttpItem). CarriesItem tokens conn (count (calls_of before)) i s.calls s.text) is move.2 in
      not_both (sym carries.2 ∙ closing)
  | inr later ↦ none_closes tokens conn (before ++ s ∷ []) steps r moves.1 closing later
]
  where
    not_both : false ≡ true → ⊥
    not_both is = cc

-- ---- what moves store

entries_events : (conn index unit : ℕ) (events : List Event) → events_of (entries_of conn index unit events) ≡ events
entries_events conn index unit [] = refl
entries_events conn index unit (event ∷ events) = ap (λ (l : List Event). event ∷ l) (entries_events conn (index + 1) unit events)

done_events : (conn index : ℕ) (act : HecAct) (closing : Bool) (calls : List Call) (text : List ℕ) → IsActDone conn index act closing calls text → events_of (taken_of calls) ≡ hec_events act
done_events conn index (Say say) closing calls text d = ap (λ (l : List Call). events_of (taken_of l)) d.2
done_events conn index (StoreThenSay events) closing calls text (receipt, took, said) =
    ap (λ (l : List Call). events_of (taken_of l)) took ∙ ap events_of (append-nil (entries_of conn index 0 events.items)) ∙ entries_events conn index 0 events.items
done_events conn index (SayThenStore channel events) closing calls text (id, receipt, unsettled, made, said) =
    ap (λ (l : List Call). events_of (taken_of l)) made ∙ ap events_of (append-nil (entries_of conn index id events.items)) ∙ entries_events conn index id events.items
done_events conn index (Ask channel ids) closing calls text (known, asked, said) = ap (λ (l : List Call). events_of (taken_of l)) asked

-- the events of the items of moves, with those of items after them
record MovesStore (tokens : Tokens) (steps : List (Step HttpItem)) (tail : List HttpItem) (more : List Event) : Type 0 where
  events : List Event
  are : HecStores tokens (frames_of steps ++ tail) events
  own : events_of (taken_of (calls_of steps)) ++ more ≡ events

moves_store : (tokens : Tokens) (conn : ℕ) (before steps : List (Step HttpItem)) (tail : List HttpItem) (more : List Event) → AreMoves (hec tokens conn) before steps → HecStores tokens tail more → MovesStore tokens steps tail more
moves_store tokens conn before [] tail more moves stores = record { events = more; are = stores; own = refl }
moves_store tokens conn before (s ∷ steps) tail more moves stores =
    let rest = moves_store tokens conn (before ++ s ∷ []) steps tail more moves.1 stores in
    let here = one moves.0.0 moves.0.2 rest in record {
      events = here.0 ++ rest.events;
      are = subst (λ (l : List HttpItem). HecStores tokens ((l ++ frames_of steps) ++ tail) (here.0 ++ rest.events)) (sym moves.0.1) here.2;
      own = ap (λ (l : List Event). l ++ more) (ap events_of (taken_then s.calls (calls_of steps))
          ∙ map-append (λ (e : Entry). e.event) (taken_of s.calls) (taken_of (calls_of steps))
          ∙ ap (λ (l : List Event). l ++ events_of (taken_of (calls_of steps))) here.1)
          ∙ append_assoc here.0 (events_of (taken_of (calls_of steps))) more ∙ ap (λ (l : List Event). here.0 ++ l) rest.own;
    }
  where
    one : (i : HttpItem) → CarriesItem tokens conn (count (calls_of before)) i s.calls s.text → (rest : MovesStore tokens steps tail more)
        → (events : List Event) × (events_of (taken_of s.calls) ≡ events) × HecStores tokens (((i ∷ []) ++ frames_of steps) ++ tail) (events ++ rest.events)
    one Continue (none, said) rest = ([], ap (λ (l : List Call). events_of (taken_of l)) none, rest.are)
    one (Request r) (act, is, stays, done) rest = (hec_events act, done_events conn (count (calls_of before)) act false s.calls s.text done, (act, is, rest.events, rest.are, refl))

-- ---- the connection

-- at a refusal the spool or the table of ids said no
refused_at : (conn index : ℕ) (act : HecAct) (closing : Bool) (late : List Call) (part : List ℕ) (t : Talk) → IsRefusing t
    → EndsAtAct conn index act closing late part t → IsRefused conn index act late part t ⊎ IsUnstored conn index act closing late part t
refused_at conn index act closing late part Talk.Closed is e = absurd is
refused_at conn index act closing late part Talk.WriteFault is e = absurd is
refused_at conn index act closing late part Talk.NoMemory is e = absurd is
refused_at conn index act closing late part t is e = e

leave_refuses : (tokens : Tokens) (conn index : ℕ) (late : List Call) (part : List ℕ) (t : Talk) → IsRefusing t → StopsAtItem tokens conn index Continue late part t → ⊥
leave_refuses tokens conn index late part Talk.WriteFault is e = is
leave_refuses tokens conn index late part t is e = e

saying_refuses : (over : Talk) (late : List Call) (part : List ℕ) (t : Talk) → IsRefusing t → StopsSaying over late part t → ⊥
saying_refuses (Talk.Fault at why) late part Talk.WriteFault is e = is
saying_refuses over late part t is e = e

module _ (conn : ℕ) (tokens : Tokens) (s : SpoolState) (now : Moment) (left : Option (List ℕ)) (whole b : List ℕ) (calls : List Call) (text : List ℕ) (talk : Talk) (c : Carried (hec tokens conn) left b calls text talk)
    (reached : Reaches s now calls) (k : Kept left whole b) (none : failures_of calls ≡ 0) where
  all_items : frames_of c.steps ++ c.held ≡ frames_of c.steps
  all_items = ap (λ (l : List HttpItem). frames_of c.steps ++ l) c.kept ∙ append-nil (frames_of c.steps)

  -- the items served and those of the ending
  told_at : (end : ℕ) (more : List HttpItem) → AreTold b ((frames_of c.steps ++ c.held) ++ more) end → AreTold whole (frames_of c.steps ++ more) end
  told_at end more told =
      subst (λ (l : List ℕ). AreTold l (frames_of c.steps ++ more) end) (sym k.joined)
      (told_more b (frames_of c.steps ++ more) end k.more (subst (λ (l : List HttpItem). AreTold b (l ++ more) end) all_items told))

  -- none of the requests that are whole in some bytes closes, where these are the items served
  not_closing : (bytes : List ℕ) (items before told : List HttpItem) (at end : ℕ) (last : List ℕ)
      → AreTold bytes items at → AreRequests bytes before end last → HasNoFrame IsRequest last → frames_of c.steps ++ c.held ≡ before ++ told
      → HasClosing items → ⊥
  not_closing bytes items before told at end last t a no_frame are (r, there, closing) =
      let more = first_told bytes items before at end last t a no_frame in
      let whole_one = closing_whole bytes items at r t there in
      let among = subst (λ (l : List HttpItem). Contains l (Request r)) (sym more.1) (Contains-append_left t.before more.0 (Request r) whole_one) in
      let served = subst (λ (l : List HttpItem). Contains l (Request r)) (sym are ∙ all_items) (Contains-append_left before told (Request r) among) in
      none_closes tokens conn [] c.steps r c.each closing served

  not_cut : (items : List HttpItem) → HecEnds whole items → (place : ℕ) → IsOver (hec tokens conn) left b (frames_of c.steps ++ c.held) c.at (Talk.Truncated place) → ⊥
  not_cut items ends place (over, stream, short, is) =
      let all : whole ≡ b = kept_all left whole b k over in
      let told = subst (λ (l : List ℕ). AreTold l items ends.0) all ends.1 in
      let seen = stream.1 in
      let no_frame = open_no_request stream.0 seen.told seen.going in
      elim ends.2 [
        | inl last ↦ omega (arith, last, ap length all, (first_told b items seen.before ends.0 c.at stream.0 told seen.requests no_frame).2, short)
        | inr closing ↦ not_closing b items seen.before seen.told ends.0 c.at stream.0 told seen.requests no_frame seen.items_are closing
      ]

  not_faulty : (items : List HttpItem) → HecEnds whole items → (place : ℕ) (why : Why) → IsOver (hec tokens conn) left b (frames_of c.steps ++ c.held) c.at (Talk.Fault place why) → ⊥
  not_faulty items ends place why (at, reason, fault, why_is) =
      let there = subst (λ (l : List ℕ). IsFaulty l (frames_of c.steps ++ c.held) at place reason) (sym k.joined) (faulty_more b k.more (frames_of c.steps ++ c.held) at place reason fault) in
      let told = ends.1 in
      elim ends.2 [
        | inl last ↦
            let ended = fault_or_stream whole (frames_of c.steps ++ c.held) told.before at ends.0 place reason told.rest there (whole_stream whole told.before ends.0 told.rest told.requests last) in
            no_byte told.rest _ _ _ (none_left whole told.before ends.0 told.rest told.requests last) ended.0.0.5
        | inr closing ↦ not_closing whole items there.before there.told ends.0 at there.rest told there.requests (fault_no_request there.rest reason there.offset there.told there.fault) there.items_are closing
      ]

  after : AfterSteps (hec tokens conn) s c.steps c.late
  after = after_steps (hec tokens conn) s now left b calls text talk c reached (steps_failures calls (calls_of c.steps) c.late c.made none)

  -- what is granted there is refused nowhere
  at_act : (t : Talk) → IsRefusing t → (act : HecAct) (closing : Bool) → IsGranted after.desk conn (count (calls_of c.steps)) act
      → IsRefused conn (count (calls_of c.steps)) act c.late c.part t ⊎ IsUnstored conn (count (calls_of c.steps)) act closing c.late c.part t → ⊥
  at_act t refusing (StoreThenSay events) closing granted (inl (fault, took, said, is)) =
      let group = entries_of conn (count (calls_of c.steps)) 0 events.items in
      let first = first_answers after.desk after.found (takes group (Err fault)) [] c.late after.rest took after.by after.goes in
      let only : fault ≡ Take.DiskFault = only_disk after.desk first.found group fault first.met after.sure granted first.answers in
      subst IsRefusing (is ∙ ap talk_of only) refusing
  at_act t refusing (StoreThenSay events) closing granted (inr never) = never
  at_act t refusing (SayThenStore channel events) closing granted (inl (fault, asked, said, is)) =
      let first = first_answers after.desk after.found (issues channel (Err fault)) [] c.late after.rest asked after.by after.goes in
      let only : fault ≡ issue.NoMemory = only_memory after.desk first.found channel fault first.met granted.0 first.answers in
      subst IsRefusing (is ∙ ap talk_of_issue only) refusing
  at_act t refusing (SayThenStore channel events) closing granted (inr (id, fault, held, made, said, is)) =
      let index = count (calls_of c.steps) in
      let group = entries_of conn index id events.items in
      let first = first_answers after.desk after.found (issues channel (Ok id)) (takes group (Err fault) ∷ forgets channel id held ∷ []) c.late after.rest made after.by after.goes in
      let issued = issued_is after.desk first.found channel id first.met first.answers in
      let then = first_answers first.found after.found (takes group (Err fault)) (forgets channel id held ∷ []) (takes group (Err fault) ∷ forgets channel id held ∷ []) first.rest refl first.by first.goes in
      let fits : Fits first.found.spool group =
      subst (λ (m : SpoolState). Fits m group) (sym issued.1) (subst (λ (n : ℕ). Fits after.desk.spool (entries_of conn index n events.items)) (sym issued.0) granted.1) in
      let only : fault ≡ Take.DiskFault = only_disk first.found then.found group fault then.met (issued.2 ∙ after.sure) fits then.answers in
      subst IsRefusing (is ∙ ap talk_of only) refusing
  at_act t refusing (Ask channel ids) closing granted (inl never) = never
  at_act t refusing (Ask channel ids) closing granted (inr never) = never
  at_act t refusing (Say say) closing granted (inl never) = never
  at_act t refusing (Say say) closing granted (inr never) = never

  not_refused : HecFits tokens conn s whole → (t : Talk) → IsRefusing t → EndsAtMove (hec tokens conn) left b c.steps c.held c.at c.late c.part t → ⊥
  not_refused fits t refusing (inr (over, is_over, stops)) = saying_refuses over c.late c.part t refusing stops
  not_refused fits t refusing (inl (Continue, end, told, stops)) = leave_refuses tokens conn (count (calls_of c.steps)) c.late c.part t refusing stops
  not_refused fits t refusing (inl (Request r, end, told, (act, is, ends))) =
      at_act t refusing act (closes r) (fits c.steps after.desk r end act after.course (told_at end (Request r ∷ []) told) is)
      (refused_at conn (count (calls_of c.steps)) act (closes r) c.late c.part t refusing ends)

  pub hec_allowed : (items : List HttpItem) → HecEnds whole items → HecFits tokens conn s whole → length whole < 2 ^ 40 → IsAllowed talk
  hec_allowed items ends fits short =
      allowed (hec tokens conn) left b c.steps c.held c.at c.late c.part (not_cut items ends) (not_faulty items ends) (omega (arith, short, kept_short left whole b k)) (not_refused fits) talk c.ending

  -- the events of the items, and of what was called last
  stored : (tail : List HttpItem) (more : List Event) → HecStores tokens tail more → events_of (taken_of c.late) ≡ more
      → HecEnds whole (frames_of c.steps ++ tail) → (events : List Event) × Stores Hec tokens whole events × Gains s now events
  stored tail more stores late ends =
      let are = moves_store tokens conn [] c.steps tail more c.each stores in
      let own : events_of (taken_of calls) ≡ are.events =
      ap (λ (l : List Call). events_of (taken_of l)) c.made ∙ ap events_of (taken_then (calls_of c.steps) c.late) ∙ map-append (λ (e : Entry). e.event) (taken_of (calls_of c.steps)) (taken_of c.late)
      ∙ ap (λ (l : List Event). events_of (taken_of (calls_of c.steps)) ++ l) late ∙ are.own in
      (are.events, (frames_of c.steps ++ tail, ends, are.are), gains s now calls are.events reached none own)

  stored_at : (t : Talk) → IsDone t → Ending (hec tokens conn) left b c.steps c.held c.at c.late c.part t → (events : List Event) × Stores Hec tokens whole events × Gains s now events
  stored_at Talk.Ended done ((over, stream, last), nothing) =
      let all : whole ≡ b = kept_all left whole b k over in
      let told = told_at c.at [] (subst (λ (l : List HttpItem). AreTold b l c.at) (sym (append-nil (frames_of c.steps ++ c.held))) c.front) in
      stored [] [] refl (ap (λ (l : List Call). events_of (taken_of l)) nothing.0) (c.at, told, inl (last ∙ ap length (sym all)))
  stored_at Talk.Closed done (inr (over, is_over, stops)) = absurd (never over stops)
    where
      never : (o : Talk) → StopsSaying o c.late c.part Talk.Closed → ⊥
      never (Talk.Fault at why) s = s
      never o s = s
  stored_at Talk.Closed done (inl (Continue, end, told, stops)) = absurd stops
  stored_at Talk.Closed done (inl (Request r, end, told, (act, is, (closing, finished)))) =
      stored (Request r ∷ []) (hec_events act ++ []) (act, is, [], refl, refl) (done_events conn (count (calls_of c.steps)) act true c.late c.part finished ∙ sym (append-nil (hec_events act)))
      (end, told_at end (Request r ∷ []) told, inr (r, Contains-push (frames_of c.steps) (Request r), closing))
  stored_at t done e = absurd done

  pub hec_stored : IsDone talk → (events : List Event) × Stores Hec tokens whole events × Gains s now events
  hec_stored done = stored_at talk done c.ending
