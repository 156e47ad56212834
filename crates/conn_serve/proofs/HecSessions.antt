-- How a session of the collector goes on, and how it ends.
use Rattle.std.proofs.Common.{◌≡◌, ◌≢◌, inl, inr, ℕ, zero, suc, ◌+◌, ◌*◌, ◌^◌, ◌<◌, ◌≤◌, ◌∙◌, ◌⊎◌, Bool, true, false, List, [], ◌∷◌, ◌++◌, Option, Some, None, length, take, drop, refl, sym, ap, subst, arith, append_assoc, length-append}
use Rattle.std.proofs.lemmas.List.{append-nil, take-append-drop}
use Rattle.std.specs.Prelude.{Ok, Err, All}
use Rattle.std.proofs.lemmas.List.Elements.{All-nil, All-cons}
use Rattle.std.specs.Io.KnownBytes.{IsAtEnd}
use Rattle.event_form.specs.declared.feed_fault.FeedFault.{FeedFault}
use Rattle.event_form.specs.declared.feed_fault.FeedFault.TheVariants as feed
use Rattle.event_form.specs.declared.talk.Talk.{Talk}
use Rattle.event_form.specs.declared.talk.Talk.TheVariants as talk
use Rattle.http_edge.specs.declared.fault.HttpFault.{HttpFault}
use Rattle.http_edge.specs.declared.request.HttpRequest.{HttpRequest}
use Rattle.http_edge.specs.Fields.{closes}
use Rattle.hec_session.specs.Acts.{IsAct}
use Rattle.hec_ids.specs.declared.fault.IssueFault.{IssueFault}
use Rattle.hec_ids.specs.declared.fault.IssueFault.TheVariants as issue
use Rattle.spool_faults.specs.declared.fault.TakeFault.{TakeFault}
use Rattle.spool_faults.specs.declared.fault.TakeFault.TheVariants.{DiskFault}
use Rattle.http_edge.specs.declared.request.HttpItem.{HttpItem}
use Rattle.http_edge.specs.declared.request.HttpItem.TheVariants.{Continue, Request}
use Rattle.http_edge.specs.Lending.{GivesItem}
use Rattle.http_edge.specs.declared.head.Head.{Head}
use Rattle.http_edge.specs.Reading as reading
use Rattle.http_edge.specs.Reading.{Holds, Reading, ReadsTo, come}
use Rattle.http_edge.specs.Window.{Window, Feeds, Reads, ReadsOn, taken_of}
use Rattle.http_edge.proofs.BuildLaws.{some_head}
use Rattle.http_edge.proofs.FeedLaws.{feeds_faulty}
use Rattle.http_edge.specs.Why.{why_of}
use Rattle.hec_session.specs.Acts.{count_of}
use Rattle.hec_session.proofs.EventLaws.{few_events}
use Rattle.hec_session.specs.declared.act.HecAct.{HecAct}
use Rattle.hec_session.specs.declared.act.HecAct.TheVariants.{StoreThenSay, SayThenStore, Ask, Say}
use Rattle.hec_session.specs.declared.tokens.Tokens.{Tokens}
use Rattle.desk_access.specs.Call.{Call, forgets}
use Rattle.desk_access.specs.Step.{Step, frames_of, calls_of, count}
use Rattle.desk_access.specs.Protocol.{Protocol, AreMoves}
use Rattle.desk_access.specs.Carried.{IsOver, Carried}
use Rattle.desk_access.specs.Endings.{IsAtMove}
use Rattle.desk_access.proofs.Moves.{count_then}
use Rattle.conn_serve.specs.declared.hec.asked.Asked.{Asked}
use Rattle.conn_serve.specs.declared.hec.asked.Asked.TheVariants.{Leave, Act}
use Rattle.conn_serve.specs.Done.{Done, Leads, SoFar, Anyway}
use Rattle.conn_serve.specs.Endings.{MayEnd}
use Rattle.conn_serve.specs.Handled.{Handled, Served, Closing}
use Rattle.conn_serve.specs.Hec.{hec, reply, success, AreTold, CarriesItem, EndsAtAct, IsCut, IsDone, IsRefused, SaysLast, takes_all, talk_of_issue, StopsAtItem, entries_of}
use Rattle.conn_serve.specs.declared.hec.intake.Intake.{Intake}
use Rattle.conn_serve.specs.declared.hec.intake.Refused.{Refused}
use Rattle.conn_serve.specs.HecReading.{FeedsAs, HoldsBody, GivesKept, IsIdle, IsKept, IsOpen, IsSound, ReadsKept, TellsRest, WasRead}
use Rattle.conn_serve.specs.HecServing.{Carries, Halts, HaltsAtItem, IsAsked, IsSayable, IsSayableFor, ReadsBy}
use Rattle.conn_serve.specs.Relp.{talk_of}
use Rattle.conn_serve.specs.Says.{CouldEnd, PromisesNothing}
use Rattle.conn_serve.proofs.Faults.{fault_at_move}
use Rattle.conn_serve.proofs.Saying.{has_carried}
use Rattle.conn_serve.proofs.HecActing.{take_ends, issue_ends, unstored_ends}
use Rattle.hec_session.specs.declared.code.HecCode.TheVariants.{InvalidFormat}
use Rattle.conn_serve.proofs.Handling.{handled_none, handled_push, carried_unread, carried_too_much, carried_starved, carried_at, carried_over, carried_instead}
use Rattle.conn_serve.proofs.HecEntries.{count_entries}
use Rattle.conn_serve.proofs.HecFronts.{stream_told, faulty_told, told_first, told_more, told_few, holds_come, stream_size}

pub some_come : (n : ℕ) → (n ≡ 0 → ⊥) → 0 < n
some_come zero h = absurd (h refl)
some_come (suc n) h = omega arith

some_same : (n m : ℕ) → Some n ≡ Some m → n ≡ m
some_same n m e = cc

abbrev Met : Type 0
Met = Option (FeedFault HttpFault)

-- ---- what was read

reads_told : (b : List ℕ) (items : List HttpItem) (w : Window) (fault : Option HttpFault) → ReadsTo b items w.reading fault → AreTold b items w.reading.at
reads_told b items w None (rest, stream, holds) = stream_told b items w.reading.at rest stream
reads_told b items w (Some e) (faulty, none) = faulty_told b items w.reading.at e.at e.why faulty

-- the items given stand at the front
given_told : (b : List ℕ) (items : List HttpItem) (w : Window) → Reads b items w → (at : ℕ) × AreTold b items at
given_told b items w r = told_first b items w.reading.waiting w.reading.at (reads_told b (items ++ w.reading.waiting) w w.reading.fault r)

-- and so they do whatever the window has met
pub by_told : (w : Window) (met : Met) (b : List ℕ) (items : List HttpItem) → ReadsBy w met b items → (at : ℕ) × AreTold b items at
by_told w None b items r = given_told b items w r.0
by_told w (Some (feed.Fault e)) b items r = given_told b items w r.0
by_told w (Some feed.NoMemory) b items (front, more, is, r) =
    let t = given_told front items w r in
    (t.0, subst (λ (l : List ℕ). AreTold l items t.0) (sym is) (told_more front items t.0 more t.1))

-- the next item is given
pub by_next : (w w' : Window) (met : Met) (i : HttpItem) → GivesItem w i w' → (b : List ℕ) (items : List HttpItem) → ReadsBy w met b items → ReadsBy w' met b (items ++ i ∷ [])
by_next w w' None i g b items (r, sound) = (g.reads b items r, ap (λ (x : _). x.fault) g.same ∙ sound)
by_next w w' (Some (feed.Fault e)) i g b items (r, is) = (g.reads b items r, ap (λ (x : _). x.fault) g.same ∙ is)
by_next w w' (Some feed.NoMemory) i g b items (front, more, is, r) = (front, more, is, g.reads front items r)

-- ---- more bytes

-- as a window that would be has read them
pub fed_ok : (v v' : Window) (met : Met) (piece : List ℕ) (n : ℕ) → met ≢ Some feed.NoMemory → FeedsAs v piece (Ok n) v' → (b : List ℕ) (items : List HttpItem) → ReadsBy v met b items → ReadsBy v' met (b ++ take n piece) items
fed_ok v v' None piece n found (sound, none, on) b items (r, s) = (on b items r, none)
fed_ok v v' (Some (feed.Fault e)) piece n found (sound, none, on) b items (r, is) = cc
fed_ok v v' (Some feed.NoMemory) piece n found f b items r = absurd (found refl)

pub fed_err : (v v' : Window) (met : Met) (piece : List ℕ) (fault : FeedFault HttpFault) → met ≢ Some feed.NoMemory → FeedsAs v piece (Err fault) v' → (b : List ℕ) (items : List HttpItem) → ReadsBy v met b items → ReadsBy v' (Some fault) (b ++ piece) items
fed_err v v' None piece (feed.Fault e) found (is, on) b items (r, sound) = (on b items r, is)
fed_err v v' (Some (feed.Fault d)) piece (feed.Fault e) found (is, on) b items (r, had) = (on b items r, is)
fed_err v v' None piece feed.NoMemory found (same, sound) b items (r, none) = (b, piece, refl, subst (Reads b items) (sym same) r)
fed_err v v' (Some (feed.Fault d)) piece feed.NoMemory found (same, sound) b items (r, had) = (b, piece, refl, subst (Reads b items) (sym same) r)
fed_err v v' (Some feed.NoMemory) piece fault found f b items r = absurd (found refl)

-- whatever follows a fault
after_fault : (w : Window) (e : HttpFault) → w.reading.fault ≡ Some e → (more b : List ℕ) (items : List HttpItem) → Reads b items w → Reads (b ++ more) items w
after_fault w e is more b items r = (feeds_faulty w.reading more e is).1 b items r

all_of : (b piece : List ℕ) (n : ℕ) → (b ++ take n piece) ++ drop n piece ≡ b ++ piece
all_of b piece n = append_assoc b (take n piece) (drop n piece) ∙ ap (λ (l : List ℕ). b ++ l) (take-append-drop n piece)

-- what a window reads of a piece, as far as it has room for it
pub window_ok : (old new : Window) (piece : List ℕ) (n : ℕ) → old.reading.fault ≡ None → Feeds old piece (Ok n) new → FeedsAs old piece (Ok n) new
window_ok old new piece n sound (is, none, on) = (sound, none, on)

pub window_err : (old new : Window) (piece : List ℕ) (fault : FeedFault HttpFault) → Feeds old piece (Err fault) new → ((e : HttpFault) → old.reading.fault ≡ Some e → new ≡ old) → FeedsAs old piece (Err fault) new
window_err old new piece feed.NoMemory (same, sound) stays = (same, sound)
window_err old new piece (feed.Fault e) (is, on) stays = (is, go old.reading.fault refl)
  where
    go : (f : Option HttpFault) → old.reading.fault ≡ f → ReadsOn old piece new
    go None sound b items r =
        let n = taken_of old piece in
        subst (λ (l : List ℕ). Reads l items new) (all_of b piece n) (after_fault new e is (drop n piece) (b ++ take n piece) items (on sound b items r))
    go (Some d) had b items r = subst (Reads (b ++ piece) items) (sym (stays d had)) (after_fault old d had piece b items r)

-- what was read stays so
by_same : (w w' : Window) (met : Met) → w'.reading ≡ w.reading → (b : List ℕ) (items : List HttpItem) → ReadsBy w met b items → ReadsBy w' met b items
by_same w w' None e b items (r, sound) = (subst (reading.Reads b items) (sym e) r, ap (λ (x : Reading). x.fault) e ∙ sound)
by_same w w' (Some (feed.Fault d)) e b items (r, is) = (subst (reading.Reads b items) (sym e) r, ap (λ (x : Reading). x.fault) e ∙ is)
by_same w w' (Some feed.NoMemory) e b items (front, more, is, r) = (front, more, is, subst (reading.Reads front items) (sym e) r)

-- ---- how many entries are taken

count_done : (conn index : ℕ) (act : HecAct) (closing : Bool) (calls : List Call) (text : List ℕ) → IsDone conn index act closing calls text → count calls ≤ count_of act
count_done conn index (Say say) closing calls text (code, is, none, said) = omega (arith, ap count none)
count_done conn index (StoreThenSay events) closing calls text (receipt, took, said) =
    omega (arith, ap count took, length-append (entries_of conn index 0 events.items) [], count_entries conn index 0 events.items)
count_done conn index (SayThenStore channel events) closing calls text (id, receipt, unsettled, took, said) =
    omega (arith, ap count took, length-append (entries_of conn index id events.items) [], count_entries conn index id events.items)
count_done conn index (Ask channel ids) closing calls text (known, asked, said) = omega (arith, ap count asked)

count_item : (tokens : Tokens) (conn index : ℕ) (i : HttpItem) (calls : List Call) (text : List ℕ) → CarriesItem tokens conn index i calls text → count calls ≤ 10000
count_item tokens conn index Continue calls text (none, said) = omega (arith, ap count none)
count_item tokens conn index (Request r) calls text (act, is, stays, done) = omega (arith, count_done conn index act false calls text done, few_events tokens r act is)

count_moves : (tokens : Tokens) (conn : ℕ) (before steps : List (Step HttpItem)) → AreMoves (hec tokens conn) before steps → count (calls_of steps) ≤ 10000 * length (frames_of steps)
count_moves tokens conn before [] m = omega arith
count_moves tokens conn before (s ∷ steps) m =
    let move = m.0 in
    omega (arith, count_then s.calls (calls_of steps), count_item tokens conn _ move.0 s.calls s.text move.2, ap length move.1, length-append s.frames (frames_of steps), count_moves tokens conn (before ++ s ∷ []) steps m.1)

issue_at_move : (fault : IssueFault) → IsAtMove (talk_of_issue fault)
issue_at_move (issue.NoMore run) = tt
issue_at_move (issue.Busy held) = tt
issue_at_move issue.NoMemory = tt

-- ---- what may be said for an item is what it is carried by, or ends the connection, perhaps after calls that promise nothing

abbrev Ends : Tokens → ℕ → ℕ → HttpItem → List Call → List ℕ → Type 0
Ends tokens conn n i calls text = (over : Talk) × (late : List Call) × All PromisesNothing late × IsAtMove over × StopsAtItem tokens conn n i (calls ++ late) text over

module _ (tokens : Tokens) (conn n : ℕ) (r : HttpRequest) (calls : List Call) (text : List ℕ) where
  at_once : (act : HecAct) → IsAct tokens r act → (over : Talk) → IsAtMove over → EndsAtAct conn n act (closes r) calls text over → Ends tokens conn n (Request r) calls text
  at_once act is over move ends = (over, [], All-nil PromisesNothing, move, subst (λ (l : List Call). StopsAtItem tokens conn n (Request r) l text over) (sym (append-nil calls)) (act, is, ends))

  done_parts : (act : HecAct) → IsAct tokens r act → (b : Bool) → closes r ≡ b → IsDone conn n act b calls text → CarriesItem tokens conn n (Request r) calls text ⊎ Ends tokens conn n (Request r) calls text
  done_parts act is false stays done = inl (act, is, stays, done)
  done_parts act is true last done = inr (at_once act is talk.Closed tt (last, done))

  refused_parts : (act : HecAct) → IsAct tokens r act → (over : Talk) → IsRefused conn n act calls text over → Ends tokens conn n (Request r) calls text
  refused_parts (Say say) is over refused = absurd refused
  refused_parts (StoreThenSay events) is over (fault, made, said, ends) =
      at_once (StoreThenSay events) is (talk_of fault) (fault_at_move fault) (subst (λ (l : List Call). EndsAtAct conn n (StoreThenSay events) (closes r) l text (talk_of fault)) (sym made) (take_ends conn n events (closes r) fault text said))
  refused_parts (SayThenStore channel events) is over (fault, made, said, ends) =
      at_once (SayThenStore channel events) is (talk_of_issue fault) (issue_at_move fault) (subst (λ (l : List Call). EndsAtAct conn n (SayThenStore channel events) (closes r) l text (talk_of_issue fault)) (sym made) (issue_ends conn n channel events (closes r) fault text said))
  refused_parts (Ask channel ids) is over refused = absurd refused

  said_parts : (act : HecAct) → IsAct tokens r act → (closing : Bool) → closing ≡ closes r → IsSayable conn n act closing calls text → CarriesItem tokens conn n (Request r) calls text ⊎ Ends tokens conn n (Request r) calls text
  said_parts (SayThenStore channel events) is closing last (inl (id, made, said)) =
      let fault : TakeFault = DiskFault in
      let late : List Call = takes_all conn n id events.items (Err fault) ∷ forgets channel id true ∷ [] in
      let ends = unstored_ends conn n channel events (closes r) id fault true (calls ++ late) text (ap (λ (l : List Call). l ++ late) made) (said ∙ ap (success (Some id)) last) in
      inr (talk.DiskFault, late, All-cons PromisesNothing (takes_all conn n id events.items (Err fault)) (forgets channel id true ∷ []) tt (All-cons PromisesNothing (forgets channel id true) [] tt (All-nil PromisesNothing)), tt, (SayThenStore channel events, is, ends))
  said_parts (SayThenStore channel events) is closing last (inr refused) = inr (refused_parts (SayThenStore channel events) is refused.0 refused.1)
  said_parts (Say say) is closing last (inl done) = done_parts (Say say) is (closes r) refl (subst (λ (b : Bool). IsDone conn n (Say say) b calls text) last done)
  said_parts (Say say) is closing last (inr refused) = inr (refused_parts (Say say) is refused.0 refused.1)
  said_parts (StoreThenSay events) is closing last (inl done) = done_parts (StoreThenSay events) is (closes r) refl (subst (λ (b : Bool). IsDone conn n (StoreThenSay events) b calls text) last done)
  said_parts (StoreThenSay events) is closing last (inr refused) = inr (refused_parts (StoreThenSay events) is refused.0 refused.1)
  said_parts (Ask channel ids) is closing last (inl done) = done_parts (Ask channel ids) is (closes r) refl (subst (λ (b : Bool). IsDone conn n (Ask channel ids) b calls text) last done)
  said_parts (Ask channel ids) is closing last (inr refused) = inr (refused_parts (Ask channel ids) is refused.0 refused.1)

say_parts : (tokens : Tokens) (conn n : ℕ) (i : HttpItem) (asked : Asked) → IsAsked tokens i asked → (calls : List Call) (text : List ℕ) → IsSayableFor conn n asked calls text
    → CarriesItem tokens conn n i calls text ⊎ Ends tokens conn n i calls text
say_parts tokens conn n Continue Leave is calls text due = inl due
say_parts tokens conn n Continue (Act act closing) is calls text due = absurd is
say_parts tokens conn n (Request r) Leave is calls text due = absurd is
say_parts tokens conn n (Request r) (Act act closing) is calls text due = said_parts tokens conn n r calls text act is.0 closing is.1 due

module _ (tokens : Tokens) (conn : ℕ) where
  abbrev p : Protocol HttpItem
  p = hec tokens conn

  -- what a session with this window, which met that, has served
  abbrev ServedBy : Window → Met → List ℕ → List Call → List ℕ → Type 0
  ServedBy w met = Served (Handled p) (ReadsBy w met)

  few_calls : (frames : List HttpItem) (calls : List Call) (text : List ℕ) → Handled p frames calls text → count calls ≤ 10000 * length frames
  few_calls frames calls text h = omega (arith, ap count h.made, count_moves tokens conn [] h.steps h.each, ap length h.whole, length-append (frames_of h.steps) h.held)

  -- an index for each entry of one more request
  pub so_far_few : (w : Window) (met : Met) (n more : ℕ) → SoFar (ServedBy w met) n more → n + 10000 < 2 ^ 63
  so_far_few w met n more s =
      let t = by_told w met s.bytes s.served.frames s.served.reads in
      omega (arith, s.counted, few_calls s.served.frames s.calls s.text s.served.handled, told_few s.bytes s.served.frames t.0 t.1, s.short)

  -- what a session with this intake, which met that, has served
  abbrev KeptBy : Intake → Met → List ℕ → List Call → List ℕ → Type 0
  KeptBy o met = Served (Handled p) (ReadsKept tokens o met)

  -- the same of the window that would be, had each body been kept
  bare : (o : Intake) (met : Met) (fed : List ℕ) (called : List Call) (said : List ℕ) → (s : KeptBy o met fed called said) → ServedBy s.reads.kept met fed called said
  bare o met fed called said s = record { frames = s.frames; handled = s.handled; reads = s.reads.reads }

  pub kept_few : (o : Intake) (met : Met) (n more : ℕ) → SoFar (KeptBy o met) n more → n + 10000 < 2 ^ 63
  kept_few o met n more s =
      so_far_few s.served.reads.kept met n more (record { bytes = s.bytes; calls = s.calls; text = s.text; counted = s.counted; short = s.short; served = bare o met s.bytes s.calls s.text s.served })

  pub kept_sound : (o : Intake) (met : Met) (n more : ℕ) → SoFar (KeptBy o met) n more → IsSound tokens o.window o.refused
  kept_sound o met n more s = s.served.reads.sound

  pub kept_read : (o : Intake) (met : Met) (n more : ℕ) → SoFar (KeptBy o met) n more → WasRead o.window o.refused
  kept_read o met n more s = go o.refused s.served.reads.is_kept
    where
      go : (x : Option Refused) → IsKept o.window x s.served.reads.kept → WasRead o.window x
      go None e = some met (subst (λ (w : Window). ReadsBy w met s.bytes s.served.frames) e s.served.reads.reads)
        where
          some : (m : Met) → ReadsBy o.window m s.bytes s.served.frames → (b : List ℕ) × (items : List HttpItem) × Reads b items o.window
          some None r = (s.bytes, s.served.frames, r.0)
          some (Some (feed.Fault e)) r = (s.bytes, s.served.frames, r.0)
          some (Some feed.NoMemory) (front, more, is, r) = (front, s.served.frames, r)
      go (Some x) h = tt

  -- ---- an item more

  module _ (ran : List Call → Type 0) (written written' : Option (List ℕ)) (n n' : ℕ) (o o' : Intake) (met : Met) (asked : Asked) (g : GivesKept tokens o (Some asked) o') (k : ℕ) (same : k ≡ conn) where
    carries : (calls : List Call) (text : List ℕ) → (j : HttpItem) (a : Asked) → IsAsked tokens j a → Carries k n a calls text → CarriesItem tokens conn n j calls text
    carries calls text Continue Leave is c = c
    carries calls text Continue (Act act closing) is c = absurd is
    carries calls text (Request r) Leave is c = absurd is
    carries calls text (Request r) (Act act closing) (is, last) (stays, done) = (act, is, sym last ∙ stays, subst (λ (m : ℕ). IsDone m n act false calls text) same done)

    halts : (calls : List Call) (text : List ℕ) (over : Talk) → (j : HttpItem) (a : Asked) → IsAsked tokens j a → Halts k n a over calls text → HaltsAtItem tokens conn n j over calls text
    halts calls text over Continue Leave is (none, cut, e) = inr (subst (StopsAtItem tokens conn n Continue calls text) (sym e) (none, cut))
    halts calls text over Continue (Act act closing) is h = absurd is
    halts calls text over (Request r) Leave is h = absurd is
    halts calls text over (Request r) (Act act closing) (is, last) (inl starved) = inl starved
    halts calls text over (Request r) (Act act closing) (is, last) (inr ends) =
        inr (act, is, subst (λ (b : Bool). EndsAtAct conn n act b calls text over) last (subst (λ (m : ℕ). EndsAtAct m n act closing calls text over) same ends))

    pub served_item : Done ran written written' n n' (Carries k n asked) → Done ran written written' n n' (Leads n (KeptBy o met) (KeptBy o' met))
    served_item d = record {
      calls = d.calls;
      text = d.text;
      made = d.made;
      wrote = d.wrote;
      counted = d.counted;
      is = λ fed called said counted s.
          let x = g s.reads.kept s.reads.is_kept in
          let i = x.item in
          let h = s.handled in
          let step : Step HttpItem = record { frames = i ∷ []; calls = d.calls; text = d.text } in
          let move : CarriesItem tokens conn (count (calls_of h.steps)) i d.calls d.text =
          subst (λ (m : ℕ). CarriesItem tokens conn m i d.calls d.text) (counted ∙ ap count h.made) (carries d.calls d.text i asked x.asks d.is) in
          record {
            frames = s.frames ++ i ∷ [];
            handled = handled_push p s.frames called said h i step (ap (λ (l : List HttpItem). l ++ i ∷ []) (sym h.kept)) (i, refl, move) refl;
            reads = record { sound = x.sound; kept = x.after; is_kept = x.is_kept; reads = by_next s.reads.kept x.after met i x.gives fed s.frames s.reads.reads };
          };
    }

    pub served_halt : (over : Talk) → IsAtMove over → Done ran written written' n n' (Halts k n asked over) → Done ran written written' n n' (Leads n (KeptBy o met) (Anyway (Carried p) over))
    served_halt over is d = record {
      calls = d.calls;
      text = d.text;
      made = d.made;
      wrote = d.wrote;
      counted = d.counted;
      is = λ fed called said counted s left more.
          let x = g s.reads.kept s.reads.is_kept in
          let i = x.item in
          let h = s.handled in
          let front = by_told s.reads.kept met fed s.frames s.reads.reads in
          let next = by_told x.after met fed (s.frames ++ i ∷ []) (by_next s.reads.kept x.after met i x.gives fed s.frames s.reads.reads) in
          carried_at p left (fed ++ more) s.frames front.0 called said h (told_more fed s.frames front.0 more front.1) i next.0 d.calls d.text over is (told_more fed (s.frames ++ i ∷ []) next.0 more next.1)
          (elim (halts d.calls d.text over i asked x.asks d.is) [
            | inl starved ↦ inl starved
            | inr stops ↦ inr (subst (λ (m : ℕ). StopsAtItem tokens conn m i d.calls d.text over) (counted ∙ ap count h.made) stops)
          ]);
    }

  -- ---- what may be said

  -- The text that may be said for an item is what a connection has carried that ends there.
  pub due_carried : (n : ℕ) (o o' : Intake) (met : Met) (asked : Asked) → GivesKept tokens o (Some asked) o' → (k : ℕ) → k ≡ conn → (calls : List Call) (text : List ℕ)
      → IsSayableFor k n asked calls text → Leads n (KeptBy o met) (CouldEnd (Carried p)) calls text
  due_carried n o o' met asked g k same calls text due = λ fed called said counted s more.
      let x = g s.reads.kept s.reads.is_kept in
      let i = x.item in
      let h = s.handled in
      let front = by_told s.reads.kept met fed s.frames s.reads.reads in
      let next = by_told x.after met fed (s.frames ++ i ∷ []) (by_next s.reads.kept x.after met i x.gives fed s.frames s.reads.reads) in
      let index = counted ∙ ap count h.made in
      elim (say_parts tokens conn n i asked x.asks calls text (subst (λ (m : ℕ). IsSayableFor m n asked calls text) same due)) [
        | inl carries ↦
            let step : Step HttpItem = record { frames = i ∷ []; calls = calls; text = text } in
            let move : CarriesItem tokens conn (count (calls_of h.steps)) i calls text = subst (λ (m : ℕ). CarriesItem tokens conn m i calls text) index carries in
            let pushed = handled_push p s.frames called said h i step (ap (λ (l : List HttpItem). l ++ i ∷ []) (sym h.kept)) (i, refl, move) refl in
            has_carried (Carried p) None (fed ++ more) talk.NoMemory _ _
            (carried_starved p None (fed ++ more) (s.frames ++ i ∷ []) next.0 (called ++ calls) (said ++ text) pushed (told_more fed (s.frames ++ i ∷ []) next.0 more next.1))
        | inr ends ↦ record {
          left = None;
          talk = ends.0;
          late = ends.1;
          nothing = ends.2;
          carried = subst (λ (l : List Call). Carried p None (fed ++ more) l (said ++ text) ends.0) (sym (append_assoc called calls ends.1))
              (carried_at p None (fed ++ more) s.frames front.0 called said h (told_more fed s.frames front.0 more front.1) i next.0 (calls ++ ends.1) text ends.0 ends.3 (told_more fed (s.frames ++ i ∷ []) next.0 more next.1)
              (inr (subst (λ (m : ℕ). StopsAtItem tokens conn m i (calls ++ ends.1) text ends.0) index ends.4)));
        }
      ]

  -- ---- the bytes are at their end, or have a fault

  pub none_carried : (left : Option (List ℕ)) → Carried p left [] [] [] talk.NoMemory
  none_carried left =
      carried_starved p left [] [] 0 [] [] (handled_none p refl) (record { before = []; rest = []; told = []; requests = record { requests = []; front = []; spelled = refl; whole = refl; at_is = refl; items_are = refl }; items_are = refl; going = inl refl })

  module _ (w : Window) (met : Met) (left : Option (List ℕ)) (fed : List ℕ) (calls : List Call) (text : List ℕ) (s : ServedBy w met fed calls text) where
    -- no memory was found
    pub ends_starved : (more : List ℕ) → Carried p left (fed ++ more) calls text talk.NoMemory
    ends_starved more =
        let t = by_told w met fed s.frames s.reads in
        carried_starved p left (fed ++ more) s.frames t.0 calls text s.handled (told_more fed s.frames t.0 more t.1)

    module _ (none : w.reading.waiting ≡ []) (sound : met ≡ None) where
      all_read : ReadsTo fed s.frames w.reading None
      all_read =
          let by : ReadsBy w None fed s.frames = subst (λ (m : Met). ReadsBy w m fed s.frames) sound s.reads in
          let r = subst (λ (o : Option HttpFault). ReadsTo fed (s.frames ++ w.reading.waiting) w.reading o) by.1 by.0 in
          subst (λ (l : List HttpItem). ReadsTo fed l w.reading None) (ap (λ (l : List HttpItem). s.frames ++ l) none ∙ append-nil s.frames) r

      front : p.IsFront fed s.frames w.reading.at
      front = stream_told fed s.frames w.reading.at all_read.0 all_read.1

      whole : p.IsWhole fed s.frames w.reading.at
      whole = (all_read.0, all_read.1)

      size : w.reading.at + come w.reading ≡ length fed
      size =
          let r = w.reading in
          omega (arith, stream_size fed s.frames r.at all_read.0 all_read.1, holds_come r.begun r.stage r.body r.read r.unread all_read.0 all_read.2)

      closes_so : (over : Talk) → IsOver p left fed s.frames w.reading.at over → Closing p (Handled p) left over fed calls text
      closes_so over o = record { frames = s.frames; handled = s.handled; at = w.reading.at; front = front; is_over = o }

      pub closing_ended : IsAtEnd left → come w.reading ≡ 0 → Closing p (Handled p) left talk.Ended fed calls text
      closing_ended out empty = closes_so talk.Ended (out, whole, omega (arith, size, empty))

      pub closing_truncated : IsAtEnd left → 0 < come w.reading → Closing p (Handled p) left (talk.Truncated w.reading.at) fed calls text
      closing_truncated out some = closes_so (talk.Truncated w.reading.at) (out, whole, omega (arith, size, some), refl)

      ends_unread : Carried p left fed calls text talk.ReadFault
      ends_unread = carried_unread p left fed s.frames w.reading.at calls text s.handled front whole tt

      ends_too_much : length fed ≡ 2 ^ 40 → Carried p left fed calls text (talk.TooMuch (2 ^ 40))
      ends_too_much most = carried_too_much p left fed s.frames w.reading.at calls text s.handled front whole most tt

    -- the bytes have a fault
    pub closing_faulty : (e : HttpFault) → w.reading.waiting ≡ [] → met ≡ Some (feed.Fault e) → Closing p (Handled p) left (talk.Fault e.at (why_of e.why)) fed calls text
    closing_faulty e none is =
        let by : ReadsBy w (Some (feed.Fault e)) fed s.frames = subst (λ (m : Met). ReadsBy w m fed s.frames) is s.reads in
        let r = subst (λ (o : Option HttpFault). ReadsTo fed (s.frames ++ w.reading.waiting) w.reading o) by.1 by.0 in
        let all = subst (λ (l : List HttpItem). ReadsTo fed l w.reading (Some e)) (ap (λ (l : List HttpItem). s.frames ++ l) none ∙ append-nil s.frames) r in
        record {
          frames = s.frames;
          handled = s.handled;
          at = w.reading.at;
          front = faulty_told fed s.frames w.reading.at e.at e.why all.0;
          is_over = (w.reading.at, e.why, all.0, refl);
        }

  -- what is served stays so, where none waits
  pub served_left : (ran : List Call → Type 0) (written written' : Option (List ℕ)) (n n' : ℕ) (From : List ℕ → List Call → List ℕ → Type 0) (o o' : Intake) (met : Met) → GivesKept tokens o None o'
      → Done ran written written' n n' (Leads n From (KeptBy o met)) → Done ran written written' n n' (Leads n From (KeptBy o' met))
  served_left ran written written' n n' From o o' met g d = record {
    calls = d.calls;
    text = d.text;
    made = d.made;
    wrote = d.wrote;
    counted = d.counted;
    is = λ fed called said counted from.
        let s = d.is fed called said counted from in
        let x = g s.reads.kept s.reads.is_kept in
        record { frames = s.frames; handled = s.handled; reads = record { sound = x.sound; kept = x.after; is_kept = x.is_kept; reads = by_same s.reads.kept x.after met x.same fed s.frames s.reads.reads } };
  }

  -- ---- the same where a body may have been read past

  -- what an intake with nothing refused has read
  pub kept_new : (o : Intake) → Reads [] [] o.window → o.window.reading.fault ≡ None → o.refused ≡ None → KeptBy o None [] [] []
  kept_new o reads sound none = record {
    frames = [];
    handled = handled_none p refl;
    reads = record {
      sound = subst (IsSound tokens o.window) (sym none) tt;
      kept = o.window;
      is_kept = subst (λ (x : Option Refused). IsKept o.window x o.window) (sym none) refl;
      reads = (reads, sound);
    };
  }

  -- no item waits in the window that would be
  kept_none : (w : Window) (refused : Option Refused) (v : Window) → w.reading.waiting ≡ [] → IsOpen w refused → IsKept w refused v → v.reading.waiting ≡ []
  kept_none w None v none going e = ap (λ (x : Window). x.reading.waiting) e ∙ none
  kept_none w (Some x) v none going (body, h) = let is = subst (λ (b : Bool). HoldsBody b w x.past body v) going.0 h in ap (λ (y : Window). y.reading.waiting) is.1

  -- of a request whose head is whole some bytes have come
  head_come : (v : Window) (b : List ℕ) (items : List HttpItem) (head : Head) → v.reading.begun ≡ Some head → ReadsTo b items v.reading None → 0 < come v.reading
  head_come v b items head is (rest, stream, holds) =
      let r = v.reading in
      let h = subst (λ (g : Option Head). Holds g r.stage r.body r.read r.unread rest) is holds in
      omega (arith, h.6, some_head h.0)

  module _ (o : Intake) (met : Met) (left : Option (List ℕ)) (fed : List ℕ) (calls : List Call) (text : List ℕ) (s : KeptBy o met fed calls text) where
    pub kept_starved : (more : List ℕ) → Carried p left (fed ++ more) calls text talk.NoMemory
    kept_starved more = ends_starved s.reads.kept met left fed calls text (bare o met fed calls text s) more

    module _ (idle : IsIdle o met) where
      nothing : s.reads.kept.reading.waiting ≡ []
      nothing = kept_none o.window o.refused s.reads.kept idle.none idle.going s.reads.is_kept

      pub kept_unread : met ≡ None → Carried p left fed calls text talk.ReadFault
      kept_unread sound = ends_unread s.reads.kept met left fed calls text (bare o met fed calls text s) nothing sound

      pub kept_too_much : met ≡ None → length fed ≡ 2 ^ 40 → Carried p left fed calls text (talk.TooMuch (2 ^ 40))
      kept_too_much sound most = ends_too_much s.reads.kept met left fed calls text (bare o met fed calls text s) nothing sound most

      pub kept_faulty : (e : HttpFault) → met ≡ Some (feed.Fault e) → Closing p (Handled p) left (talk.Fault e.at (why_of e.why)) fed calls text
      kept_faulty e is = closing_faulty s.reads.kept met left fed calls text (bare o met fed calls text s) e nothing is

      pub kept_ended : met ≡ None → IsAtEnd left → TellsRest o.window o.refused None → Closing p (Handled p) left talk.Ended fed calls text
      kept_ended sound out tells = closing_ended s.reads.kept met left fed calls text (bare o met fed calls text s) nothing sound out (go o.refused tells s.reads.is_kept)
        where
          go : (x : Option Refused) → TellsRest o.window x None → IsKept o.window x s.reads.kept → come s.reads.kept.reading ≡ 0
          go None t e = ap (λ (y : Window). come y.reading) e ∙ (t.0.0 refl).0
          go (Some x) t e = absurd (cc)

      pub kept_truncated : (at : ℕ) → met ≡ None → IsAtEnd left → TellsRest o.window o.refused (Some at) → Closing p (Handled p) left (talk.Truncated at) fed calls text
      kept_truncated at sound out tells =
          let by : ReadsBy s.reads.kept None fed s.frames = subst (λ (m : Met). ReadsBy s.reads.kept m fed s.frames) sound s.reads.reads in
          let r : ReadsTo fed (s.frames ++ s.reads.kept.reading.waiting) s.reads.kept.reading None = subst (λ (f : Option HttpFault). ReadsTo fed (s.frames ++ s.reads.kept.reading.waiting) s.reads.kept.reading f) by.1 by.0 in
          let x = go o.refused idle.going tells s.reads.is_kept r by.1 in
          subst (λ (n : ℕ). Closing p (Handled p) left (talk.Truncated n) fed calls text) x.0 (closing_truncated s.reads.kept met left fed calls text (bare o met fed calls text s) nothing sound out x.1)
        where
          go : (x : Option Refused) → IsOpen o.window x → TellsRest o.window x (Some at) → IsKept o.window x s.reads.kept → ReadsTo fed (s.frames ++ s.reads.kept.reading.waiting) s.reads.kept.reading None → s.reads.kept.reading.fault ≡ None
              → (s.reads.kept.reading.at ≡ at) × (0 < come s.reads.kept.reading)
          go None going t e r none =
              let w = o.window in
              let some : (come w.reading ≡ 0 → ⊥) = λ empty. let n = t.0.1 (empty, ap (λ (y : Window). y.reading.fault) (sym e) ∙ none) in cc in
              (ap (λ (y : Window). y.reading.at) e ∙ sym t.1, subst (λ (y : Window). 0 < come y.reading) (sym e) (some_come _ some))
          go (Some x) going t (body, h) r none =
              let is = subst (λ (b : Bool). HoldsBody b o.window x.past body s.reads.kept) going.0 h in
              let at_is : at ≡ x.past.at = some_same at x.past.at t in
              (ap (λ (y : Window). y.reading.at) is.1 ∙ sym at_is, head_come s.reads.kept fed _ x.past.head (ap (λ (y : Window). y.reading.begun) is.1) r)

  -- a connection may end here for want of more
  pub kept_may_end : (o : Intake) (met : Met) → IsIdle o met → met ≡ None → MayEnd (KeptBy o met) (Carried p)
  kept_may_end o met idle sound = record {
    read_fault = λ left fed calls text s. kept_unread o met left fed calls text s idle sound;
    too_much = λ left fed calls text s most. kept_too_much o met left fed calls text s idle sound most;
  }

  -- ---- the last reply

  says_nothing : (over : Talk) → ((at : ℕ) (why : _) → over ≡ talk.Fault at why → ⊥) → SaysLast over [] []
  says_nothing (talk.Fault at why) other = absurd (other at why refl)
  says_nothing over other = (refl, refl)

  module _ (left : Option (List ℕ)) (over : Talk) (fed : List ℕ) (called : List Call) (said : List ℕ) (c : Closing p (Handled p) left over fed called said) where
    -- nothing is to be said at the end of the input
    pub finished : ((at : ℕ) (why : _) → over ≡ talk.Fault at why → ⊥) → Carried p left fed (called ++ []) (said ++ []) over
    finished other = carried_over p left fed c.frames c.at called said c.handled c.front over [] [] c.is_over (says_nothing over other)

    -- at a fault it was said
    pub finished_said : (at : ℕ) (why : _) → over ≡ talk.Fault at why → Carried p left fed (called ++ []) (said ++ reply InvalidFormat None true) over
    finished_said at why is =
        carried_over p left fed c.frames c.at called said c.handled c.front over [] (reply InvalidFormat None true) c.is_over
        (subst (λ (t : Talk). SaysLast t [] (reply InvalidFormat None true)) (sym is) (refl, refl))

    -- or it wasn't said whole
    pub finished_unsaid : (at : ℕ) (why : _) → over ≡ talk.Fault at why → (part : List ℕ) (instead : Talk) → IsAtMove instead → instead ≡ talk.WriteFault → IsCut (reply InvalidFormat None true) part → Carried p left fed (called ++ []) (said ++ part) instead
    finished_unsaid at why is part instead move e cut =
        carried_instead p left fed c.frames c.at called said c.handled c.front over [] part instead move c.is_over
        (inr (subst (λ (t : Talk). p.StopsLast c.handled.steps c.handled.held t [] part instead) (sym is) (subst (λ (t : Talk). p.StopsLast c.handled.steps c.handled.held (talk.Fault at why) [] part t) (sym e) (refl, cut))))

-- what a session has served, by the tokens and what it has met as they are now
pub served_same : (ran : List Call → Type 0) (written written' : Option (List ℕ)) (n n' : ℕ) (From : List ℕ → List Call → List ℕ → Type 0) (conn : ℕ) (core core' : Tokens) (o : Intake) (met met' : Met) → core' ≡ core → met' ≡ met
    → Done ran written written' n n' (Leads n From (Served (Handled (hec core conn)) (ReadsKept core o met))) → Done ran written written' n n' (Leads n From (Served (Handled (hec core' conn)) (ReadsKept core' o met')))
served_same ran written written' n n' From conn core core' o met met' same_core same_met d =
    subst (λ (t : Tokens). Done ran written written' n n' (Leads n From (Served (Handled (hec t conn)) (ReadsKept t o met')))) (sym same_core)
    (subst (λ (m : Met). Done ran written written' n n' (Leads n From (Served (Handled (hec core conn)) (ReadsKept core o m)))) (sym same_met) d)
