-- What was done for a request of the collector.
use Rattle.std.proofs.Common.{◌≡◌, inl, inr, ℕ, ◌+◌, ◌<◌, Bool, List, [], ◌∷◌, ◌++◌, Option, Some, length, take, refl, sym, ap, subst, arith, length-append}
use Rattle.std.specs.Prelude.{Result, Ok, Err, IfErr, OnOk, OnErr}
use Rattle.std.specs.Global.{Vec}
use Rattle.std.specs.List.{All}
use Rattle.std.proofs.lemmas.List.Elements.{All-nil, All-cons}
use Rattle.std.specs.Io.KnownBytes.{Appends}
use Rattle.edge_io.proofs.Known.{appends_none}
use Rattle.event_form.specs.declared.event.Event.{Event}
use Rattle.event_form.specs.declared.event.Entry.{Entry}
use Rattle.event_form.specs.declared.talk.Talk.{Talk}
use Rattle.event_form.specs.declared.talk.Talk.TheVariants as talk
use Rattle.hec_ids.specs.declared.fault.IssueFault.{IssueFault}
use Rattle.hec_ids.specs.declared.fault.IssueFault.TheVariants as issue
use Rattle.hec_session.specs.declared.act.HecAct.{HecAct}
use Rattle.hec_session.specs.declared.act.HecAct.TheVariants.{StoreThenSay, SayThenStore}
use Rattle.spool_answers.specs.declared.receipt.Receipt.{Receipt}
use Rattle.spool_faults.specs.declared.fault.TakeFault.{TakeFault}
use Rattle.spool_faults.specs.declared.fault.TakeFault.TheVariants.{TooLarge, Spent, Full, NotSpool, NoMemory, DiskFault}
use Rattle.desk_access.specs.Call.{Call, takes, issues, settles, forgets, TookSurely}
use Rattle.desk_access.specs.Step.{count}
use Rattle.desk_access.proofs.Moves.{count_then}
use Rattle.conn_serve.specs.declared.hec.asked.Asked.TheVariants.{Leave}
use Rattle.conn_serve.specs.Done.{Done}
use Rattle.conn_serve.specs.Relp.{talk_of}
use Rattle.conn_serve.specs.Hec.{refusal, unissued, talk_of_issue, takes_all, IsDone, IsStarved, IsDue, EndsAtAct, continued, entries_of, success}
use Rattle.conn_serve.specs.HecServing.{Halts, HaltsAtAct, EndsSaying, StoresUnder, FailsUnder}

-- calls were made, and a text was written whole
pub said_whole : (ran : List Call → Type 0) (w w' : Option (List ℕ)) (n n' : ℕ) (Is : List Call → List ℕ → Type 0) (calls : List Call) (text written : List ℕ) → ran calls → n' ≡ n + count calls → written ≡ text → Appends w w' written → Is calls text → Done ran w w' n n' Is
said_whole ran w w' n n' Is calls text written made counted same wrote is = record {
  calls = calls;
  text = text;
  made = made;
  wrote = subst (Appends w w') same wrote;
  counted = counted;
  is = is;
}

-- or a part of it was
pub said_part : (ran : List Call → Type 0) (w w' : Option (List ℕ)) (n n' conn index : ℕ) (act : HecAct) (closing : Bool) (calls : List Call) (text written : List ℕ) (k : ℕ) (over : Talk)
    → ran calls → n' ≡ n + count calls → written ≡ text → IsDue conn index act closing calls text → over ≡ talk.WriteFault → k < length written → Appends w w' (take k written) → Done ran w w' n n' (HaltsAtAct conn index act closing over)
said_part ran w w' n n' conn index act closing calls text written k over made counted same due is short wrote = record {
  calls = calls;
  text = take k written;
  made = made;
  wrote = wrote;
  counted = counted;
  is = inr (subst (λ (t : Talk). EndsAtAct conn index act closing calls (take k written) t) (sym is) (written, subst (IsDue conn index act closing calls) (sym same) due, (k, short, refl)));
}

-- no memory was found for a text, after calls
pub unsaid : (ran : List Call → Type 0) (w : Option (List ℕ)) (n n' conn index : ℕ) (act : HecAct) (closing : Bool) (calls : List Call) (over : Talk) → ran calls → n' ≡ n + count calls → IsStarved act calls → over ≡ talk.NoMemory → Done ran w w n n' (HaltsAtAct conn index act closing over)
unsaid ran w n n' conn index act closing calls over made counted starved is = record {
  calls = calls;
  text = [];
  made = made;
  wrote = appends_none w;
  counted = counted;
  is = inr (subst (λ (t : Talk). EndsAtAct conn index act closing calls [] t) (sym is) (inl (starved, refl)));
}

-- ---- a take that wasn't answered Ok, before anything was said

module _ (conn index : ℕ) (events : Vec Event) (closing : Bool) where
  abbrev late_take : TakeFault → List Call
  late_take fault = takes_all conn index 0 events.items (Err fault) ∷ []

  pub take_ends : (fault : TakeFault) (part : List ℕ) → part ≡ refusal fault → EndsAtAct conn index (StoreThenSay events) closing (late_take fault) part (talk_of fault)
  take_ends (TooLarge need most) part same = inl (TooLarge need most, refl, same, refl)
  take_ends (Spent end) part same = inl (Spent end, refl, same, refl)
  take_ends (Full need room) part same = inl (Full need room, refl, same, refl)
  take_ends (NotSpool at) part same = inl (NotSpool at, refl, same, refl)
  take_ends NoMemory part same = inr (inl (NoMemory, refl, same, refl))
  take_ends DiskFault part same = inl (DiskFault, refl, same, refl)

  take_saying : (fault : TakeFault) (part : List ℕ) (over : Talk) → EndsSaying (refusal fault) (talk_of fault) part over → EndsAtAct conn index (StoreThenSay events) closing (late_take fault) part over
  take_saying fault part over (inl (is, same)) = subst (λ (t : Talk). EndsAtAct conn index (StoreThenSay events) closing (late_take fault) part t) (sym is) (take_ends fault part same)
  take_saying fault part over (inr (is, cut)) = subst (λ (t : Talk). EndsAtAct conn index (StoreThenSay events) closing (late_take fault) part t) (sym is) (refusal fault, inr (talk_of fault, (fault, refl, refl, refl)), cut)

  pub refused_take : (ran : List Call → Type 0) (w w' : Option (List ℕ)) (n n' : ℕ) (fault : TakeFault) (over : Talk) → ran (late_take fault) → n' ≡ n → ((part : List ℕ) × Appends w w' part × EndsSaying (refusal fault) (talk_of fault) part over) → Done ran w w' n n' (HaltsAtAct conn index (StoreThenSay events) closing over)
  refused_take ran w w' n n' fault over made same (part, wrote, ends) = record {
    calls = late_take fault;
    text = part;
    made = made;
    wrote = wrote;
    counted = omega (arith, same);
    is = inr (take_saying fault part over ends);
  }

-- ---- an id that wasn't issued

module _ (conn index channel : ℕ) (events : Vec Event) (closing : Bool) where
  abbrev late_issue : IssueFault → List Call
  late_issue fault = issues channel (Err fault) ∷ []

  pub issue_ends : (fault : IssueFault) (part : List ℕ) → part ≡ unissued fault → EndsAtAct conn index (SayThenStore channel events) closing (late_issue fault) part (talk_of_issue fault)
  issue_ends (issue.NoMore run) part same = inl (issue.NoMore run, refl, same, refl)
  issue_ends (issue.Busy held) part same = inl (issue.Busy held, refl, same, refl)
  issue_ends issue.NoMemory part same = inr (inl (issue.NoMemory, refl, same, refl))

  issue_saying : (fault : IssueFault) (part : List ℕ) (over : Talk) → EndsSaying (unissued fault) (talk_of_issue fault) part over → EndsAtAct conn index (SayThenStore channel events) closing (late_issue fault) part over
  issue_saying fault part over (inl (is, same)) = subst (λ (t : Talk). EndsAtAct conn index (SayThenStore channel events) closing (late_issue fault) part t) (sym is) (issue_ends fault part same)
  issue_saying fault part over (inr (is, cut)) = subst (λ (t : Talk). EndsAtAct conn index (SayThenStore channel events) closing (late_issue fault) part t) (sym is) (unissued fault, inr (talk_of_issue fault, (fault, refl, refl, refl)), cut)

  pub refused_issue : (ran : List Call → Type 0) (w w' : Option (List ℕ)) (n n' : ℕ) (fault : IssueFault) (over : Talk) → ran (late_issue fault) → n' ≡ n → ((part : List ℕ) × Appends w w' part × EndsSaying (unissued fault) (talk_of_issue fault) part over) → Done ran w w' n n' (HaltsAtAct conn index (SayThenStore channel events) closing over)
  refused_issue ran w w' n n' fault over made same (part, wrote, ends) = record {
    calls = late_issue fault;
    text = part;
    made = made;
    wrote = wrote;
    counted = omega (arith, same);
    is = inr (issue_saying fault part over ends);
  }

  -- ---- an id that was issued

  module _ (first second both : List Call → Type 0) (w w' : Option (List ℕ)) (n n' id : ℕ) (join : (xs ys : List Call) → first xs → second ys → both (xs ++ ys)) (issued : first (issues channel (Ok id) ∷ [])) where
    -- the events were stored under it
    pub stored_under : Done second w w' n n' (StoresUnder conn index channel id events.items closing) → Done both w w' n n' (IsDone conn index (SayThenStore channel events) closing)
    stored_under d =
        let (receipt, unsettled, calls, text) = d.is in record {
          calls = issues channel (Ok id) ∷ d.calls;
          text = d.text;
          made = join (issues channel (Ok id) ∷ []) d.calls issued d.made;
          wrote = d.wrote;
          counted = omega (arith, d.counted);
          is = (id, receipt, unsettled, ap (λ (l : List Call). issues channel (Ok id) ∷ l) calls, text);
        }

  pub unstored_ends : (id : ℕ) (fault : TakeFault) (held : Bool) (late : List Call) (part : List ℕ) → late ≡ issues channel (Ok id) ∷ takes_all conn index id events.items (Err fault) ∷ forgets channel id held ∷ [] → part ≡ success (Some id) closing
      → EndsAtAct conn index (SayThenStore channel events) closing late part (talk_of fault)
  unstored_ends id (TooLarge need most) held late part calls text = inr (id, TooLarge need most, held, calls, text, refl)
  unstored_ends id (Spent end) held late part calls text = inr (id, Spent end, held, calls, text, refl)
  unstored_ends id (Full need room) held late part calls text = inr (id, Full need room, held, calls, text, refl)
  unstored_ends id (NotSpool at) held late part calls text = inr (id, NotSpool at, held, calls, text, refl)
  unstored_ends id NoMemory held late part calls text = inr (inr (id, NoMemory, held, calls, text, refl))
  unstored_ends id DiskFault held late part calls text = inr (id, DiskFault, held, calls, text, refl)

  abbrev late_forget : ℕ → Bool → List Call → List Call
  late_forget id held calls = issues channel (Ok id) ∷ (calls ++ forgets channel id held ∷ [])

  forgotten_ends : (id : ℕ) (held : Bool) (calls : List Call) (part : List ℕ) (over : Talk) → FailsUnder conn index id events.items closing over calls part → EndsAtAct conn index (SayThenStore channel events) closing (late_forget id held calls) part over
  forgotten_ends id held calls part over (inl ((none, empty), is)) =
      subst (λ (t : Talk). EndsAtAct conn index (SayThenStore channel events) closing (late_forget id held calls) part t) (sym is)
      (inl ((id, (held, ap (late_forget id held) none)), empty))
  forgotten_ends id held calls part over (inr (inl (none, cut, is))) =
      subst (λ (t : Talk). EndsAtAct conn index (SayThenStore channel events) closing (late_forget id held calls) part t) (sym is)
      (success (Some id) closing, inl (id, (held, ap (late_forget id held) none), refl), cut)
  forgotten_ends id held calls part over (inr (inr (fault, took, text, is))) =
      subst (λ (t : Talk). EndsAtAct conn index (SayThenStore channel events) closing (late_forget id held calls) part t) (sym is)
      (unstored_ends id fault held (late_forget id held calls) part (ap (late_forget id held) took) text)

  -- the events were not stored under it, and it is forgotten
  pub forgotten : (first second third both : List Call → Type 0) (w w' : Option (List ℕ)) (n n' id : ℕ) (held : Bool) (over : Talk) → ((xs ys zs : List Call) → first xs → second ys → third zs → both (xs ++ (ys ++ zs))) → first (issues channel (Ok id) ∷ []) → third (forgets channel id held ∷ [])
      → Done second w w' n n' (FailsUnder conn index id events.items closing over) → Done both w w' n n' (HaltsAtAct conn index (SayThenStore channel events) closing over)
  forgotten first second third both w w' n n' id held over join issued forgot d = record {
    calls = late_forget id held d.calls;
    text = d.text;
    made = join (issues channel (Ok id) ∷ []) d.calls (forgets channel id held ∷ []) issued d.made forgot;
    wrote = d.wrote;
    counted = omega (arith, d.counted, count_then d.calls (forgets channel id held ∷ []));
    is = inr (forgotten_ends id held d.calls d.text over d.is);
  }

-- ---- while the id is said and its events are stored

module _ (conn index channel id : ℕ) (events : List Event) (closing : Bool) where
  -- the reply was cut short
  pub under_cut : (ran : List Call → Type 0) (w w' : Option (List ℕ)) (n : ℕ) (written : List ℕ) (over : Talk) → written ≡ success (Some id) closing → ran [] → (over ≡ talk.WriteFault) × ((k : ℕ) × (k < length written) × Appends w w' (take k written))
      → Done ran w w' n n (FailsUnder conn index id events closing over)
  under_cut ran w w' n written over same none (is, (k, short, wrote)) = record {
    calls = [];
    text = take k written;
    made = none;
    wrote = wrote;
    counted = omega arith;
    is = inr (inl (refl, (k, subst (λ (l : List ℕ). k < length l) same short, ap (take k) same), is));
  }

  module _ (ran : List Call → Type 0) (w w' : Option (List ℕ)) (n n' : ℕ) (entries : List Entry) (is : entries ≡ entries_of conn index id events) (written : List ℕ) (same : written ≡ success (Some id) closing) (wrote : Appends w w' written) where
    -- they were stored
    pub under_stored : (receipt : Receipt) (unsettled : Bool) → ran (takes entries (Ok receipt) ∷ settles channel id unsettled ∷ []) → n' ≡ n + length entries → Done ran w w' n n' (StoresUnder conn index channel id events closing)
    under_stored receipt unsettled made counted = record {
      calls = takes entries (Ok receipt) ∷ settles channel id unsettled ∷ [];
      text = written;
      made = made;
      wrote = wrote;
      counted = omega (arith, counted, length-append entries []);
      is = (receipt, unsettled, ap (λ (l : List Entry). takes l (Ok receipt) ∷ settles channel id unsettled ∷ []) is, same);
    }

    -- they were not
    pub under_refused : (fault : TakeFault) (over : Talk) → ran (takes entries (Err fault) ∷ []) → n' ≡ n → over ≡ talk_of fault → Done ran w w' n n' (FailsUnder conn index id events closing over)
    under_refused fault over made stays ends = record {
      calls = takes entries (Err fault) ∷ [];
      text = written;
      made = made;
      wrote = wrote;
      counted = omega (arith, stays);
      is = inr (inr (fault, ap (λ (l : List Entry). takes l (Err fault) ∷ []) is, same, ends));
    }

-- ---- calls that take nothing

pub may_same : (may : ℕ → ℕ → Type 0) (conn index : ℕ) → may conn (index + 0) → may conn index
may_same may conn index m = let same : index + 0 ≡ index = omega arith in subst (may conn) same m

pub none_sure : (call : Call) → TookSurely call → All TookSurely (call ∷ [])
none_sure call sure = All-cons TookSurely call [] sure (All-nil TookSurely)

pub none_conn : {conn : ℕ} → All (λ (e : Entry). e.conn ≡ conn) []
none_conn {conn} = All-nil (λ (e : Entry). e.conn ≡ conn)

-- a text that was cut short, for an item that asks for leave
pub leave_cut : (ran : List Call → Type 0) (w w' : Option (List ℕ)) (n conn index : ℕ) (over : Talk) → ran [] → (over ≡ talk.WriteFault) × ((k : ℕ) × (k < length continued) × Appends w w' (take k continued)) → Done ran w w' n n (Halts conn index Leave over)
leave_cut ran w w' n conn index over none (is, (k, short, wrote)) = record { calls = []; text = take k continued; made = none; wrote = wrote; counted = omega arith; is = (refl, (k, short, refl), is) }

pub ok_any : {T E : Type 0} (r : Result T E) (P : Type 0) → P → OnOk r P
ok_any (Ok x) P p = p
ok_any (Err e) P p = tt

pub left_out : {T E : Type 0} (r : Result T E) (Q : Type 0) → ((x : T) → r ≡ Ok x → ⊥) → OnErr r Q → Q
left_out (Ok x) Q other q = absurd (other x refl)
left_out (Err e) Q other q = q

pub ok_both : {T E : Type 0} (r : Result T E) (P Q G : Type 0) → OnOk r P → OnOk r Q → (P → Q → G) → OnOk r G
ok_both (Ok x) P Q G p q f = f p q
ok_both (Err e) P Q G p q f = tt

pub err_stays : {T E : Type 0} (r : Result T E) (P : E → Type 0) (Q : Type 0) (G : E → Type 0) → IfErr r P → OnErr r Q → ((e : E) → P e → Q → G e) → IfErr r G
err_stays (Ok x) P Q G p q f = tt
err_stays (Err e) P Q G p q f = f e p q
