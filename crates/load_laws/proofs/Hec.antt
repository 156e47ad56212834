-- A load by the collector's protocol: each event of its stream is taken.
use Rattle.std.proofs.Common.{◌≡◌, inl, inr, ℕ, ◌≤◌, Bool, false, List, [], ◌∷◌, ◌++◌, length, refl, sym, ◌∙◌, ap, subst, arith, length-append}
use Rattle.std.specs.Prelude.{Option}
use Rattle.std.proofs.lemmas.List.{append-nil}
use Rattle.std.proofs.lemmas.List.Elements.{All-cons, All-nil}
use Rattle.event_form.specs.Entry.{entry_text}
use Rattle.event_form.specs.declared.event.Entry.{Entry}
use Rattle.event_form.specs.declared.event.Event.{Event}
use Rattle.event_form.specs.declared.talk.Talk.{Talk}
use Rattle.event_form.proofs.Fields.{length-entry_text}
use Rattle.http_edge.specs.declared.request.HttpItem.{HttpItem}
use Rattle.http_edge.specs.declared.request.HttpItem.TheVariants.{Continue, Request}
use Rattle.http_edge.specs.declared.request.HttpRequest.{HttpRequest}
use Rattle.hec_session.specs.declared.act.HecAct.{HecAct}
use Rattle.hec_session.specs.declared.act.HecAct.TheVariants.{StoreThenSay, SayThenStore, Ask, Say}
use Rattle.hec_session.specs.declared.endpoint.Form.TheVariants.{Objects}
use Rattle.hec_session.specs.Acts.{IsAct, event_of}
use Rattle.desk_access.specs.Call.{Call, taken_of}
use Rattle.desk_access.specs.Call as calls
use Rattle.desk_access.specs.Carried.{Carried, Ending}
use Rattle.desk_access.specs.Desk.{DeskState}
use Rattle.desk_access.specs.Journal.{calls_by, none_joins}
use Rattle.desk_access.specs.Protocol.{AreMoves}
use Rattle.desk_access.specs.Step.{Step, calls_of, count, frames_of}
use Rattle.desk_access.proofs.Moves.{taken_then}
use Rattle.conn_serve.specs.Hec.{AreTold, CarriesItem, IsDone as IsActDone, StopsSaying, entries_of, hec}
use Rattle.conn_serve.specs.Relp.{entry_of}
use Rattle.load_run.specs.Load.{new_spool}
use Rattle.load_run.specs.Stream.{hec_stream}
use Rattle.ending_laws.specs.Replaying.{HecFits, IsGranted}
use Rattle.bridge_parts.specs.Opened.{desk_in}
use Rattle.ending_laws.proofs.Endings.{IsDone, Kept, kept_all}
use Rattle.ending_laws.proofs.Hec.{told_more}
use Rattle.load_laws.proofs.Room.{AreSmall, IsSmall, Packed, goes_packed, new_packed, small_fits, small_then}
use Rattle.load_laws.proofs.HecObject.{StoresOne}
use Rattle.load_laws.proofs.HecRequest.{act_is, the_tokens}
use Rattle.load_laws.proofs.HecItems.{AreLow, AreTexts, IsOwn, asked, asked_then, are_told, low_first, low_last, low_open, object, object_cut, object_low}

-- ---- what they store

group_of : (conn index : ℕ) (body : List ℕ) (events : List Event) → events ≡ event_of Objects body ∷ [] → length body ≤ 40 → IsSmall (entries_of conn index 0 events)
group_of conn index body events is low =
    let entry : Entry = entry_of conn index 0 (event_of Objects body) in
    subst (λ (l : List Event). IsSmall (entries_of conn index 0 l)) (sym is) (record {
      some = omega arith;
      few = omega arith;
      each = All-cons (λ (e : Entry). length (entry_text e) ≤ 200) entry [] (omega (arith, low, length-entry_text entry)) (All-nil (λ (e : Entry). length (entry_text e) ≤ 200));
    })

-- calls that took small groups, so many entries
pub record TookSmall (made : List Call) (n : ℕ) : Type 0 where
  pub small : AreSmall made
  pub many : length (taken_of made) ≡ n

own_act : (r : HttpRequest) (act : HecAct) (own : IsOwn r) → IsAct the_tokens r act → StoresOne (object own.0) act
own_act r act (text, is, same) does = act_is (object text) act (object_cut text is) (subst (λ (q : HttpRequest). IsAct the_tokens q act) same does)

act_took : (conn index : ℕ) (body : List ℕ) (act : HecAct) (closing : Bool) (made : List Call) (text : List ℕ)
    → length body ≤ 40 → StoresOne body act → IsActDone conn index act closing made text → TookSmall made 1
act_took conn index body (StoreThenSay events) closing made text low stores (receipt, took, said) =
    subst (λ (l : List Call). TookSmall l 1) (sym took) (record {
      small = (group_of conn index body events.items stores low, tt);
      many = ap (λ (l : List Entry). length l) (append-nil (entries_of conn index 0 events.items)) ∙ ap (λ (l : List Event). length (entries_of conn index 0 l)) stores;
    })
act_took conn index body (SayThenStore channel events) closing made text low stores done = absurd stores
act_took conn index body (Ask channel ids) closing made text low stores done = absurd stores
act_took conn index body (Say say) closing made text low stores done = absurd stores

item_took : (conn index : ℕ) (item : HttpItem) (made : List Call) (text : List ℕ) → AreLow (item ∷ []) → CarriesItem the_tokens conn index item made text → TookSmall made (asked (item ∷ []))
item_took conn index Continue made text low (none, said) = subst (λ (l : List Call). TookSmall l 0) (sym none) (record { small = tt; many = refl })
item_took conn index (Request r) made text low (act, does, stays, done) =
    act_took conn index (object low.0.0) act false made text (object_low low.0.0 low.0.1) (own_act r act low.0 does) done

pub moves_took : (conn : ℕ) (before steps : List (Step HttpItem)) → AreMoves (hec the_tokens conn) before steps → AreLow (frames_of steps) → TookSmall (calls_of steps) (asked (frames_of steps))
moves_took conn before [] moves low = record { small = tt; many = refl }
moves_took conn before (s ∷ steps) moves low =
    let move = moves.0 in
    let here = item_took conn (count (calls_of before)) move.0 s.calls s.text (subst AreLow move.1 (low_first s.frames (frames_of steps) low)) move.2 in
    let rest = moves_took conn (before ++ s ∷ []) steps moves.1 (low_last s.frames (frames_of steps) low) in
    record {
      small = small_then s.calls (calls_of steps) here.small rest.small;
      many = omega (
        arith,
        here.many,
        rest.many,
        ap (λ (l : List Entry). length l) (taken_then s.calls (calls_of steps)),
        length-append (taken_of s.calls) (taken_of (calls_of steps)),
        asked_then s.frames (frames_of steps),
        ap asked move.1,
      );
    }

-- the spool has room for the event of each request of the stream
granted : (x : DeskState) (conn index : ℕ) (body : List ℕ) (act : HecAct) (taken : List Entry) → Packed x.spool taken → length taken ≤ 110000
    → length body ≤ 40 → StoresOne body act → IsGranted x conn index act
granted x conn index body (StoreThenSay events) taken packed few low stores =
    small_fits x.spool taken (entries_of conn index 0 events.items) packed (group_of conn index body events.items stores low) few
granted x conn index body (SayThenStore channel events) taken packed few low stores = absurd stores
granted x conn index body (Ask channel ids) taken packed few low stores = absurd stores
granted x conn index body (Say say) taken packed few low stores = absurd stores

pub hec_fits : (conn : ℕ) (texts : List (List ℕ)) → length texts ≤ 100000 → AreTexts texts → HecFits the_tokens conn new_spool (hec_stream texts)
hec_fits conn texts few are steps x r at act first told does =
    let t = are_told texts (frames_of steps ++ Request r ∷ []) at are told in
    let own : IsOwn r = (low_last (frames_of steps) (Request r ∷ []) t.low).0 in
    let took = moves_took conn [] steps first.moves (low_first (frames_of steps) (Request r ∷ []) t.low) in
    let made : calls.calls_of first.records ≡ calls_of steps = calls_by 0 (calls_of steps) first.records first.by in
    let same : length (taken_of (calls.calls_of first.records)) ≡ asked (frames_of steps) = ap (λ (l : List Call). length (taken_of l)) made ∙ took.many in
    let all : asked (frames_of steps) ≤ 110000 = omega (arith, few, t.few, asked_then (frames_of steps) (Request r ∷ [])) in
    let packed = goes_packed (desk_in new_spool) x first.records [] (none_joins 0 (calls_of steps) first.records first.by) refl new_packed (subst AreSmall (sym made) took.small) (omega (arith, same, all)) first.goes in
    granted x conn (count (calls_of steps)) (object own.0) act (taken_of (calls.calls_of first.records)) packed.packed (omega (arith, same, all)) (object_low own.0 own.1) (own_act r act own does)

-- ---- all of them are taken

module _ (conn : ℕ) (left : Option (List ℕ)) (texts : List (List ℕ)) (b : List ℕ) (made : List Call) (text : List ℕ) (talk : Talk)
    (c : Carried (hec the_tokens conn) left b made text talk) (k : Kept left (hec_stream texts) b) (are : AreTexts texts) where
  whole_told : (items : List HttpItem) (at : ℕ) → AreTold b items at → AreTold (hec_stream texts) items at
  whole_told items at told = subst (λ (l : List ℕ). AreTold l items at) (sym k.joined) (told_more b items at k.more told)

  no_item_held : (more : List HttpItem) (at : ℕ) → AreTold b ((frames_of c.steps ++ c.held) ++ more) at → AreTold b (frames_of c.steps ++ more) at
  no_item_held more at told = subst (λ (l : List HttpItem). AreTold b (l ++ more) at) (ap (λ (l : List HttpItem). frames_of c.steps ++ l) c.kept ∙ append-nil (frames_of c.steps)) told

  took_at : (t : Talk) → IsDone t → Ending (hec the_tokens conn) left b c.steps c.held c.at c.late c.part t → TookSmall made (length texts)
  took_at Talk.Ended done ((over, stream, last), nothing) =
      let all : hec_stream texts ≡ b = kept_all left (hec_stream texts) b k over in
      let front = no_item_held [] c.at (subst (λ (l : List HttpItem). AreTold b l c.at) (sym (append-nil (frames_of c.steps ++ c.held))) c.front) in
      let t = are_told texts (frames_of c.steps ++ []) c.at are (whole_told (frames_of c.steps ++ []) c.at front) in
      let took = moves_took conn [] c.steps c.each (low_first (frames_of c.steps) [] t.low) in
      let many : asked (frames_of c.steps) ≡ length texts = omega (arith, asked_then (frames_of c.steps) [], t.all (last ∙ ap (λ (l : List ℕ). length l) (sym all))) in
      let own : made ≡ calls_of c.steps = c.made ∙ ap (λ (l : List Call). calls_of c.steps ++ l) nothing.0 ∙ append-nil (calls_of c.steps) in
      subst (λ (l : List Call). TookSmall l (length texts)) (sym own) (subst (TookSmall (calls_of c.steps)) many took)
  took_at Talk.Closed done (inr (over, is_over, stops)) = absurd (never over stops)
    where
      never : (o : Talk) → StopsSaying o c.late c.part Talk.Closed → ⊥
      never (Talk.Fault at why) s = s
      never o s = s
  took_at Talk.Closed done (inl (Continue, end, told, stops)) = absurd stops
  took_at Talk.Closed done (inl (Request r, end, told, (act, does, (closing, finished)))) =
      let items = frames_of c.steps ++ Request r ∷ [] in
      absurd (low_open (frames_of c.steps) r (are_told texts items end are (whole_told items end (no_item_held (Request r ∷ []) end told))).low closing)
  took_at t done e = absurd done

  pub hec_took : IsDone talk → TookSmall made (length texts)
  hec_took done = took_at talk done c.ending
