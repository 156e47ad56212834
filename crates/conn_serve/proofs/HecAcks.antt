-- What the replies of a collector's connection acknowledge was taken.
use Rattle.std.proofs.Common.{◌≡◌, ◌⊎◌, inl, inr, ℕ, zero, suc, ◌<◌, ◌∙◌, Bool, true, false, List, [], ◌∷◌, ◌++◌, Option, length, get_or, refl, sym, ap, subst, arith, append_assoc}
use Rattle.std.specs.Prelude.{Ok, Err}
use Rattle.std.specs.List.{Contains}
use Rattle.std.proofs.lemmas.List.{append-nil}
use Rattle.std.proofs.lemmas.List.Elements.{Contains-append_left, Contains-append_right}
use Rattle.event_form.specs.declared.talk.Talk.{Talk}
use Rattle.event_form.specs.declared.talk.Talk.TheVariants as talk
use Rattle.http_edge.specs.declared.request.HttpItem.{HttpItem}
use Rattle.http_edge.specs.declared.request.HttpItem.TheVariants.{Continue, Request}
use Rattle.http_edge.specs.declared.request.HttpRequest.{HttpRequest}
use Rattle.hec_session.specs.Acts.{IsAct}
use Rattle.hec_session.specs.declared.act.HecAct.{HecAct}
use Rattle.hec_session.specs.declared.act.HecAct.TheVariants.{StoreThenSay, SayThenStore, Ask, Say}
use Rattle.hec_session.specs.declared.tokens.Tokens.{Tokens}
use Rattle.hec_session.proofs.EventLaws.{some_events}
use Rattle.desk_access.specs.Call.{Call, takes, issues, settles, forgets, asks, Record, AreBy}
use Rattle.desk_access.specs.Carried.{EndsAtMove, Ending}
use Rattle.desk_access.specs.Desk.{DeskState, Goes}
use Rattle.desk_access.specs.Groups.{Group, IsOfId, groups_of}
use Rattle.desk_access.specs.Legal.{IsStored}
use Rattle.desk_access.specs.Protocol.{AreMoves}
use Rattle.desk_access.specs.Settled.{AllSettleStored}
use Rattle.desk_access.specs.Step.{Step, calls_of, text_of, count}
use Rattle.desk_access.proofs.Groups.{groups_then, stored_group}
use Rattle.desk_access.proofs.Moves.{ending_cases}
use Rattle.desk_access.proofs.Nexts.{stored_new}
use Rattle.desk_access.proofs.Told.{told_was_own}
use Rattle.conn_serve.specs.Hec.{hec, takes_all, entries_of, CarriesItem, EndsAtAct, IsDone, IsDue, IsRefused, IsStarved, IsUnstored, SaysLast, StopsAtItem, StopsSaying}
use Rattle.conn_serve.specs.HecAcked.{LiesWhole, SaidLiesWhole, AcknowledgedIsTaken, SettledIsStored, ToldIsTaken}
use Rattle.conn_serve.proofs.HecEntries.{count_entries, entries_unit}

-- ---- what is said lies whole

-- the calls and the text of one of the steps
step_lies : (steps : List (Step HttpItem)) (s : Step HttpItem) (k : ℕ) → k < length steps → get_or steps k s ≡ s → LiesWhole (calls_of steps) s.calls (text_of steps) s.text
step_lies [] s k short is = absurd (omega (arith, short))
step_lies (x ∷ steps) s zero short is = record {
  first = [];
  more = calls_of steps;
  before = [];
  after = text_of steps;
  calls_are = ap (λ (t : Step HttpItem). t.calls ++ calls_of steps) is;
  text_is = ap (λ (t : Step HttpItem). t.text ++ text_of steps) is;
}
step_lies (x ∷ steps) s (suc k) short is =
    let rest = step_lies steps s k (omega (arith, short)) is in
    record {
      first = x.calls ++ rest.first;
      more = rest.more;
      before = x.text ++ rest.before;
      after = rest.after;
      calls_are = ap (λ (l : List Call). x.calls ++ l) rest.calls_are ∙ sym (append_assoc x.calls rest.first (s.calls ++ rest.more));
      text_is = ap (λ (l : List ℕ). x.text ++ l) rest.text_is ∙ sym (append_assoc x.text rest.before (s.text ++ rest.after));
    }

-- with more at the end
lies_more : (calls made late : List Call) (text said part : List ℕ) → LiesWhole calls made text said → LiesWhole (calls ++ late) made (text ++ part) said
lies_more calls made late text said part w = record {
  first = w.first;
  more = w.more ++ late;
  before = w.before;
  after = w.after ++ part;
  calls_are = ap (λ (l : List Call). l ++ late) w.calls_are ∙ append_assoc w.first (made ++ w.more) late ∙ ap (λ (l : List Call). w.first ++ l) (append_assoc made w.more late);
  text_is = ap (λ (l : List ℕ). l ++ part) w.text_is ∙ append_assoc w.before (said ++ w.after) part ∙ ap (λ (l : List ℕ). w.before ++ l) (append_assoc said w.after part);
}

-- or at the end
lies_last : (calls made : List Call) (text said : List ℕ) → LiesWhole (calls ++ made) made (text ++ said) said
lies_last calls made text said = record {
  first = calls;
  more = [];
  before = text;
  after = [];
  calls_are = ap (λ (l : List Call). calls ++ l) (sym (append-nil made));
  text_is = ap (λ (l : List ℕ). text ++ l) (sym (append-nil said));
}

-- as those of all calls and of the whole text
lies_same : (calls calls' made made' : List Call) (text text' said said' : List ℕ) → calls ≡ calls' → text ≡ text' → made ≡ made' → said ≡ said' → LiesWhole calls' made' text' said' → LiesWhole calls made text said
lies_same calls calls' made made' text text' said said' same_calls same_text same_made same_said w = record {
  first = w.first;
  more = w.more;
  before = w.before;
  after = w.after;
  calls_are = same_calls ∙ w.calls_are ∙ ap (λ (l : List Call). w.first ++ (l ++ w.more)) (sym same_made);
  text_is = same_text ∙ w.text_is ∙ ap (λ (l : List ℕ). w.before ++ (l ++ w.after)) (sym same_said);
}

pub said_lies_whole : SaidLiesWhole
said_lies_whole tokens conn left b calls text talk c made said (inl (s, (k, short, is), same_made, same_said)) =
    lies_same calls (calls_of c.steps ++ c.late) made s.calls text (text_of c.steps ++ c.part) said s.text c.made c.wrote same_made same_said
    (lies_more (calls_of c.steps) s.calls c.late (text_of c.steps) s.text c.part (step_lies c.steps s k short is))
said_lies_whole tokens conn left b calls text talk c made said (inr (closed, same_made, same_said)) =
    lies_same calls (calls_of c.steps ++ c.late) made c.late text (text_of c.steps ++ c.part) said c.part c.made c.wrote same_made same_said
    (lies_last (calls_of c.steps) c.late (text_of c.steps) c.part)

-- ---- a group that is acknowledged

only_group : (groups : List Group) (group : Group) → groups ≡ group ∷ [] → Contains groups group
only_group groups group is = subst (λ (l : List Group). Contains l group) (sym is) (0, omega arith, refl)

pub acknowledged_is_taken : AcknowledgedIsTaken
acknowledged_is_taken tokens conn left b calls text talk c group (made, said, is_said, (closing, took, success)) =
    let w = said_lies_whole tokens conn left b calls text talk c made said is_said in
    let parts : groups_of calls ≡ groups_of w.first ++ (groups_of made ++ groups_of w.more) =
    ap groups_of w.calls_are ∙ groups_then w.first (made ++ w.more) ∙ ap (λ (l : List Group). groups_of w.first ++ l) (groups_then made w.more) in
    subst (λ (l : List Group). Contains l group) (sym parts)
    (Contains-append_right (groups_of w.first) (groups_of made ++ groups_of w.more) group (Contains-append_left (groups_of made) (groups_of w.more) group (only_group (groups_of made) group took)))

-- ---- what is settled

settle_then : (own xs ys : List Call) → AllSettleStored own xs → AllSettleStored (own ++ xs) ys → AllSettleStored own (xs ++ ys)
settle_then own [] ys p q = subst (λ (l : List Call). AllSettleStored l ys) (append-nil own) q
settle_then own (x ∷ xs) ys p q = (p.0, settle_then (own ++ x ∷ []) xs ys p.1 (subst (λ (l : List Call). AllSettleStored l ys) (sym (append_assoc own (x ∷ []) xs)) q))

-- the first of the calls
pub settle_first : (own xs ys : List Call) → AllSettleStored own (xs ++ ys) → AllSettleStored own xs
settle_first own [] ys p = tt
settle_first own (x ∷ xs) ys p = (p.0, settle_first (own ++ x ∷ []) xs ys p.1)

-- after whatever calls
module _ (conn index : ℕ) (own : List Call) where
  settles_by : (late calls : List Call) → late ≡ calls → AllSettleStored own calls → AllSettleStored own late
  settles_by late calls is p = subst (AllSettleStored own) (sym is) p

  done_settles : (tokens : Tokens) (r : HttpRequest) (act : HecAct) (closing : Bool) (calls : List Call) (text : List ℕ) → IsAct tokens r act → IsDone conn index act closing calls text → AllSettleStored own calls
  done_settles tokens r (Say say) closing calls text is (code, coded, none, said) = settles_by calls [] none tt
  done_settles tokens r (StoreThenSay events) closing calls text is (receipt, took, said) = settles_by calls (takes_all conn index 0 events.items (Ok receipt) ∷ []) took (tt, tt)
  done_settles tokens r (SayThenStore channel events) closing calls text is (id, receipt, unsettled, took, said) =
      let group = entries_of conn index id events.items in
      let some : 0 < length group = omega (arith, count_entries conn index id events.items, some_events tokens r channel events is) in
      settles_by calls (issues channel (Ok id) ∷ takes group (Ok receipt) ∷ settles channel id unsettled ∷ []) took
      (tt, (tt, (stored_new (own ++ issues channel (Ok id) ∷ []) group receipt id some (entries_unit conn index id events.items), tt)))
  done_settles tokens r (Ask channel ids) closing calls text is (known, asked, said) = settles_by calls (asks channel ids.items known ∷ []) asked (tt, tt)

  refused_settles : (act : HecAct) (late : List Call) (part : List ℕ) (over : Talk) → IsRefused conn index act late part over → AllSettleStored own late
  refused_settles (Say say) late part over r = absurd r
  refused_settles (StoreThenSay events) late part over (fault, took, said, ends) = settles_by late (takes_all conn index 0 events.items (Err fault) ∷ []) took (tt, tt)
  refused_settles (SayThenStore channel events) late part over (fault, issued, said, ends) = settles_by late (issues channel (Err fault) ∷ []) issued (tt, tt)
  refused_settles (Ask channel ids) late part over r = absurd r

  unstored_settles : (act : HecAct) (closing : Bool) (late : List Call) (part : List ℕ) (over : Talk) → IsUnstored conn index act closing late part over → AllSettleStored own late
  unstored_settles (Say say) closing late part over r = absurd r
  unstored_settles (StoreThenSay events) closing late part over r = absurd r
  unstored_settles (SayThenStore channel events) closing late part over (id, fault, held, made, said, ends) =
      settles_by late (issues channel (Ok id) ∷ takes_all conn index id events.items (Err fault) ∷ forgets channel id held ∷ []) made (tt, (tt, (tt, tt)))
  unstored_settles (Ask channel ids) closing late part over r = absurd r

  starved_settles : (act : HecAct) (late : List Call) → IsStarved act late → AllSettleStored own late
  starved_settles (Say say) late s = absurd s
  starved_settles (StoreThenSay events) late s = absurd s
  starved_settles (SayThenStore channel events) late (id, (held, made)) = settles_by late (issues channel (Ok id) ∷ forgets channel id held ∷ []) made (tt, (tt, tt))
  starved_settles (Ask channel ids) late (known, asked) = settles_by late (asks channel ids.items known ∷ []) asked (tt, tt)

  due_settles : (tokens : Tokens) (r : HttpRequest) (act : HecAct) (closing : Bool) (late : List Call) (text : List ℕ) → IsAct tokens r act → IsDue conn index act closing late text → AllSettleStored own late
  due_settles tokens r (SayThenStore channel events) closing late text is (inl (id, forgotten, said)) = starved_settles (SayThenStore channel events) late (id, forgotten)
  due_settles tokens r (SayThenStore channel events) closing late text is (inr (over, refused)) = refused_settles (SayThenStore channel events) late text over refused
  due_settles tokens r (Say say) closing late text is (inl done) = done_settles tokens r (Say say) closing late text is done
  due_settles tokens r (Say say) closing late text is (inr (over, refused)) = absurd refused
  due_settles tokens r (StoreThenSay events) closing late text is (inl done) = done_settles tokens r (StoreThenSay events) closing late text is done
  due_settles tokens r (StoreThenSay events) closing late text is (inr (over, refused)) = refused_settles (StoreThenSay events) late text over refused
  due_settles tokens r (Ask channel ids) closing late text is (inl done) = done_settles tokens r (Ask channel ids) closing late text is done
  due_settles tokens r (Ask channel ids) closing late text is (inr (over, refused)) = absurd refused

  either_settles : (act : HecAct) (closing : Bool) (late : List Call) (part : List ℕ) (over : Talk) → IsRefused conn index act late part over ⊎ IsUnstored conn index act closing late part over → AllSettleStored own late
  either_settles act closing late part over (inl refused) = refused_settles act late part over refused
  either_settles act closing late part over (inr unstored) = unstored_settles act closing late part over unstored

  act_settles : (tokens : Tokens) (r : HttpRequest) (act : HecAct) (closing : Bool) (late : List Call) (part : List ℕ) (over : Talk) → IsAct tokens r act → EndsAtAct conn index act closing late part over → AllSettleStored own late
  act_settles tokens r act closing late part talk.Closed is e = done_settles tokens r act true late part is e.1
  act_settles tokens r act closing late part talk.WriteFault is e = due_settles tokens r act closing late e.0 is e.1
  act_settles tokens r act closing late part talk.NoMemory is (inl starved) = starved_settles act late starved.0
  act_settles tokens r act closing late part talk.NoMemory is (inr either) = either_settles act closing late part talk.NoMemory either
  act_settles tokens r act closing late part over is e = either_settles act closing late part over e

  item_settles : (tokens : Tokens) (i : HttpItem) (calls : List Call) (text : List ℕ) → CarriesItem tokens conn index i calls text → AllSettleStored own calls
  item_settles tokens Continue calls text (none, said) = settles_by calls [] none tt
  item_settles tokens (Request r) calls text (act, is, stays, done) = done_settles tokens r act false calls text is done

  stop_settles : (tokens : Tokens) (i : HttpItem) (late : List Call) (part : List ℕ) (over : Talk) → StopsAtItem tokens conn index i late part over → AllSettleStored own late
  stop_settles tokens Continue late part talk.WriteFault (none, cut) = settles_by late [] none tt
  stop_settles tokens Continue late part over s = absurd s
  stop_settles tokens (Request r) late part over (act, is, ends) = act_settles tokens r act _ late part over is ends

  last_settles : (over : Talk) (late : List Call) (part : List ℕ) → SaysLast over late part → AllSettleStored own late
  last_settles (talk.Fault at why) late part says = settles_by late [] says.0 tt
  last_settles over late part says = settles_by late [] says.0 tt

  cut_settles : (over : Talk) (late : List Call) (part : List ℕ) (instead : Talk) → StopsSaying over late part instead → AllSettleStored own late
  cut_settles (talk.Fault at why) late part talk.WriteFault s = settles_by late [] s.0 tt
  cut_settles over late part instead s = absurd s

steps_settle : (tokens : Tokens) (conn : ℕ) (own : List Call) (before steps : List (Step HttpItem)) → AreMoves (hec tokens conn) before steps → AllSettleStored own (calls_of steps)
steps_settle tokens conn own before [] m = tt
steps_settle tokens conn own before (s ∷ steps) m =
    settle_then own s.calls (calls_of steps) (item_settles conn (count (calls_of before)) own tokens m.0.0 s.calls s.text m.0.2) (steps_settle tokens conn (own ++ s.calls) (before ++ s ∷ []) steps m.1)

module _ (tokens : Tokens) (conn : ℕ) (left : Option (List ℕ)) (b : List ℕ) (steps : List (Step HttpItem)) (held : List HttpItem) (at : ℕ) (late : List Call) (part : List ℕ) (own : List Call) where
  move_settles : (over : Talk) → EndsAtMove (hec tokens conn) left b steps held at late part over → AllSettleStored own late
  move_settles over (inl e) = stop_settles conn (count (calls_of steps)) own tokens e.0 late part over e.3
  move_settles over (inr e) = cut_settles conn (count (calls_of steps)) own e.0 late part over e.2

  ending_settles : (over : Talk) → Ending (hec tokens conn) left b steps held at late part over → AllSettleStored own late
  ending_settles over e =
      ending_cases (hec tokens conn) left b steps held at late part (λ _. AllSettleStored own late) (λ t says. last_settles conn (count (calls_of steps)) own t late part says) (λ t none. settles_by conn (count (calls_of steps)) own late [] none.0 tt) move_settles over e

pub settled_is_stored : SettledIsStored
settled_is_stored tokens conn left b calls text talk c =
    subst (AllSettleStored []) (sym c.made)
    (settle_then [] (calls_of c.steps) c.late (steps_settle tokens conn [] [] c.steps c.each) (ending_settles tokens conn left b c.steps c.held c.at c.late c.part (calls_of c.steps) talk c.ending))

-- ---- an id that is told true

-- where a question among the calls was answered so
pub told_among : (calls : List Call) → AllSettleStored [] calls → (x z : DeskState) (number : ℕ) (records : List Record) → x.ids.held ≡ [] → Goes x records z → AreBy number calls records
    → (first more : List Call) (channel id : ℕ) (ids : List ℕ) (known : List Bool) (k : ℕ) → calls ≡ first ++ asks channel ids known ∷ more → k < length ids → get_or ids k 0 ≡ id → get_or known k false ≡ true
    → (group : Group) × Contains (groups_of calls) group × IsOfId id group
told_among calls settled x z number records none goes by first more channel id ids known k parts short is_id told =
    let stored = settle_first [] first (asks channel ids known ∷ more) (subst (AllSettleStored []) parts settled) in
    let taken = told_was_own x z number first more records channel ids known k none goes (subst (λ (l : List Call). AreBy number l records) parts by) stored short told in
    let g = stored_group first id (subst (IsStored first) is_id taken) in
    let groups : groups_of calls ≡ groups_of first ++ groups_of (asks channel ids known ∷ more) = ap groups_of parts ∙ groups_then first (asks channel ids known ∷ more) in
    (g.0, subst (λ (l : List Group). Contains l g.0) (sym groups) (Contains-append_left (groups_of first) (groups_of (asks channel ids known ∷ more)) g.0 g.1), g.2)

pub told_is_taken : ToldIsTaken
told_is_taken tokens conn left b calls text talk c x z number records none goes by channel id (made, said, is_said, (ids, known, closing, k, asked, answered, short, is_id, told)) =
    let w = said_lies_whole tokens conn left b calls text talk c made said is_said in
    let parts : calls ≡ w.first ++ asks channel ids known ∷ w.more = w.calls_are ∙ ap (λ (l : List Call). w.first ++ (l ++ w.more)) asked in
    told_among calls (settled_is_stored tokens conn left b calls text talk c) x z number records none goes by w.first w.more channel id ids known k parts short is_id told
