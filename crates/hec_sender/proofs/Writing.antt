-- What is written, and what else needs no reply.
use Rattle.std.proofs.Common.{◌≡◌, inl, inr, ℕ, zero, suc, ◌+◌, ◌-◌, ◌*◌, ◌<◌, ◌≤◌, ◌∙◌, Bool, true, List, [], ◌++◌, length, refl, sym, ap, subst, arith, append_assoc}
use Rattle.std.specs.Prelude.{Option, Some, None, Result, Ok, Err, IfOk, OnErr}
use Rattle.std.specs.declared.alloc.AllocError.{AllocError}
use Rattle.std.proofs.lemmas.List.{append-nil}
use Rattle.event_form.specs.declared.event.Entry.{Entry}
use Rattle.event_form.specs.declared.turn.Turn.{Turn}
use Rattle.event_form.specs.declared.turn.Turn.TheVariants.{Write, Need, Wait, Done}
use Rattle.http_edge.specs.declared.fault.HttpFault.{HttpFault}
use Rattle.http_reply.specs.declared.reply.HttpReply.{HttpReply}
use Rattle.hec_sender.specs.declared.due.Due.TheVariants as due
use Rattle.hec_sender.specs.declared.query.Query.{Query}
use Rattle.hec_sender.specs.declared.stage.Stage.{Stage}
use Rattle.hec_sender.specs.declared.stage.Stage.TheVariants.{Sent, Paused, Asked}
use Rattle.hec_sender.specs.declared.stop.Stop.{Stop}
use Rattle.hec_sender.specs.declared.stop.Stop.TheVariants as stop
use Rattle.hec_sender.specs.declared.terms.Terms.{Terms}
use Rattle.hec_sender.specs.Texts.{request_text, query_text, queries_text}
use Rattle.hec_sender.specs.Requests.{request_of}
use Rattle.hec_sender.specs.Progress.{Progress, TakesAll, unconfirmed}
use Rattle.hec_sender.specs.Sender.{Sender, Keeps, Needs, IsDone, IsDue, IsWithin, HasSome, asked_by, stage_text}
use Rattle.hec_sender.specs.Sends.{SendsOn, HasRead}
use Rattle.hec_sender.specs.Turns.{Acts, IsDry, IsFor, Stays, ending_of, spent, stage_spent}
use Rattle.hec_sender.proofs.Dues.{for_due, for_dry, dry_turn, asked_not, unasked}

-- the same replies
pub takes_same : (polls : ℕ) (p : Progress) (taken : List HttpReply) → TakesAll polls unconfirmed taken p → TakesAll polls unconfirmed (taken ++ []) p
takes_same polls p taken h = subst (λ (l : List HttpReply). TakesAll polls unconfirmed l p) (sym (append-nil taken)) h

-- a stage on, with a text
pub sends_stage : (s : Sender) (stage : Stage) (text : List ℕ) (asked : Bool) → asked_by stage ≡ asked_by s.stage
    → stage_text s.terms stage (request_of s.done s.rest) ≡ stage_text s.terms s.stage (request_of s.done s.rest) ++ text → SendsOn s text (record s { stage = stage; asked = asked })
sends_stage s stage text asked same writes h g = (
  [],
  h.progress,
  record {
    front = g.front;
    entries = g.entries;
    count = g.count;
    text = g.text;
    cut = g.cut;
    said = ap (λ (l : List ℕ). l ++ text) g.said ∙ append_assoc g.text (stage_text s.terms s.stage (request_of s.done s.rest)) text ∙ ap (λ (l : List ℕ). g.text ++ l) (sym writes);
    requests = g.requests;
    asked = g.asked ∙ sym same;
    takes = takes_same s.terms.polls h.progress h.taken g.takes;
    read = subst (λ (l : List HttpReply). HasRead s.terms.polls s.reader h.progress h.fed l s.stop) (sym (append-nil h.taken)) g.read;
  },
)

pub sends_none : (s : Sender) (asked : Bool) → SendsOn s [] (record s { asked = asked })
sends_none s asked = sends_stage s s.stage [] asked refl (sym (append-nil (stage_text s.terms s.stage (request_of s.done s.rest))))

pub same_terms : (s t : Sender) → t.terms ≡ s.terms → t.reader ≡ s.reader → t.rest ≡ s.rest → t.done ≡ s.done → t.first ≡ s.first → t.finished ≡ s.finished → Stays s t
same_terms s t terms reader rest done first finished = record {
  terms = terms;
  extent = ap (λ r. r.at + (r.read + length r.unread)) reader;
  given = omega (arith, done, ap length rest);
  first = first;
  finished = finished;
}

-- ---- endings

not_need : (how : Stop) → ending_of how ≡ Need → ⊥
not_need (stop.Refused unit code) e = cc
not_need (stop.Broken at) e = cc
not_need (stop.Unconfirmed asked) e = cc

pub act_ending : (s t : Sender) (how : Stop) → SendsOn s [] t → t.stop ≡ Some how → IsFor s (ending_of how) → t.done ≡ s.done → (t.asked ≡ true → ⊥) → spent t ≡ spent s → Stays s t → Acts s (ending_of how) t
act_ending s t (stop.Refused unit code) sends is right told asked spends stays =
    record { sends = sends; turn = is; right = right; told = told; asked = (λ e. absurd (asked e), λ e. absurd (not_need (stop.Refused unit code) e)); spends = spends; stays = stays }
act_ending s t (stop.Broken at) sends is right told asked spends stays =
    record { sends = sends; turn = inl (is, refl); right = right; told = told; asked = (λ e. absurd (asked e), λ e. absurd (not_need (stop.Broken at) e)); spends = spends; stays = stays }
act_ending s t (stop.Unconfirmed asked) sends is right told unasked spends stays =
    record { sends = sends; turn = is; right = right; told = told; asked = (λ e. absurd (unasked e), λ e. absurd (not_need (stop.Unconfirmed asked) e)); spends = spends; stays = stays }

pub act_stopped : (s : Sender) (how : Stop) → Keeps s → s.stop ≡ Some how → Acts s (ending_of how) s
act_stopped s how k is =
    act_ending s s how (sends_none s s.asked) is (for_due (due.Stopped how) s (ending_of how) is refl) refl (unasked (due.Stopped how) s k is (λ e. cc)) refl (same_terms s s refl refl refl refl refl refl)

pub act_end : (s : Sender) → Keeps s → IsDone s → Acts s Done s
act_end s k d = record {
  sends = sends_none s s.asked;
  turn = d;
  right = for_due due.End s Done d refl;
  told = refl;
  asked = asked_not due.End s Done k d (λ e. cc) (λ e. cc);
  spends = refl;
  stays = same_terms s s refl refl refl refl refl refl;
}

pub act_ask : (s : Sender) → Needs s → Acts s Need (record s { asked = true })
act_ask s n = record {
  sends = sends_none s true;
  turn = record { goes = n.goes; stage = n.stage; none = n.none; finished = n.finished };
  right = for_due due.Ask s Need n refl;
  told = refl;
  asked = (λ _. refl, λ _. refl);
  spends = refl;
  stays = same_terms s (record s { asked = true }) refl refl refl refl refl refl;
}

pub keeps_ask : (s : Sender) → Keeps s → Needs s → Keeps (record s { asked = true })
keeps_ask s k n = record {
  some_polls = k.some_polls;
  few_polls = k.few_polls;
  within = k.within;
  some = k.some;
  run = k.run;
  requests = k.requests;
  number = k.number;
  events = k.events;
  need = λ _. record { goes = n.goes; stage = n.stage; none = n.none; finished = n.finished };
  ended = k.ended;
}

pub act_dry : (s : Sender) (fault : Option HttpFault) → Keeps s → IsDry s fault → Acts s (dry_turn fault) s
act_dry s None k d = record {
  sends = sends_none s s.asked;
  turn = d;
  right = for_dry s None d;
  told = refl;
  asked = asked_not due.Hear s Wait k d.0 (λ e. cc) (λ e. cc);
  spends = refl;
  stays = same_terms s s refl refl refl refl refl refl;
}
act_dry s (Some e) k d = record {
  sends = sends_none s s.asked;
  turn = inr (e, d, refl, refl);
  right = for_dry s (Some e) d;
  told = refl;
  asked = asked_not due.Hear s (dry_turn (Some e)) k d.0 (λ e. cc) (λ e. cc);
  spends = refl;
  stays = same_terms s s refl refl refl refl refl refl;
}

-- ---- texts

pub act_send : (s : Sender) → Keeps s → IsDue due.Send s → Acts s (Write (request_text s.terms (request_of s.done s.rest))) (record s { stage = Sent })
act_send s k d =
    let request = request_of s.done s.rest in
    let text = request_text s.terms request in
    let silent : [] ≡ stage_text s.terms s.stage request = sym (ap (λ (x : Stage). stage_text s.terms x request) d.1) in
    let none : stage_spent s.stage ≡ 0 = ap stage_spent d.1 in
    let t : Sender = record s { stage = Sent } in
    record {
      sends = sends_stage s Sent text s.asked (sym (ap asked_by d.1)) (ap (λ (l : List ℕ). l ++ text) silent);
      turn = (omega arith, (d.0, tt));
      right = for_due due.Send s (Write text) d refl;
      told = refl;
      asked = asked_not due.Send s (Write text) k d (λ e. cc) (λ e. cc);
      spends = omega (arith, none);
      stays = same_terms s t refl refl refl refl refl refl;
    }

pub keeps_send : (s : Sender) → Keeps s → IsDue due.Send s → Keeps (record s { stage = Sent })
keeps_send s k d = record {
  some_polls = k.some_polls;
  few_polls = k.few_polls;
  within = tt;
  some = d.2;
  run = k.run;
  requests = k.requests;
  number = k.number;
  events = k.events;
  need = λ e. absurd (unasked due.Send s k d (λ o. cc) e);
  ended = λ how e. tt;
}

-- a query more
pub queries_more : (terms : Terms) (id n : ℕ) → 0 < n → queries_text terms id n ≡ queries_text terms id (n - 1) ++ query_text terms id
queries_more terms id zero some = absurd (omega (arith, some))
queries_more terms id (suc n) some = let e : n ≡ suc n - 1 = omega arith in ap (λ (m : ℕ). queries_text terms id m ++ query_text terms id) e

within_of : (polls : ℕ) (stage : Stage) (query : Query) → stage ≡ Paused query → IsWithin polls stage → (0 < query.times) × (query.times ≤ polls)
within_of polls stage query is w = subst (IsWithin polls) is w

pub act_repeat : (s : Sender) (query : Query) → Keeps s → IsDue (due.Repeat query) s → Acts s (Write (query_text s.terms query.id)) (record s { stage = Asked query })
act_repeat s query k d =
    let request = request_of s.done s.rest in
    let text = query_text s.terms query.id in
    let w = within_of s.terms.polls s.stage query d.1 k.within in
    let before : stage_text s.terms (Paused query) request ≡ stage_text s.terms s.stage request = sym (ap (λ (x : Stage). stage_text s.terms x request) d.1) in
    let head = request_text s.terms request in
    let more : stage_text s.terms (Asked query) request ≡ stage_text s.terms (Paused query) request ++ text =
    ap (λ (l : List ℕ). head ++ l) (queries_more s.terms query.id query.times w.0) ∙ sym (append_assoc head (queries_text s.terms query.id (query.times - 1)) text) in
    let spent_is : stage_spent s.stage ≡ 2 * query.times - 1 = ap stage_spent d.1 in
    let t : Sender = record s { stage = Asked query } in
    record {
      sends = sends_stage s (Asked query) text s.asked (sym (ap asked_by d.1)) (more ∙ ap (λ (l : List ℕ). l ++ text) before);
      turn = (omega arith, (d.0, tt));
      right = for_due (due.Repeat query) s (Write text) d refl;
      told = refl;
      asked = asked_not (due.Repeat query) s (Write text) k d (λ e. cc) (λ e. cc);
      spends = omega (arith, spent_is, w.0);
      stays = same_terms s t refl refl refl refl refl refl;
    }

some_of : (stage : Stage) (query : Query) (rest : List Entry) → stage ≡ Paused query → HasSome stage rest → 0 < length rest
some_of stage query rest is h = subst (λ (x : Stage). HasSome x rest) is h

pub keeps_repeat : (s : Sender) (query : Query) → Keeps s → IsDue (due.Repeat query) s → Keeps (record s { stage = Asked query })
keeps_repeat s query k d = record {
  some_polls = k.some_polls;
  few_polls = k.few_polls;
  within = within_of s.terms.polls s.stage query d.1 k.within;
  some = some_of s.stage query s.rest d.1 k.some;
  run = k.run;
  requests = k.requests;
  number = k.number;
  events = k.events;
  need = λ e. absurd (unasked (due.Repeat query) s k d (λ o. cc) e);
  ended = λ how e. tt;
}

-- what no turn changes stays where no memory was found, too
pub stays_any : (result : Result Turn AllocError) (old new : Sender) → IfOk result (λ turn. Acts old turn new) → OnErr result (new ≡ old) → Stays old new
stays_any (Ok turn) old new acts same = acts.stays
stays_any (Err e) old new acts same = same_terms old new (ap (λ (x : Sender). x.terms) same) (ap (λ (x : Sender). x.reader) same) (ap (λ (x : Sender). x.rest) same) (ap (λ (x : Sender). x.done) same) (ap (λ (x : Sender). x.first) same) (ap (λ (x : Sender). x.finished) same)
