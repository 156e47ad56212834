-- A reply of the collector.
use Rattle.std.proofs.Common.{◌≡◌, ℕ, ◌+◌, ◌-◌, ◌*◌, ◌<◌, ◌≤◌, ◌∙◌, Bool, true, List, [], ◌∷◌, ◌++◌, length, drop, refl, sym, ap, subst, arith, cond, append_assoc, length-append, length-drop}
use Rattle.std.specs.Prelude.{◌%◌, ◌↔◌, Option, Some, None, nat_lt}
use Rattle.std.proofs.lemmas.Bool.{lt-ltb, le-ltb}
use Rattle.std.proofs.lemmas.List.{append-nil, drop_at, take-append-drop}
use Rattle.std.proofs.lemmas.List.Elements.{All-drop}
use Rattle.event_form.specs.declared.event.Entry.{Entry}
use Rattle.event_form.specs.Event.{IsEvent}
use Rattle.event_form.specs.declared.turn.Turn.{Turn}
use Rattle.event_form.specs.declared.turn.Turn.TheVariants.{Write, Confirmed, Need, Pause, Unconfirmed}
use Rattle.http_reply.specs.declared.reply.HttpReply.{HttpReply}
use Rattle.http_reply.specs.Reading.{Reading, Reads}
use Rattle.hec_sender.specs.declared.due.Due.TheVariants as due
use Rattle.hec_sender.specs.declared.query.Query.{Query}
use Rattle.hec_sender.specs.declared.stage.Stage.{Stage}
use Rattle.hec_sender.specs.declared.stage.Stage.TheVariants.{Unsent, Sent, Paused, Asked}
use Rattle.hec_sender.specs.declared.stop.Stop.{Stop}
use Rattle.hec_sender.specs.declared.stop.Stop.TheVariants as stop
use Rattle.hec_sender.specs.declared.terms.Terms.{Terms}
use Rattle.hec_sender.specs.declared.verdict.Verdict.{Verdict}
use Rattle.hec_sender.specs.declared.verdict.Verdict.TheVariants.{Confirms, Asks, Denies, Refuses, Faults}
use Rattle.hec_sender.specs.Texts.{request_text, asked_text, query_text, queries_text}
use Rattle.hec_sender.specs.Requests.{request_of, known_from}
use Rattle.hec_sender.specs.Replies.{Says}
use Rattle.hec_sender.specs.Progress.{Progress, Brings, Ends, unconfirmed}
use Rattle.hec_sender.specs.Sender.{Sender, Keeps, Awaits, IsOut, IsWithin, HasSome, MayFollow, asked_by, given, stage_text}
use Rattle.hec_sender.specs.Hearing.{Hears, StopsSo, EndsBy, confirmed, asking, pausing, stopped}
use Rattle.hec_sender.specs.Sends.{SendsOn, IsCut, HasRead}
use Rattle.hec_sender.specs.View.{IsSize}
use Rattle.hec_sender.specs.Turns.{Acts, IsFor, denied_turn, ending_of, stage_spent, turn_for}
use Rattle.hec_sender.proofs.Judging.{query_gives_no_id}
use Rattle.hec_sender.proofs.Cutting.{known_more, text_more, request_final, request_some, request_take, request_within, run_rest}
use Rattle.hec_sender.proofs.Dues.{for_heard, unasked}
use Rattle.hec_sender.proofs.Taking.{Took, came, has_read, read_of, takes_then}
use Rattle.hec_sender.proofs.Writing.{act_ending, takes_same}

-- ---- the reply that waits first

pub heard : (s : Sender) (asked : Option Query) (reply : HttpReply) (more : List HttpReply) (found verdict : Verdict) → Awaits s → asked ≡ asked_by s.stage → s.reader.waiting ≡ reply ∷ more → Says asked reply found → found ≡ verdict → Hears s reply.at verdict
heard s asked reply more found verdict awaits is next says same = record {
  awaits = awaits;
  reply = reply;
  more = more;
  next = next;
  place = refl;
  says = subst (λ (v : Verdict). Says (asked_by s.stage) reply v) same (subst (λ (q : Option Query). Says q reply found) is says);
}

-- a reply that leaves the request under way
sends_heard : (s : Sender) (at : ℕ) (verdict : Verdict) (h : Hears s at verdict) (r : Reading) (stage : Stage) (text : List ℕ) → Took s.reader h.reply r
    → ((p : Progress) → p.asked ≡ asked_by s.stage → Brings s.terms.polls p verdict (record { confirmed = p.confirmed; asked = asked_by stage }))
    → stage_text s.terms stage (request_of s.done s.rest) ≡ stage_text s.terms s.stage (request_of s.done s.rest) ++ text → SendsOn s text (record s { reader = r; stage = stage })
sends_heard s at verdict h r stage text took brings writes history g =
    let p = history.progress in
    let next : Progress = record { confirmed = p.confirmed; asked = asked_by stage } in
    let says : Says p.asked h.reply verdict = subst (λ (q : Option Query). Says q h.reply verdict) (sym g.asked) h.says in
    let taken = history.taken ++ h.reply ∷ [] in (
      h.reply ∷ [],
      next,
      record {
        front = g.front;
        entries = g.entries;
        count = g.count;
        text = g.text;
        cut = g.cut;
        said = ap (λ (l : List ℕ). l ++ text) g.said ∙ append_assoc g.text (stage_text s.terms s.stage (request_of s.done s.rest)) text ∙ ap (λ (l : List ℕ). g.text ++ l) (sym writes);
        requests = g.requests;
        asked = refl;
        takes = takes_then s.terms.polls unconfirmed history.taken p h.reply next g.takes (verdict, says, brings p g.asked);
        read = has_read s.terms.polls r next history.fed taken s.stop h.awaits.0 (took.reads history.fed history.taken (read_of s.terms.polls s.reader p history.fed history.taken s.stop h.awaits.0 g.read));
      },
    )

-- ---- a request that waits

out_text : (terms : Terms) (stage : Stage) (entries : List Entry) → IsOut stage → stage_text terms stage entries ≡ request_text terms entries ++ asked_text terms (asked_by stage)
out_text terms Unsent entries out = absurd out
out_text terms Sent entries out = sym (append-nil (request_text terms entries))
out_text terms (Paused query) entries out = absurd out
out_text terms (Asked query) entries out = refl

pub some_out : (stage : Stage) (rest : List Entry) → IsOut stage → HasSome stage rest → 0 < length rest
some_out Unsent rest out some = absurd out
some_out Sent rest out some = some
some_out (Paused query) rest out some = absurd out
some_out (Asked query) rest out some = some

not_asked : (s : Sender) → Keeps s → Awaits s → s.asked ≡ true → ⊥
not_asked s k a = unasked due.Hear s k a (λ e. cc)

asked_other : (s : Sender) (turn : Turn) → Keeps s → Awaits s → (turn ≡ Need → ⊥) → (s.asked ≡ true) ↔ (turn ≡ Need)
asked_other s turn k a not = (λ e. absurd (not_asked s k a e), λ e. absurd (not e))

-- ---- an id that is to be asked for

is_sent : (stage : Stage) (reply : HttpReply) (id : ℕ) → IsOut stage → Says (asked_by stage) reply (Asks id) → stage ≡ Sent
is_sent Unsent reply id out says = absurd out
is_sent Sent reply id out says = refl
is_sent (Paused query) reply id out says = absurd out
is_sent (Asked query) reply id out says = absurd (query_gives_no_id query reply id says)

pub act_asking : (s : Sender) (at id : ℕ) (r : Reading) → Keeps s → (h : Hears s at (Asks id)) → Took s.reader h.reply r → Acts s (Write (query_text s.terms id)) (asking s r id)
act_asking s at id r k h t =
    let sent = is_sent s.stage h.reply id h.awaits.1 h.says in
    let request = request_of s.done s.rest in
    let text = query_text s.terms id in
    let query : Query = record { id = id; times = 1 } in
    let writes : stage_text s.terms (Asked query) request ≡ stage_text s.terms s.stage request ++ text = ap (λ (x : Stage). stage_text s.terms x request ++ text) (sym sent) in
    let spent_is : stage_spent s.stage ≡ 1 = ap stage_spent sent in
    record {
      sends = sends_heard s at (Asks id) h r (Asked query) text t (λ p is. refl) writes;
      turn = (omega arith, (h.awaits.0, tt));
      right = for_heard s at (Asks id) h;
      told = refl;
      asked = asked_other s (Write text) k h.awaits (λ e. cc);
      spends = omega (arith, spent_is);
      stays = record { terms = refl; extent = came s.reader r h.reply t; given = refl; first = refl; finished = refl };
    }

pub keeps_asking : (s : Sender) (at id : ℕ) (r : Reading) → Keeps s → Hears s at (Asks id) → Keeps (asking s r id)
keeps_asking s at id r k h = record {
  some_polls = k.some_polls;
  few_polls = k.few_polls;
  within = (omega arith, omega (arith, k.some_polls));
  some = some_out s.stage s.rest h.awaits.1 k.some;
  run = k.run;
  requests = k.requests;
  number = k.number;
  events = k.events;
  need = λ e. absurd (not_asked s k h.awaits e);
  ended = λ how e. tt;
}

-- ---- a denial

is_asked : (stage : Stage) (query : Query) → IsOut stage → asked_by stage ≡ Some query → stage ≡ Asked query
is_asked Unsent query out is = absurd out
is_asked Sent query out is = absurd cc
is_asked (Paused other) query out is = absurd out
is_asked (Asked other) query out is = let same : other ≡ query = cc in ap Asked same

one_more : (n : ℕ) → n + 1 - 1 ≡ n
one_more n = omega arith

pub act_pausing : (s : Sender) (at : ℕ) (query : Query) (r : Reading) → Keeps s → (h : Hears s at Denies) → Took s.reader h.reply r → asked_by s.stage ≡ Some query → query.times < s.terms.polls → Acts s Pause (pausing s r query)
act_pausing s at query r k h t asked again =
    let is = is_asked s.stage query h.awaits.1 asked in
    let request = request_of s.done s.rest in
    let next : Query = record { id = query.id; times = query.times + 1 } in
    let head = request_text s.terms request in
    let same : stage_text s.terms (Paused next) request ≡ stage_text s.terms s.stage request =
    ap (λ (n : ℕ). head ++ queries_text s.terms query.id n) (one_more query.times) ∙ sym (ap (λ (x : Stage). stage_text s.terms x request) is) in
    let spent_is : stage_spent s.stage ≡ 2 * query.times = ap stage_spent is in
    let pauses : denied_turn s.terms.polls (asked_by s.stage) ≡ Pause = ap (denied_turn s.terms.polls) asked ∙ pause_turn query (nat_lt query.times s.terms.polls) (lt-ltb query.times s.terms.polls again) in
    record {
      sends = sends_heard s at Denies h r (Paused next) [] t (λ p was. (query, was ∙ asked, again, refl)) (same ∙ sym (append-nil (stage_text s.terms s.stage request)));
      turn = (next, (h.awaits.0, refl));
      right = subst (IsFor s) pauses (for_heard s at Denies h);
      told = refl;
      asked = asked_other s Pause k h.awaits (λ e. cc);
      spends = omega (arith, spent_is);
      stays = record { terms = refl; extent = came s.reader r h.reply t; given = refl; first = refl; finished = refl };
    }
  where
    pause_turn : (q : Query) (b : Bool) → b ≡ true → cond b Pause (Unconfirmed q.id) ≡ Pause
    pause_turn q b is = ap (λ (x : Bool). cond x Pause (Unconfirmed q.id)) is

pub keeps_pausing : (s : Sender) (at : ℕ) (query : Query) (r : Reading) → Keeps s → Hears s at Denies → query.times < s.terms.polls → Keeps (pausing s r query)
keeps_pausing s at query r k h again = record {
  some_polls = k.some_polls;
  few_polls = k.few_polls;
  within = (omega arith, omega (arith, again));
  some = some_out s.stage s.rest h.awaits.1 k.some;
  run = k.run;
  requests = k.requests;
  number = k.number;
  events = k.events;
  need = λ e. absurd (not_asked s k h.awaits e);
  ended = λ how e. absurd (let none = h.awaits.0 in cc);
}

-- ---- an ending

stops_by : (s : Sender) (at : ℕ) (verdict : Verdict) (how : Stop) (p : Progress) (reply : HttpReply) → p.asked ≡ asked_by s.stage → length p.confirmed ≡ s.requests → reply.at ≡ at → EndsBy s at verdict how → Ends s.terms.polls p reply.at verdict how
stops_by s at Confirms how p reply asked count place e = absurd e
stops_by s at (Asks id) how p reply asked count place e = absurd e
stops_by s at Denies how p reply asked count place e = (e.0, asked ∙ e.1, e.2, e.3)
stops_by s at (Refuses code) how p reply asked count place e = e ∙ ap (λ (n : ℕ). stop.Refused n code) (sym count)
stops_by s at Faults how p reply asked count place e = e ∙ ap stop.Broken (sym place)

sends_stopped : (s : Sender) (how : Stop) (r : Reading) → (x : StopsSo s how) → Took s.reader x.hears.reply r → SendsOn s [] (stopped s r how)
sends_stopped s how r x t history g =
    let p = history.progress in
    let h = x.hears in
    let taken : List HttpReply = history.taken in
    let says : Says p.asked h.reply x.verdict = subst (λ (q : Option Query). Says q h.reply x.verdict) (sym g.asked) h.says in
    let ends : Ends s.terms.polls p h.reply.at x.verdict how = stops_by s x.at x.verdict how p h.reply g.asked g.requests h.place x.ends in
    let reads : Reads history.fed (taken ++ h.reply ∷ []) r = t.reads history.fed taken (read_of s.terms.polls s.reader p history.fed taken s.stop h.awaits.0 g.read) in
    let read : HasRead s.terms.polls r p history.fed taken (Some how) = (h.reply, reads, (x.verdict, says, ends)) in (
      [],
      p,
      record {
        front = g.front;
        entries = g.entries;
        count = g.count;
        text = g.text;
        cut = g.cut;
        said = append-nil history.out ∙ g.said;
        requests = g.requests;
        asked = g.asked;
        takes = takes_same s.terms.polls p taken g.takes;
        read = subst (λ (l : List HttpReply). HasRead s.terms.polls r p history.fed l (Some how)) (sym (append-nil taken)) read;
      },
    )

-- the turn for a reply that ends the session
ending_is : (s : Sender) (at : ℕ) (verdict : Verdict) (how : Stop) → EndsBy s at verdict how → turn_for s (asked_by s.stage) at verdict ≡ ending_of how
ending_is s at Confirms how e = absurd e
ending_is s at (Asks id) how e = absurd e
ending_is s at Denies how e = ap (denied_turn s.terms.polls) e.1 ∙ ap (λ (b : Bool). cond b Pause (Unconfirmed e.0.id)) (le-ltb e.0.times s.terms.polls e.2) ∙ ap ending_of (sym e.3)
ending_is s at (Refuses code) how e = ap ending_of (sym e)
ending_is s at Faults how e = ap ending_of (sym e)

pub act_stopping : (s : Sender) (how : Stop) (r : Reading) → Keeps s → (x : StopsSo s how) → Took s.reader x.hears.reply r → Acts s (ending_of how) (stopped s r how)
act_stopping s how r k x t =
    let h = x.hears in
    act_ending s (stopped s r how) how (sends_stopped s how r x t) refl (subst (IsFor s) (ending_is s x.at x.verdict how x.ends) (for_heard s x.at x.verdict h)) refl (not_asked s k h.awaits) refl
    (record { terms = refl; extent = came s.reader r h.reply t; given = refl; first = refl; finished = refl })

pub keeps_stopping : (s : Sender) (how : Stop) (r : Reading) → Keeps s → StopsSo s how → Keeps (stopped s r how)
keeps_stopping s how r k x = record {
  some_polls = k.some_polls;
  few_polls = k.few_polls;
  within = k.within;
  some = k.some;
  run = k.run;
  requests = k.requests;
  number = k.number;
  events = k.events;
  need = λ e. absurd (not_asked s k x.hears.awaits e);
  ended = λ other e. x.hears.awaits.1;
}

-- ---- a confirmation

-- what is left of the entries after a request
split : (s : Sender) → request_of s.done s.rest ++ drop (length (request_of s.done s.rest)) s.rest ≡ s.rest
split s = ap (λ (l : List Entry). l ++ drop (length (request_of s.done s.rest)) s.rest) (sym (request_take s.done s.rest)) ∙ take-append-drop (length (request_of s.done s.rest)) s.rest

given_same : (s : Sender) (r : Reading) → given (confirmed s r) ≡ given s
given_same s r = omega (arith, length-drop (length (request_of s.done s.rest)) s.rest, request_within s.done s.rest)

-- of any list that may follow, the confirmed requests with this one
cut_more : (s : Sender) (front more : List Entry) (before : List (Option Query)) (asked : Option Query) (text : List ℕ) → 0 < length s.rest → length s.rest ≤ 128 - s.done % 128 → (0 < length more → given s % 128 ≡ 0) → length front ≡ s.done
    → IsCut s.terms before (front ++ (s.rest ++ more)) s.done text → IsCut s.terms (before ++ asked ∷ []) (front ++ (s.rest ++ more)) (s.done + length (request_of s.done s.rest)) (text ++ (request_text s.terms (request_of s.done s.rest) ++ asked_text s.terms asked))
cut_more s front more before asked text some run whole count cut =
    let all = front ++ (s.rest ++ more) in
    let known = known_from 0 before all in
    let left : drop known all ≡ s.rest ++ more = ap (λ (n : ℕ). drop n all) cut.0 ∙ drop_at front (s.rest ++ more) s.done count in
    let place : 0 + known ≡ s.done = omega (arith, cut.0) in
    let next : request_of (0 + known) (drop known all) ≡ request_of s.done s.rest =
    ap (λ (l : List Entry). request_of (0 + known) l) left ∙ ap (λ (n : ℕ). request_of n (s.rest ++ more)) place ∙ request_final s.done s.rest more some run whole in
    let some_left : 0 < length (drop known all) = omega (arith, ap length left, length-append s.rest more, some) in (
      known_more 0 before asked all some_left ∙ ap (λ (n : ℕ). n + length (request_of (0 + known) (drop known all))) cut.0 ∙ ap (λ (l : List Entry). s.done + length l) next,
      text_more s.terms 0 before asked all some_left ∙ ap (λ (l : List ℕ). l ++ (request_text s.terms (request_of (0 + known) (drop known all)) ++ asked_text s.terms asked)) cut.1
          ∙ ap (λ (l : List Entry). text ++ (request_text s.terms l ++ asked_text s.terms asked)) next,
    )

sends_confirmed : (s : Sender) (at : ℕ) (r : Reading) → Keeps s → (h : Hears s at Confirms) → Took s.reader h.reply r → SendsOn s [] (confirmed s r)
sends_confirmed s at r k h t history g =
    let p = history.progress in
    let request = request_of s.done s.rest in
    let left = drop (length request) s.rest in
    let some = some_out s.stage s.rest h.awaits.1 k.some in
    let next : Progress = record { confirmed = p.confirmed ++ p.asked ∷ []; asked = None } in
    let says : Says p.asked h.reply Confirms = subst (λ (q : Option Query). Says q h.reply Confirms) (sym g.asked) h.says in
    let taken = history.taken ++ h.reply ∷ [] in
    let text = g.text ++ (request_text s.terms request ++ asked_text s.terms p.asked) in
    let wrote : stage_text s.terms s.stage request ≡ request_text s.terms request ++ asked_text s.terms p.asked = out_text s.terms s.stage request h.awaits.1 ∙ ap (λ (q : Option Query). request_text s.terms request ++ asked_text s.terms q) (sym g.asked) in (
      h.reply ∷ [],
      next,
      record {
        front = g.front ++ request;
        entries = g.entries ∙ ap (λ (l : List Entry). g.front ++ l) (sym (split s)) ∙ sym (append_assoc g.front request left);
        count = length-append g.front request ∙ ap (λ (n : ℕ). n + length request) g.count;
        text = text;
        cut = λ more m. (
            let whole : 0 < length more → given s % 128 ≡ 0 = λ lt. ap (λ (n : ℕ). n % 128) (sym (given_same s r)) ∙ m.whole lt in
            let may : MayFollow s more = record { none = m.none; whole = whole } in
            let same : (g.front ++ request) ++ (left ++ more) ≡ g.front ++ (s.rest ++ more) =
            append_assoc g.front request (left ++ more) ∙ ap (λ (l : List Entry). g.front ++ l) (sym (append_assoc request left more) ∙ ap (λ (l : List Entry). l ++ more) (split s)) in
            subst (λ (l : List Entry). IsCut s.terms (p.confirmed ++ p.asked ∷ []) l (s.done + length request) text) (sym same)
            (cut_more s g.front more p.confirmed p.asked g.text some k.run whole g.count (g.cut more may)));
        said = append-nil history.out ∙ g.said ∙ ap (λ (l : List ℕ). g.text ++ l) wrote ∙ sym (append-nil text);
        requests = length-append p.confirmed (p.asked ∷ []) ∙ ap (λ (n : ℕ). n + 1) g.requests;
        asked = refl;
        takes = takes_then s.terms.polls unconfirmed history.taken p h.reply next g.takes (Confirms, says, refl);
        read = has_read s.terms.polls r next history.fed taken s.stop h.awaits.0 (t.reads history.fed history.taken (read_of s.terms.polls s.reader p history.fed history.taken s.stop h.awaits.0 g.read));
      },
    )

spent_out : (polls : ℕ) (stage : Stage) → 0 < polls → IsOut stage → IsWithin polls stage → stage_spent stage ≤ 2 * polls
spent_out polls Unsent some out within = absurd out
spent_out polls Sent some out within = omega (arith, some)
spent_out polls (Paused query) some out within = absurd out
spent_out polls (Asked query) some out within = omega (arith, within.1)

pub act_confirmed : (s : Sender) (at : ℕ) (r : Reading) → Keeps s → (h : Hears s at Confirms) → Took s.reader h.reply r → Acts s (Confirmed (s.first + (s.done + length (request_of s.done s.rest)))) (confirmed s r)
act_confirmed s at r k h t =
    let k' = length (request_of s.done s.rest) in
    let some : 0 < k' = request_some s.done s.rest (some_out s.stage s.rest h.awaits.1 k.some) in
    let below = spent_out s.terms.polls s.stage k.some_polls h.awaits.1 k.within in
    record {
      sends = sends_confirmed s at r k h t;
      turn = (h.awaits.0, refl, refl);
      right = for_heard s at Confirms h;
      told = omega (arith, some);
      asked = asked_other s (Confirmed (s.first + (s.done + k'))) k h.awaits (λ e. cc);
      spends = omega (arith, some, below);
      stays = record { terms = refl; extent = came s.reader r h.reply t; given = given_same s r; first = refl; finished = refl };
    }

pub keeps_confirmed : (s : Sender) (at : ℕ) (r : Reading) → Keeps s → Hears s at Confirms → Keeps (confirmed s r)
keeps_confirmed s at r k h =
    let k' = length (request_of s.done s.rest) in
    let some : 0 < k' = request_some s.done s.rest (some_out s.stage s.rest h.awaits.1 k.some) in
    record {
      some_polls = k.some_polls;
      few_polls = k.few_polls;
      within = tt;
      some = tt;
      run = run_rest s.done s.rest k' k.run (request_within s.done s.rest);
      requests = omega (arith, k.requests, some);
      number = omega (arith, k.number, given_same s r);
      events = All-drop (λ (e : Entry). IsEvent e.event) k' s.rest k.events;
      need = λ e. absurd (not_asked s k h.awaits e);
      ended = λ how e. absurd (let none = h.awaits.0 in cc);
    }

-- ---- the size of the request under way

pub size_out : (stage : Stage) (done : ℕ) (rest : List Entry) (size : ℕ) → IsOut stage → IsSize stage done rest size → size ≡ length (request_of done rest)
size_out Unsent done rest size out is = absurd out
size_out Sent done rest size out is = is
size_out (Paused query) done rest size out is = absurd out
size_out (Asked query) done rest size out is = is

pub size_paused : (stage : Stage) (query : Query) (done : ℕ) (rest : List Entry) (size : ℕ) → stage ≡ Paused query → IsSize stage done rest size → size ≡ length (request_of done rest)
size_paused stage query done rest size is h = subst (λ (x : Stage). IsSize x done rest size) is h
