-- The text of a list of entries.
use Rattle.std.proofs.Common.{◌≡◌, ◌≢◌, ◌⊎◌, inl, inr, ℕ, ◌+◌, ◌-◌, ◌*◌, ◌<◌, ◌≤◌, ◌^◌, ◌∙◌, true, false, List, [], ◌++◌, length, drop, refl, sym, ap, subst, arith, append_assoc, length-append}
use Rattle.std.specs.Prelude.{Option}
use Rattle.std.proofs.Math.Nat.{mul-le-mul_left}
use Rattle.std.proofs.lemmas.List.{append-nil, drop_at}
use Rattle.event_form.specs.declared.event.Entry.{Entry}
use Rattle.event_form.specs.declared.turn.Turn.{Turn}
use Rattle.event_form.specs.declared.turn.Turn.TheVariants.{Write, Confirmed, Also, Need, Wait, Pause, Done, Refused, PeerClosed, PeerFault, Unconfirmed}
use Rattle.event_form.specs.Turn.{IsResting}
use Rattle.hec_sender.specs.declared.query.Query.{Query}
use Rattle.hec_sender.specs.declared.stage.Stage.{Stage}
use Rattle.hec_sender.specs.declared.stage.Stage.TheVariants.{Unsent, Sent, Paused, Asked}
use Rattle.hec_sender.specs.declared.stop.Stop.TheVariants as stop
use Rattle.hec_sender.specs.declared.terms.Terms.{Terms}
use Rattle.hec_sender.specs.Texts.{request_text, asked_text, query_text, queries_text}
use Rattle.hec_sender.specs.Requests.{request_of, next_text}
use Rattle.hec_sender.specs.Progress.{session_text, known_by}
use Rattle.hec_sender.specs.Sender.{Sender, Keeps, IsIdle, IsDone, IsOut, IsWithin, HasSome, MayFollow, asked_by, given, stage_text}
use Rattle.hec_sender.specs.Sends.{History, Sends}
use Rattle.hec_sender.specs.Turns.{IsTurn, TellsAll, IsWhole, IsWholeOf, Begins, spent, stage_spent}
use Rattle.hec_sender.proofs.Cutting.{next_is, request_final}
use Rattle.hec_sender.proofs.Hears.{some_out}
use Rattle.hec_sender.proofs.Writing.{queries_more}

-- the text of the list: that of the confirmed requests, and what follows it
text_is : (s : Sender) (h : History) (more : List Entry) → MayFollow s more → (g : Sends h s) → session_text s.terms (h.entries ++ more) h.progress ≡ g.text ++ next_text s.terms s.done (asked_by s.stage) (s.rest ++ more)
text_is s h more may g =
    let p = h.progress in
    let rest = s.rest ++ more in
    let all = g.front ++ rest in
    let list : h.entries ++ more ≡ all = ap (λ (l : List Entry). l ++ more) g.entries ∙ append_assoc g.front s.rest more in
    let cut = g.cut more may in
    let left : drop s.done all ≡ rest = drop_at g.front rest s.done g.count in
    ap (λ (l : List Entry). session_text s.terms l p) list
    ∙ ap (λ (l : List ℕ). l ++ next_text s.terms (known_by all p) p.asked (drop (known_by all p) all)) cut.1
    ∙ ap (λ (n : ℕ). g.text ++ next_text s.terms n p.asked (drop n all)) cut.0
    ∙ ap (λ (l : List Entry). g.text ++ next_text s.terms s.done p.asked l) left
    ∙ ap (λ (q : Option Query). g.text ++ next_text s.terms s.done q rest) g.asked

-- the next request, where entries are left
next_final : (s : Sender) (more : List Entry) → Keeps s → 0 < length s.rest → MayFollow s more → next_text s.terms s.done (asked_by s.stage) (s.rest ++ more) ≡ request_text s.terms (request_of s.done s.rest) ++ asked_text s.terms (asked_by s.stage)
next_final s more k some may =
    next_is s.terms s.done (asked_by s.stage) (s.rest ++ more) (omega (arith, some, length-append s.rest more))
    ∙ ap (λ (l : List Entry). request_text s.terms l ++ asked_text s.terms (asked_by s.stage)) (request_final s.done s.rest more some k.run may.whole)

-- ---- what was written begins it

-- of the request of these entries
left_of : (polls : ℕ) (terms : Terms) (stage : Stage) (entries : List Entry) → IsWithin polls stage → (rest : List ℕ) × (request_text terms entries ++ asked_text terms (asked_by stage) ≡ stage_text terms stage entries ++ rest)
left_of polls terms Unsent entries within = (request_text terms entries ++ [], refl)
left_of polls terms Sent entries within = ([], refl)
left_of polls terms (Paused query) entries within =
    let head = request_text terms entries in
    (query_text terms query.id, ap (λ (l : List ℕ). head ++ l) (queries_more terms query.id query.times within.0) ∙ sym (append_assoc head (queries_text terms query.id (query.times - 1)) (query_text terms query.id)))
left_of polls terms (Asked query) entries within = ([], sym (append-nil (request_text terms entries ++ queries_text terms query.id query.times)))

-- a request is under way, or none is
under_way : (stage : Stage) (rest : List Entry) → HasSome stage rest → (stage ≡ Unsent) ⊎ (0 < length rest)
under_way Unsent rest some = inl refl
under_way Sent rest some = inr some
under_way (Paused query) rest some = inr some
under_way (Asked query) rest some = inr some

begins_with : (s : Sender) (more : List Entry) → Keeps s → MayFollow s more → (s.stage ≡ Unsent) ⊎ (0 < length s.rest)
    → (rest : List ℕ) × (next_text s.terms s.done (asked_by s.stage) (s.rest ++ more) ≡ stage_text s.terms s.stage (request_of s.done s.rest) ++ rest)
begins_with s more k may (inl is) =
    let next = next_text s.terms s.done (asked_by s.stage) (s.rest ++ more) in
    (next, ap (λ (l : List ℕ). l ++ next) (sym (ap (λ (x : Stage). stage_text s.terms x (request_of s.done s.rest)) is)))
begins_with s more k may (inr some) =
    let left = left_of s.terms.polls s.terms s.stage (request_of s.done s.rest) k.within in
    (left.0, next_final s more k some may ∙ left.1)

pub begins_at : (s : Sender) → Keeps s → (h : History) (more : List Entry) → Sends h s → MayFollow s more → Begins s.terms h more
begins_at s k h more g may =
    let with = begins_with s more k may (under_way s.stage s.rest k.some) in
    (with.0, text_is s h more may g ∙ ap (λ (l : List ℕ). g.text ++ l) with.1 ∙ sym (append_assoc g.text (stage_text s.terms s.stage (request_of s.done s.rest)) with.0) ∙ ap (λ (l : List ℕ). l ++ with.0) (sym g.said))

-- ---- turns at which it is whole

out_all : (terms : Terms) (stage : Stage) (entries : List Entry) → IsOut stage → request_text terms entries ++ asked_text terms (asked_by stage) ≡ stage_text terms stage entries
out_all terms Unsent entries out = absurd out
out_all terms Sent entries out = append-nil (request_text terms entries)
out_all terms (Paused query) entries out = absurd out
out_all terms (Asked query) entries out = refl

-- where a reply is waited for
whole_out : (s : Sender) (h : History) (more : List Entry) → Keeps s → IsOut s.stage → MayFollow s more → Sends h s → IsWholeOf s.terms h more
whole_out s h more k out may g =
    let some = some_out s.stage s.rest out k.some in
    g.said ∙ ap (λ (l : List ℕ). g.text ++ l) (sym (next_final s more k some may ∙ out_all s.terms s.stage (request_of s.done s.rest) out)) ∙ sym (text_is s h more may g)

none_follow : (s : Sender) → MayFollow s []
none_follow s = record { none = λ _. refl; whole = λ some. absurd (omega (arith, some)) }

-- where no entry is left
whole_idle : (s : Sender) (h : History) (over : _) → IsIdle s over → Sends h s → IsWholeOf s.terms h []
whole_idle s h over d g =
    let nothing : next_text s.terms s.done (asked_by s.stage) (s.rest ++ []) ≡ [] = ap (λ (l : List Entry). next_text s.terms s.done (asked_by s.stage) (l ++ [])) d.none in
    let silent : stage_text s.terms s.stage (request_of s.done s.rest) ≡ [] = ap (λ (x : Stage). stage_text s.terms x (request_of s.done s.rest)) d.stage in
    g.said ∙ ap (λ (l : List ℕ). g.text ++ l) (silent ∙ sym nothing) ∙ sym (text_is s h [] (none_follow s) g)

whole_given : (terms : Terms) (h : History) → IsWholeOf terms h [] → IsWhole terms h
whole_given terms h is = is ∙ ap (λ (l : List Entry). session_text terms l h.progress) (append-nil h.entries)

-- a reply is waited for, or no entry is left
abbrev Rests : Sender → Type 0
Rests s = IsOut s.stage ⊎ (IsIdle s false ⊎ IsIdle s true)

rests : (turn : Turn) (s : Sender) → Keeps s → IsTurn turn s → IsResting turn → Rests s
rests (Write text) s k is at = absurd at
rests (Confirmed upto) s k is at = absurd at
rests (Also from to) s k is at = absurd at
rests Need s k is at = inr (inl is)
rests Wait s k is at = inl is.0.1
rests Pause s k is at = absurd at
rests Done s k is at = inr (inr is)
rests (Refused unit code) s k is at = inl (k.ended (stop.Refused unit code) is)
rests PeerClosed s k is at = absurd is
rests (PeerFault place w) s k is at = elim is [ inl x ↦ inl (k.ended (stop.Broken place) x.0) | inr x ↦ inl x.1.0.1 ]
rests (Unconfirmed asked) s k is at = inl (k.ended (stop.Unconfirmed asked) is)

rests_all : (turn : Turn) (s : Sender) → Keeps s → IsTurn turn s → IsResting turn → turn ≢ Need → IsOut s.stage ⊎ IsDone s
rests_all (Write text) s k is at not = absurd at
rests_all (Confirmed upto) s k is at not = absurd at
rests_all (Also from to) s k is at not = absurd at
rests_all Need s k is at not = absurd (not refl)
rests_all Wait s k is at not = inl is.0.1
rests_all Pause s k is at not = absurd at
rests_all Done s k is at not = inr is
rests_all (Refused unit code) s k is at not = inl (k.ended (stop.Refused unit code) is)
rests_all PeerClosed s k is at not = absurd is
rests_all (PeerFault place w) s k is at not = elim is [ inl x ↦ inl (k.ended (stop.Broken place) x.0) | inr x ↦ inl x.1.0.1 ]
rests_all (Unconfirmed asked) s k is at not = inl (k.ended (stop.Unconfirmed asked) is)

whole_by : (s : Sender) (h : History) → Keeps s → Rests s → Sends h s → IsWhole s.terms h
whole_by s h k (inl out) g = whole_given s.terms h (whole_out s h [] k out (none_follow s) g)
whole_by s h k (inr (inl n)) g = whole_given s.terms h (whole_idle s h false n g)
whole_by s h k (inr (inr d)) g = whole_given s.terms h (whole_idle s h true d g)

whole_of_by : (s : Sender) (h : History) (more : List Entry) → Keeps s → IsOut s.stage ⊎ IsDone s → MayFollow s more → Sends h s → IsWholeOf s.terms h more
whole_of_by s h more k (inl out) may g = whole_out s h more k out may g
whole_of_by s h more k (inr d) may g = subst (IsWholeOf s.terms h) (sym (may.none d.finished)) (whole_idle s h true d g)

pub text_at : (turn : Turn) (s : Sender) → Keeps s → IsTurn turn s → IsResting turn → (h : History) → Sends h s → IsWhole s.terms h
text_at turn s k is at h g = whole_by s h k (rests turn s k is at) g

pub whole_at : (turn : Turn) (s : Sender) → Keeps s → IsTurn turn s → IsResting turn → turn ≢ Need → (h : History) (more : List Entry) → Sends h s → MayFollow s more → IsWholeOf s.terms h more
whole_at turn s k is at not h more g may = whole_of_by s h more k (rests_all turn s k is at not) may g

-- ---- what is reported

pub tells_at : (s : Sender) (h : History) → Sends h s → TellsAll h s
tells_at s h g =
    let cut = g.cut [] (none_follow s) in
    let list : h.entries ≡ g.front ++ (s.rest ++ []) = g.entries ∙ ap (λ (l : List Entry). g.front ++ l) (sym (append-nil s.rest)) in
    sym (ap (λ (l : List Entry). known_by l h.progress) list ∙ cut.0)

pub done_at : (turn : Turn) (s : Sender) → IsTurn turn s → turn ≡ Done → s.done ≡ given s
done_at turn s is done =
    let d : IsDone s = subst (λ (t : Turn). IsTurn t s) done is in
    let none : length s.rest ≡ 0 = ap length d.none in
    omega (arith, none)

-- a request under way is one of entries that aren't acknowledged
out_left : (stage : Stage) (rest : List Entry) (done : ℕ) → HasSome stage rest → IsOut stage → done < done + length rest
out_left Unsent rest done some out = absurd out
out_left Sent rest done some out = omega (arith, some)
out_left (Paused query) rest done some out = absurd out
out_left (Asked query) rest done some out = omega (arith, some)

pub left_at : (turn : Turn) (s : Sender) → Keeps s → IsTurn turn s → IsResting turn → turn ≢ Need → turn ≢ Done → s.done < given s
left_at (Write text) s k is at need done = absurd at
left_at (Confirmed upto) s k is at need done = absurd at
left_at (Also from to) s k is at need done = absurd at
left_at Need s k is at need done = absurd (need refl)
left_at Wait s k is at need done = out_left s.stage s.rest s.done k.some is.0.1
left_at Pause s k is at need done = absurd at
left_at Done s k is at need done = absurd (done refl)
left_at (Refused unit code) s k is at need done = out_left s.stage s.rest s.done k.some (k.ended (stop.Refused unit code) is)
left_at PeerClosed s k is at need done = absurd is
left_at (PeerFault place w) s k is at need done = elim is [
  | inl x ↦ out_left s.stage s.rest s.done k.some (k.ended (stop.Broken place) x.0)
  | inr x ↦ out_left s.stage s.rest s.done k.some x.1.0.1
]
left_at (Unconfirmed asked) s k is at need done = out_left s.stage s.rest s.done k.some (k.ended (stop.Unconfirmed asked) is)

-- ---- how often there are texts, pauses and reports

spent_within : (polls : ℕ) (stage : Stage) (rest : List Entry) → 0 < polls → polls < 2 ^ 32 → IsWithin polls stage → HasSome stage rest → stage_spent stage ≤ 2 ^ 33 * length rest
spent_within polls Unsent rest some few within left = omega arith
spent_within polls Sent rest some few within left = omega (arith, left)
spent_within polls (Paused query) rest some few within left = omega (arith, left, few, within.1)
spent_within polls (Asked query) rest some few within left = omega (arith, left, few, within.1)

pub spent_at : (s : Sender) → Keeps s → spent s ≤ 2 ^ 33 * given s
spent_at s k =
    let polls = s.terms.polls in
    let most : 2 * polls + 1 ≤ 2 ^ 33 - 1 = omega (arith, k.few_polls) in
    let stage = spent_within polls s.stage s.rest k.some_polls k.few_polls k.within k.some in
    let each = mul-le-mul_left (2 * polls + 1) k.requests in
    let all = mul-le-mul_left s.done most in
    omega (arith, stage, each, all)
