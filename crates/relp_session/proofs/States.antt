-- How far frames bring a session.
use Rattle.std.specs.Prelude.{◌≡◌, ◌≢◌, Bool, true, false, ◌||◌, ◌↔◌, ℕ, List, [], ◌∷◌, ◌++◌, take, slice_get, Some}
use Rattle.std.proofs.Common.{refl, sym, ◌∙◌, ap, subst, suc}
use Rattle.std.specs.List.{list_any}
use Rattle.std.proofs.lemmas.List.Folds.{list_any-append}
use Rattle.relp_frame.specs.declared.frame.Frame.{Frame}
use Rattle.relp_session.specs.declared.act.RelpAct.{RelpAct}
use Rattle.relp_session.specs.declared.request.Request.{Request}
use Rattle.relp_session.specs.declared.request.Request.TheVariants.{Open, OpenOther, Syslog, Close, Other}
use Rattle.relp_session.specs.declared.state.State.{State}
use Rattle.relp_session.specs.declared.state.State.TheVariants.{Unopened, Opened, Closed}
use Rattle.relp_session.specs.Request.{Asks, is_opening, is_closing}
use Rattle.relp_session.specs.State.{next}
use Rattle.relp_session.specs.Answer.{act_of, IsAnswer, IsEnd}
use Rattle.relp_session.specs.Session.{opened, closed, state_of, state_after, EndsWhenClosed, StateOn, OpenedByOne}
use Rattle.relp_session.proofs.Table.{one_request}
use Rattle.relp_session.proofs.Words.{opens, closes, opening_asked, closing_asked}

or_false : (b : Bool) → (b || false) ≡ b
or_false true = refl
or_false false = refl

-- one frame more that is such, or isn't
any_push : (p : Frame → Bool) (before : List Frame) (f : Frame) → list_any p (before ++ f ∷ []) ≡ (list_any p before || p f)
any_push p before f = list_any-append p before (f ∷ []) ∙ ap (λ b. list_any p before || b) (or_false (p f))

-- the table's last column, by whether there was a `close` and an `open`
goes_on : (was_closed was_opened : Bool) (r : Request) → state_of (was_closed || closes r) (was_opened || opens r) ≡ next (state_of was_closed was_opened) r
goes_on true was_opened r = refl
goes_on false true Open = refl
goes_on false true OpenOther = refl
goes_on false true Syslog = refl
goes_on false true Close = refl
goes_on false true Other = refl
goes_on false false Open = refl
goes_on false false OpenOther = refl
goes_on false false Syslog = refl
goes_on false false Close = refl
goes_on false false Other = refl

pub state_then : (before : List Frame) (f : Frame) (r : Request) → Asks f r → state_after (before ++ f ∷ []) ≡ next (state_after before) r
state_then before f r a =
    let c : closed (before ++ f ∷ []) ≡ (closed before || closes r) = any_push is_closing before f ∙ ap (λ b. closed before || b) (closing_asked f r a) in
    let o : opened (before ++ f ∷ []) ≡ (opened before || opens r) = any_push is_opening before f ∙ ap (λ b. opened before || b) (opening_asked f r a) in
    ap (λ b. state_of b (opened (before ++ f ∷ []))) c ∙ ap (λ b. state_of (closed before || closes r) b) o ∙ goes_on (closed before) (opened before) r

pub state_on : StateOn
state_on before f after n = n.2 ∙ sym (state_then before f n.0 n.1)

-- what ends the connection closes the session, and nothing else does
pub ends_row : (s : State) (r : Request) (f : Frame) → IsEnd (act_of s r f) ↔ (next s r ≡ Closed)
ends_row Unopened Open f = (λ e. absurd e, λ e. cc)
ends_row Unopened OpenOther f = (λ e. absurd e, λ e. cc)
ends_row Unopened Syslog f = (λ e. absurd e, λ e. cc)
ends_row Unopened Close f = (λ e. refl, λ e. tt)
ends_row Unopened Other f = (λ e. absurd e, λ e. cc)
ends_row Opened Open f = (λ e. absurd e, λ e. cc)
ends_row Opened OpenOther f = (λ e. absurd e, λ e. cc)
ends_row Opened Syslog f = (λ e. absurd e, λ e. cc)
ends_row Opened Close f = (λ e. refl, λ e. tt)
ends_row Opened Other f = (λ e. absurd e, λ e. cc)
ends_row Closed r f = (λ e. refl, λ e. tt)

pub ends_when_closed : EndsWhenClosed
ends_when_closed state f act after a n =
    let same : n.0 ≡ a.0 = one_request f n.0 a.0 n.1 a.1 in
    let row = subst (λ (r : Request). IsEnd (act_of state a.0 f) ↔ (next state r ≡ Closed)) (sym same) (ends_row state a.0 f) in
    let goes = subst (λ (s : State). IsEnd (act_of state a.0 f) ↔ (s ≡ Closed)) (sym n.2) row in
    subst (λ (x : RelpAct). IsEnd x ↔ (after ≡ Closed)) (sym a.2) goes

-- the session isn't closed after a frame by which the connection doesn't end
pub stays_unclosed : (before : List Frame) (f : Frame) (act : RelpAct) → IsAnswer (state_after before) f act → ¬ IsEnd act → state_after (before ++ f ∷ []) ≢ Closed
stays_unclosed before f act a n = λ e. n ((ends_when_closed (state_after before) f act _ a (a.0, a.1, state_then before f a.0 a.1)).1 e)

-- frames with a `close` close the session
pub closed_after : (front : List Frame) (f : Frame) → is_closing f ≡ true → state_after (front ++ f ∷ []) ≡ Closed
closed_after front f e =
    let c : closed (front ++ f ∷ []) ≡ true = any_push is_closing front f ∙ ap (λ b. closed front || b) e ∙ or_true (closed front) in
    ap (λ b. state_of b (opened (front ++ f ∷ []))) c
  where
    or_true : (b : Bool) → (b || true) ≡ true
    or_true true = refl
    or_true false = refl

-- the frame that opened the session
abbrev Opener : List Frame → Type 0
Opener frames = (i : ℕ) × (f : Frame) × (slice_get frames i ≡ Some f) × (state_after (take i frames) ≡ Unopened) × (is_opening f ≡ true)

-- before frames with an opener stands one that neither opens nor closes
opener_after : (f : Frame) (fs : List Frame) → is_closing f ≡ false → is_opening f ≡ false → Opener fs → Opener (f ∷ fs)
opener_after f fs c o (i, g, at, found, is) =
    let closes : state_after (f ∷ take i fs) ≡ state_of (closed (take i fs)) (is_opening f || opened (take i fs)) = ap (λ b. state_of (b || closed (take i fs)) (is_opening f || opened (take i fs))) c in
    let opens : state_of (closed (take i fs)) (is_opening f || opened (take i fs)) ≡ state_after (take i fs) = ap (λ b. state_of (closed (take i fs)) (b || opened (take i fs))) o in
    (suc i, g, at, closes ∙ opens ∙ found, is)

opener_among : (f : Frame) (fs : List Frame) (c o : Bool) → is_closing f ≡ c → is_opening f ≡ o → state_of (c || closed fs) (o || opened fs) ≡ Opened → (state_after fs ≡ Opened → Opener fs) → Opener (f ∷ fs)
opener_among f fs true o c b e later = absurd (closed_not_opened e)
  where
    closed_not_opened : Closed ≡ Opened → ⊥
    closed_not_opened e = cc
opener_among f fs false true c b e later = (0, f, refl, refl, b)
opener_among f fs false false c b e later = opener_after f fs c b (later e)

pub opened_by_one : OpenedByOne
opened_by_one [] e = cc
opened_by_one (f ∷ fs) e = opener_among f fs (is_closing f) (is_opening f) refl refl e (opened_by_one fs)
