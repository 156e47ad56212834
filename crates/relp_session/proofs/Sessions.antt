-- Steps one after another give the acts of their frames, and nothing after a `close`.
use Rattle.std.specs.Prelude.{◌≡◌, ℕ, List, [], ◌∷◌, ◌++◌, length, take, slice_get, Some}
use Rattle.std.specs.List.{All}
use Rattle.std.proofs.Common.{refl, sym, ap, subst, zero, suc, arith, append_assoc}
use Rattle.std.proofs.lemmas.Option.{slice_get_within}
use Rattle.std.proofs.lemmas.List.{append-nil}
use Rattle.std.proofs.lemmas.List.Elements.{All-nil, All-cons}
use Rattle.relp_frame.specs.declared.frame.Frame.{Frame}
use Rattle.relp_session.specs.declared.act.RelpAct.{RelpAct}
use Rattle.relp_session.specs.declared.state.State.{State}
use Rattle.relp_session.specs.declared.state.State.TheVariants.{Unopened, Closed}
use Rattle.relp_session.specs.Answer.{IsAnswer}
use Rattle.relp_session.specs.Session.{state_after, Steps, ActsByFrames, IsNothing, EndsAtClose}
use Rattle.relp_session.proofs.States.{state_on, closed_after}

steps_count : (state : State) (frames : List Frame) (acts : List RelpAct) → Steps state frames acts → length acts ≡ length frames
steps_count state [] [] s = refl
steps_count state [] (act ∷ acts) s = absurd s
steps_count state (f ∷ frames) [] s = absurd s
steps_count state (f ∷ frames) (act ∷ acts) s = ap suc (steps_count s.1.0 frames acts s.1.2)

-- the i-th act is the row by how far the frames before it have brought the session
steps_at : (before frames : List Frame) (acts : List RelpAct) → Steps (state_after before) frames acts → (i : ℕ) (f : Frame) (act : RelpAct) → slice_get frames i ≡ Some f → slice_get acts i ≡ Some act → IsAnswer (state_after (before ++ take i frames)) f act
steps_at before [] [] s i f act p q = absurd (omega (arith, slice_get_within {A = Frame} [] i f p))
steps_at before [] (a ∷ acts) s i f act p q = absurd s
steps_at before (g ∷ frames) [] s i f act p q = absurd s
steps_at before (g ∷ frames) (a ∷ acts) s zero f act p q =
    let e : g ≡ f = cc in
    let d : a ≡ act = cc in
    subst (λ l. IsAnswer (state_after l) f act) (sym (append-nil before)) (subst (λ x. IsAnswer (state_after before) x act) e (subst (λ x. IsAnswer (state_after before) g x) d s.0))
steps_at before (g ∷ frames) (a ∷ acts) (row, (after, goes, rest)) (suc i) f act p q =
    let here = subst (λ state. Steps state frames acts) (state_on before g after goes) rest in
    subst (λ l. IsAnswer (state_after l) f act) (append_assoc before (g ∷ []) (take i frames)) (steps_at (before ++ g ∷ []) frames acts here i f act p q)

pub acts_by_frames : ActsByFrames
acts_by_frames frames acts s = record { count = steps_count Unopened frames acts s; each = steps_at [] frames acts s }

-- a session that was closed does nothing
steps_closed : (frames : List Frame) (acts : List RelpAct) → Steps Closed frames acts → All IsNothing acts
steps_closed [] [] s = All-nil IsNothing
steps_closed [] (act ∷ acts) s = absurd s
steps_closed (f ∷ frames) [] s = absurd s
steps_closed (f ∷ frames) (act ∷ acts) (row, (after, goes, rest)) = All-cons IsNothing act acts row.2 (steps_closed frames acts (subst (λ state. Steps state frames acts) goes.2 rest))

-- steps over two lists of frames, one after the other
record Split (before frames more : List Frame) (acts : List RelpAct) : Type 0 where
  done : List RelpAct
  rest : List RelpAct
  whole : acts ≡ done ++ rest
  first : Steps (state_after before) frames done
  then : Steps (state_after (before ++ frames)) more rest

steps_split : (before frames more : List Frame) (acts : List RelpAct) → Steps (state_after before) (frames ++ more) acts → Split before frames more acts
steps_split before [] more acts s = record { done = []; rest = acts; whole = refl; first = tt; then = subst (λ l. Steps (state_after l) more acts) (sym (append-nil before)) s }
steps_split before (f ∷ frames) more [] s = absurd s
steps_split before (f ∷ frames) more (act ∷ acts) (row, (after, goes, rest)) =
    let on = state_on before f after goes in
    let p = steps_split (before ++ f ∷ []) frames more acts (subst (λ state. Steps state (frames ++ more) acts) on rest) in record {
      done = act ∷ p.done;
      rest = p.rest;
      whole = ap (λ l. act ∷ l) p.whole;
      first = (row, (after, goes, subst (λ state. Steps state frames p.done) (sym on) p.first));
      then = subst (λ l. Steps (state_after l) more p.rest) (append_assoc before (f ∷ []) frames) p.then;
    }

pub ends_at_close : EndsAtClose
ends_at_close front f later acts closing s =
    let p = steps_split [] (front ++ f ∷ []) later acts (subst (λ l. Steps Unopened l acts) (sym (append_assoc front (f ∷ []) later)) s) in
    let over = subst (λ state. Steps state later p.rest) (closed_after front f closing) p.then in
    (p.done, p.rest, p.whole, acts_by_frames (front ++ f ∷ []) p.done p.first, steps_closed later p.rest over)
