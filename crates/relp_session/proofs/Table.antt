-- The receiver's table has one row for each frame in each state.
use Rattle.std.specs.Prelude.{◌≡◌, ◌≢◌, ◌⊎◌, ℕ, Bool, true, false, List, length, bytes_eq, codes}
use Rattle.std.proofs.Common.{refl, sym, ◌∙◌, ap, inl, inr, arith}
use Rattle.std.proofs.lemmas.Bool.{true≢false}
use Rattle.std.proofs.lemmas.Slice.Eq.{bytes_eq-Decides}
use Rattle.relp_frame.specs.declared.frame.Frame.{Frame}
use Rattle.relp_session.specs.declared.request.Request.{Request}
use Rattle.relp_session.specs.declared.request.Request.TheVariants.{Open, OpenOther, Syslog, Close, Other}
use Rattle.relp_session.specs.Request.{Asks, speaks}
use Rattle.relp_session.specs.State.{next, IsNext}
use Rattle.relp_session.specs.Answer.{act_of, IsAnswer, One, OneAnswer}

-- a frame asks for one thing only
pub one_request : (f : Frame) (r s : Request) → Asks f r → Asks f s → r ≡ s
one_request f Open Open a b = refl
one_request f Open OpenOther a b = absurd (true≢false (sym a.1 ∙ b.1))
one_request f Open Syslog a b = absurd (omega (arith, ap length (sym a.0 ∙ b)))
one_request f Open Close a b = absurd (omega (arith, ap length (sym a.0 ∙ b)))
one_request f Open Other a b = absurd (b.0 a.0)
one_request f OpenOther Open a b = absurd (true≢false (sym b.1 ∙ a.1))
one_request f OpenOther OpenOther a b = refl
one_request f OpenOther Syslog a b = absurd (omega (arith, ap length (sym a.0 ∙ b)))
one_request f OpenOther Close a b = absurd (omega (arith, ap length (sym a.0 ∙ b)))
one_request f OpenOther Other a b = absurd (b.0 a.0)
one_request f Syslog Open a b = absurd (omega (arith, ap length (sym a ∙ b.0)))
one_request f Syslog OpenOther a b = absurd (omega (arith, ap length (sym a ∙ b.0)))
one_request f Syslog Syslog a b = refl
one_request f Syslog Close a b = absurd (omega (arith, ap length (sym a ∙ b)))
one_request f Syslog Other a b = absurd (b.1 a)
one_request f Close Open a b = absurd (omega (arith, ap length (sym a ∙ b.0)))
one_request f Close OpenOther a b = absurd (omega (arith, ap length (sym a ∙ b.0)))
one_request f Close Syslog a b = absurd (omega (arith, ap length (sym a ∙ b)))
one_request f Close Close a b = refl
one_request f Close Other a b = absurd (b.2 a)
one_request f Other Open a b = absurd (a.0 b.0)
one_request f Other OpenOther a b = absurd (a.0 b.0)
one_request f Other Syslog a b = absurd (a.1 b)
one_request f Other Close a b = absurd (a.2 b)
one_request f Other Other a b = refl

same_or_not : (xs ys : List ℕ) → (xs ≡ ys) ⊎ (xs ≢ ys)
same_or_not xs ys = go (bytes_eq xs ys) refl
  where
    go : (b : Bool) → bytes_eq xs ys ≡ b → (xs ≡ ys) ⊎ (xs ≢ ys)
    go true e = inl ((bytes_eq-Decides xs ys).0 e)
    go false e = inr (λ q. true≢false (sym ((bytes_eq-Decides xs ys).1 q) ∙ e))

some_opening : (f : Frame) → f.command ≡ codes "open" → (r : Request) × Asks f r
some_opening f o = go (speaks f.body) refl
  where
    go : (b : Bool) → speaks f.body ≡ b → (r : Request) × Asks f r
    go true e = (Open, (o, e))
    go false e = (OpenOther, (o, e))

-- a frame asks for something
some_request : (f : Frame) → (r : Request) × Asks f r
some_request f = elim (same_or_not f.command (codes "open")) [
  | inl o ↦ some_opening f o
  | inr o ↦ elim (same_or_not f.command (codes "syslog")) [
    | inl s ↦ (Syslog, s)
    | inr s ↦ elim (same_or_not f.command (codes "close")) [
      | inl c ↦ (Close, c)
      | inr c ↦ (Other, (o, s, c))
    ]
  ]
]

pub one_answer : OneAnswer
one_answer state f =
    let r = some_request f in
    let once : (s : Request) → Asks f s → s ≡ r.0 = λ s a. one_request f s r.0 a r.1 in
    let act : One (IsAnswer state f) = (act_of state r.0 f, (r.0, r.1, refl), λ other a. a.2 ∙ ap (λ q. act_of state q f) (once a.0 a.1)) in
    let after : One (IsNext state f) = (next state r.0, (r.0, r.1, refl), λ other a. a.2 ∙ ap (λ q. next state q) (once a.0 a.1)) in
    (act, after)
