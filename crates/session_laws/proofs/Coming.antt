-- The spool on the way from one desk to another, and how far its end and its cursor are after the calls of one caller.
use Rattle.std.proofs.Common.{◌≡◌, ◌≢◌, ◌⊎◌, inl, inr, ℕ, ◌<◌, ◌≤◌, Bool, cond, List, [], ◌∷◌, length, refl, sym, ap, subst, arith}
use Rattle.std.proofs.lemmas.Bool.{cases_eq, eq-eqb, ne_eqb}
use Rattle.event_form.specs.declared.event.Entry.{Entry}
use Rattle.spool_state.specs.SpoolState.{SpoolState, end}
use Rattle.spool_answers.specs.Stages.{IsOneOf}
use Rattle.desk_access.specs.Call.{Record, own_of}
use Rattle.desk_access.specs.Desk.{Allowed, DeskState, Goes}
use Rattle.desk_access.specs.History.{IsDesk}
use Rattle.desk_access.proofs.OneState.{one_state}
use Rattle.desk_access.proofs.Steps.{allowed_later, one_later}
use Rattle.desk_seats.specs.Passes.{LeadsAbove, upto_first}
use Rattle.session_laws.specs.Led.{Led}
use Rattle.session_laws.proofs.Leading.{back_as}

-- ---- the records of one caller

pub own_here : (number : ℕ) (one : Record) (records : List Record) → one.by ≡ number → own_of number (one ∷ records) ≡ one.call ∷ own_of number records
own_here number one records is = ap (λ (b : Bool). cond b (one.call ∷ own_of number records) (own_of number records)) (eq-eqb one.by number is)

pub own_there : (number : ℕ) (one : Record) (records : List Record) → one.by ≢ number → own_of number (one ∷ records) ≡ own_of number records
own_there number one records off = ap (λ (b : Bool). cond b (one.call ∷ own_of number records) (own_of number records)) (ne_eqb one.by number off)

pub upto_here : (number : ℕ) (one : Record) (records : List Record) → one.by ≡ number → upto_first number (one ∷ records) ≡ one ∷ []
upto_here number one records is = ap (λ (b : Bool). cond b (one ∷ []) (one ∷ upto_first number records)) (eq-eqb one.by number is)

pub upto_there : (number : ℕ) (one : Record) (records : List Record) → one.by ≢ number → upto_first number (one ∷ records) ≡ one ∷ upto_first number records
upto_there number one records off = ap (λ (b : Bool). cond b (one ∷ []) (one ∷ upto_first number records)) (ne_eqb one.by number off)

-- ---- the way

-- after each call of that caller the end and the cursor are at least these
abbrev pub Reached : (number until start : ℕ) (s : SpoolState) (records : List Record) (groups : List (List Entry)) (t : SpoolState) → Led s records groups t → Type 0
Reached number until start s [] [] t led = Unit {0}
Reached number until start s [] (group ∷ groups) t led = Unit {0}
Reached number until start s (one ∷ records) [] t led = Unit {0}
Reached number until start s (one ∷ records) (group ∷ groups) t led = (one.by ≡ number → (until ≤ end led.0) × (start ≤ led.0.cursor)) × Reached number until start led.0 records groups t led.2

-- the way to this state, from one of those of a desk
pub record Comes (x : DeskState) (number until start : ℕ) (records : List Record) (t : SpoolState) : Type 0 where
  pub from : SpoolState
  pub one : IsOneOf x.spool x.doubt from
  pub groups : List (List Entry)
  pub led : Led from records groups t
  pub reached : Reached number until start from records groups t led

abbrev Above : DeskState → ℕ → ℕ → Type 0
Above x until start = (until ≤ end x.spool) × (start ≤ x.spool.cursor)

-- the desk is so far, or the records up to the first of that caller lead so far
abbrev Comes_above : DeskState → ℕ → ℕ → ℕ → List Record → Type 0
Comes_above x number until start records = Above x until start ⊎ (0 < length (own_of number records) → LeadsAbove x (upto_first number records) until start)

above_after : (x z : DeskState) (number until start : ℕ) (one : Record) (records : List Record) → IsDesk x → Allowed x one z → one.by ≡ number → Comes_above x number until start (one ∷ records) → Above z until start
above_after x z number until start one records rules allowed is (inl above) =
    let later = (allowed_later x z one rules allowed).1 in
    (omega (arith, above.0, later.follows.end_rises), omega (arith, above.1, later.follows.cursor))
above_after x z number until start one records rules allowed is (inr leads) =
    let some : 0 < length (own_of number (one ∷ records)) = omega (arith, ap length (own_here number one records is)) in
    let h : LeadsAbove x (one ∷ []) until start = subst (λ (l : List Record). LeadsAbove x l until start) (upto_here number one records is) (leads some) in
    let same : z ≡ h.0 = one_state x z h.0 (one ∷ []) rules (z, allowed, refl) h.1 in
    subst (λ (d : DeskState). Above d until start) (sym same) (h.2, h.3)

above_then : (x z : DeskState) (number until start : ℕ) (one : Record) (records : List Record) → IsDesk x → Allowed x one z → one.by ≢ number → Comes_above x number until start (one ∷ records) → Comes_above z number until start records
above_then x z number until start one records rules allowed off (inl above) =
    let later = (allowed_later x z one rules allowed).1 in
    inl (omega (arith, above.0, later.follows.end_rises), omega (arith, above.1, later.follows.cursor))
above_then x z number until start one records rules allowed off (inr leads) = inr (λ some.
    let more : 0 < length (own_of number (one ∷ records)) = omega (arith, some, ap length (own_there number one records off)) in
    let h : LeadsAbove x (one ∷ upto_first number records) until start = subst (λ (l : List Record). LeadsAbove x l until start) (upto_there number one records off) (leads more) in
    let same : z ≡ h.1.0 = one_state x z h.1.0 (one ∷ []) rules (z, allowed, refl) (h.1.0, h.1.1, refl) in
    (h.0, subst (λ (d : DeskState). Goes d (upto_first number records) h.0) (sym same) h.1.2, h.2, h.3))

comes_then : (x z : DeskState) (number until start : ℕ) (one : Record) (records : List Record) (t : SpoolState) → IsDesk x → IsDesk z → Allowed x one z → (one.by ≡ number → Above z until start)
    → Comes z number until start records t → Comes x number until start (one ∷ records) t
comes_then x z number until start one records t rules after allowed above rest =
    let later = one_later z rest.from after rest.one in
    let b = back_as one.joins x z one.call one.met rest.from rules later.sound allowed.answers rest.one in
    record {
      from = b.from;
      one = b.one;
      groups = b.group ∷ rest.groups;
      led = (rest.from, b.did, rest.led);
      reached = (λ is. let h = above is in (omega (arith, h.0, later.follows.end_rises), omega (arith, h.1, later.follows.cursor)), rest.reached);
    }

pub comes : (x y : DeskState) (number until start : ℕ) (records : List Record) (t : SpoolState) → IsDesk x → Goes x records y → IsOneOf y.spool y.doubt t → Comes_above x number until start records → Comes x number until start records t
comes x y number until start [] t rules goes one above =
    record { from = t; one = subst (λ (d : DeskState). IsOneOf d.spool d.doubt t) goes one; groups = []; led = refl; reached = tt }
comes x y number until start (first ∷ records) t rules goes one above =
    let z = goes.0 in
    let after = (allowed_later x z first rules goes.1).0 in
    elim (cases_eq first.by number) [
      | inl is ↦
          let here = above_after x z number until start first records rules goes.1 is above in
          comes_then x z number until start first records t rules after goes.1 (λ same. here) (comes z y number until start records t after goes.2 one (inl here))
      | inr off ↦
          comes_then x z number until start first records t rules after goes.1 (λ same. absurd (off same))
          (comes z y number until start records t after goes.2 one (above_then x z number until start first records rules goes.1 off above))
    ]
