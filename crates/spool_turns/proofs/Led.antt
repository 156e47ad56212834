-- A journal that goes on by a call of one caller.
use Rattle.std.proofs.Common.{◌≡◌, inl, inr, ℕ, ◌+◌, ◌≤◌, ◌==◌, Bool, true, cond, List, [], ◌∷◌, ◌++◌, refl, sym, ◌∙◌, ap, subst, arith}
use Rattle.std.specs.Prelude.{false}
use Rattle.std.proofs.lemmas.Grind.{common_steps}
use Rattle.foundation.specs.Faults.{Rose}
use Rattle.edge_disk.specs.Disk.{Moment, IsLawful, LeavesOnly}
use Rattle.edge_disk.proofs.Moments.{started, both, weaker}
use Rattle.spool_log.specs.State.{View, IsIn}
use Rattle.desk_access.specs.Division.{DividedRun}
use Rattle.desk_access.specs.Call.{Record, NoneJoins, own_of, failures_in, failures_of, failed_as, failed_of}
use Rattle.desk_access.specs.Desk.{DeskState, Goes, StandsWithin, Stood}
use Rattle.spool_desk.specs.Alone.{AloneView, IsAt, LeadsFrom, RunsTo}
use Rattle.desk_access.specs.Journal.{goes_then, own_then, failures_then, failed_then, rose_then, stood_first, stood_later, stood_here}
use Rattle.spool_turns.specs.Rules.{made_by}
use Rattle.spool_turns.specs.Passes.{Beginning}
use Rattle.spool_turns.specs.Replays.{BeganAt, Begins, LeadsBy, Replays}

-- ---- the same calls, by another caller

abbrev renumbered : ℕ → List Record → List Record
renumbered n [] = []
renumbered n (one ∷ records) = made_by n one ∷ renumbered n records

renumbered_then : (n : ℕ) (xs ys : List Record) → renumbered n (xs ++ ys) ≡ renumbered n xs ++ renumbered n ys
renumbered_then n [] ys = refl
renumbered_then n (x ∷ xs) ys = ap (λ (l : List Record). made_by n x ∷ l) (renumbered_then n xs ys)

goes_renumbered : (n : ℕ) (x y : DeskState) (log : List Record) → Goes x log y → Goes x (renumbered n log) y
goes_renumbered n x y [] p = p
goes_renumbered n x y (one ∷ records) p = (p.0, record { answers = p.1.answers; after = p.1.after }, goes_renumbered n p.0 y records p.2)

within_renumbered : (n : ℕ) (x : DeskState) (log : List Record) (c : List ℕ) → StandsWithin x log c → StandsWithin x (renumbered n log) c
within_renumbered n x [] c h = absurd h
within_renumbered n x (one ∷ records) c h = h

stood_renumbered : (n : ℕ) (x : DeskState) (log : List Record) (c : List ℕ) → Stood x log c → Stood x (renumbered n log) c
stood_renumbered n x log c h = record {
  first = renumbered n h.first;
  rest = renumbered n h.rest;
  parts = ap (renumbered n) h.parts ∙ renumbered_then n h.first h.rest;
  found = h.found;
  goes = goes_renumbered n x h.found h.first h.goes;
  stands = elim h.stands [ inl here ↦ inl here | inr within ↦ inr (within_renumbered n h.found h.rest c within) ];
}

-- ---- the journal of all callers

-- what was left since the same moment
from_then : (P : List ℕ → Type 0) (began m new : Moment) → BeganAt began m → LeavesOnly P m new → LeavesOnly P began new
from_then P began m new is l = record {
  later = omega (arith, is.clock, l.later);
  each = λ c since. l.each c (subst (λ (t : ℕ). new.image_since t c) is.clock since);
  now = l.now;
  before = λ t c le since. elim (l.before t c (omega (arith, is.clock, le)) since) [ inl old ↦ inl (is.since t c old) | inr h ↦ inr h ];
}

-- another caller's record failed as often
failed_made : (n : ℕ) (log : List Record) (one : Record) → failed_of (log ++ made_by n one ∷ []) ≡ failed_of log + failed_of (one ∷ [])
failed_made n log one = failed_then log (made_by n one ∷ [])

-- nor was another caller's stored as one group with the one before it
none_made : (n : ℕ) (log : List Record) (one : Record) → NoneJoins log → one.joins ≡ false → NoneJoins (log ++ made_by n one ∷ [])
none_made n [] one none alone = (alone, tt)
none_made n (first ∷ log) one none alone = (none.0, none_made n log one none.1 alone)

-- nor was a caller told more often that the disk failed
own_failures : (n : ℕ) (one : Record) → one.joins ≡ false → failures_of (own_of n (one ∷ [])) ≤ failed_of (one ∷ [])
own_failures n one alone = by (one.by == n) where
  here : failed_as one.joins one.call ≡ failures_in one.call
  here = ap (λ (b : Bool). failed_as b one.call) alone

  by : (b : Bool) → failures_of (cond b (one.call ∷ []) []) ≤ failed_of (one ∷ [])
  by true = omega (arith, here)
  by false = omega arith

pub each_more : (n : ℕ) (log more : List Record) → failures_of (own_of n log) ≤ failed_of log → failures_of (own_of n more) ≤ failed_of more → failures_of (own_of n (log ++ more)) ≤ failed_of (log ++ more)
each_more n log more first second = omega (arith, first, second, failed_then log more, failures_then (own_of n log) (own_of n more), ap failures_of (own_then n log more))

rose_zero : (a b : ℕ) → a ≤ b → Rose 0 a b
rose_zero a b le = grind (arith, common_steps)

-- no call yet
pub replays_none : (tells : Type 0) (start : DeskState → Type 0) (run : DividedRun) (began : Beginning) (v : AloneView) → (tells → IsLawful v.spool.moment) → BeganAt began.moment v.spool.moment → ((x : DeskState) → start x → Begins tells run x) → ((x : DeskState) → start x → IsAt x v)
    → Replays tells start run began [] v
replays_none tells start run began v lawful is begins at = record {
  begins = begins;
  leads = λ x s. record {
    after = x;
    goes = refl;
    reached = at x s;
    any_moment = from_then (Stood x []) began.moment v.spool.moment v.spool.moment is (started (Stood x []) v.spool.moment (lawful (begins x s).told) (λ c image. stood_here x [] c ((at x s).spool.each c image)));
  };
  later = omega (arith, is.faults);
  cause = rose_zero began.moment.faults v.spool.moment.faults (omega (arith, is.faults));
  quiet = λ none. sym is.faults;
  size = sym is.size;
  alone = λ off. tt;
  each = λ number. omega arith;
}

-- no call leads from the one moment to the other
pub stays : (tells : Type 0) (a b : AloneView) → RunsTo tells a [] b → (x : DeskState) → tells → IsAt x a → IsAt x b
stays tells a b r x told at = let p = r.leads x told at in subst (λ (y : DeskState). IsAt y b) p.goes p.reached

module _ (tells : Type 0) (start : DeskState → Type 0) (run : DividedRun) (began : Beginning) (n : ℕ) (b c : AloneView) (log : List Record) (one : Record)
    (alone : one.joins ≡ false) where
  led : (x : DeskState) (p : LeadsBy x began.moment log b) → LeadsFrom p.after b (one ∷ []) c → LeadsBy x began.moment (log ++ made_by n one ∷ []) c
  led x p q =
      let goes = goes_renumbered n p.after q.after (one ∷ []) q.goes in
      record {
        after = q.after;
        goes = goes_then x p.after q.after log (made_by n one ∷ []) p.goes goes;
        reached = q.reached;
        any_moment = both (Stood x log) (Stood p.after (one ∷ [])) (Stood x (log ++ made_by n one ∷ [])) began.moment b.spool.moment c.spool.moment p.any_moment q.any_moment
            (λ image h. stood_first x log (made_by n one ∷ []) image h)
            (λ image h. stood_later x p.after log (made_by n one ∷ []) image p.goes (stood_renumbered n p.after (one ∷ []) image h));
      }

  -- a call of one caller after a journal
  pub replays_more : Replays tells start run began log b → RunsTo tells b (one ∷ []) c → Replays tells start run began (log ++ made_by n one ∷ []) c
  replays_more h r = record {
    begins = h.begins;
    leads = λ x s. let p = h.leads x s in led x p (r.leads p.after (h.begins x s).told p.reached);
    later = omega (arith, h.later, r.later);
    cause = subst (λ (k : ℕ). Rose k began.moment.faults c.spool.moment.faults) (sym (failed_made n log one))
        (rose_then (failed_of log) (failed_of (one ∷ [])) began.moment.faults b.spool.moment.faults c.spool.moment.faults h.cause r.cause h.later r.later);
    quiet = λ none. r.quiet (omega (arith, none, failed_made n log one)) ∙ h.quiet (omega (arith, none, failed_made n log one));
    size = r.size ∙ h.size;
    alone = λ off. none_made n log one (h.alone off) alone;
    each = λ number. each_more number log (made_by n one ∷ []) (h.each number) (own_failures number (made_by n one) alone);
  }

-- what is known of a desk that was told less, whatever its last call met
pub replays_told : (tells : Type 0) (start : DeskState → Type 0) (run : DividedRun) (began : Beginning) (log : List Record) (v w : AloneView) → w.spool ≡ v.spool → w.ids ≡ v.ids → w.end_known ≤ v.end_known → w.cursor_known ≤ v.cursor_known → Replays tells start run began log v → Replays tells start run began log w
replays_told tells start run began log v w spool ids end_is cursor_is h = record {
  begins = h.begins;
  leads = λ x s. let p = h.leads x s in record {
    after = p.after;
    goes = p.goes;
    reached = record { rules = p.reached.rules; spool = subst (IsIn p.after.spool p.after.doubt) (sym spool) p.reached.spool; ids = p.reached.ids ∙ sym ids; end_known = omega (arith, end_is, p.reached.end_known); cursor_known = omega (arith, cursor_is, p.reached.cursor_known) };
    any_moment = subst (λ (s : View). LeavesOnly (Stood x log) began.moment s.moment) (sym spool) p.any_moment;
  };
  later = subst (λ (s : View). began.moment.faults ≤ s.moment.faults) (sym spool) h.later;
  cause = subst (λ (s : View). Rose (failed_of log) began.moment.faults s.moment.faults) (sym spool) h.cause;
  quiet = subst (λ (s : View). failed_of log ≡ 0 → s.moment.faults ≡ began.moment.faults) (sym spool) h.quiet;
  size = subst (λ (s : View). s.moment.size ≡ began.moment.size) (sym spool) h.size;
  alone = h.alone;
  each = h.each;
}
