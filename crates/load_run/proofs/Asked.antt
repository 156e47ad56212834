-- The cursor and the end that a session asks for are those of the desk's state.
use Rattle.std.proofs.Common.{◌≡◌, ℕ, List, [], ◌∷◌, refl, ap, subst, arith}
use Rattle.spool_state.specs.SpoolState.{end}
use Rattle.spool_desk.specs.Alone.{AloneView, IsAt, Ran, HasSeen, LeadsFrom}
use Rattle.desk_access.specs.Call.{Record, AreBy}
use Rattle.desk_access.specs.Desk.{DeskState}
use Rattle.forward_core.specs.Forwarded.{Asked}

-- after no call the desk is in the same state
still : (x : DeskState) (tells : Type 0) (old new : AloneView) → tells → IsAt x old → Ran tells old [] new → IsAt x new
still x tells old new told at ran = by ran.records ran.by (ran.runs.leads x told at) where
  by : (records : List Record) → AreBy 0 [] records → LeadsFrom x old records new → IsAt x new
  by [] are leads = subst (λ (d : DeskState). IsAt d new) leads.goes leads.reached
  by (one ∷ more) are leads = absurd are

seen_here : (x : DeskState) (tells : Type 0) (v : AloneView) → tells → IsAt x v → HasSeen tells x [] v
seen_here x tells v told at = record { told = told; rules = at.rules; found = x; goes = refl; here = at }

-- the answers are the cursor and the end of the state, in which the desk still is
pub record IsBegun (x : DeskState) (start until : ℕ) (v : AloneView) : Type 0 where
  pub at : IsAt x v
  pub start_is : start ≡ x.spool.cursor
  pub until_is : until ≡ end x.spool

pub begun : {A : Type 0} (view : A → AloneView) (tells : Type 0) (x : DeskState) (old new : A) (start until : ℕ) → tells → IsAt x (view old)
    → Asked (λ a calls b. Ran tells (view a) calls (view b)) (λ a. (view a).cursor_known) (λ a. (view a).end_known) (λ a y journal. HasSeen tells y journal (view a)) old start until new
    → IsBegun x start until (view new)
begun view tells x old new start until told at asked =
    let mid = still x tells (view old) (view asked.between) told at asked.cursor_ran in
    let last = still x tells (view asked.between) (view new) told mid asked.end_ran in
    let low = asked.cursor_seen x [] (seen_here x tells (view old) told at) in
    let high = asked.end_seen x [] (seen_here x tells (view asked.between) told mid) in
    let low_at : low.0.spool.cursor ≡ x.spool.cursor = ap (λ (d : DeskState). d.spool.cursor) low.1 in
    let high_at : end high.0.spool ≡ end x.spool = ap (λ (d : DeskState). end d.spool) high.1 in
    record {
      at = last;
      start_is = omega (arith, low.2, low_at, mid.cursor_known, asked.cursor);
      until_is = omega (arith, high.2, high_at, last.end_known, asked.end_is);
    }
