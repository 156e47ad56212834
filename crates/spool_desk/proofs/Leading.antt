-- What one call leads to, for a desk with one caller.
use Rattle.std.proofs.Common.{◌≡◌, ◌⊎◌, inl, inr, ℕ, ◌≤◌, ◌<◌, zero, suc, true, List, [], ◌∷◌, length, Option, Some, refl, sym, ◌∙◌, ap, subst, arith}
use Rattle.std.specs.Prelude.{All, Result, Ok, Err}
use Rattle.std.specs.Global.{Vec}
use Rattle.known_numbers.specs.declared.stretch.Stretch.{Stretch}
use Rattle.known_numbers.specs.Numbers.{count_of}
use Rattle.event_form.specs.declared.event.Entry.{Entry}
use Rattle.event_form.specs.Entry.{IsEntry}
use Rattle.spool_state.specs.SpoolState.{SpoolState, end}
use Rattle.spool_state.specs.Image.{StandsFor}
use Rattle.edge_disk.specs.Disk.{IsLawful, LeavesOnly}
use Rattle.edge_disk.proofs.Moments.{started, both, weaker}
use Rattle.spool_answers.specs.declared.numbered.Numbered.{Numbered}
use Rattle.spool_answers.specs.declared.receipt.Receipt.{Receipt}
use Rattle.spool_faults.specs.declared.fault.TakeFault.{TakeFault}
use Rattle.spool_faults.specs.declared.fault.PendFault.{PendFault}
use Rattle.spool_faults.specs.declared.fault.ConfirmFault.{ConfirmFault}
use Rattle.spool_faults.specs.Fault.{as_take, as_confirm}
use Rattle.spool_log.specs.State.{View, IsIn}
use Rattle.spool_answers.specs.Stages.{IsOneOf, StandsForOne, IsMidway}
use Rattle.spool_answers.specs.Mark.{EndsBy, all_below}
use Rattle.spool_log.specs.Outcome.{GoesOn, TakesFrom, PendsFrom, MarksFrom}
use Rattle.spool_answers.specs.Pend.{Pends}
use Rattle.spool_log.proofs.Numbers.{end_known, base_known, room_known}
use Rattle.hec_ids.specs.Table.{Table}
use Rattle.desk_access.specs.declared.standing.Standing.{Standing}
use Rattle.desk_access.specs.Standing.{standing_of}
use Rattle.spool_desk.specs.Standing.{standing_in}
use Rattle.desk_access.specs.Call.{Call, takes, pends, confirms, marks, Record, listed}
use Rattle.desk_access.specs.Desk.{DeskState, desk_of, Allowed, Answers, changing, IsAnswered, Finds, Leaving, StandsWithin, Stood, StaysDoubtful, Reads}
use Rattle.spool_desk.specs.Alone.{AloneView, alone_view, IsAt, LeadsFrom, Mended, record_of}
use Rattle.desk_access.proofs.Steps.{allowed_later}

-- ---- the numbers of memory

pub standing_known : (s : SpoolState) (doubt : List SpoolState) (v : View) → IsIn s doubt v → standing_in v.memory ≡ standing_of s
standing_known s doubt v held = λ i. record {
  base = base_known s v.memory held.knows i;
  end = end_known s v.memory.active held.sound held.knows.active i;
  cursor = held.knows.cursor i;
  known_count = count_of (held.knows.known i);
  room = room_known s v.memory.active held.knows.active i;
}

-- the end as memory knows it
pub end_is : (x : DeskState) (v : AloneView) → IsAt x v → (standing_in v.spool.memory).end ≡ end x.spool
end_is x v at = end_known x.spool v.spool.memory.active at.spool.sound at.spool.knows.active

-- ---- one call, as a record

-- The numbers that were answered stay.
pub record KeepsKnown (old new : AloneView) : Type 0 where
  pub end_stays : new.end_known ≡ old.end_known
  pub cursor_stays : new.cursor_known ≡ old.cursor_known

one_leads : (x y : DeskState) (call : Call) (old new : AloneView) → Answers x call new.met y → IsAt x old → IsIn y.spool y.doubt new.spool → y.ids ≡ new.ids → KeepsKnown old new
    → LeavesOnly (λ c. StandsForOne x.spool x.doubt c ⊎ StandsWithin x (record_of call new ∷ []) c) old.spool.moment new.spool.moment
    → LeadsFrom x old (record_of call new ∷ []) new
one_leads x y call old new answers at held ids keeps run =
    let allowed : Allowed x (record_of call new) y = record { answers = answers; after = standing_known y.spool y.doubt new.spool held } in
    let met = allowed_later x y (record_of call new) at.rules allowed in record {
      after = y;
      goes = (y, allowed, refl);
      reached = record {
        rules = met.0;
        spool = held;
        ids = ids;
        end_known = omega (arith, keeps.end_stays, at.end_known, met.1.follows.end_rises);
        cursor_known = omega (arith, keeps.cursor_stays, at.cursor_known, met.1.follows.cursor);
      };
      any_moment = weaker _ (Stood x (record_of call new ∷ [])) old.spool.moment new.spool.moment run (λ c h. record { first = []; rest = record_of call new ∷ []; parts = refl; found = x; goes = refl; stands = h });
    }

-- where nothing is written
quiet_run : (x : DeskState) (records : List Record) (old new : AloneView) → IsAt x old → LeavesOnly old.spool.moment.image old.spool.moment new.spool.moment
    → LeavesOnly (λ c. StandsForOne x.spool x.doubt c ⊎ StandsWithin x records c) old.spool.moment new.spool.moment
quiet_run x records old new at run = weaker old.spool.moment.image (λ c. StandsForOne x.spool x.doubt c ⊎ StandsWithin x records c) old.spool.moment new.spool.moment run (λ c image. inl (at.spool.each c image))

-- a call that met a doubt which was not mended
pub failed_leads : (x : DeskState) (call : Call) (fault : PendFault) (old new : AloneView) → IsAt x old → Mended x (Err fault) old new → (StaysDoubtful x new.met fault x → Answers x call new.met x) → KeepsKnown old new → LeadsFrom x old (record_of call new ∷ []) new
failed_leads x call fault old new at stays answers keeps =
    one_leads x x call old new (answers stays.0) at stays.1.spool stays.1.ids keeps (quiet_run x (record_of call new ∷ []) old new at stays.2)

-- a call that mends nothing
pub idle_leads : (x : DeskState) (call : Call) (old : AloneView) (ids : Table) (met : Standing) → met ≡ standing_in old.spool.memory → IsLawful old.spool.moment → IsAt x old
    → (Leaving x (Some met) ids (desk_of x.spool x.doubt ids) → Answers x call (Some met) (desk_of x.spool x.doubt ids))
    → LeadsFrom x old (record_of call (alone_view old.spool ids (Some met) old.end_known old.cursor_known) ∷ []) (alone_view old.spool ids (Some met) old.end_known old.cursor_known)
idle_leads x call old ids met is lawful at answers =
    let new = alone_view old.spool ids (Some met) old.end_known old.cursor_known in
    one_leads x (desk_of x.spool x.doubt ids) call old new (answers (ap Some (is ∙ standing_known x.spool x.doubt old.spool at.spool), refl)) at at.spool refl (record { end_stays = refl; cursor_stays = refl })
    (quiet_run x (record_of call new ∷ []) old new at (started old.spool.moment.image old.spool.moment lawful (λ c image. image)))

-- ---- a call that goes on from what mending found

one_stands : (s m : SpoolState) (doubt : List SpoolState) (c : List ℕ) → IsOneOf s doubt m → StandsFor m c → StandsForOne s doubt c
one_stands s m [] c one h = subst (λ (t : SpoolState). StandsFor t c) one h
one_stands s m (stage ∷ stages) c (inl one) h = inl (subst (λ (t : SpoolState). StandsFor t c) one h)
one_stands s m (stage ∷ stages) c (inr one) h = inr (one_stands stage m stages c one h)

-- the spool isn't in doubt then
no_doubt : (m : SpoolState) (v : View) → IsIn m [] v → v.in_doubt ≡ true → ⊥
no_doubt m v held is = omega (arith, held.doubtful.0 is)

pub went_on : (x : DeskState) (call : Call) (old : AloneView) (v w : View) (ids : Table) (met : Option Standing) (e k : ℕ) (m n after : SpoolState) (later : List SpoolState)
    → IsAt x old → Finds x met m → IsAt (desk_of m [] x.ids) (alone_view v ids met e k) → LeavesOnly old.spool.moment.image old.spool.moment v.moment
    → (Finds x met n → Answers x call met (desk_of after later x.ids)) → IsAnswered n call → GoesOn m [] n (changing n call) after later v w → KeepsKnown old (alone_view w ids met e k)
    → LeadsFrom x old (record_of call (alone_view w ids met e k) ∷ []) (alone_view w ids met e k)
went_on x call old v w ids met e k m n after later at finds here quiet answers answered on keeps =
    let new = alone_view w ids met e k in
    let found : Finds x met n = subst (Finds x met) (sym on.one) finds in
    one_leads x (desk_of after later x.ids) call old new (answers found) at on.reached here.ids keeps
    (both old.spool.moment.image (λ c. v.moment.image c ⊎ IsMidway n (changing n call) c) (λ c. StandsForOne x.spool x.doubt c ⊎ StandsWithin x (record_of call new ∷ []) c) old.spool.moment v.moment w.moment quiet on.any_moment
    (λ c image. inl (at.spool.each c image))
    (λ c h. elim h [ inl image ↦ inl (one_stands x.spool m x.doubt c finds.one (here.spool.each c image)) | inr midway ↦ inr (n, found, answered, midway) ]))

-- a take of entries
pub take_leads : (x : DeskState) (group : List Entry) (result : Result Receipt TakeFault) (old : AloneView) (v w : View) (ids : Table) (met : Option Standing) (e k : ℕ) → 0 < length group → All IsEntry group → IsAt x old
    → Mended x (Ok tt) old (alone_view v ids met e k) → ((m : SpoolState) → IsAt (desk_of m [] x.ids) (alone_view v ids met e k) → TakesFrom m [] group result v w) → KeepsKnown old (alone_view w ids met e k)
    → LeadsFrom x old (record_of (takes group result) (alone_view w ids met e k) ∷ []) (alone_view w ids met e k)
take_leads x [] result old v w ids met e k some limits at mended from keeps = absurd (omega arith)
take_leads x (entry ∷ entries) result old v w ids met e k some limits at mended from keeps =
    let m = mended.0 in
    elim (from m mended.2) [
      | inl stayed ↦ absurd (no_doubt m v mended.2.spool stayed.2.in_doubt)
      | inr went ↦ went_on x (takes (entry ∷ entries) result) old v w ids met e k m went.0 _ _ at mended.1 mended.2 mended.3 (λ found. (limits, inr (went.0, found, (went.1, refl)))) went.1 went.2 keeps
    ]

pub take_fails : (x : DeskState) (group : List Entry) (fault : PendFault) (old new : AloneView) → 0 < length group → All IsEntry group → IsAt x old → Mended x (Err fault) old new → KeepsKnown old new → LeadsFrom x old (record_of (takes group (Err (as_take fault))) new ∷ []) new
take_fails x [] fault old new some limits at mended keeps = absurd (omega arith)
take_fails x (entry ∷ entries) fault old new some limits at mended keeps = failed_leads x (takes (entry ∷ entries) (Err (as_take fault))) fault old new at mended (λ stays. (limits, inl (fault, refl, stays))) keeps

-- a reading
reads : (m : SpoolState) (from most : ℕ) (result : Result (Vec Numbered) PendFault) → Pends m from most result → Reads m from most (listed result)
reads m from most (Ok given) h = h
reads m from most (Err fault) h = h

pub pend_leads : (x : DeskState) (from most : ℕ) (result : Result (Vec Numbered) PendFault) (old : AloneView) (v w : View) (ids : Table) (met : Option Standing) (e k : ℕ) → IsAt x old
    → Mended x (Ok tt) old (alone_view v ids met e k) → ((m : SpoolState) → IsAt (desk_of m [] x.ids) (alone_view v ids met e k) → PendsFrom m [] from most result v w) → KeepsKnown old (alone_view w ids met e k)
    → LeadsFrom x old (record_of (pends from most (listed result)) (alone_view w ids met e k) ∷ []) (alone_view w ids met e k)
pend_leads x from most result old v w ids met e k at mended given keeps =
    let m = mended.0 in
    elim (given m mended.2) [
      | inl stayed ↦ absurd (no_doubt m v mended.2.spool stayed.2.in_doubt)
      | inr went ↦ let answer = reads went.0 from most result went.1 in
          went_on x (pends from most (listed result)) old v w ids met e k m went.0 _ _ at mended.1 mended.2 mended.3 (λ found. inr (went.0, found, (answer, refl))) answer went.2 keeps
    ]

pub pend_fails : (x : DeskState) (from most : ℕ) (fault : PendFault) (old new : AloneView) → IsAt x old → Mended x (Err fault) old new → KeepsKnown old new → LeadsFrom x old (record_of (pends from most (Err fault)) new ∷ []) new
pend_fails x from most fault old new at mended keeps = failed_leads x (pends from most (Err fault)) fault old new at mended (λ stays. inl (fault, refl, stays)) keeps

-- a mark
pub mark_leads : (x : DeskState) (more : List Stretch) (result : Result Unit ConfirmFault) (old : AloneView) (v w : View) (ids : Table) (met : Option Standing) (e k : ℕ) → All (EndsBy (end x.spool)) more → IsAt x old
    → Mended x (Ok tt) old (alone_view v ids met e k) → ((m : SpoolState) → IsAt (desk_of m [] x.ids) (alone_view v ids met e k) → MarksFrom m [] more result v w) → KeepsKnown old (alone_view w ids met e k)
    → LeadsFrom x old (record_of (marks more result) (alone_view w ids met e k) ∷ []) (alone_view w ids met e k)
mark_leads x more result old v w ids met e k ends at mended from keeps =
    let m = mended.0 in
    elim (from m mended.2) [
      | inl stayed ↦ absurd (no_doubt m v mended.2.spool stayed.2.in_doubt)
      | inr went ↦ went_on x (marks more result) old v w ids met e k m went.0 _ _ at mended.1 mended.2 mended.3 (λ found. (ends, inr (went.0, found, (went.1, refl)))) went.1 went.2 keeps
    ]

pub mark_fails : (x : DeskState) (more : List Stretch) (fault : PendFault) (old new : AloneView) → All (EndsBy (end x.spool)) more → IsAt x old → Mended x (Err fault) old new → KeepsKnown old new → LeadsFrom x old (record_of (marks more (Err (as_confirm fault))) new ∷ []) new
mark_fails x more fault old new ends at mended keeps = failed_leads x (marks more (Err (as_confirm fault))) fault old new at mended (λ stays. (ends, inl (fault, refl, stays))) keeps

ends_below : (e upto : ℕ) → upto ≤ e → All (EndsBy e) (all_below upto)
ends_below e upto le zero d lt = record { order = omega arith; within = le }
ends_below e upto le (suc k) d lt = absurd (omega arith)

pub confirm_leads : (x : DeskState) (upto : ℕ) (result : Result Unit ConfirmFault) (old : AloneView) (v w : View) (ids : Table) (met : Option Standing) (e k : ℕ) → upto ≤ end x.spool → IsAt x old
    → Mended x (Ok tt) old (alone_view v ids met e k) → ((m : SpoolState) → IsAt (desk_of m [] x.ids) (alone_view v ids met e k) → MarksFrom m [] (all_below upto) result v w) → KeepsKnown old (alone_view w ids met e k)
    → LeadsFrom x old (record_of (confirms upto result) (alone_view w ids met e k) ∷ []) (alone_view w ids met e k)
confirm_leads x upto result old v w ids met e k le at mended from keeps =
    let m = mended.0 in
    elim (from m mended.2) [
      | inl stayed ↦ absurd (no_doubt m v mended.2.spool stayed.2.in_doubt)
      | inr went ↦ went_on x (confirms upto result) old v w ids met e k m went.0 _ _ at mended.1 mended.2 mended.3 (λ found. (ends_below (end x.spool) upto le, inr (went.0, found, (went.1, refl)))) went.1 went.2 keeps
    ]

pub confirm_fails : (x : DeskState) (upto : ℕ) (fault : PendFault) (old new : AloneView) → upto ≤ end x.spool → IsAt x old → Mended x (Err fault) old new → KeepsKnown old new → LeadsFrom x old (record_of (confirms upto (Err (as_confirm fault))) new ∷ []) new
confirm_fails x upto fault old new le at mended keeps = failed_leads x (confirms upto (Err (as_confirm fault))) fault old new at mended (λ stays. (ends_below (end x.spool) upto le, inl (fault, refl, stays))) keeps
