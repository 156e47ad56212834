-- What one call makes, for a desk with one caller: what it leads to, and how often the disk failed.
use Rattle.std.proofs.Common.{◌≡◌, ◌⊎◌, inl, inr, ℕ, ◌+◌, ◌≤◌, ◌<◌, ◌==◌, zero, suc, Bool, true, false, List, [], ◌∷◌, length, Option, Some, refl, sym, ◌∙◌, ap, subst, arith}
use Rattle.std.specs.Prelude.{min, All, Result, Ok, Err, IsErrOf}
use Rattle.std.specs.Global.{Vec}
use Rattle.std.proofs.lemmas.Grind.{common_steps}
use Rattle.foundation.specs.Faults.{Rose}
use Rattle.known_numbers.specs.declared.stretch.Stretch.{Stretch}
use Rattle.event_form.specs.declared.event.Entry.{Entry}
use Rattle.event_form.specs.Entry.{IsEntry}
use Rattle.spool_state.specs.SpoolState.{SpoolState, end}
use Rattle.edge_disk.specs.Disk.{Moment, IsLawful}
use Rattle.edge_disk.specs.Calls.{Calls}
use Rattle.edge_disk.proofs.Moments.{started}
use Rattle.edge_disk.proofs.Calls.{calls_on}
use Rattle.spool_answers.specs.declared.numbered.Numbered.{Numbered}
use Rattle.spool_answers.specs.declared.receipt.Receipt.{Receipt}
use Rattle.spool_faults.specs.declared.fault.TakeFault.{TakeFault}
use Rattle.spool_faults.specs.declared.fault.TakeFault.TheVariants as Take
use Rattle.spool_faults.specs.declared.fault.PendFault.{PendFault}
use Rattle.spool_faults.specs.declared.fault.PendFault.TheVariants as Pend
use Rattle.spool_faults.specs.declared.fault.ConfirmFault.{ConfirmFault}
use Rattle.spool_faults.specs.declared.fault.ConfirmFault.TheVariants as Confirm
use Rattle.spool_faults.specs.Fault.{as_take, as_confirm}
use Rattle.spool_log.specs.State.{View, IsIn}
use Rattle.spool_log.specs.Changing.Take.{TakesNothing}
use Rattle.spool_answers.specs.Mark.{EndsBy, all_below}
use Rattle.spool_log.specs.Outcome.{TakesFrom, PendsFrom, MarksFrom, Mends}
use Rattle.spool_answers.specs.Pend.{AreNumbered}
use Rattle.hec_ids.specs.Table.{Table}
use Rattle.desk_access.specs.declared.standing.Standing.{Standing}
use Rattle.spool_desk.specs.Standing.{standing_in}
use Rattle.desk_access.specs.Call.{Call, takes, pends, confirms, marks, listed, failures_in, take_failures, pend_failures, confirm_failures}
use Rattle.desk_access.specs.Desk.{DeskState, desk_of, Answers, Leaving, Stood}
use Rattle.desk_access.specs.History.{IsLater}
use Rattle.spool_desk.specs.Alone.{AloneView, alone_view, IsAt, LeadsFrom, RunsTo, Ran, Makes, Mended, record_of}
use Rattle.desk_access.specs.Journal.{stood_here}
use Rattle.desk_access.proofs.Stages.{none_of, told_one}
use Rattle.desk_access.proofs.Steps.{one_later}
use Rattle.spool_desk.proofs.Leading.{KeepsKnown, standing_known, end_is, idle_leads, take_leads, take_fails, pend_leads, pend_fails, mark_leads, mark_fails, confirm_leads, confirm_fails}

-- ---- the counts

rose_none : (a b : ℕ) → a ≤ b → Rose 0 a b
rose_none a b le = grind (arith, common_steps)

-- As many calls as this were answered that the disk failed.
pub record Counted (n : ℕ) (old new : Moment) : Type 0 where
  pub size : new.size ≡ old.size
  pub later : old.faults ≤ new.faults
  pub cause : Rose n old.faults new.faults
  pub quiet : n ≡ 0 → new.faults ≡ old.faults

-- a count of one call, and whether its answer was that
abbrev pub Counts : ℕ → Type 0 → Type 0
Counts n fault = ((n ≡ 0) × (fault → ⊥)) ⊎ ((n ≡ 1) × fault)

pub counted : (n : ℕ) (fault : Type 0) (old new : Moment) → Counts n fault → Calls fault old new → Counted n old new
counted n fault old new (inl none) calls = record {
  size = calls.size;
  later = calls.later;
  cause = subst (λ (k : ℕ). Rose k old.faults new.faults) (sym none.0) (rose_none old.faults new.faults calls.later);
  quiet = λ _. calls.quiet none.1;
}
counted n fault old new (inr one) calls = record {
  size = calls.size;
  later = calls.later;
  cause = subst (λ (k : ℕ). Rose k old.faults new.faults) (sym one.0) (calls.cause one.1);
  quiet = λ zero. absurd (omega (arith, zero, one.0));
}

pub none_counted : (m : Moment) → Counted 0 m m
none_counted m = record { size = refl; later = omega arith; cause = rose_none m.faults m.faults (omega arith); quiet = λ _. refl }

pub take_counts : (result : Result Receipt TakeFault) → Counts (take_failures result) (IsErrOf result Take.DiskFault)
take_counts (Err Take.DiskFault) = inr (refl, refl)
take_counts _ = inl (refl, λ is. cc is)

pub pend_counts : (result : Result (Vec Numbered) PendFault) → Counts (pend_failures (listed result)) (IsErrOf result Pend.DiskFault)
pend_counts (Err Pend.DiskFault) = inr (refl, refl)
pend_counts _ = inl (refl, λ is. cc is)

pub confirm_counts : (result : Result Unit ConfirmFault) → Counts (confirm_failures result) (IsErrOf result Confirm.DiskFault)
confirm_counts (Err Confirm.DiskFault) = inr (refl, refl)
confirm_counts _ = inl (refl, λ is. cc is)

-- mending failed, with this fault of the disk, as the answers of calls
abbrev pub MendFailed : PendFault → Type 0
MendFailed fault = let result : Result Unit PendFault = Err fault in IsErrOf result Pend.DiskFault

pub take_failed : (fault : PendFault) → Counts (take_failures (Err (as_take fault))) (MendFailed fault)
take_failed Pend.DiskFault = inr (refl, refl)
take_failed _ = inl (refl, λ is. cc is)

pub pend_failed : (fault : PendFault) → Counts (pend_failures (Err fault)) (MendFailed fault)
pend_failed Pend.DiskFault = inr (refl, refl)
pend_failed _ = inl (refl, λ is. cc is)

pub confirm_failed : (fault : PendFault) → Counts (confirm_failures (Err (as_confirm fault))) (MendFailed fault)
confirm_failed Pend.DiskFault = inr (refl, refl)
confirm_failed _ = inl (refl, λ is. cc is)

-- mending that didn't fail, and then a call
pub mended_calls : (fault : Type 0) (old mid new : Moment) → ((done : Unit {0}) → let result : Result Unit PendFault = Ok done in Calls (IsErrOf result Pend.DiskFault) old mid) → Calls fault mid new → Calls fault old new
mended_calls fault old mid new first more = calls_on _ fault old mid new (first tt) (λ is. cc is) more

-- ---- what a call makes

pub makes : (tells : Type 0) (old new : AloneView) (call : Call) → ((x : DeskState) → tells → IsAt x old → LeadsFrom x old (record_of call new ∷ []) new) → Counted (failures_in call) old.spool.moment new.spool.moment → KeepsKnown old new → Makes tells old call new
makes tells old new call leads counts keeps =
    let sum : failures_in call + 0 ≡ failures_in call = omega arith in record {
      leads = leads;
      size = counts.size;
      later = counts.later;
      cause = subst (λ (n : ℕ). Rose n old.spool.moment.faults new.spool.moment.faults) (sym sum) counts.cause;
      quiet = λ none. counts.quiet (omega (arith, none));
      end_rises = omega (arith, keeps.end_stays);
      cursor_rises = omega (arith, keeps.cursor_stays);
    }

pub ran_of : (tells : Type 0) (old new : AloneView) (call : Call) → Makes tells old call new → Ran tells old (call ∷ []) new
ran_of tells old new call made = record {
  records = record_of call new ∷ [];
  by = (refl, refl, refl, tt);
  runs = made;
}

-- ---- the calls that mend first: what each makes, once mending came to this

-- mending, as `Alone` does it
pub mended_of : (x : DeskState) (old : AloneView) (v : View) (found : Standing) → found ≡ standing_in v.memory → IsAt x old → Mends x.spool x.doubt (Ok tt) old.spool v
    → Mended x (Ok tt) old (alone_view v old.ids (Some found) old.end_known old.cursor_known)
mended_of x old v found is at mends =
    let m = mends.0 in
    let mended = mends.1 in
    let later = one_later x m at.rules mended.one in (
      m,
      record { one = mended.one; numbers = ap Some (is ∙ standing_known m [] v mended.reached) },
      record {
        rules = record { sound = later.sound; later = none_of (IsLater m); told = told_one m; ids = at.rules.ids; run = at.rules.run ∙ sym later.run };
        spool = mended.reached;
        ids = at.ids;
        end_known = omega (arith, at.end_known, later.follows.end_rises);
        cursor_known = omega (arith, at.cursor_known, later.follows.cursor);
      },
      mended.any_moment,
    )

-- a doubt was mended by a desk that is then as it says, or there was none
pub record Began (tells : Type 0) (old mid : AloneView) (result : Result Unit PendFault) : Type 0 where
  pub mended : (x : DeskState) → tells → IsAt x old → Mended x result old mid
  pub calls : Calls (IsErrOf result Pend.DiskFault) old.spool.moment mid.spool.moment
  pub keeps : KeepsKnown old mid

abbrev pub after_call : AloneView → View → AloneView
after_call mid w = alone_view w mid.ids mid.met mid.end_known mid.cursor_known

still : (tells : Type 0) (old mid : AloneView) (w : View) (result : Result Unit PendFault) → Began tells old mid result → KeepsKnown old (after_call mid w)
still tells old mid w result began = record { end_stays = began.keeps.end_stays; cursor_stays = began.keeps.cursor_stays }

then_calls : (tells fault : Type 0) (old mid : AloneView) (w : View) (done : Unit {0}) → Began tells old mid (Ok done) → Calls fault mid.spool.moment w.moment → Calls fault old.spool.moment w.moment
then_calls tells fault old mid w done began calls = calls_on _ fault old.spool.moment mid.spool.moment w.moment began.calls (λ is. cc is) calls

pub take_makes : (tells : Type 0) (old mid : AloneView) (w : View) (group : List Entry) (result : Result Receipt TakeFault) (done : Unit {0}) → 0 < length group → All IsEntry group → Began tells old mid (Ok done)
    → Calls (IsErrOf result Take.DiskFault) mid.spool.moment w.moment → ((s : SpoolState) (doubt : List SpoolState) → tells → 0 < length group → IsIn s doubt mid.spool → TakesFrom s doubt group result mid.spool w)
    → Makes tells old (takes group result) (after_call mid w)
take_makes tells old mid w group result done some limits began calls from =
    let keeps = still tells old mid w (Ok done) began in
    makes tells old (after_call mid w) (takes group result)
    (λ x told at. take_leads x group result old mid.spool w mid.ids mid.met mid.end_known mid.cursor_known some limits at (began.mended x told at) (λ m here. from m [] told some here.spool) keeps)
    (counted (take_failures result) (IsErrOf result Take.DiskFault) old.spool.moment w.moment (take_counts result) (then_calls tells (IsErrOf result Take.DiskFault) old mid w done began calls)) keeps

pub take_stops : (tells : Type 0) (old mid : AloneView) (group : List Entry) (fault : PendFault) (result : Result Receipt TakeFault) → result ≡ Err (as_take fault) → 0 < length group → All IsEntry group → Began tells old mid (Err fault) → Makes tells old (takes group result) mid
take_stops tells old mid group fault result is some limits began = subst (λ (r : Result Receipt TakeFault). Makes tells old (takes group r) mid) (sym is) (
    makes tells old mid (takes group (Err (as_take fault))) (λ x told at. take_fails x group fault old mid some limits at (began.mended x told at) began.keeps)
    (counted (take_failures (Err (as_take fault))) (MendFailed fault) old.spool.moment mid.spool.moment (take_failed fault) began.calls) began.keeps)

pub pend_makes : (tells : Type 0) (old mid : AloneView) (w : View) (from most : ℕ) (result : Result (Vec Numbered) PendFault) (done : Unit {0}) → Began tells old mid (Ok done)
    → Calls (IsErrOf result Pend.DiskFault) mid.spool.moment w.moment → ((m : DeskState) → tells → IsAt m mid → PendsFrom m.spool m.doubt from most result mid.spool w)
    → Makes tells old (pends from most (listed result)) (after_call mid w)
pend_makes tells old mid w from most result done began calls given =
    let keeps = still tells old mid w (Ok done) began in
    makes tells old (after_call mid w) (pends from most (listed result))
    (λ x told at. pend_leads x from most result old mid.spool w mid.ids mid.met mid.end_known mid.cursor_known at (began.mended x told at) (λ m here. given (desk_of m [] x.ids) told here) keeps)
    (counted (pend_failures (listed result)) (IsErrOf result Pend.DiskFault) old.spool.moment w.moment (pend_counts result) (then_calls tells (IsErrOf result Pend.DiskFault) old mid w done began calls)) keeps

pub pend_stops : (tells : Type 0) (old mid : AloneView) (from most : ℕ) (fault : PendFault) (result : Result (Vec Numbered) PendFault) → result ≡ Err fault → Began tells old mid (Err fault) → Makes tells old (pends from most (listed result)) mid
pend_stops tells old mid from most fault result is began = subst (λ (r : Result (Vec Numbered) PendFault). Makes tells old (pends from most (listed r)) mid) (sym is) (
    makes tells old mid (pends from most (Err fault)) (λ x told at. pend_fails x from most fault old mid at (began.mended x told at) began.keeps)
    (counted (pend_failures (Err fault)) (MendFailed fault) old.spool.moment mid.spool.moment (pend_failed fault) began.calls) began.keeps)

-- stretches that end at the end that was answered, or before
ends_at : (x : DeskState) (v : AloneView) (more : List Stretch) → IsAt x v → All (EndsBy v.end_known) more → All (EndsBy (end x.spool)) more
ends_at x v more at ends k d lt = record { order = (ends k d lt).order; within = omega (arith, (ends k d lt).within, at.end_known) }

pub mark_makes : (tells : Type 0) (old mid : AloneView) (w : View) (more : List Stretch) (result : Result Unit ConfirmFault) (done : Unit {0}) → All (EndsBy old.end_known) more → Began tells old mid (Ok done)
    → Calls (IsErrOf result Confirm.DiskFault) mid.spool.moment w.moment → ((m : DeskState) → tells → IsAt m mid → MarksFrom m.spool m.doubt more result mid.spool w)
    → Makes tells old (marks more result) (after_call mid w)
mark_makes tells old mid w more result done ends began calls given =
    let keeps = still tells old mid w (Ok done) began in
    makes tells old (after_call mid w) (marks more result)
    (λ x told at. mark_leads x more result old mid.spool w mid.ids mid.met mid.end_known mid.cursor_known (ends_at x old more at ends) at (began.mended x told at) (λ m here. given (desk_of m [] x.ids) told here) keeps)
    (counted (confirm_failures result) (IsErrOf result Confirm.DiskFault) old.spool.moment w.moment (confirm_counts result) (then_calls tells (IsErrOf result Confirm.DiskFault) old mid w done began calls)) keeps

pub mark_stops : (tells : Type 0) (old mid : AloneView) (more : List Stretch) (fault : PendFault) (result : Result Unit ConfirmFault) → result ≡ Err (as_confirm fault) → All (EndsBy old.end_known) more → Began tells old mid (Err fault) → Makes tells old (marks more result) mid
mark_stops tells old mid more fault result is ends began = subst (λ (r : Result Unit ConfirmFault). Makes tells old (marks more r) mid) (sym is) (
    makes tells old mid (marks more (Err (as_confirm fault))) (λ x told at. mark_fails x more fault old mid (ends_at x old more at ends) at (began.mended x told at) began.keeps)
    (counted (confirm_failures (Err (as_confirm fault))) (MendFailed fault) old.spool.moment mid.spool.moment (confirm_failed fault) began.calls) began.keeps)

pub confirm_makes : (tells : Type 0) (old mid : AloneView) (w : View) (upto : ℕ) (result : Result Unit ConfirmFault) (done : Unit {0}) → upto ≤ old.end_known → Began tells old mid (Ok done)
    → Calls (IsErrOf result Confirm.DiskFault) mid.spool.moment w.moment → ((m : DeskState) → tells → IsAt m mid → MarksFrom m.spool m.doubt (all_below upto) result mid.spool w)
    → Makes tells old (confirms upto result) (after_call mid w)
confirm_makes tells old mid w upto result done le began calls given =
    let keeps = still tells old mid w (Ok done) began in
    makes tells old (after_call mid w) (confirms upto result)
    (λ x told at. confirm_leads x upto result old mid.spool w mid.ids mid.met mid.end_known mid.cursor_known (omega (arith, le, at.end_known)) at (began.mended x told at) (λ m here. given (desk_of m [] x.ids) told here) keeps)
    (counted (confirm_failures result) (IsErrOf result Confirm.DiskFault) old.spool.moment w.moment (confirm_counts result) (then_calls tells (IsErrOf result Confirm.DiskFault) old mid w done began calls)) keeps

pub confirm_stops : (tells : Type 0) (old mid : AloneView) (upto : ℕ) (fault : PendFault) (result : Result Unit ConfirmFault) → result ≡ Err (as_confirm fault) → upto ≤ old.end_known → Began tells old mid (Err fault) → Makes tells old (confirms upto result) mid
confirm_stops tells old mid upto fault result is le began = subst (λ (r : Result Unit ConfirmFault). Makes tells old (confirms upto r) mid) (sym is) (
    makes tells old mid (confirms upto (Err (as_confirm fault))) (λ x told at. confirm_fails x upto fault old mid (omega (arith, le, at.end_known)) at (began.mended x told at) began.keeps)
    (counted (confirm_failures (Err (as_confirm fault))) (MendFailed fault) old.spool.moment mid.spool.moment (confirm_failed fault) began.calls) began.keeps)

-- a number up to the end that was answered isn't above the end of memory
pub within_end : (m : DeskState) (v : AloneView) (n : ℕ) → IsAt m v → n ≤ v.end_known → min n (standing_in v.spool.memory).end ≡ n
within_end m v n at le = omega (arith, le, at.end_known, end_is m v at)

-- and so all stretches end within memory's end
all_within : (m : DeskState) (v : AloneView) (more : List Stretch) (e : ℕ) → IsAt m v → All (EndsBy v.end_known) more → e ≡ (standing_in v.spool.memory).end → All (λ (stretch : Stretch). stretch.to ≤ e) more
all_within m v more e at ends is k d lt = omega (arith, (ends k d lt).within, at.end_known, end_is m v at, is)

pub not_outside : (m : DeskState) (v : AloneView) (more : List Stretch) (e : ℕ) (within : Bool) → IsAt m v → All (EndsBy v.end_known) more → e ≡ (standing_in v.spool.memory).end → (All (λ (stretch : Stretch). stretch.to ≤ e) more → within ≡ true) → within ≡ false → ⊥
not_outside m v more e within at ends is all outside = cc (sym outside ∙ all (all_within m v more e at ends is))

pub some_entries : (n : ℕ) (none : Bool) → none ≡ (n == 0) → none ≡ false → 0 < n
some_entries zero none is some = absurd (cc (sym some ∙ is))
some_entries (suc n) none is some = omega arith

-- ---- the calls that mend nothing

pub idle_makes : (tells : Type 0) (old : AloneView) (call : Call) (ids : Table) (met : Standing) → met ≡ standing_in old.spool.memory → (tells → IsLawful old.spool.moment) → failures_in call ≡ 0
    → ((x : DeskState) → IsAt x old → Leaving x (Some met) ids (desk_of x.spool x.doubt ids) → Answers x call (Some met) (desk_of x.spool x.doubt ids))
    → Makes tells old call (alone_view old.spool ids (Some met) old.end_known old.cursor_known)
idle_makes tells old call ids met is lawful none answers =
    let new = alone_view old.spool ids (Some met) old.end_known old.cursor_known in
    makes tells old new call (λ x told at. idle_leads x call old ids met is (lawful told) at (answers x at))
    (subst (λ (n : ℕ). Counted n old.spool.moment old.spool.moment) (sym none) (none_counted old.spool.moment)) (record { end_stays = refl; cursor_stays = refl })

-- a take of no entries
pub empty_makes : (tells : Type 0) (old : AloneView) (group : List Entry) (result : Result Receipt TakeFault) (met : Standing) (w : View) → w ≡ old.spool → met ≡ standing_in old.spool.memory → (tells → IsLawful old.spool.moment) → length group ≡ 0 → TakesNothing old.spool.memory result
    → Makes tells old (takes group result) (alone_view w old.ids (Some met) old.end_known old.cursor_known)
empty_makes tells old [] (Ok receipt) met w same is lawful empty none =
    subst (λ (v : View). Makes tells old (takes [] (Ok receipt)) (alone_view v old.ids (Some met) old.end_known old.cursor_known)) (sym same)
    (idle_makes tells old (takes [] (Ok receipt)) old.ids met is lawful refl (λ x at leaving. (record { receipt = receipt; ok = refl; first = none.0 ∙ end_is x old at; none = none.1 }, subst (λ (t : Table). Leaving x (Some met) t (desk_of x.spool x.doubt old.ids)) (sym at.ids) leaving)))
empty_makes tells old [] (Err fault) met w same is lawful empty none = absurd none
empty_makes tells old (entry ∷ entries) result met w same is lawful empty none = absurd (omega (arith, empty))

-- the entries that are given, over wider bounds
pub numbered_wider : (from low end high : ℕ) (given : List Numbered) → low ≤ from → end ≤ high → AreNumbered from end given → AreNumbered low high given
numbered_wider from low end high [] le ge all = tt
numbered_wider from low end high (one ∷ more) le ge all = (omega (arith, le, all.0), omega (arith, ge, all.1), all.2, numbered_wider (one.number + 1) (one.number + 1) end high more (omega arith) ge all.3)

-- answers that change nothing but what is known
pub told : (tells : Type 0) (spool : View) (ids : Table) (met : Option Standing) (e k e' k' : ℕ) → (tells → IsLawful spool.moment) → e ≤ e' → k ≤ k'
    → ((x : DeskState) → tells → IsAt x (alone_view spool ids met e k) → (e' ≤ end x.spool) × (k' ≤ x.spool.cursor)) → RunsTo tells (alone_view spool ids met e k) [] (alone_view spool ids met e' k')
told tells spool ids met e k e' k' lawful le_end le_cursor within = record {
  leads = λ x yes at. let here = within x yes at in record {
    after = x;
    goes = refl;
    reached = record { rules = at.rules; spool = at.spool; ids = at.ids; end_known = here.0; cursor_known = here.1 };
    any_moment = started (Stood x []) spool.moment (lawful yes) (λ c image. stood_here x [] c (at.spool.each c image));
  };
  size = refl;
  later = omega arith;
  cause = rose_none spool.moment.faults spool.moment.faults (omega arith);
  quiet = λ none. refl;
  end_rises = le_end;
  cursor_rises = le_cursor;
}
