-- A desk over a spool that was opened for storing.
use Rattle.std.proofs.Common.{◌≡◌, ◌⊎◌, inl, inr, ℕ, ◌+◌, ◌≤◌, List, [], ◌∷◌, ◌++◌, length, refl, sym, subst, arith}
use Rattle.std.specs.Prelude.{Bool, Result, Ok, Err, IfOk, IfErr, map}
use Rattle.edge_disk.specs.declared.disk.Disk.{Ghosts as Disks}
use Rattle.edge_disk.specs.Calls.{Calls}
use Rattle.edge_disk.specs.Disk.{Moment, LeavesOnly}
use Rattle.edge_disk.proofs.Moments.{weaker}
use Rattle.spool_state.specs.SpoolState.{SpoolState}
use Rattle.spool_state.specs.Image.{StandsFor}
use Rattle.spool_state.proofs.Laws.{one_state}
use Rattle.spool_log.specs.declared.opening.Opening.TheVariants.{Raise}
use Rattle.spool_log.specs.Opening.{opened, CanOpen, IsOpening, Opens}
use Rattle.spool_answers.specs.Stages.{StandsForOne}
use Rattle.spool_log.specs.State.{View, IsIn}
use Rattle.hec_ids.specs.Table.{Table}
use Rattle.spool_desk.specs.Alone.{AloneView}
use Rattle.desk_access.specs.Division.{DividedRun}
use Rattle.desk_access.specs.Call.{Record}
use Rattle.desk_access.specs.Desk.{DeskState, Goes, Stood, StandsWithin}
use Rattle.spool_turns.specs.Passes.{begun}
use Rattle.spool_turns.specs.Replays.{BeganAt}
use Rattle.edge_io.specs.Door.{DoorState}
use Rattle.edge_io.specs.Net.{NetState}
use Rattle.serve_desk.specs.declared.serving.Served.{Served}
use Rattle.serve_run.specs.Running.{Given, Left, left_as}
use Rattle.serve_desk.specs.Serving.{HasServed, HasNotServed, seating_as}
use Rattle.serve_desk.specs.Served.{IsServed}
use Rattle.bridge_parts.specs.Run.{DiskRun, disk_run}
use Rattle.bridge_parts.specs.Opened.{desk_in}
use Rattle.bridge_serve.specs.Opened.{IsOpenedDesk, opened_at, IsOpenedFrom, IsOpenedOnly, desk_over}
use Rattle.bridge_serve.specs.Served.{DeskLeft, RunsOver, RanOver, desk_as, setup_as}

-- ---- the state in which it was given

-- the state of an opened desk, in which its spool is
pub record IsDeskIn (device : List ℕ) (v : View) (x : DeskState) : Type 0 where
  pub state : SpoolState
  pub stood : StandsFor state device
  pub could : CanOpen Raise state
  pub desk : x ≡ desk_in (opened Raise state)
  pub held : IsIn (opened Raise state) [] v

pub desk_is : (tells : Type 0) (device : List ℕ) (v : View) (x : DeskState) → (tells → (s : SpoolState) × Opens Raise s device v)
    → IsOpenedDesk tells device x → IsDeskIn device v x
desk_is tells device v x opens is =
    let found = opens is.0 in
    let same : found.0 ≡ is.1 = one_state found.0 is.1 device found.1.stood is.2 in
    record { state = is.1; stood = is.2; could = is.3; desk = is.4; held = subst (λ (s : SpoolState). IsIn (opened Raise s) [] v) same found.1.reached }

pub opened_desk : (tells : Type 0) (device : List ℕ) (v : View) → (tells → (s : SpoolState) × Opens Raise s device v) → tells
    → (x : DeskState) × IsOpenedDesk tells device x
opened_desk tells device v opens told = let found = opens told in (desk_in (opened Raise found.0), (told, found.0, found.1.stood, found.1.left, refl))

-- ---- the moment of its disk

pub began_at : (tells : Type 0) (old m : Moment) → Calls ⊥ old m → (tells → LeavesOnly (IsOpening Raise old) old m) → BeganAt (opened_at tells old m.clock) m
began_at tells old m calls any = record {
  size = sym calls.size;
  clock = refl;
  since = λ t c held told. ((λ is. (any told).each c (subst (λ (n : ℕ). m.image_since n c) is held)), (λ le. (any told).before t c le held));
  faults = sym (calls.quiet (λ never. never));
}

-- what a crash left since before the opening
pub any_moment : (tells : Type 0) (old new : Moment) (clock : ℕ) (P : List ℕ → Type 0) → tells → old.clock ≤ clock
    → LeavesOnly P (opened_at tells old clock) new → LeavesOnly (λ c. IsOpening Raise old c ⊎ P c) old new
any_moment tells old new clock P told le leaves = record {
  later = omega (arith, le, leaves.later);
  each = λ c held. elim (leaves.before old.clock c le held) [ inl since ↦ inl ((since told).0 refl) | inr p ↦ inr p ];
  now = λ c image. inr (leaves.now c image);
  before = λ t c early held. elim (leaves.before t c (omega (arith, early, le)) held) [
    | inl since ↦ elim ((since told).1 early) [ inl was ↦ inl was | inr is ↦ inr (inl is) ]
    | inr p ↦ inr (inr p)
  ];
}

-- ---- where no worker began

pub opened_only : (tells : Type 0) (old : Moment) (v : View) → IsOpenedFrom tells old v → tells → IsOpenedOnly old v.moment
opened_only tells old v from told =
    let found = from.opens told in
    record { state = found.0; stood = found.1.stood; could = found.1.left; images = found.1.reached.each; any_moment = from.any_moment told }

none_stood : (x : DeskState) (c : List ℕ) → Stood x [] c → StandsForOne x.spool x.doubt c
none_stood x c stood = by stood.first stood.rest stood.parts stood.found stood.goes stood.stands where
  by : (first rest : List Record) → [] ≡ first ++ rest → (found : DeskState) → Goes x first found
      → StandsForOne found.spool found.doubt c ⊎ StandsWithin found rest c → StandsForOne x.spool x.doubt c
  by [] [] parts found goes (inl stands) = subst (λ (d : DeskState). StandsForOne d.spool d.doubt c) goes stands
  by [] [] parts found goes (inr within) = absurd within
  by [] (one ∷ rest) parts found goes stands = absurd (cc)
  by (one ∷ first) rest parts found goes stands = absurd (cc)

-- a desk that was given back, with which nothing was done
pub given_back : (tells : Type 0) (old : Moment) (v : View) (clock : ℕ) (grouped : Bool) (run : DividedRun) (seats : ℕ) (new : AloneView) → IsOpenedFrom tells old v → (tells → old.clock ≤ clock)
    → HasNotServed tells (IsOpenedDesk tells old.reads) (seating_as run seats (begun (opened_at tells old clock) grouped)) new → tells → IsOpenedOnly old new.spool.moment
given_back tells old v clock grouped run seats new from le none told =
    let found = from.opens told in
    let x = desk_in (opened Raise found.0) in
    let lead = none.1.replays.leads x (told, found.0, found.1.stood, found.1.left, refl) in
    let same : lead.after ≡ x = lead.goes in
    record {
      state = found.0;
      stood = found.1.stood;
      could = found.1.left;
      images = λ c image. subst (λ (d : DeskState). StandsForOne d.spool d.doubt c) same (lead.reached.spool.each c image);
      any_moment = weaker (λ c. IsOpening Raise old c ⊎ Stood x [] c) (IsOpening Raise old) old new.spool.moment
          (any_moment tells old new.spool.moment clock (Stood x []) told (le told) lead.any_moment) (λ c p. elim p [
            | inl is ↦ is
            | inr stood ↦ inr (found.0, found.1.stood, inr (none_stood x c stood))
          ]);
    }

pub given_calls : (tells : Type 0) (old : Moment) (start : DeskState → Type 0) (clock : ℕ) (grouped : Bool) (run : DividedRun) (seats : ℕ) (new : AloneView)
    → HasNotServed tells start (seating_as run seats (begun (opened_at tells old clock) grouped)) new → Calls ⊥ old new.spool.moment
given_calls tells old start clock grouped run seats new none =
    record { size = none.1.replays.size; later = none.1.replays.later; cause = λ never. absurd never; quiet = λ never. none.1.replays.quiet refl }

-- ---- where the server ran

runs_over : (disk : DiskRun) (v : View) (clock : ℕ) (grouped : Bool) (run : DividedRun) (seats : ℕ) (given : Given) (left : Left) (desk : DeskLeft)
    (ids : Table) → IsOpenedFrom disk.tells disk.old v → (disk.tells → disk.old.clock ≤ clock) → seats ≡ length given.doors + 1
    → HasServed disk.tells (IsOpenedDesk disk.tells disk.old.reads) (seating_as run seats (begun (opened_at disk.tells disk.old clock) grouped)) given left
    (desk_over desk.memory desk.in_doubt disk.new ids)
    → RunsOver disk (setup_as grouped run.division) given left desk
runs_over disk v clock grouped run seats given left desk ids from le many served =
    let whole = subst (λ (n : ℕ). HasServed disk.tells (IsOpenedDesk disk.tells disk.old.reads) (seating_as run n (begun (opened_at disk.tells disk.old clock) grouped))
    given left (desk_over desk.memory desk.in_doubt disk.new ids)) many served in
    record {
      run = run;
      divided_by = refl;
      clock = clock;
      later = le;
      opened = opened_desk disk.tells disk.old.reads v from.opens;
      ids = ids;
      served = whole;
      any_moment = λ x is. any_moment disk.tells disk.old disk.new clock (Stood x whole.log) is.0 (le is.0) (whole.closes.replays.leads x is).any_moment;
    }

-- of all that such a run leaves
pub ran_over : {P D L E : Type 0} {disks : Disks D} (told : P → DoorState) (before : D) (v : View) (clock : ℕ) (grouped : Bool) (run : DividedRun) (seats : ℕ)
    (given : Given) (net : NetState) (r : Result (Served P D L disks) E)
    → IsOpenedFrom disks.tells (disks.moment before) v → (disks.tells → (disks.moment before).clock ≤ clock) → seats ≡ length given.doors + 1
    → IfOk r (IsServed told (IsOpenedDesk disks.tells (disks.moment before).reads) (seating_as run seats (begun (opened_at disks.tells (disks.moment before) clock) grouped)) given net)
    → IfOk r (RanOver told before (setup_as grouped run.division) given net)
ran_over {disks = disks} told before v clock grouped run seats given net (Ok served) from le many is =
    runs_over (disk_run disks.tells disks.moment before served.desk.spool.disk) v clock grouped run seats given
    (left_as (map told served.doors.items) served.reports.items net served.last) (desk_as served.desk.spool.memory served.desk.spool.doubt) served.desk.ids from le many is
ran_over told before v clock grouped run seats given net (Err e) from le many is = is

-- ---- of a result

pub if_err : {T E : Type 0} (P Q : E → Type 0) (r : Result T E) → ((e : E) → P e → Q e) → IfErr r P → IfErr r Q
if_err P Q (Ok v) leads is = is
if_err P Q (Err e) leads is = leads e is
