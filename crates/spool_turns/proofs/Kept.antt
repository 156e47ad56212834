-- What lies under the lock of the journal after a call of the ids, and after one of the spool.
use Rattle.std.proofs.Common.{◌≡◌, ℕ, ◌-◌, List, [], refl, sym, ap, ◌∙◌, subst, arith}
use Rattle.std.specs.Prelude.{Option, None, Some}
use Rattle.atomic_table.specs.Table.{Me}
use Rattle.edge_disk.specs.declared.disk.Disk.{Ghosts}
use Rattle.edge_disk.specs.Disk.{IsLawful}
use Rattle.hec_ids.specs.Table.{Table}
use Rattle.hec_ids.specs.Table as Ids
use Rattle.desk_access.specs.Division.{DividedRun}
use Rattle.desk_access.specs.declared.standing.Standing.{Standing}
use Rattle.desk_access.specs.Call.{Call, Record, failures_in}
use Rattle.desk_access.specs.Desk.{DeskState, desk_of, Answers, Leaving}
use Rattle.desk_access.specs.Legal.{May, Met}
use Rattle.spool_desk.specs.declared.alone.Alone.{Alone}
use Rattle.spool_desk.specs.Alone.{AloneView, alone_at, IsAt, RunsTo, Makes, record_of}
use Rattle.spool_desk.specs.Runs.{runs_none}
use Rattle.spool_desk.specs.Standing.{standing_in}
use Rattle.spool_desk.proofs.Leading.{end_is}
use Rattle.spool_desk.proofs.Making.{idle_makes}
use Rattle.spool_turns.specs.declared.view.Twin.{Twin}
use Rattle.spool_turns.specs.Rules.{View, facts, PassView, made_by, Knows, after_call, with_record}
use Rattle.desk_seats.specs.Passes.{Known, Calls}
use Rattle.spool_turns.specs.Passes.{Beginning, known_of, Sound, IsTurn, IsPass, locked_of, pass_of, facts_in, pass_in}
use Rattle.spool_turns.specs.Replays.{BeganAt, Begins, Replays, IsReal, IsExact}
use Rattle.spool_turns.specs.Twins.{of_journal}
use Rattle.spool_turns.specs.Stands.{with_ids, IsTold, IsKept, IsMade, idle_record}
use Rattle.spool_turns.proofs.Called.{published, turn_entered, pass_entered, calls_entered, real_entered}
use Rattle.spool_turns.proofs.Led.{replays_none, replays_told}
use Rattle.spool_turns.proofs.OtherIds.{runs_beside, makes_beside}

-- a desk with other ids
abbrev pub alone_with : {D : Type 0} {disks : Ghosts D} → Table → Option Standing → Alone D disks → Alone D disks
alone_with ids met a = record { desk = record { spool = a.desk.spool; ids = ids }; met = met; end_told = a.end_told; cursor_told = a.cursor_told; limit = a.limit }

-- the words are those of each state that the desk may be in
pub exact_of : (tells : Type 0) (v : AloneView) → IsTold v → IsExact tells v
exact_of tells v told x tell at = (omega (arith, told.0, end_is x v at), omega (arith, told.1, at.spool.knows.cursor))

pub turn_told : (seats : ℕ) (me : Me ℕ View) (ids : Table) (met : Option Standing) (v : AloneView) → IsTurn seats me (with_ids ids met v) → IsTurn seats me (with_ids ids None v)
turn_told seats me ids met v turn = record { locked = turn.locked; made = turn.made; end = turn.end; cursor = turn.cursor }

pub replays_here : (tells : Type 0) (start : DeskState → Type 0) (run : DividedRun) (began : Beginning) (log : List Record) (ids : Table) (met : Option Standing) (v : AloneView)
    → Replays tells start run began log (with_ids ids met v) → Replays tells start run began log (with_ids ids None v)
replays_here tells start run began log ids met v h = replays_told tells start run began log (with_ids ids met v) (with_ids ids None v) refl refl (omega arith) (omega arith) h

-- A call of the ids, which are `after` it. The spool stands where its last call left it.
module _ {D : Type 0} (disks : Ghosts D) (start : DeskState → Type 0) (run : DividedRun) (seats : ℕ) (began : Beginning) (ids after : Table) (me : Me ℕ View) (twin : Me (Alone D disks) (Twin (Alone D disks))) (m : PassView) (call : Call)
    (kept : IsKept disks start run seats began ids me twin) (may : May run (seats - 1) m.number m.own call) (knew : Knows (facts_in me.0) m)
    (none : failures_in call ≡ 0) (same_run : after.run ≡ ids.run)
    (answers : (x : DeskState) (met : Standing) → x.ids ≡ ids → Leaving x (Some met) after (desk_of x.spool x.doubt after) → Answers x call (Some met) (desk_of x.spool x.doubt after))
    (lawful : disks.tells → IsLawful (disks.moment kept.desk.desk.spool.disk)) where
  abbrev here : AloneView
  here = alone_at kept.desk

  abbrev met : Standing
  met = standing_in kept.desk.desk.spool.memory

  abbrev old : AloneView
  old = with_ids ids None here

  abbrev new : AloneView
  new = with_ids after (Some met) here

  made : Makes disks.tells old call new
  made = idle_makes disks.tells old call after met refl lawful none (λ x at leaving. answers x met at.ids leaving)

  still : RunsTo disks.tells new [] new
  still = runs_none disks.tells new lawful

  same_words : published new (facts_in me.0) ≡ facts_in me.0
  same_words = λ i. facts (facts_in me.0).made (facts_in me.0).log (sym kept.turn.end i) (sym kept.turn.cursor i)

  one_is : idle_record call twin.0 ≡ record_of call new
  one_is = ap (λ (t : Me (Alone D disks) (Twin (Alone D disks))). idle_record call t.0) kept.twin_is

  locked_is : (it : Me ℕ View) → it ≡ locked_of (with_record (facts_in me.0) (made_by m.number (idle_record call twin.0))) → it ≡ locked_of (with_record (published new (facts_in me.0)) (made_by m.number (record_of call new)))
  locked_is it is = is ∙ (λ i. locked_of (with_record (sym same_words i) (made_by m.number (one_is i))))

  pass_is : (it : Me ℕ View) → it ≡ pass_of (after_call (facts_in me.0) m (idle_record call twin.0)) → it ≡ pass_of (after_call (published new (facts_in me.0)) m (record_of call new))
  pass_is it is = is ∙ (λ i. pass_of (after_call (sym same_words i) m (one_is i)))

  pub idle_kept : (it : Me ℕ View) → it ≡ locked_of (with_record (facts_in me.0) (made_by m.number (idle_record call twin.0))) → IsKept disks start run seats began after it twin
  idle_kept it is =
      let locks = turn_entered disks.tells start run seats began me old new new m call kept.turn kept.replays kept.met may knew made still refl (exact_of disks.tells new kept.told) it (locked_is it is) in
      record {
        desk = kept.desk;
        twin_is = kept.twin_is;
        turn = turn_told seats it after (Some met) here locks.0;
        replays = replays_here disks.tells start run began (facts_in it.0).log after (Some met) here locks.1;
        met = locks.2;
        told = kept.told;
        unused = (kept.unused.0, kept.unused.1 ∙ sym same_run);
      }

  pub idle_pass : (it : Me ℕ View) → it ≡ pass_of (after_call (facts_in me.0) m (idle_record call twin.0))
      → IsPass it × Sound start (pass_in it.0) × ((pass_in it.0).number ≡ m.number) × ((pass_in it.0).out ≡ m.out)
  idle_pass it is =
      pass_entered disks.tells start run seats began me old new new m call kept.turn kept.replays kept.met may knew made still refl (exact_of disks.tells new kept.told) it (pass_is it is)

  pub idle_calls : (v : Known) (it : Me ℕ View) → known_of m ≡ v → it ≡ pass_of (after_call (facts_in me.0) m (idle_record call twin.0)) → Calls start run seats v call (known_of (pass_in it.0))
  idle_calls v it was is =
      calls_entered disks.tells start run seats began me old new new m call kept.turn kept.replays kept.met may knew made still refl (exact_of disks.tells new kept.told) v it was (pass_is it is)

  pub idle_real : (it : Me ℕ View) → it ≡ pass_of (after_call (facts_in me.0) m (idle_record call twin.0)) → IsReal disks start run seats began (pass_in it.0).seen
  idle_real it is =
      let real = real_entered disks.tells start run seats began me old new new m call kept.turn kept.replays kept.met may knew made still refl (exact_of disks.tells new kept.told) it (pass_is it is) in
      (alone_with after (Some met) kept.desk, real.0, real.1)

-- A call of the spool, which left it as `mid`, and as `now` once it was asked for its words.
module _ {D : Type 0} (disks : Ghosts D) (start : DeskState → Type 0) (run : DividedRun) (seats : ℕ) (began : Beginning) (ids : Table) (me : Me ℕ View) (twin other : Me (Alone D disks) (Twin (Alone D disks))) (m : PassView) (call : Call)
    (mid now : Alone D disks)
    (kept : IsKept disks start run seats began ids me twin) (done : IsMade disks call other mid) (same_desk : done.before ≡ kept.desk)
    (may : May run (seats - 1) m.number m.own call) (knew : Knows (facts_in me.0) m)
    (runs : RunsTo disks.tells (alone_at mid) [] (alone_at now)) (same : record_of call (alone_at now) ≡ record_of call (alone_at mid)) (told : IsTold (alone_at now)) (stays : now.desk.ids ≡ mid.desk.ids) where
  abbrev before : AloneView
  before = with_ids ids None (alone_at kept.desk)

  abbrev between : AloneView
  between = with_ids ids mid.met (alone_at mid)

  abbrev after : AloneView
  after = with_ids ids now.met (alone_at now)

  unused_mid : Ids.IsSound mid.desk.ids × (mid.desk.ids.run ≡ ids.run)
  unused_mid = subst (λ (t : Table). Ids.IsSound t × (t.run ≡ ids.run)) (sym (done.same_ids ∙ ap (λ (a : Alone D disks). a.desk.ids) same_desk)) kept.unused

  makes_here : Makes disks.tells before call between
  makes_here = makes_beside disks.tells ids None (alone_at kept.desk) (alone_at mid) call done.of_spool_is kept.unused.0 kept.unused.1
      (subst (λ (a : Alone D disks). Makes disks.tells (alone_at a) call (alone_at mid)) same_desk done.makes)

  told_here : RunsTo disks.tells between [] after
  told_here = runs_beside disks.tells ids mid.met now.met (alone_at mid) (alone_at now) [] tt unused_mid.0 unused_mid.1 runs

  pub made_kept : (it : Me ℕ View) (seat : Me (Alone D disks) (Twin (Alone D disks))) → it ≡ locked_of (with_record (published (alone_at now) (facts_in me.0)) (made_by m.number (record_of call (alone_at mid)))) → seat ≡ of_journal now
      → IsKept disks start run seats began ids it seat
  made_kept it seat is twin_is =
      let locks = turn_entered disks.tells start run seats began me before between after m call kept.turn kept.replays kept.met may knew makes_here told_here same (exact_of disks.tells after told) it is in
      record {
        desk = now;
        twin_is = twin_is;
        turn = turn_told seats it ids now.met (alone_at now) locks.0;
        replays = replays_here disks.tells start run began (facts_in it.0).log ids now.met (alone_at now) locks.1;
        met = locks.2;
        told = told;
        unused = subst (λ (t : Table). Ids.IsSound t × (t.run ≡ ids.run)) (sym stays) unused_mid;
      }

  pub made_pass : (it : Me ℕ View) → it ≡ pass_of (after_call (published (alone_at now) (facts_in me.0)) m (record_of call (alone_at mid)))
      → IsPass it × Sound start (pass_in it.0) × ((pass_in it.0).number ≡ m.number) × ((pass_in it.0).out ≡ m.out)
  made_pass it is =
      pass_entered disks.tells start run seats began me before between after m call kept.turn kept.replays kept.met may knew makes_here told_here same (exact_of disks.tells after told) it is

  pub made_calls : (it : Me ℕ View) → it ≡ pass_of (after_call (published (alone_at now) (facts_in me.0)) m (record_of call (alone_at mid))) → Calls start run seats (known_of m) call (known_of (pass_in it.0))
  made_calls it is =
      calls_entered disks.tells start run seats began me before between after m call kept.turn kept.replays kept.met may knew makes_here told_here same (exact_of disks.tells after told) (known_of m) it refl is

  pub made_real : (it : Me ℕ View) → it ≡ pass_of (after_call (published (alone_at now) (facts_in me.0)) m (record_of call (alone_at mid))) → IsReal disks start run seats began (pass_in it.0).seen
  made_real it is =
      let real = real_entered disks.tells start run seats began me before between after m call kept.turn kept.replays kept.met may knew makes_here told_here same (exact_of disks.tells after told) it is in
      (alone_with ids now.met now, real.0, real.1)

-- A desk that nobody called, with other ids in place of its own, which lie under the lock of the journal.
pub kept_first : {D : Type 0} (disks : Ghosts D) (start : DeskState → Type 0) (run : DividedRun) (seats : ℕ) (began : Beginning) (ids unused : Table) (me : Me ℕ View) (twin : Me (Alone D disks) (Twin (Alone D disks))) (old new : Alone D disks)
    → twin ≡ of_journal new → alone_at new ≡ with_ids unused old.met (alone_at old) → new.desk.ids ≡ unused → ids ≡ old.desk.ids → me ≡ locked_of (facts seats [] old.end_told old.cursor_told)
    → IsTold (alone_at old) → Ids.IsSound unused → unused.run ≡ old.desk.ids.run → (disks.tells → IsLawful (disks.moment old.desk.spool.disk)) → BeganAt began.moment (disks.moment old.desk.spool.disk)
    → ((x : DeskState) → start x → Begins disks.tells run x) → ((x : DeskState) → start x → IsAt x (alone_at old)) → IsKept disks start run seats began ids me twin
kept_first disks start run seats began ids unused me twin old new twin_is new_is new_ids ids_is me_is told sound same_run lawful is begins at =
    let first : AloneView = with_ids old.desk.ids None (alone_at old) in
    let whole : with_ids ids None (alone_at new) ≡ first = (λ j. with_ids (ids_is j) None (new_is j)) in
    record {
      desk = new;
      twin_is = twin_is;
      turn = subst (IsTurn seats me) (sym whole) (subst (λ (x : Me ℕ View). IsTurn seats x first) (sym me_is) (record { locked = refl; made = refl; end = refl; cursor = refl }));
      replays = subst (Replays disks.tells start run began (facts_in me.0).log) (sym whole)
          (subst (λ (x : Me ℕ View). Replays disks.tells start run began (facts_in x.0).log first) (sym me_is)
          (replays_none disks.tells start run began first lawful is begins
          (λ x s. let h = at x s in record { rules = h.rules; spool = h.spool; ids = h.ids; end_known = h.end_known; cursor_known = h.cursor_known })));
      met = subst (λ (x : Me ℕ View). Met run (seats - 1) [] (facts_in x.0).log) (sym me_is) tt;
      told = subst IsTold (sym new_is) told;
      unused = subst (λ (t : Table). Ids.IsSound t × (t.run ≡ ids.run)) (sym new_ids) (sound, same_run ∙ sym (ap (λ (t : Table). t.run) ids_is));
    }
