-- What lasts after the calls of a desk's only caller.
use Rattle.std.proofs.Common.{◌≡◌, ℕ, ◌^◌, ◌≤◌, List, [], Option, refl, sym, ◌∙◌, ap, subst, arith}
use Rattle.spool_state.specs.SpoolState.{SpoolState}
use Rattle.spool_state.specs.Image.{StandsFor}
use Rattle.spool_log.specs.State.{View, IsIn}
use Rattle.hec_ids.specs.Table.{Table}
use Rattle.hec_ids.specs.Table as Ids
use Rattle.hec_ids.specs.Rows.{opened}
use Rattle.desk_access.specs.declared.standing.Standing.{Standing}
use Rattle.desk_access.specs.Call.{Record, calls_of}
use Rattle.desk_access.specs.Desk.{DeskState, desk_of}
use Rattle.desk_access.specs.History.{IsLater, Grows, AllKept, Was}
use Rattle.spool_desk.specs.Alone.{AloneView, alone_view, IsAt, HoldsNone, LeadsFrom}
use Rattle.desk_access.proofs.Lasting.{which_one, goes_kept, goes_grows, stood_was}
use Rattle.desk_access.proofs.Stages.{none_of, told_one}
use Rattle.desk_access.proofs.Steps.{all_later}

-- After the calls of a desk's only caller, whatever a crash leaves stands for a later state, which has all groups that were taken.
pub image_kept : (x : DeskState) (old new : AloneView) (records : List Record) → IsAt x old → LeadsFrom x old records new → (c : List ℕ) → new.spool.moment.image c
    → (t : SpoolState) × StandsFor t c × IsLater x.spool t × AllKept t (calls_of records) × Grows x (calls_of records) t
image_kept x old new records at leads c image =
    let one = which_one leads.after.spool leads.after.doubt c (leads.reached.spool.each c image) in (
      one.0,
      one.2,
      all_later x leads.after records one.0 at.rules leads.goes one.1,
      goes_kept x leads.after records one.0 at.rules leads.goes one.1,
      goes_grows x leads.after records one.0 at.rules leads.goes one.1,
    )

-- And so at each moment of the calls it was a later one, with what the first of them had added.
pub image_was : (x : DeskState) (old new : AloneView) (records : List Record) → IsAt x old → LeadsFrom x old records new → (c : List ℕ) → new.spool.moment.image_since old.spool.moment.clock c → Was x (calls_of records) c
image_was x old new records at leads c since = stood_was x records c at.rules (leads.any_moment.each c since)

-- a table that holds no id is sound
none_sound : (run first : ℕ) → run ≤ 2097151 → first ≤ 2 ^ 32 → Ids.IsSound (opened run first)
none_sound run first few le = record {
  run = omega (arith, few);
  within = omega (arith, le);
  rising = omega arith;
  few = λ q. omega arith;
  few_channels = omega arith;
}

-- A desk is in the state that its spool is in.
pub at_of : (s : SpoolState) (ids : Table) (v : View) (met : Option Standing) (run : ℕ) → run ≡ s.run → HoldsNone run ids → IsIn s [] v → IsAt (desk_of s [] ids) (alone_view v ids met 0 0)
at_of s ids v met run is none held = record {
  rules = record {
    sound = held.sound;
    later = none_of (IsLater s);
    told = told_one s;
    ids = subst Ids.IsSound (sym none.2) (none_sound run none.0 (omega (arith, is, held.sound.run)) none.1);
    run = ap (λ (t : Table). t.run) none.2 ∙ is;
  };
  spool = held;
  ids = refl;
  end_known = omega arith;
  cursor_known = omega arith;
}
