-- Calls of a desk's only caller, one after another.
use Rattle.std.proofs.Common.{◌≡◌, ℕ, ◌≤◌, List, [], ◌++◌, refl, sym, ◌∙◌, subst, arith}
use Rattle.std.proofs.lemmas.Grind.{common_steps}
use Rattle.foundation.specs.Faults.{Rose}
use Rattle.edge_disk.specs.Disk.{IsLawful}
use Rattle.edge_disk.proofs.Moments.{started, both}
use Rattle.spool_state.specs.SpoolState.{end}
use Rattle.desk_access.specs.History.{IsDesk}
use Rattle.desk_access.specs.Call.{Call, Record, own_of, failed_of}
use Rattle.desk_access.specs.Desk.{DeskState, Goes, Stood}
use Rattle.desk_access.specs.Journal.{goes_then, by_then, own_by, failed_then, rose_then, stood_first, stood_later, stood_here}
use Rattle.spool_desk.specs.Alone.{AloneView, LeadsFrom, RunsTo, Ran, HasSeen}

-- no call
pub runs_none : (tells : Type 0) (v : AloneView) → (tells → IsLawful v.spool.moment) → RunsTo tells v [] v
runs_none tells v lawful = record {
  leads = λ x told at. record {
    after = x;
    goes = refl;
    reached = at;
    any_moment = started (Stood x []) v.spool.moment (lawful told) (λ c image. stood_here x [] c (at.spool.each c image));
  };
  size = refl;
  later = omega arith;
  cause = grind (arith, common_steps);
  quiet = λ none. refl;
  end_rises = omega arith;
  cursor_rises = omega arith;
}

leads_then : (x : DeskState) (a b c : AloneView) (records more : List Record) (p : LeadsFrom x a records b) → LeadsFrom p.after b more c → LeadsFrom x a (records ++ more) c
leads_then x a b c records more p q = record {
  after = q.after;
  goes = goes_then x p.after q.after records more p.goes q.goes;
  reached = q.reached;
  any_moment =
      both (Stood x records) (Stood p.after more) (Stood x (records ++ more)) a.spool.moment b.spool.moment c.spool.moment p.any_moment q.any_moment
      (λ image h. stood_first x records more image h)
      (λ image h. stood_later x p.after records more image p.goes h);
}

-- calls after others
pub runs_then : (tells : Type 0) (a b c : AloneView) (records more : List Record) → RunsTo tells a records b → RunsTo tells b more c → RunsTo tells a (records ++ more) c
runs_then tells a b c records more p q = record {
  leads = λ x told at. let first = p.leads x told at in leads_then x a b c records more first (q.leads first.after told first.reached);
  later = omega (arith, p.later, q.later);
  cause = subst (λ (n : ℕ). Rose n a.spool.moment.faults c.spool.moment.faults) (sym (failed_then records more))
      (rose_then (failed_of records) (failed_of more) a.spool.moment.faults b.spool.moment.faults c.spool.moment.faults p.cause q.cause p.later q.later);
  quiet = λ none. q.quiet (omega (arith, none, failed_then records more)) ∙ p.quiet (omega (arith, none, failed_then records more));
  size = q.size ∙ p.size;
  end_rises = omega (arith, p.end_rises, q.end_rises);
  cursor_rises = omega (arith, p.cursor_rises, q.cursor_rises);
}

pub ran_none : (tells : Type 0) (v : AloneView) → (tells → IsLawful v.spool.moment) → Ran tells v [] v
ran_none tells v lawful = record {
  records = [];
  by = tt;
  runs = runs_none tells v lawful;
}

pub ran_then : (tells : Type 0) (a b c : AloneView) (calls more : List Call) → Ran tells a calls b → Ran tells b more c → Ran tells a (calls ++ more) c
ran_then tells a b c calls more p q = record {
  records = p.records ++ q.records;
  by = by_then 0 calls more p.records q.records p.by q.by;
  runs = runs_then tells a b c p.records q.records p.runs q.runs;
}

-- the journal goes on by the calls
pub seen_then : (tells : Type 0) (x : DeskState) (journal : List Record) (a b : AloneView) (calls : List Call) → Ran tells a calls b → HasSeen tells x journal a
    → (between : List Record) × (own_of 0 between ≡ calls) × HasSeen tells x (journal ++ between) b
seen_then tells x journal a b calls ran seen =
    let leads = ran.runs.leads seen.found seen.told seen.here in (
      ran.records,
      own_by 0 calls ran.records ran.by,
      record { told = seen.told; rules = seen.rules; found = leads.after; goes = goes_then x seen.found leads.after journal ran.records seen.goes leads.goes; here = leads.reached },
    )

-- and is lawful, and what was answered before isn't above what it leads to
pub seen_law : (tells : Type 0) (x : DeskState) (journal : List Record) (a b : AloneView) (calls : List Call) → Ran tells a calls b → HasSeen tells x journal b
    → IsDesk x × ((y : DeskState) × Goes x journal y × (a.end_known ≤ end y.spool) × (a.cursor_known ≤ y.spool.cursor))
seen_law tells x journal a b calls ran seen = (seen.rules, (seen.found, seen.goes, omega (arith, ran.runs.end_rises, seen.here.end_known), omega (arith, ran.runs.cursor_rises, seen.here.cursor_known)))
