-- What calls of the spool do doesn't depend on the ids: they do the same beside other ids.
use Rattle.std.proofs.Common.{◌≡◌, inl, inr, ℕ, List, [], ◌∷◌, ◌++◌, Bool, true, false, Option, refl, sym, ap, ◌∙◌, subst}
use Rattle.std.specs.Prelude.{Result, Ok, Err}
use Rattle.event_form.specs.declared.event.Entry.{Entry}
use Rattle.spool_state.specs.SpoolState.{SpoolState}
use Rattle.spool_answers.specs.declared.receipt.Receipt.{Receipt}
use Rattle.spool_faults.specs.declared.fault.TakeFault.{TakeFault}
use Rattle.spool_faults.specs.declared.fault.TakeFault.TheVariants as Take
use Rattle.spool_faults.specs.declared.fault.PendFault.{PendFault}
use Rattle.edge_disk.proofs.Moments.{weaker}
use Rattle.hec_ids.specs.declared.fault.IssueFault.{IssueFault}
use Rattle.hec_ids.specs.Table.{Table}
use Rattle.hec_ids.specs.Table as Ids
use Rattle.hec_ids.specs.Rows.{Issues, Settles, Forgets, Asks}
use Rattle.desk_access.specs.declared.standing.Standing.{Standing}
use Rattle.desk_access.specs.Call.{Call, takes, pends, confirms, marks, counts, issues, settles, forgets, asks, Record}
use Rattle.desk_access.specs.JointRecords.{Part, stored_from, failed_from, refused_from, joint_of}
use Rattle.desk_access.specs.Desk.{DeskState, desk_of, Finds, Mending, Leaving, Answers, AnswersAs, Joins, Goes, StandsWithin, Stood}
use Rattle.desk_access.specs.History.{IsDesk}
use Rattle.desk_access.proofs.Steps.{goes_later}
use Rattle.spool_desk.specs.Alone.{AloneView, IsAt, LeadsFrom, RunsTo, Makes, record_of}
use Rattle.spool_turns.specs.Stands.{with_ids, IsOfSpool, AreOfSpool}

-- the desk beside other ids
abbrev beside : Table → DeskState → DeskState
beside t x = desk_of x.spool x.doubt t

finds_beside : (t : Table) (x : DeskState) (met : Option Standing) (m : SpoolState) → Finds x met m → Finds (beside t x) met m
finds_beside t x met m h = record { one = h.one; numbers = h.numbers }

mending_beside : (t : Table) (x : DeskState) (met : Option Standing) (Fails : PendFault → Type 0) (On Beside : SpoolState → Type 0) (y : DeskState) → ((m : SpoolState) → On m → Beside m) → Mending x met Fails On y
    → Mending (beside t x) met Fails Beside (beside t y)
mending_beside t x met Fails On Beside y more (inl h) = inl (h.0, h.1, record { in_doubt = h.2.in_doubt; why = h.2.why; none = h.2.none; same = ap (beside t) h.2.same })
mending_beside t x met Fails On Beside y more (inr h) = inr (h.0, finds_beside t x met h.0 h.1, more h.0 h.2)

leaving_beside : (t : Table) (x : DeskState) (met : Option Standing) (y : DeskState) → Leaving x met x.ids y → Leaving (beside t x) met t (beside t y)
leaving_beside t x met y h = (h.0, ap (beside t) h.1)

answers_beside : (t : Table) (x y : DeskState) (call : Call) (met : Option Standing) → IsOfSpool call → Answers x call met y → Answers (beside t x) call met (beside t y)
answers_beside t x y (takes [] result) met of h = (record { receipt = h.0.receipt; ok = h.0.ok; first = h.0.first; none = h.0.none }, leaving_beside t x met y h.1)
answers_beside t x y (takes (entry ∷ entries) result) met of h = (h.0, mending_beside t x met _ _ _ y (λ m g. (g.0, ap (beside t) g.1)) h.1)
answers_beside t x y (pends from most result) met of h = mending_beside t x met _ _ _ y (λ m g. (g.0, ap (beside t) g.1)) h
answers_beside t x y (confirms upto result) met of h = (h.0, mending_beside t x met _ _ _ y (λ m g. (g.0, ap (beside t) g.1)) h.1)
answers_beside t x y (marks stretches result) met of h = (h.0, mending_beside t x met _ _ _ y (λ m g. (g.0, ap (beside t) g.1)) h.1)
answers_beside t x y (counts number) met of h = (h.0, leaving_beside t x met y h.1)
answers_beside t x y (issues channel result) met of h = absurd of
answers_beside t x y (settles channel id answer) met of h = absurd of
answers_beside t x y (forgets channel id answer) met of h = absurd of
answers_beside t x y (asks channel ids known) met of h = absurd of

joins_beside : (t : Table) (x : DeskState) (group : List Entry) (result : Result Receipt TakeFault) (m : SpoolState) (y : DeskState) → Joins x group result m y → Joins (beside t x) group result m (beside t y)
joins_beside t x group (Ok receipt) m y h = (h.0, h.1, h.2, h.3, ap (beside t) h.4)
joins_beside t x group (Err Take.DiskFault) m y h = (h.0, h.1, ap (beside t) h.2)
joins_beside t x group (Err _) m y h = absurd h

as_beside : (t : Table) (joins : Bool) (x y : DeskState) (call : Call) (met : Option Standing) → IsOfSpool call → AnswersAs joins x call met y → AnswersAs joins (beside t x) call met (beside t y)
as_beside t false x y call met of h = answers_beside t x y call met of h
as_beside t true x y (takes (entry ∷ entries) result) met of h = (h.0, h.1, finds_beside t x met h.1 h.2, joins_beside t x (entry ∷ entries) result h.1 y h.3)
as_beside t true x y (takes [] result) met of h = absurd h
as_beside t true x y _ met of h = absurd h

goes_beside : (t : Table) (x y : DeskState) (records : List Record) → AreOfSpool records → Goes x records y → Goes (beside t x) records (beside t y)
goes_beside t x y [] of h = ap (beside t) h
goes_beside t x y (one ∷ records) of h =
    (beside t h.0, record { answers = as_beside t one.joins x h.0 one.call one.met of.0 h.1.answers; after = h.1.after }, goes_beside t h.0 y records of.1 h.2)

of_first : (first rest : List Record) → AreOfSpool (first ++ rest) → AreOfSpool first
of_first [] rest of = tt
of_first (one ∷ first) rest of = (of.0, of_first first rest of.1)

within_beside : (t : Table) (x : DeskState) (records : List Record) (c : List ℕ) → StandsWithin x records c → StandsWithin (beside t x) records c
within_beside t x [] c h = absurd h
within_beside t x (one ∷ records) c h = (h.0, finds_beside t x one.met h.0 h.1, h.2, h.3)

stood_beside : (t : Table) (x : DeskState) (records : List Record) (c : List ℕ) → AreOfSpool records → Stood x records c → Stood (beside t x) records c
stood_beside t x records c of h = record {
  first = h.first;
  rest = h.rest;
  parts = h.parts;
  found = beside t h.found;
  goes = goes_beside t x h.found h.first (of_first h.first h.rest (subst AreOfSpool h.parts of)) h.goes;
  stands = elim h.stands [ inl here ↦ inl here | inr within ↦ inr (within_beside t h.found h.rest c within) ];
}

-- Calls of the spool lead from the desk beside other ids as they lead from it. Its own ids are sound, and of the same run.
module _ (tells : Type 0) (ids : Table) (first last : Option Standing) (old new : AloneView) (records : List Record) (of : AreOfSpool records)
    (sound : Ids.IsSound old.ids) (run : old.ids.run ≡ ids.run) (runs : RunsTo tells old records new) where
  own_rules : (x : DeskState) → IsAt x (with_ids ids first old) → IsDesk (beside old.ids x)
  own_rules x at = record {
    sound = at.rules.sound;
    later = at.rules.later;
    told = at.rules.told;
    ids = sound;
    run = run ∙ ap (λ (t : Table). t.run) (sym at.ids) ∙ at.rules.run;
  }

  leads_beside : (x : DeskState) → tells → IsAt x (with_ids ids first old) → LeadsFrom x (with_ids ids first old) records (with_ids ids last new)
  leads_beside x told at =
      let p = runs.leads (beside old.ids x) told (record { rules = own_rules x at; spool = at.spool; ids = refl; end_known = at.end_known; cursor_known = at.cursor_known }) in
      let goes : Goes x records (beside x.ids p.after) = goes_beside x.ids (beside old.ids x) p.after records of p.goes in
      record {
        after = beside x.ids p.after;
        goes = goes;
        reached = record {
          rules = (goes_later x (beside x.ids p.after) records at.rules goes).0;
          spool = p.reached.spool;
          ids = at.ids;
          end_known = p.reached.end_known;
          cursor_known = p.reached.cursor_known;
        };
        any_moment = weaker (Stood (beside old.ids x) records) (Stood x records) old.spool.moment new.spool.moment p.any_moment (λ c h. stood_beside x.ids (beside old.ids x) records c of h);
      }

  pub runs_beside : RunsTo tells (with_ids ids first old) records (with_ids ids last new)
  runs_beside = record {
    leads = leads_beside;
    size = runs.size;
    later = runs.later;
    cause = runs.cause;
    quiet = runs.quiet;
    end_rises = runs.end_rises;
    cursor_rises = runs.cursor_rises;
  }

-- one call of the spool
pub makes_beside : (tells : Type 0) (ids : Table) (first : Option Standing) (old new : AloneView) (call : Call) → IsOfSpool call → Ids.IsSound old.ids → old.ids.run ≡ ids.run → Makes tells old call new
    → Makes tells (with_ids ids first old) call (with_ids ids new.met new)
makes_beside tells ids first old new call of sound run made = runs_beside tells ids first new.met old new (record_of call new ∷ []) (of, tt) sound run made

-- the records of a joint change are of the spool
stored_of : (clock : ℕ) (joins : Bool) (at : Standing) (parts : List Part) → AreOfSpool (stored_from clock joins at parts)
stored_of clock joins at [] = tt
stored_of clock joins at (part ∷ parts) = (tt, stored_of clock true _ parts)

failed_of_spool : (clock : ℕ) (joins : Bool) (stay at : Standing) (parts : List Part) → AreOfSpool (failed_from clock joins stay at parts)
failed_of_spool clock joins stay at [] = tt
failed_of_spool clock joins stay at (part ∷ parts) = (tt, failed_of_spool clock true stay _ parts)

refused_of : (clock : ℕ) (fault : TakeFault) (at : Standing) (parts : List Part) → AreOfSpool (refused_from clock fault at parts)
refused_of clock fault at [] = tt
refused_of clock fault at (part ∷ parts) = (tt, refused_of clock fault at parts)

pub joint_of_spool : (result : Result Receipt TakeFault) (clock : ℕ) (at : Standing) (parts : List Part) → AreOfSpool (joint_of result clock at parts)
joint_of_spool (Ok receipt) clock at parts = stored_of clock false at parts
joint_of_spool (Err Take.DiskFault) clock at parts = failed_of_spool clock false at at parts
joint_of_spool (Err fault) clock at parts = refused_of clock fault at parts

-- the run of the ids stays
pub run_issued : (t u : Table) (channel : ℕ) (result : Result ℕ IssueFault) → Issues t channel result u → u.run ≡ t.run
run_issued t u channel (Ok id) h = ap (λ (v : Table). v.run) h.2
run_issued t u channel (Err fault) h = ap (λ (v : Table). v.run) h.1

pub run_settled : (t u : Table) (channel id : ℕ) (answer : Bool) → Settles t channel id answer u → u.run ≡ t.run
run_settled t u channel id answer h = ap (λ (v : Table). v.run) h.1

pub run_forgotten : (t u : Table) (channel id : ℕ) (answer : Bool) → Forgets t channel id answer u → u.run ≡ t.run
run_forgotten t u channel id answer h = ap (λ (v : Table). v.run) h.1

pub run_asked : (t u : Table) (channel : ℕ) (ids : List ℕ) (known : List Bool) → Asks t channel ids known u → u.run ≡ t.run
run_asked t u channel ids known h = ap (λ (v : Table). v.run) h.1
