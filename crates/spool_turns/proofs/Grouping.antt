-- Letters that are stored as one group: what lies under the lock afterwards.
use Rattle.std.proofs.Common.{◌≡◌, ℕ, suc, ◌≤◌, ◌<◌, Bool, true, List, [], ◌∷◌, ◌++◌, length, refl, sym, ap, ◌∙◌, subst, arith, length-append}
use Rattle.std.specs.Prelude.{Result, IfErr, is_ok}
use Rattle.atomic_table.specs.Table.{Me}
use Rattle.event_form.specs.declared.event.Entry.{Entry}
use Rattle.spool_answers.specs.declared.receipt.Receipt.{Receipt}
use Rattle.spool_faults.specs.declared.fault.TakeFault.{TakeFault}
use Rattle.spool_faults.specs.declared.fault.TakeFault.TheVariants as Take
use Rattle.desk_access.specs.Division.{DividedRun}
use Rattle.desk_access.specs.declared.standing.Standing.{Standing}
use Rattle.desk_access.specs.Call.{Record}
use Rattle.desk_access.specs.Desk.{DeskState}
use Rattle.desk_access.specs.JointRecords.{Part, joined, ArePartsOf, joint_of}
use Rattle.spool_desk.specs.Standing.{standing_in}
use Rattle.spool_desk.specs.Alone.{AloneView, RunsTo}
use Rattle.spool_turns.specs.Rules.{View, Facts, facts, PassView}
use Rattle.desk_seats.specs.Passes.{AllJoin}
use Rattle.spool_turns.specs.Passes.{Beginning, IsTurn, hosting_of, hosted_in, locked_of, facts_in}
use Rattle.spool_turns.specs.Replays.{Replays}
use Rattle.spool_turns.specs.Joining.{parts_of, numbers_of, AreRising, AreBehind, AreJoint, records_behind, LeadOn}
use Rattle.spool_turns.proofs.Called.{published}
use Rattle.spool_turns.proofs.JointRecords.{joint_are, all_join, each_fails, lead_on, rest_joins}
use Rattle.spool_turns.proofs.Entering.{replays_many, replays_still}

-- the numbers of passes and how many they are, by their parts
abbrev callers_of : List Part → List ℕ
callers_of [] = []
callers_of (part ∷ parts) = part.by ∷ callers_of parts

by_parts : (passes : List PassView) → numbers_of passes ≡ callers_of (parts_of passes)
by_parts [] = refl
by_parts (m ∷ passes) = ap (λ (l : List ℕ). m.number ∷ l) (by_parts passes)

pub same_numbers : (xs ys : List PassView) → parts_of xs ≡ parts_of ys → numbers_of xs ≡ numbers_of ys
same_numbers xs ys same = by_parts xs ∙ ap callers_of same ∙ sym (by_parts ys)

count_parts : (passes : List PassView) → length passes ≡ length (parts_of passes)
count_parts [] = refl
count_parts (m ∷ passes) = ap suc (count_parts passes)

pub same_count : (xs ys : List PassView) → parts_of xs ≡ parts_of ys → length xs ≡ length ys
same_count xs ys same = count_parts xs ∙ ap (λ (l : List Part). length l) same ∙ sym (count_parts ys)

-- a group has an entry
pub some_entries : (parts : List Part) → 0 < length parts → ArePartsOf parts → 0 < length (joined parts)
some_entries [] none are = absurd (omega (arith, none))
some_entries (part ∷ parts) some are = omega (arith, are.0, length-append part.entries (joined parts))

pub count_of_parts : (passes : List PassView) → 0 < length passes → 0 < length (parts_of passes)
count_of_parts passes some = omega (arith, some, count_parts passes)

-- The group was stored, or the disk failed: old is the desk before that one take, mid behind it, and new once the words are written. me is
-- the seat under the lock before.
module _ (tells : Type 0) (start : DeskState → Type 0) (run : DividedRun) (seats : ℕ) (began : Beginning) (me : Me ℕ View) (old mid new : AloneView) (passes : List PassView) (entries : List Entry)
    (before : Standing) (result : Result Receipt TakeFault) (stored : Bool) (stored_is : stored ≡ is_ok result)
    (grouped : began.grouped ≡ true) (turn : IsTurn seats me old) (replays : Replays tells start run began (facts_in me.0).log old)
    (some : 0 < length passes) (are : ArePartsOf (parts_of passes)) (rising : AreRising 0 (parts_of passes)) (entries_are : entries ≡ joined (parts_of passes))
    (before_is : before ≡ standing_in old.spool.memory) (only : IfErr result (λ fault. fault ≡ Take.DiskFault))
    (made : (part : Part) (parts : List Part) → joined (part ∷ parts) ≡ entries → ArePartsOf (part ∷ parts) → RunsTo tells old (joint_of result mid.spool.moment.clock (standing_in old.spool.memory) (part ∷ parts)) mid) where
  abbrev f : Facts
  f = facts_in me.0

  abbrev records : List Record
  records = records_behind stored before mid.spool.moment.clock [] (parts_of passes)

  made_all : (parts : List Part) → 0 < length parts → ArePartsOf parts → entries ≡ joined parts → RunsTo tells old (records_behind stored before mid.spool.moment.clock [] parts) mid
  made_all [] none all is = absurd (omega (arith, none))
  made_all (part ∷ parts) some' all is =
      subst (λ (l : List Record). RunsTo tells old l mid)
      (joint_are result mid.spool.moment.clock before (part ∷ parts) all only ∙ ap (λ (b : Bool). records_behind b before mid.spool.moment.clock [] (part ∷ parts)) (sym stored_is))
      (subst (λ (s : Standing). RunsTo tells old (joint_of result mid.spool.moment.clock s (part ∷ parts)) mid) (sym before_is) (made part parts (sym is) all))

  pub runs_all : RunsTo tells old records mid
  runs_all = made_all (parts_of passes) (omega (arith, some, count_parts passes)) are entries_are

  pub leads_all : LeadOn start f.end f.cursor f.log records
  leads_all = lead_on start f.end f.cursor f.log records (λ x s.
      let p = replays.leads x s in
      let q = runs_all.leads p.after (replays.begins x s).told p.reached in
      record { here = p.after; goes = p.goes; rules = p.reached.rules; end_is = omega (arith, turn.end, p.reached.end_known); cursor_is = omega (arith, turn.cursor, p.reached.cursor_known); last = q.after; on = q.goes })

  pub words_rise : (f.end ≤ mid.end_known) × (f.cursor ≤ mid.cursor_known)
  words_rise = (omega (arith, turn.end, runs_all.end_rises), omega (arith, turn.cursor, runs_all.cursor_rises))

  pub replays_all : RunsTo tells mid [] new → Replays tells start run began (f.log ++ records) new
  replays_all told =
      replays_still tells start run began mid new (f.log ++ records)
      (replays_many tells start run began old mid f.log records (λ off. absurd (cc (sym off ∙ grouped))) (λ n. each_fails n stored before mid.spool.moment.clock (parts_of passes) rising) replays runs_all)
      told

  -- the seat once all takes are entered, and once the words are written
  module _ (entered wrote : Me ℕ View) (enters : entered ≡ locked_of (facts f.made (f.log ++ records) f.end f.cursor)) (writes : wrote ≡ hosting_of (published new (facts_in entered.0)) (hosted_in entered.0)) where
    there : wrote ≡ locked_of (facts f.made (f.log ++ records) new.end_known new.cursor_known)
    there = writes ∙ ap (λ (x : Me ℕ View). hosting_of (published new (facts_in x.0)) (hosted_in x.0)) enters

    pub log_all : (facts_in wrote.0).log ≡ f.log ++ records
    log_all = ap (λ (x : Me ℕ View). (facts_in x.0).log) there

    pub turn_all : IsTurn seats wrote new
    turn_all = subst (λ (x : Me ℕ View). IsTurn seats x new) (sym there) (record { locked = refl; made = turn.made; end = refl; cursor = refl })

    pub joint_all : (behind : List PassView) → AreBehind (length f.log) behind → AreJoint (facts_in wrote.0).log behind
    joint_all behind seen = by (parts_of passes) (omega (arith, some, count_parts passes)) are log_all where
      by : (parts : List Part) → 0 < length parts → ArePartsOf parts → (facts_in wrote.0).log ≡ f.log ++ records_behind stored before mid.spool.moment.clock [] parts → AreJoint (facts_in wrote.0).log behind
      by [] none all is = absurd (omega (arith, none))
      by (part ∷ parts) some' all is = record {
        before = f.log;
        one = _;
        behind = records_behind stored before mid.spool.moment.clock part.entries parts;
        parts = is;
        join = all_join stored before mid.spool.moment.clock part.entries parts all.0;
        seen = seen;
      }

-- ---- the passes of a group, one after another

pub joint_next : (log : List Record) (m : PassView) (passes : List PassView) → AreJoint log (m ∷ passes) → AreJoint log passes
joint_next log m passes h = record { before = h.before; one = h.one; behind = h.behind; parts = h.parts; join = h.join; seen = h.seen.1 }

pub joint_here : (log : List Record) (m : PassView) (passes : List PassView) → AreJoint log (m ∷ passes) → (rest : List Record) → m.seen ++ rest ≡ log → AllJoin rest
joint_here log m passes h rest is = rest_joins h.before m.seen rest h.one h.behind (is ∙ h.parts) h.seen.0 h.join
