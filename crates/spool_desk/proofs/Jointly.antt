-- What a take of the parts of several callers as one group makes, for a desk with one caller.
use Rattle.std.proofs.Common.{◌≡◌, ◌⊎◌, inl, inr, ℕ, ◌+◌, ◌≤◌, ◌<◌, List, [], ◌∷◌, length, Option, refl, sym, ◌∙◌, ap, subst, arith, length-append}
use Rattle.std.specs.Prelude.{true, false, Result, Ok, Err, IsErrOf}
use Rattle.event_form.specs.declared.event.Entry.{Entry}
use Rattle.spool_state.specs.Layout.{most_number}
use Rattle.spool_state.specs.Segment.{need_of, head_text, groups_text}
use Rattle.spool_state.specs.SpoolState.{SpoolState, end, room, most_room}
use Rattle.spool_state.specs.Change.{added}
use Rattle.spool_state.proofs.Texts.{length-head_text}
use Rattle.edge_disk.specs.Disk.{LeavesOnly}
use Rattle.edge_disk.specs.Calls.{Calls}
use Rattle.edge_disk.proofs.Moments.{weaker}
use Rattle.spool_answers.specs.declared.receipt.Receipt.{Receipt}
use Rattle.spool_faults.specs.declared.fault.TakeFault.{TakeFault}
use Rattle.spool_faults.specs.declared.fault.TakeFault.TheVariants as Take
use Rattle.spool_answers.specs.Stages.{group_stages, last_of, StandsForOne, IsMidway}
use Rattle.spool_answers.specs.Take.{Takes}
use Rattle.spool_answers.proofs.Adding.{adding_here}
use Rattle.spool_log.specs.Memory.{room_of, end_of}
use Rattle.spool_log.specs.State.{View, IsIn}
use Rattle.spool_log.specs.Outcome.{TakesFrom}
use Rattle.hec_ids.specs.Table.{Table}
use Rattle.desk_access.specs.declared.standing.Standing.{Standing}
use Rattle.desk_access.specs.Standing.{standing_of}
use Rattle.desk_access.specs.Call.{Record, failed_of}
use Rattle.desk_access.specs.Desk.{DeskState, desk_of, Goes, Stood}
use Rattle.desk_access.specs.JointRecords.{Part, joined, ArePartsOf, stored_from, failed_from, joint_of}
use Rattle.desk_access.proofs.Steps.{goes_later}
use Rattle.desk_access.proofs.Jointly.{FitsAll, jointly, jointly_failed, stood_jointly, stood_failed, counts_once}
use Rattle.spool_desk.specs.Standing.{standing_in}
use Rattle.spool_desk.specs.Alone.{AloneView, alone_view, IsAt, LeadsFrom, RunsTo}
use Rattle.spool_desk.proofs.Leading.{standing_known}
use Rattle.spool_desk.proofs.Making.{counted}

no_doubt_is : (doubt : List SpoolState) → (0 < length doubt → ⊥) → doubt ≡ []
no_doubt_is [] none = refl
no_doubt_is (stage ∷ doubt) none = absurd (none (omega arith))

module _ (s : SpoolState) (ids : Table) (part : Part) (parts : List Part) (all : ArePartsOf (part ∷ parts)) (fits : FitsAll s (part ∷ parts)) (old : AloneView) (w : View) (met : Option Standing) (at : IsAt (desk_of s [] ids) old) where
  abbrev group : List Entry
  group = joined (part ∷ parts)

  here : group_stages s group ≡ added s group ∷ []
  here = adding_here s group fits.room

  leads_to : (y : DeskState) (records : List Record) → Goes (desk_of s [] ids) records y → y.ids ≡ ids → IsIn y.spool y.doubt w
      → LeavesOnly (λ c. old.spool.moment.image c ⊎ IsMidway s (added s group ∷ []) c) old.spool.moment w.moment → ((c : List ℕ) → StandsForOne s (added s group ∷ []) c → Stood (desk_of s [] ids) records c)
      → LeadsFrom (desk_of s [] ids) old records (alone_view w old.ids met old.end_known old.cursor_known)
  leads_to y records goes same held run stood =
      let past = goes_later (desk_of s [] ids) y records at.rules goes in record {
        after = y;
        goes = goes;
        reached = record {
          rules = past.0;
          spool = held;
          ids = same ∙ at.ids;
          end_known = omega (arith, at.end_known, past.1.follows.end_rises);
          cursor_known = omega (arith, at.cursor_known, past.1.follows.cursor);
        };
        any_moment = weaker _ (Stood (desk_of s [] ids) records) old.spool.moment w.moment run (λ c h. elim h [ inl image ↦ stood c (inl (at.spool.each c image)) | inr midway ↦ stood c midway ]);
      }

  pub joint_leads : (result : Result Receipt TakeFault) → TakesFrom s [] group result old.spool w → LeadsFrom (desk_of s [] ids) old (joint_of result w.moment.clock (standing_of s) (part ∷ parts)) (alone_view w old.ids met old.end_known old.cursor_known)
  joint_leads result (inl stayed) = absurd (omega (arith, at.spool.doubtful.0 stayed.2.in_doubt))
  joint_leads (Ok receipt) (inr went) =
      let m = went.2.one in
      leads_to (desk_of (added s group) [] ids) (stored_from w.moment.clock false (standing_of s) (part ∷ parts)) (jointly w.moment.clock s ids part parts all fits) refl
      (subst (λ (t : SpoolState). IsIn t [] w) (ap (λ (n : SpoolState). last_of n (group_stages n group)) m ∙ ap (last_of s) here) went.2.reached)
      (subst (λ (n : SpoolState × List SpoolState). LeavesOnly (λ c. old.spool.moment.image c ⊎ IsMidway n.0 n.1 c) old.spool.moment w.moment) (λ i. (m i, (ap (λ (n : SpoolState). group_stages n group) m ∙ here) i)) went.2.any_moment)
      (λ c h. stood_jointly s ids _ group c (jointly w.moment.clock s ids part parts all fits) h)
  joint_leads (Err Take.DiskFault) (inr went) =
      let m = went.2.one in
      leads_to (desk_of s (added s group ∷ []) ids) (failed_from w.moment.clock false (standing_of s) (standing_of s) (part ∷ parts)) (jointly_failed w.moment.clock s ids part parts all fits) refl
      (subst (λ (n : SpoolState × List SpoolState). IsIn n.0 n.1 w) (λ i. (m i, (ap (λ (n : SpoolState). group_stages n group) m ∙ here) i)) went.2.reached)
      (subst (λ (n : SpoolState × List SpoolState). LeavesOnly (λ c. old.spool.moment.image c ⊎ IsMidway n.0 n.1 c) old.spool.moment w.moment) (λ i. (m i, (ap (λ (n : SpoolState). group_stages n group) m ∙ here) i)) went.2.any_moment)
      (λ c h. stood_failed s ids _ group c (jointly_failed w.moment.clock s ids part parts all fits) h)
  joint_leads (Err (Take.TooLarge need most)) (inr went) =
      let is = subst (λ (n : SpoolState). Takes n group (Err (Take.TooLarge need most))) went.2.one went.1 in absurd (omega (arith, fits.small, is.0, is.1, is.2))
  joint_leads (Err (Take.Spent end_is)) (inr went) =
      let is = subst (λ (n : SpoolState). Takes n group (Err (Take.Spent end_is))) went.2.one went.1 in absurd (omega (arith, fits.numbers, is.1, is.2))
  joint_leads (Err (Take.Full need free)) (inr went) =
      let is = subst (λ (n : SpoolState). Takes n group (Err (Take.Full need free))) went.2.one went.1 in absurd (omega (arith, fits.room, is.2, is.3, is.4))
  joint_leads (Err (Take.NotSpool place)) (inr went) = absurd went.1
  joint_leads (Err Take.NoMemory) (inr went) = absurd went.1

-- by the numbers that memory has
pub fits_known : (x : DeskState) (old : AloneView) (part : Part) (parts : List Part) (group : List Entry) → joined (part ∷ parts) ≡ group → IsAt x old → need_of group ≤ room_of old.spool.memory → end_of old.spool.memory + length group ≤ most_number → FitsAll x.spool (part ∷ parts)
fits_known x old part parts group are at space numbers =
    let known = standing_known x.spool x.doubt old.spool at.spool in
    let room_is : room_of old.spool.memory ≡ room x.spool = ap (λ (n : Standing). n.room) known in
    let end_is : end_of old.spool.memory ≡ end x.spool = ap (λ (n : Standing). n.end) known in
    let need : need_of (joined (part ∷ parts)) ≡ need_of group = ap need_of are in
    let count : length (joined (part ∷ parts)) ≡ length group = ap length are in
    record {
      small = omega (arith, need, space, room_is, room_most x.spool);
      room = omega (arith, need, space, room_is);
      numbers = omega (arith, count, numbers, end_is);
    }
  where
    room_most : (s : SpoolState) → room s ≤ most_room s
    room_most s = omega (arith, length-append (head_text s.active.segment.ordinal s.active.segment.first) (groups_text s.active.segment.groups), length-head_text s.active.segment.ordinal s.active.segment.first)

-- What the one take makes, for any parts whose entries it took.
pub joint_makes : (tells : Type 0) (old : AloneView) (w : View) (met : Option Standing) (group : List Entry) (result : Result Receipt TakeFault) (part : Part) (parts : List Part) → joined (part ∷ parts) ≡ group → ArePartsOf (part ∷ parts)
    → (tells → old.spool.in_doubt ≡ true → ⊥) → ((x : DeskState) → IsAt x old → FitsAll x.spool (part ∷ parts))
    → Calls (IsErrOf result Take.DiskFault) old.spool.moment w.moment → ((s : SpoolState) (doubt : List SpoolState) → tells → 0 < length group → IsIn s doubt old.spool → TakesFrom s doubt group result old.spool w) → 0 < length group
    → RunsTo tells old (joint_of result w.moment.clock (standing_in old.spool.memory) (part ∷ parts)) (alone_view w old.ids met old.end_known old.cursor_known)
joint_makes tells old w met group result part parts are all sure fits calls taken some =
    let count = counted (failed_of (joint_of result w.moment.clock (standing_in old.spool.memory) (part ∷ parts))) (IsErrOf result Take.DiskFault) old.spool.moment w.moment (counts_once w.moment.clock result (standing_in old.spool.memory) part parts) calls in record {
      leads = λ x told at.
          let none : x.doubt ≡ [] = no_doubt_is x.doubt (λ some_doubt. sure told (at.spool.doubtful.1 some_doubt)) in
          subst (λ (n : Standing × DeskState). LeadsFrom n.1 old (joint_of result w.moment.clock n.0 (part ∷ parts)) (alone_view w old.ids met old.end_known old.cursor_known)) (λ i. (sym (standing_known x.spool x.doubt old.spool at.spool) i, desk_of x.spool (sym none i) x.ids))
          (joint_leads x.spool x.ids part parts all (fits x at) old w met (subst (λ (l : List SpoolState). IsAt (desk_of x.spool l x.ids) old) none at) result
          (subst (λ (l : List Entry). TakesFrom x.spool [] l result old.spool w) (sym are) (subst (λ (l : List SpoolState). TakesFrom x.spool l group result old.spool w) none (taken x.spool x.doubt told some at.spool))));
      size = count.size;
      later = count.later;
      cause = count.cause;
      quiet = count.quiet;
      end_rises = omega arith;
      cursor_rises = omega arith;
    }
