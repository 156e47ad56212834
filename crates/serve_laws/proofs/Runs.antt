-- The laws, from what a run of the server says and from what a closed journal has.
use Rattle.std.proofs.Common.{◌≡◌, ℕ, ◌+◌, ◌-◌, ◌^◌, ◌<◌, ◌≤◌, List, [], ◌∷◌, ◌++◌, length, sym, subst, arith}
use Rattle.std.specs.Prelude.{All}
use Rattle.std.proofs.lemmas.List.Elements.{All-head}
use Rattle.event_form.specs.declared.event.Entry.{Entry}
use Rattle.spool_state.specs.SpoolState.{SpoolState}
use Rattle.spool_answers.specs.Stages.{StandsForOne}
use Rattle.spool_desk.specs.Alone.{AloneView}
use Rattle.desk_access.proofs.Dividing.{within_run}
use Rattle.desk_access.specs.Division.{divided, callers_of, each_of, first_conn}
use Rattle.desk_access.specs.Call.{Record, calls_of}
use Rattle.desk_access.specs.Desk.{DeskState}
use Rattle.desk_access.specs.Legal.{AddsGroups, IsLegal, Met}
use Rattle.desk_access.proofs.Nexts.{all_left, all_right}
use Rattle.desk_seats.specs.Passes.{Stands}
use Rattle.spool_turns.specs.Replays.{Begins, HasNumber}
use Rattle.serve_forwarder.specs.Looks.{Forwarder, forwarder_at}
use Rattle.serve_desk.specs.Serving.{Seating}
use Rattle.serve_laws.specs.Parts.{links_of}
use Rattle.serve_laws.specs.Runs.{ServerRun}
use Rattle.serve_laws.specs.Laws.{AcknowledgedIsDurable, ConnectionsContribute, DiskFaultsAreCounted, DoorsTellDurable, EndCountsEntries, NothingElseIsAdded, NothingIsLeft, OrderIsKept, OrderWasKept, ReportsCountLinks, WorkersHaveParts}
use Rattle.serve_laws.specs.Durable.{IsLinkDurable}
use Rattle.serve_laws.specs.Leaves.{IsDone, LeavesNone}
use Rattle.serve_laws.proofs.Parts.{AsLong, parts_of}
use Rattle.serve_laws.proofs.Durable.{links_durable, talks_durable}
use Rattle.serve_laws.proofs.Contributing.{links_contribute}
use Rattle.serve_laws.proofs.Order.{links_in_order, links_were_in_order, earlier_again}
use Rattle.serve_laws.proofs.Counting.{disk_faults_counted, reports_counted}
use Rattle.serve_laws.proofs.Behind.{HaveRun, have_run, last_new, all_numbers}
use Rattle.serve_laws.proofs.Whole.{all_of_parts}
use Rattle.serve_laws.proofs.Taken.{end_rises}
use Rattle.serve_laws.proofs.Meeting.{number_kept, forwarded_leaves}

module _ (tells : Type 0) (start : DeskState → Type 0) (seating : Seating) (new : AloneView) where
  -- ---- of a closed journal

  pub acknowledged_is_durable : AcknowledgedIsDurable tells start seating new
  acknowledged_is_durable log passes closes talks at part is x s =
      let division = seating.run.division in
      let confirming = seating.seats - 1 in
      let b = closes.replays.begins x s in
      let p = closes.replays.leads x s in
      links_durable x p.after division confirming log b.rules b.none_held p.goes (subst (λ (r : ℕ). Met (divided division r) confirming [] log) (sym b.of_run) closes.met)
      (subst (λ (r : ℕ). (groups : List (List Entry)) → AddsGroups (calls_of log) groups → IsLegal r groups) (sym b.of_run) (closes.legal x s)) new.spool.moment
      (λ c image. let k = closes.kept x s c image in (k.state, k.stands, k.kept)) at.number [] at.rules (first_conn seating.run at.number) (links_of part) is.at_door.served is.at_door.calls

  pub doors_tell_durable : DoorsTellDurable tells start seating new
  doors_tell_durable log passes closes talks at part is x s before told =
      let P = IsLinkDurable log at.number new.spool.moment at.rules in
      talks_durable log at.number new.spool.moment at.rules part.links.finished at.old.talks at.new.talks before is.at_door.talks told
      (all_left P part.links.finished part.links.late (acknowledged_is_durable log passes closes talks at part is x s))

  pub connections_contribute : ConnectionsContribute tells start seating new
  connections_contribute log passes closes talks at part is small few x s added adds =
      links_contribute seating.run at.number at.rules log (links_of part) added small (omega (arith, is.many, few)) is.at_door.served is.at_door.calls (λ groups a. closes.own x s groups a at.number) adds

  -- a run is at most 2,097,151, so the numbers of its connections are below those that moved entries have
  counted : (x : DeskState) → Begins tells seating.run x → (number many : ℕ) → number < callers_of seating.run.division → many ≤ each_of seating.run.division → first_conn seating.run number + many ≤ 2 ^ 63
  counted x begins number many small few = omega (arith, begins.of_run, begins.rules.sound.run, within_run seating.run.division number small)

  pub order_is_kept : OrderIsKept tells start seating new
  order_is_kept log passes closes talks at part is small few x s opens c image =
      let k = closes.kept x s c image in
      let begins = closes.replays.begins x s in (
        k.state,
        k.stands,
        record {
          kept = k.kept;
          each = links_in_order x seating.run at.number at.rules log (links_of part) k.state begins.of_run is.at_door.served (counted x begins at.number (length (links_of part)) small (omega (arith, is.many, few)))
              (connections_contribute log passes closes talks at part is small few x s) k.grows opens;
          legal = k.legal opens;
          earlier = earlier_again x seating.run.number log k.state begins.of_run (closes.legal x s) k.grows opens;
        },
      )

  pub order_was_kept : OrderWasKept tells start seating new
  order_was_kept log passes closes talks at part is small few x s opens c since =
      let w = closes.was x s c since in
      let begins = closes.replays.begins x s in (
        w.state,
        w.stands,
        links_were_in_order x seating.run at.number at.rules log (links_of part) c begins.of_run is.at_door.served (counted x begins at.number (length (links_of part)) small (omega (arith, is.many, few)))
            (connections_contribute log passes closes talks at part is small few x s) w opens,
      )

  pub disk_faults_are_counted : DiskFaultsAreCounted tells start seating new
  disk_faults_are_counted log passes closes given left parts are =
      disk_faults_counted seating.began.grouped seating.run log given left parts seating.began.moment.faults new.spool.moment.faults are closes.replays.cause closes.replays.alone closes.replays.each

  -- ---- of a run

  module _ (r : ServerRun tells start seating new) where
    long : AsLong (length r.given.rules) r.given.doors r.served.workers r.left.doors r.served.workers' r.left.reports
    long = record { doors_are = r.doors_are; passes_are = r.served.count.0; doors'_are = r.doors'_are; passes'_are = r.served.count.1; reports_are = r.reports_are }

    pub workers_stand : All (Stands r.served.log) r.served.workers'
    workers_stand = all_left (Stands r.served.log) r.served.workers' (r.served.forwarder' ∷ []) r.served.closes.pass

    pub forwarder_stands : Stands r.served.log r.served.forwarder'
    forwarder_stands = All-head (Stands r.served.log) r.served.forwarder' [] (all_right (Stands r.served.log) r.served.workers' (r.served.forwarder' ∷ []) r.served.closes.pass)

    -- its passes came from new ones
    pub passes_ran : HaveRun start 0 r.served.workers'
    passes_ran = have_run start seating.run r.given.talks 0 r.given.rules r.given.doors r.served.workers r.left.doors r.served.workers' (r.served.forwarder ∷ []) r.left.reports long r.served.fresh r.served.worked

    pub forwarder_new : r.served.forwarder.own ≡ []
    forwarder_new = (last_new 0 r.served.workers r.served.forwarder r.served.fresh).1

    abbrev old_forwarder : Forwarder
    old_forwarder = forwarder_at r.served.forwarder r.given.net

    abbrev new_forwarder : Forwarder
    new_forwarder = forwarder_at r.served.forwarder' r.left.net

    pub last_number : r.served.forwarder'.number ≡ length r.served.workers'
    last_number =
        let kept = number_kept start r.given.destination r.served.workers' old_forwarder new_forwarder r.left.last r.served.forwarded in
        omega (arith, kept, (last_new 0 r.served.workers r.served.forwarder r.served.fresh).0, r.served.count.0, r.served.count.1)

    -- and each record is of one of them
    pub by_passes : All (λ (one : Record). HasNumber (r.served.workers' ++ r.served.forwarder' ∷ []) one.by) r.served.log
    by_passes =
        r.served.closes.by_passes (λ n less. all_numbers start 0 r.served.workers' r.served.forwarder' passes_ran (omega (arith, last_number)) n (omega arith) (omega (arith, less, r.seats_are, r.served.count.1)))

    none_left : IsDone r.left.last → LeavesNone start r.served.log
    none_left done x y s goes =
        forwarded_leaves start r.served.log r.served.workers' old_forwarder new_forwarder passes_ran forwarder_new workers_stand forwarder_stands by_passes
        x y s (r.served.closes.replays.begins x s).rules goes r.given.destination r.left.last r.served.forwarded done

  pub workers_have_parts : WorkersHaveParts tells start seating new
  workers_have_parts r =
      let all = parts_of start seating.run r.given.talks r.served.log 0 r.given.rules r.given.doors r.served.workers r.left.doors r.served.workers' (r.served.forwarder ∷ []) r.left.reports
      (long r) r.served.fresh (workers_stand r) r.served.worked in
      (all.0, record { each = all.1; reports = all.2 })

  pub nothing_else_is_added : NothingElseIsAdded tells start seating new
  nothing_else_is_added r parts are added adds =
      all_of_parts start seating.run r.served.log r.given r.left parts r.served.workers' r.served.forwarder r.served.forwarder' added are r.served.count.1
      (passes_ran r) (forwarder_new r) (forwarder_stands r).1 r.served.forwarded (by_passes r) adds

  pub end_counts_entries : EndCountsEntries tells start seating new
  end_counts_entries r parts are x y s sure goes =
      end_rises start seating.run r.served.log r.given r.left parts r.served.workers' r.served.forwarder r.served.forwarder' x y are r.served.count.1
      (passes_ran r) (forwarder_new r) (forwarder_stands r).1 r.served.forwarded (by_passes r) (last_number r) (r.served.closes.replays.begins x s).rules sure goes

  pub nothing_is_left : NothingIsLeft tells start seating new
  nothing_is_left r done = (
    none_left r done,
    λ x s c image.
        let p = r.served.closes.replays.leads x s in
        let none = none_left r done x p.after s p.goes in
        (p.after.spool, subst (λ (doubt : List SpoolState). StandsForOne p.after.spool doubt c) none.doubt (p.reached.spool.each c image), none.left_is, none.cursor),
  )

pub reports_count_links : ReportsCountLinks
reports_count_links run log given left parts are = reports_counted run log given left parts are
