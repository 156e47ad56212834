use Rattle.std.proofs.Common.{◌≤◌, ◌∙◌, inl, inr, refl, sym, ap, subst, arith}
use Rattle.std.proofs.lemmas.List.{length-map}
use Rattle.edge_disk.specs.Calls.{Calls}
use Rattle.edge_disk.specs.Disk.{LeavesOnly}
use Rattle.spool_log.specs.declared.opening.Opening.TheVariants.{Raise}
use Rattle.spool_log.specs.Memory.{run_of}
use Rattle.spool_log.specs.Opening.{opened, IsOpening}
use Rattle.desk_access.specs.Division.{divided}
use Rattle.spool_desk.specs.Alone.{alone_at, IsAt}
use Rattle.bridge_serve.specs.Opened.{IsOpenedOnly}
use Rattle.bridge_parts.proofs.Desks.{desk_at}
use Rattle.bridge_serve.proofs.Answering.{worker_may}
use Rattle.bridge_serve.proofs.Asked.{levels_may}
use Rattle.bridge_serve.proofs.Releasing.{forwarder_may, if_some}
use Rattle.bridge_serve.proofs.Reporting.{forwarder_reports}
use Rattle.bridge_serve.proofs.Opening.{desk_is, began_at, opened_only, given_back, given_calls, ran_over, if_err}
use Rattle.bridge_serve.proofs.running.run_over.Goals as goal

pub run_named-requires-clause-name : goal.run_named-requires-clause-name
run_named-requires-clause-name g c κs within =
    let old = g.D.Disk.moment c.args.before.value in
    let desk = c.in-Ok.ensures.desk in record {
      table_is = refl;
      run_is = refl;
      start_is = λ x is.
          let d = desk_is g.D.Disk.tells _ _ x c.requires.opened.opens is in (
            is.0,
            subst (λ (y : _). IsAt y (alone_at c.in-Ok.unnamed.alone)) (sym d.desk)
                (desk_at (opened Raise d.state) c.new-ids.result c.run.result _ c.new-ids.ensures (c.run.ensures ∙ d.held.knows.run)
                (c.in-Ok.ensures.at (opened Raise d.state) is.0 d.held)),
          );
      began_is = began_at g.D.Disk.tells old _ (subst (λ (d : _). Calls ⊥ old (g.D.Disk.moment d.spool.disk)) (sym desk) c.requires.opened.calls)
          (λ told. subst (λ (d : _). LeavesOnly (IsOpening Raise old) old (g.D.Disk.moment d.spool.disk)) (sym desk) (c.requires.opened.any_moment told));
    }

pub run_named-requires-clause-says : goal.run_named-requires-clause-says
run_named-requires-clause-says g c κs within =
    let old = g.D.Disk.moment c.args.before.value in
    let unnamed = c.in-Ok.unnamed in
    let from = c.requires.opened in
    let later = λ (told : g.D.Disk.tells). subst (λ (d : _). old.clock ≤ (g.D.Disk.moment d.spool.disk).clock) (sym c.in-Ok.ensures.desk)
    (from.any_moment told).later in
    λ i post at. worker_may g.D.Disk c.args.before.value c.args.spool.disk c.args.spool.memory c.args.spool.doubt _ _ (divided c.args.division unnamed.run) _ from later
    (λ x is. let d = desk_is g.D.Disk.tells _ _ x from.opens is in
    ap (λ (y : _). y.spool.run) d.desk ∙ sym (unnamed.run_is ∙ ap (λ (k : _). run_of k.spool.memory) c.in-Ok.ensures.desk ∙ d.held.knows.run))
    i post.rules (g.N.P.Door.permits post.door) (c.requires.answers i post at)

pub run_named-requires-clause-earned : goal.run_named-requires-clause-earned
run_named-requires-clause-earned g c κs within =
    let old = g.D.Disk.moment c.args.before.value in
    let from = c.requires.opened in
    let later = λ (told : g.D.Disk.tells). subst (λ (d : _). old.clock ≤ (g.D.Disk.moment d.spool.disk).clock) (sym c.in-Ok.ensures.desk)
    (from.any_moment told).later in
    if_some c.args.destination _ _
    (λ d may. forwarder_may g.D.Disk c.args.before.value c.args.spool.disk c.args.spool.memory c.args.spool.doubt _ _ (divided c.args.division c.in-Ok.unnamed.run) _ from later
    d.now.outward _ g.D.Disk.may_release may) c.requires.releases

pub run_named-requires-clause-reports : goal.run_named-requires-clause-reports
run_named-requires-clause-reports g c κs within =
    let old = g.D.Disk.moment c.args.before.value in
    let from = c.requires.opened in
    let later = λ (told : g.D.Disk.tells). subst (λ (d : _). old.clock ≤ (g.D.Disk.moment d.spool.disk).clock) (sym c.in-Ok.ensures.desk)
    (from.any_moment told).later in
    if_some c.args.destination _ _
    (λ d may. forwarder_reports g.D.Disk c.args.before.value c.args.spool.disk c.args.spool.memory c.args.spool.doubt _ _ (divided c.args.division c.in-Ok.unnamed.run) _ from later
    d.now.outward _ (g.N.Net.may_report d.now.place) may) c.requires.reports

pub run_named-requires-clause-tells : goal.run_named-requires-clause-tells
run_named-requires-clause-tells g c κs within =
    let old = g.D.Disk.moment c.args.before.value in
    let from = c.requires.opened in
    let later = λ (told : g.D.Disk.tells). subst (λ (d : _). old.clock ≤ (g.D.Disk.moment d.spool.disk).clock) (sym c.in-Ok.ensures.desk)
    (from.any_moment told).later in
    levels_may g.D.Disk c.args.before.value c.args.spool.disk c.args.spool.memory c.args.spool.doubt _ _ (divided c.args.division c.in-Ok.unnamed.run) _ from later
    g.N.M.Monitor.may_tell c.requires.tells

pub returns-in-Ok-clause-over : goal.returns-in-Ok-clause-over
returns-in-Ok-clause-over g c =
    let old = g.D.Disk.moment c.args.before.value in
    let later = λ (told : g.D.Disk.tells). subst (λ (d : _). old.clock ≤ (g.D.Disk.moment d.spool.disk).clock) (sym c.in-Ok.ensures.desk)
    (c.requires.opened.any_moment told).later in
    ran_over g.N.P.Door.told c.args.before.value _ _ _ _ _ _ _ c.run_named.result c.requires.opened later
    (omega (arith, c.args.posts.ok.0, length-map c.args.posts.items (λ (post : _). g.N.P.Door.told post.door))) c.run_named.ensures.served

pub returns-in-Ok-clause-err : goal.returns-in-Ok-clause-err
returns-in-Ok-clause-err g c =
    let old = g.D.Disk.moment c.args.before.value in
    let tells = g.D.Disk.tells in
    let from = c.requires.opened in
    let later = λ (told : g.D.Disk.tells). subst (λ (d : _). old.clock ≤ (g.D.Disk.moment d.spool.disk).clock) (sym c.in-Ok.ensures.desk)
    (from.any_moment told).later in
    if_err _ _ c.run_named.result (λ none is. elim is.2 [
      | inl same ↦
          let whole = same ∙ c.in-Ok.ensures.desk in (
            is.0,
            is.1,
            subst (λ (d : _). Calls ⊥ old (g.D.Disk.moment d.spool.disk)) (sym whole) from.calls,
            λ told. subst (λ (d : _). IsOpenedOnly old (g.D.Disk.moment d.spool.disk)) (sym whole) (opened_only tells old _ from told),
          )
      | inr made ↦ (is.0, is.1, given_calls tells old _ _ _ _ _ _ made, given_back tells old _ _ _ _ _ _ from later made)
    ]) c.run_named.ensures.err

pub returns-in-Err-clause-err : goal.returns-in-Err-clause-err
returns-in-Err-clause-err g c =
    let old = g.D.Disk.moment c.args.before.value in
    let whole = c.in-Err.ensures.err in (
      refl,
      refl,
      subst (λ (d : _). Calls ⊥ old (g.D.Disk.moment d.spool.disk)) (sym whole) c.requires.opened.calls,
      λ told. subst (λ (d : _). IsOpenedOnly old (g.D.Disk.moment d.spool.disk)) (sym whole) (opened_only g.D.Disk.tells old _ c.requires.opened told),
    )
