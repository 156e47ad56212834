use Rattle.std.proofs.Common.{◌≡◌, ◌∙◌, inl, inr, map, refl, sym, ap, subst, arith}
use Rattle.spool_log.specs.State.{view}
use Rattle.conn_serve.proofs.Faults.{counts_none}
use Rattle.notes.specs.declared.note.Note.{Note}
use Rattle.bridge_serve.specs.Opened.{IsOpenedFrom}
use Rattle.bridge_serve.proofs.Opening.{opened_only}
use Rattle.bridge_serve.specs.Answered.{WorkerMayAnswer, first_link}
use Rattle.bridge_serve.specs.Numbers.{MayTell}
use Rattle.bridge_serve.proofs.Answering.{stands_may}
use Rattle.bridge_serve.proofs.Causes.{net_bound, net_refused}
use Rattle.bridge_serve.proofs.Doors.{few_each, few_all, all_unused, none_unused, unused_doors, tells_same, may_dial}
use Rattle.bridge_serve.proofs.Ran.{run_binds_none, run_with, unserved_with}
use Rattle.bridge_serve.proofs.Releasing.{may_release}
use Rattle.bridge_serve.proofs.Reporting.{may_report}
use Rattle.bridge_serve.proofs.serving.serve.Goals as goal

pub returns-in-Err-clause-served : goal.returns-in-Err-clause-served
returns-in-Err-clause-served g c =
    let disk = c.unserved.ensures.disk in
    let note = c.unserved.ensures.note in
    let told = c.recover_note.ensures in
    let fault = c.in-Err.fault-is in
    inl (
      record {
        fault = c.in-Err.field-0.fault;
        note_is = cc;
        why = λ tells. c.in-Err.ensures.broken tells;
        any_moment = λ tells. rw disk (c.in-Err.ensures.any_moment tells);
      },
      record { same = refl; told = refl },
      ap (map (λ (door : _). g.N.P.Door.told door)) c.unserved.ensures.doors,
      record { same = refl; taken = refl; faults = refl },
    )

pub reserve-requires : goal.reserve-requires
reserve-requires g c = few_each c.args.server.division c.args.server.workers c.requires.workers

pub serve_posts-requires-clause-few : goal.serve_posts-requires-clause-few
serve_posts-requires-clause-few g c κs within =
    omega (arith, c.in-Ok-bind_places.ensures.few, few_all c.args.server.division c.args.server.workers c.requires.workers)

pub serve_posts-requires-clause-opened : goal.serve_posts-requires-clause-opened
serve_posts-requires-clause-opened g c κs within = rw c.of-before.ensures (record {
  calls = c.in-Ok.ensures.calls;
  opens = λ tells. c.in-Ok.ensures.opened tells;
  any_moment = λ tells. c.in-Ok.ensures.any_moment tells;
})

pub serve_posts-requires-clause-answers : goal.serve_posts-requires-clause-answers
serve_posts-requires-clause-answers g c κs within =
    λ i post at. subst (λ (given : _). WorkerMayAnswer g.D.Disk.tells (λ (d : _). g.D.Disk.moment d) given (first_link c.args.server.division i post.rules) (g.N.P.Door.permits post.door))
    (sym c.of-before.ensures)
    (stands_may g.D.Disk.tells (λ (d : _). g.D.Disk.moment d) c.args.disk c.args.server g.N.Net.permits i post.rules (g.N.P.Door.permits post.door) c.requires.answers
    (c.in-Ok-bind_places.ensures.stand i post at))

pub serve_posts-requires-clause-tells : goal.serve_posts-requires-clause-tells
serve_posts-requires-clause-tells g c κs within =
    subst (λ (given : _). MayTell g.D.Disk.tells (λ (d : _). g.D.Disk.moment d) given g.N.M.Monitor.may_tell) (sym c.of-before.ensures) c.requires.tells

pub serve_posts-requires-clause-dials : goal.serve_posts-requires-clause-dials
serve_posts-requires-clause-dials g c κs within = rw c.destination_of.ensures (may_dial c.args.server.forward g.N.Net.may_dial c.requires.dials)

pub serve_posts-requires-clause-releases : goal.serve_posts-requires-clause-releases
serve_posts-requires-clause-releases g c κs within = rw (c.of-before.ensures, c.destination_of.ensures)
    (may_release g.D.Disk.tells (λ (d : _). g.D.Disk.moment d) c.args.disk c.args.server.forward _ g.D.Disk.may_release c.requires.releases)

pub serve_posts-requires-clause-reports : goal.serve_posts-requires-clause-reports
serve_posts-requires-clause-reports g c κs within = rw (c.of-before.ensures, c.destination_of.ensures)
    (may_report g.D.Disk.tells (λ (d : _). g.D.Disk.moment d) c.args.disk c.args.server.forward _ g.N.Net.may_report c.requires.reports)

pub returns-in-Ok-bind_places-clause-served : goal.returns-in-Ok-bind_places-clause-served
returns-in-Ok-bind_places-clause-served g c =
    let bound = c.in-Ok-bind_places.ensures.bound in
    let told = c.in-Ok-bind_places.ensures.told in
    let cause = c.in-Ok-bind_places.ensures.cause in
    let rest = c.in-Ok-bind_places.ensures.rest in
    let ran = rw (c.of-before.ensures, c.destination_of.ensures) at c.serve_posts.ensures.ran in
    inr (elim ran [
      | inl none ↦
          let net = ap (λ (n : _). g.N.Net.told n) none.1 in
          let same = net_bound _ _ _ cause rest (ap (λ (n : _). n.bound) net) in
          inl (
            unserved_with _ _ _ _ _ _ _ _ _ same none.0,
            rw net (unused_doors c.args.server _ _ (λ (post : _). post.door) (λ (door : _). g.N.P.Door.told door) c.bind_places.new.posts.items _ none.2
                (all_unused c.args.server _ _ _ _ bound told)),
          )
      | inr run ↦
          let binds = run_binds_none _ _ _ _ _ _ run in
          let same = net_bound _ _ _ cause rest binds in
          inr (record { doors = _; rules = _; bound = bound; told = tells_same _ _ _ _ told binds; ran = run_with _ _ _ _ _ _ _ _ _ _ _ same run })
    ])

pub returns-in-Err-bind_places-clause-served : goal.returns-in-Err-bind_places-clause-served
returns-in-Err-bind_places-clause-served g c =
    let disk = c.into_disk-in-Err-bind_places.ensures in
    let why = net_refused (Unit {0}) c.in-Err-bind_places.fault _ _ _ c.net_note.ensures c.in-Err-bind_places.ensures.cause in
    let from : IsOpenedFrom g.D.Disk.tells (g.D.Disk.moment c.args.disk)
    (view c.in-Ok.spool.memory c.in-Ok.spool.doubt (g.D.Disk.moment c.in-Ok.spool.disk)) = record {
      calls = c.in-Ok.ensures.calls;
      opens = λ tells. c.in-Ok.ensures.opened tells;
      any_moment = λ tells. c.in-Ok.ensures.any_moment tells;
    } in
    inr (inl (
      record {
        why = why.0;
        opened = λ tells. rw disk (opened_only g.D.Disk.tells _ _ from tells);
        calls = rw disk c.in-Ok.ensures.calls;
        hung = c.in-Err-bind_places.ensures.rest;
        binds = why.1;
        silent = refl;
      },
      unused_doors c.args.server _ _ (λ (post : _). post.door) (λ (door : _). g.N.P.Door.told door) c.bind_places.new.posts.items _ c.into_doors.ensures
          c.in-Err-bind_places.ensures.err,
    ))

-- no memory was found for the posts
pub returns-in_default-clause-served : goal.returns-in_default-clause-served
returns-in_default-clause-served g c =
    let disk = c.unserved-in_default.ensures.disk ∙ c.into_disk.ensures in
    let note = c.unserved-in_default.ensures.note in
    let from : IsOpenedFrom g.D.Disk.tells (g.D.Disk.moment c.args.disk)
    (view c.in-Ok.spool.memory c.in-Ok.spool.doubt (g.D.Disk.moment c.in-Ok.spool.disk)) = record {
      calls = c.in-Ok.ensures.calls;
      opens = λ tells. c.in-Ok.ensures.opened tells;
      any_moment = λ tells. c.in-Ok.ensures.any_moment tells;
    } in
    inr (inl (
      record {
        why = inl note;
        opened = λ tells. rw disk (opened_only g.D.Disk.tells _ _ from tells);
        calls = rw disk c.in-Ok.ensures.calls;
        hung = record { hung = refl; read_faults = refl; write_faults = refl };
        binds = counts_none (c.unserved-in_default.result.note ≡ Note.NetFault) _ _ (λ by. let e = sym note ∙ by in cc) refl;
        silent = refl;
      },
      rw c.unserved-in_default.ensures.doors (none_unused c.args.server _ _ refl),
    ))
