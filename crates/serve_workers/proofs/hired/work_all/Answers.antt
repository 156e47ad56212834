use Rattle.std.proofs.Common.{sym, subst}
use Rattle.std.proofs.lemmas.List.Elements.{All-get_or}
use Rattle.serve_workers.specs.Crews.{IsReady}
use Rattle.serve_workers.specs.Answering.{MayAnswer}
use Rattle.serve_workers.proofs.hired.work_all.Goals as goal

pub for_each_mut-requires-clause-accepts : goal.for_each_mut-requires-clause-accepts
for_each_mut-requires-clause-accepts g c κs within =
    let seat = g.S.Seat in
    let workers = c.args.workers.now in
    λ i p lt is.
    let ready = All-get_or (λ w. IsReady seat.of_run w.number (seat.knows w.seat)) workers i p.now lt c.requires.ready in
    let says = All-get_or (λ w. MayAnswer seat.is_real seat.start seat.of_run w.number (g.P.Door.permits w.door) w.rules) workers i p.now lt c.requires.says in (
      (subst (λ w. IsReady seat.of_run w.number (seat.knows w.seat)) (sym is) ready, c.requires.talks),
      subst (λ w. MayAnswer seat.is_real seat.start seat.of_run w.number (g.P.Door.permits w.door) w.rules) (sym is) says,
    )
