use Rattle.std.proofs.Common.{ℕ, ◌∙◌, subst, ap}
use Rattle.desk_access.specs.Division.{first_conn}
use Rattle.serve_workers.specs.Answering.{MayAnswer}
use Rattle.serve_workers.proofs.worker.Worker.work.Goals as goal

pub serve_all-self-requires-clause-says : goal.serve_all-self-requires-clause-says
serve_all-self-requires-clause-says g c =
    let seat = g.S.Seat in
    let self = c.args.self.now in
    subst (λ (n : ℕ). MayAnswer seat.is_real seat.start seat.of_run n (g.P.Door.permits self.door) self.rules) c.requires.ready.0 c.requires.says

pub serve_all-self-requires-clause-first : goal.serve_all-self-requires-clause-first
serve_all-self-requires-clause-first g c = c.first_conn-first.ensures ∙ ap (first_conn g.S.Seat.of_run) c.requires.ready.0
