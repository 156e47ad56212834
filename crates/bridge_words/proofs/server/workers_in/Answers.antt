use Rattle.std.proofs.Common.{◌∙◌, sym, ap}
use Rattle.desk_access.specs.declared.division.Division.{Division}
use Rattle.bridge_words.specs.Values.{rows_in, workers_in}
use Rattle.bridge_words.proofs.server.workers_in.Goals as goal

pub returns-in-Connections-clause-number : goal.returns-in-Connections-clause-number
returns-in-Connections-clause-number c =
    c.number_for.ensures.number ∙ ap (λ (d : Division). workers_in d (rows_in c.args.matches.now)) (sym c.in-Connections.is)
