use Rattle.std.proofs.Common.{◌∙◌, length, sym, ap, subst, arith}
use Rattle.desk_access.proofs.Dividing.{callers_few}
use Rattle.serve_workers.specs.Crews.{AreNew}
use Rattle.serve_workers.proofs.Placing.{fresh_new, fresh_many}
use Rattle.bridge_serve.proofs.Releasing.{any_some}
use Rattle.bridge_serve.proofs.running.run_named.Goals as goal

pub serve-requires-clause-many : goal.serve-requires-clause-many
serve-requires-clause-many g c κs within = (
  omega (arith, c.in-Ok.opened.passes.ok.0, ap length c.in-Ok.ensures.passes ∙ fresh_many 0 _ _ _, c.len.ensures, c.requires.few, callers_few g.J.Naming.run.division),
  c.requires.few,
  c.requires.seats,
)

pub serve-requires-clause-new : goal.serve-requires-clause-new
serve-requires-clause-new g c κs within = subst (AreNew 0) (sym c.in-Ok.ensures.passes) (fresh_new 0 _ _ _)

pub serve-requires-clause-tells : goal.serve-requires-clause-tells
serve-requires-clause-tells g c κs within = any_some c.args.monitor _ (λ _. c.requires.tells)
