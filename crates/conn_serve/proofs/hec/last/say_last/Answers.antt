use Rattle.std.proofs.Common.{ℕ, List, sym, subst}
use Rattle.edge_io.specs.Told.{MayFollow}
use Rattle.conn_serve.proofs.hec.last.say_last.Goals as goal

pub say-requires : goal.say-requires
say-requires g c = record { permitted = subst (λ (t : List ℕ). MayFollow (g.L.Sink.permits c.args.link.now) (g.L.Sink.taken c.args.link.now) t) (sym c.text.ensures) c.requires.permitted }
