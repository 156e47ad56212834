use Rattle.std.proofs.Common.{◌≡◌, List}
use Rattle.std.specs.Prelude.{None}
use Rattle.serve_forwarder.specs.Looks.{Look, AreInTurn, AreLooks, forwarder_at}
use Rattle.serve_forwarder.proofs.Turning.{stuck_through}
use Rattle.serve_forwarder.proofs.beside.forward_beside.Given as goal

abbrev pub invariant-looks : goal.invariant-looks
invariant-looks g l =
    (looks : List Look) × AreLooks g.S.Seat.start l.fn.destination looks (forwarder_at (g.S.Seat.knows l.fn.seat) (g.N.Net.told l.fn.net)) (forwarder_at (g.S.Seat.knows l.seat) (g.N.Net.told l.net))
    × AreInTurn None looks × (l.stuck ≡ stuck_through None looks)
