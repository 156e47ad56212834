-- What contracts see of a window that goes on.
use Rattle.std.proofs.Common.{◌≡◌, [], sym, ap, subst}
use Rattle.std.specs.Prelude.{None}
use Rattle.http_edge.specs.Filling.{window_of}
use Rattle.http_edge.specs.Window.{Window}
use Rattle.http_edge.proofs.window.HttpWindow.go_on.Goals as goal

pub go_on-requires-clause-begun : goal.go_on-requires-clause-begun
go_on-requires-clause-begun c = subst (λ (w : Window). w.reading.begun ≡ None) (sym c.self.view_is) c.requires.begun

pub go_on-requires-clause-unread : goal.go_on-requires-clause-unread
go_on-requires-clause-unread c = subst (λ (w : Window). w.reading.unread ≡ []) (sym c.self.view_is) c.requires.unread

pub returns : goal.returns
returns c =
    let new = c.go_on.new.self in
    subst (λ (w : Window). window_of new ≡ record w { reading = record w.reading { at = c.args.at; fault = c.args.fault } }) c.self.view_is (ap window_of c.go_on.ensures.moved)
