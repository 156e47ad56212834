-- Where a window goes on.
use Rattle.std.proofs.Common.{refl}
use Rattle.http_edge.proofs.LeavingLaws.{goes_fills}
use Rattle.http_edge.proofs.held.Held.go_on.Goals as goal

pub returns-clause-fills : goal.returns-clause-fills
returns-clause-fills c = goes_fills c.args.self.now _ c.args.at c.args.fault c.requires.fills c.requires.begun c.requires.unread c.requires.place refl
