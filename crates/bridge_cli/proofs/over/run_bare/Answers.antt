use Rattle.edge_memory.specs.contracts.memory.MemDiskDisk.TheImpl.{ghosts}
use Rattle.bridge_core.specs.Leave.{MayTake, WasRead, WasWritten, HasExchangedAt, exchanges_as}
use Rattle.bridge_core.proofs.OneCommand.{serves_existing}
use Rattle.bridge_core.proofs.Leave.{all_released, all_torn, nothing_replayed}
use Rattle.bridge_cli.proofs.Noting.{noted, no_memory}
use Rattle.bridge_cli.proofs.over.run_bare.Goals as goal

pub bridge_once-requires-clause-once : goal.bridge_once-requires-clause-once
bridge_once-requires-clause-once g c serves = c.requires.need.2 (serves_existing _ _ c.requires.need.1 serves)

pub bridge_once-requires-clause-replays : goal.bridge_once-requires-clause-replays
bridge_once-requires-clause-replays g c =
    let read = WasRead g.S.Object.same g.S.Source.given c.args.input.now in
    let take = MayTake g.K.Object.same g.K.Sink.taken g.K.Sink.permits c.args.output.now in
    nothing_replayed ghosts.tells ghosts.moment c.in-Ok.disk read take _ c.requires.need.0 c.requires.need.2 c.requires.need.1

-- a disk in memory lets any number become known
pub bridge_once-requires-clause-releases : goal.bridge_once-requires-clause-releases
bridge_once-requires-clause-releases g c =
    let read = WasRead g.S.Object.same g.S.Source.given c.args.input.now in
    let written = WasWritten g.K.Object.same g.K.Sink.taken c.args.output.now in
    let at = HasExchangedAt g.N.L.Object.same g.N.L.Link.dialed g.N.L.Source.given g.N.L.Sink.taken in
    λ command asks. all_released ghosts.tells ghosts.moment c.in-Ok.disk (exchanges_as read written at) ghosts.may_release (λ n. tt) command

-- and anything be written to it
pub bridge_once-requires-clause-tears : goal.bridge_once-requires-clause-tears
bridge_once-requires-clause-tears g c = λ command asks. all_torn ghosts.tells ghosts.moment ghosts.may_tear ghosts.may_release (λ disk at n. tt) command

pub returns-in-Ok : goal.returns-in-Ok
returns-in-Ok g c = record { noted = noted _ _ _ c.bridge_once.ensures.run }

pub returns-in-Err : goal.returns-in-Err
returns-in-Err g c = record { noted = no_memory _ _ }
