use Rattle.std.proofs.Common.{◌∙◌, sym, subst}
use Rattle.bridge_core.specs.Leave.{MayReplay, MayTake, WasRead, MayRelease, WasWritten, HasExchangedAt, exchanges_as}
use Rattle.bridge_core.proofs.Leave.{replays_within, releases_within, tears_within}
use Rattle.bridge_cli.proofs.over.run_once.Goals as goal

pub bridge_once-status-requires-clause-replays : goal.bridge_once-status-requires-clause-replays
bridge_once-status-requires-clause-replays g c =
    let tells = g.D.Disk.tells in
    let moment = g.D.Disk.moment in
    let read = WasRead g.S.Object.same g.S.Source.given c.args.input.now in
    let take = MayTake g.K.Object.same g.K.Sink.taken g.K.Sink.permits c.args.output.now in
    λ command asks. replays_within tells moment (λ w. w.disk) c.noting-disk.result read take command
    (subst (λ d. MayReplay tells moment d read take command) (sym (c.noting-disk.ensures ∙ c.new.ensures)) (c.requires.replays command asks))

-- and what is received of the disk that is watched is so of the disk
pub bridge_once-status-requires-clause-releases : goal.bridge_once-status-requires-clause-releases
bridge_once-status-requires-clause-releases g c =
    let tells = g.D.Disk.tells in
    let moment = g.D.Disk.moment in
    let read = WasRead g.S.Object.same g.S.Source.given c.args.input.now in
    let written = WasWritten g.K.Object.same g.K.Sink.taken c.args.output.now in
    let at = HasExchangedAt g.N.L.Object.same g.N.L.Link.dialed g.N.L.Source.given g.N.L.Sink.taken in
    let exchanges = exchanges_as read written at in
    let release = g.D.Disk.may_release in
    λ command asks. releases_within tells moment (λ w. w.disk) c.noting-disk.result exchanges release command
    (subst (λ d. MayRelease tells moment d exchanges release command) (sym (c.noting-disk.ensures ∙ c.new.ensures)) (c.requires.releases command asks))

-- what may be written to the disk may be so to the one that is watched
pub bridge_once-status-requires-clause-tears : goal.bridge_once-status-requires-clause-tears
bridge_once-status-requires-clause-tears g c =
    λ command asks. tears_within g.D.Disk.tells g.D.Disk.moment (λ w. w.disk) g.D.Disk.may_tear g.D.Disk.may_release command (c.requires.tears command asks)

pub returns : goal.returns
returns g c =
    let done = c.bridge_once-status in
    record { run = (c.noting-disk.result, done.result.disk, c.noting-disk.ensures ∙ c.new.ensures, sym c.into_disk.ensures, (done.ensures.run, done.ensures.acknowledged)) }
