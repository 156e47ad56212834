use Rattle.std.proofs.Common.{◌∙◌, sym, subst}
use Rattle.bridge_core.specs.Leave.{MayAnswer, MayReplay, MayTake, WasRead, MayRelease, WasWritten, HasExchangedAt, exchanges_as, MayTell, MayReport}
use Rattle.bridge_core.proofs.Leave.{answers_within, replays_within, releases_within, tells_within, reports_within, tears_within}
use Rattle.bridge_cli.proofs.over.run_serving.Goals as goal

-- what is durable on the disk that is watched is so on the disk
pub bridge-status-requires-clause-answers : goal.bridge-status-requires-clause-answers
bridge-status-requires-clause-answers g c κs within =
    let tells = g.D.Disk.tells in
    let moment = g.D.Disk.moment in
    let permits = g.N.Net.permits in
    λ command asks. answers_within tells moment (λ w. w.disk) c.noting-disk.result permits command
    (subst (λ d. MayAnswer tells moment d permits command) (sym (c.noting-disk.ensures ∙ c.new.ensures)) (c.requires.answers command asks))

pub bridge-status-requires-clause-replays : goal.bridge-status-requires-clause-replays
bridge-status-requires-clause-replays g c κs within =
    let tells = g.D.Disk.tells in
    let moment = g.D.Disk.moment in
    let read = WasRead g.S.Object.same g.S.Source.given c.args.input.now in
    let take = MayTake g.K.Object.same g.K.Sink.taken g.K.Sink.permits c.args.output.now in
    λ command asks. replays_within tells moment (λ w. w.disk) c.noting-disk.result read take command
    (subst (λ d. MayReplay tells moment d read take command) (sym (c.noting-disk.ensures ∙ c.new.ensures)) (c.requires.replays command asks))

-- those who ask may be told the numbers of the spool on it
pub bridge-status-requires-clause-tells : goal.bridge-status-requires-clause-tells
bridge-status-requires-clause-tells g c κs within =
    let tells = g.D.Disk.tells in
    let moment = g.D.Disk.moment in
    let may = g.N.M.Monitor.may_tell in
    λ command asks. tells_within tells moment (λ w. w.disk) c.noting-disk.result may command
    (subst (λ d. MayTell tells moment d may command) (sym (c.noting-disk.ensures ∙ c.new.ensures)) (c.requires.tells command asks))

-- what holds the forwarding up may be reported by calls on it
pub bridge-status-requires-clause-reports : goal.bridge-status-requires-clause-reports
bridge-status-requires-clause-reports g c κs within =
    let tells = g.D.Disk.tells in
    let moment = g.D.Disk.moment in
    let at = HasExchangedAt g.N.L.Object.same g.N.L.Link.dialed g.N.L.Source.given g.N.L.Sink.taken in
    let report = g.N.Net.may_report in
    λ command asks. reports_within tells moment (λ w. w.disk) c.noting-disk.result at report command
    (subst (λ d. MayReport tells moment d at report command) (sym (c.noting-disk.ensures ∙ c.new.ensures)) (c.requires.reports command asks))

-- and what is received of the disk that is watched is so of the disk
pub bridge-status-requires-clause-releases : goal.bridge-status-requires-clause-releases
bridge-status-requires-clause-releases g c κs within =
    let tells = g.D.Disk.tells in
    let moment = g.D.Disk.moment in
    let read = WasRead g.S.Object.same g.S.Source.given c.args.input.now in
    let written = WasWritten g.K.Object.same g.K.Sink.taken c.args.output.now in
    let at = HasExchangedAt g.N.L.Object.same g.N.L.Link.dialed g.N.L.Source.given g.N.L.Sink.taken in
    let exchanges = exchanges_as read written at in
    let release = g.D.Disk.may_release in
    λ command asks. releases_within tells moment (λ w. w.disk) c.noting-disk.result exchanges release command
    (subst (λ d. MayRelease tells moment d exchanges release command) (sym (c.noting-disk.ensures ∙ c.new.ensures)) (c.requires.releases command asks))

-- what may be written to the disk may be so to the one that is watched
pub bridge-status-requires-clause-tears : goal.bridge-status-requires-clause-tears
bridge-status-requires-clause-tears g c κs within =
    λ command asks. tears_within g.D.Disk.tells g.D.Disk.moment (λ w. w.disk) g.D.Disk.may_tear g.D.Disk.may_release command (c.requires.tears command asks)

pub returns : goal.returns
returns g c =
    let done = c.bridge-status in
    record { run = (c.noting-disk.result, done.result.disk, c.noting-disk.ensures ∙ c.new.ensures, sym c.into_disk.ensures, (done.ensures.run, done.ensures.acknowledged)) }
