use Rattle.std.proofs.Common.{[]}
use Rattle.std.proofs.lemmas.Bool.{both_ways}
use Rattle.spool_log.specs.State.{view}
use Rattle.bridge_skip.proofs.MarkedOne.{is_released, has_no_room, is_refused}
use Rattle.bridge_skip.proofs.releasing.release.Goals as goal

pub returns-then-is_known-clause-released : goal.returns-then-is_known-clause-released
returns-then-is_known-clause-released g c = λ s tells held.
    let old = view c.args.spool.now.memory c.args.spool.now.doubt (g.D.Disk.moment c.args.spool.now.disk) in
    let new = view c.mark.new.self.memory c.mark.new.self.doubt (g.D.Disk.moment c.mark.new.self.disk) in
    is_released s c.args.number old new held c.in-Ok.field-0 (c.in-Ok.ensures.marked s [] tells held) (c.is_known.ensures.0 c.if-is_known.true)

pub returns-else-is_known-clause-released : goal.returns-else-is_known-clause-released
returns-else-is_known-clause-released g c = λ s tells held.
    let old = view c.args.spool.now.memory c.args.spool.now.doubt (g.D.Disk.moment c.args.spool.now.disk) in
    let new = view c.mark.new.self.memory c.mark.new.self.doubt (g.D.Disk.moment c.mark.new.self.disk) in
    has_no_room s c.args.number old new held c.in-Ok.field-0 (c.in-Ok.ensures.marked s [] tells held)
    (λ known. both_ways c.is_known.result c.if-is_known.false (c.is_known.ensures.1 known))

pub returns-in-Err-clause-released : goal.returns-in-Err-clause-released
returns-in-Err-clause-released g c = λ s tells held.
    let old = view c.args.spool.now.memory c.args.spool.now.doubt (g.D.Disk.moment c.args.spool.now.disk) in
    let new = view c.mark.new.self.memory c.mark.new.self.doubt (g.D.Disk.moment c.mark.new.self.disk) in
    is_refused s c.args.number old new held c.in-Err.fault (c.in-Err.ensures.marked s [] tells held) c.confirm_note.result c.confirm_note.ensures
