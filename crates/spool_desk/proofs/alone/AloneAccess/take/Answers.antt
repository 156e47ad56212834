use Rattle.std.proofs.Common.{◌∙◌, sym, ap, length}
use Rattle.std.proofs.lemmas.Bool.{eqb-true}
use Rattle.std.specs.Prelude.{Err}
use Rattle.std.proofs.lemmas.Result.{err_from_is_err_and}
use Rattle.spool_log.specs.State.{view}
use Rattle.spool_desk.specs.Alone.{alone_at}
use Rattle.spool_desk.proofs.Making.{some_entries, take_makes, take_stops, empty_makes, ran_of}
use Rattle.spool_desk.proofs.alone.AloneAccess.take.Goals as goal

pub returns-then-is_empty-clause-makes : goal.returns-then-is_empty-clause-makes
returns-then-is_empty-clause-makes g c =
    let a = c.args.self.now in
    let spool = c.take.new.self in
    let nothing = c.take.ensures.nothing (eqb-true (length c.args.entries.now) 0 (sym c.is_empty.ensures ∙ c.if-is_empty.true)) in
    empty_makes g.D.Disk.tells (alone_at a) c.args.entries.now c.take.result c.standing.result (view spool.memory spool.doubt (g.D.Disk.moment spool.disk))
    (λ i. let s = nothing.0 i in view s.memory s.doubt (g.D.Disk.moment s.disk)) c.standing.ensures (g.met.D.Disk.lawful a.desk.spool.disk) (eqb-true (length c.args.entries.now) 0 (sym c.is_empty.ensures ∙ c.if-is_empty.true)) nothing.1

pub returns-then-is_empty-clause-ran : goal.returns-then-is_empty-clause-ran
returns-then-is_empty-clause-ran g c = ran_of _ _ _ _ (returns-then-is_empty-clause-makes g c)

pub returns-in_err-mend-clause-makes : goal.returns-in_err-mend-clause-makes
returns-in_err-mend-clause-makes g c =
    let met = c.in_err-mend.ensures in
    let p = err_from_is_err_and c.from_residual.result c.from_residual.ensures.1 in
    take_stops g.D.Disk.tells (alone_at c.args.self.now) (alone_at c.mend.new.self) c.args.entries.now c.in_err-mend.field-0.0 c.from_residual.result (p.1 ∙ ap Err p.2) (some_entries (length c.args.entries.now) c.is_empty.result c.is_empty.ensures c.if-is_empty.false) c.requires.limits
    (record { mended = met.mended; calls = met.calls; keeps = record { end_stays = met.same.1; cursor_stays = met.same.2 } })

pub returns-in_err-mend-clause-ran : goal.returns-in_err-mend-clause-ran
returns-in_err-mend-clause-ran g c = ran_of _ _ _ _ (returns-in_err-mend-clause-makes g c)

pub returns-clause-makes : goal.returns-clause-makes
returns-clause-makes g c =
    let met = c.in_ok-mend.ensures in
    let spool = c.take-2.new.self in
    take_makes g.D.Disk.tells (alone_at c.args.self.now) (alone_at c.mend.new.self) (view spool.memory spool.doubt (g.D.Disk.moment spool.disk)) c.args.entries.now c.take-2.result c.in_ok-mend.field-0 (some_entries (length c.args.entries.now) c.is_empty.result c.is_empty.ensures c.if-is_empty.false) c.requires.limits
    (record { mended = met.mended; calls = met.calls; keeps = record { end_stays = met.same.1; cursor_stays = met.same.2 } }) c.take-2.ensures.calls c.take-2.ensures.taken

pub returns-clause-ran : goal.returns-clause-ran
returns-clause-ran g c = ran_of _ _ _ _ (returns-clause-makes g c)
