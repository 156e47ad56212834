use Rattle.std.proofs.Common.{ℕ, ◌∙◌, sym, ap, subst}
use Rattle.std.specs.Prelude.{All, Err}
use Rattle.std.proofs.lemmas.Result.{err_from_is_err_and}
use Rattle.spool_log.specs.State.{view}
use Rattle.spool_answers.specs.Mark.{EndsBy}
use Rattle.spool_desk.specs.Alone.{alone_at}
use Rattle.spool_desk.proofs.Making.{mark_makes, mark_stops, not_outside, ran_of}
use Rattle.spool_desk.proofs.alone.AloneAccess.mark.Goals as goal

pub returns-in_err-mend-clause-makes : goal.returns-in_err-mend-clause-makes
returns-in_err-mend-clause-makes g c =
    let met = c.in_err-mend.ensures in
    let p = err_from_is_err_and c.from_residual.result c.from_residual.ensures.1 in
    mark_stops g.D.Disk.tells (alone_at c.args.self.now) (alone_at c.mend.new.self) c.args.known.now c.in_err-mend.field-0.0 c.from_residual.result (p.1 ∙ ap Err p.2) c.requires.numbers
    (record { mended = met.mended; calls = met.calls; keeps = record { end_stays = met.same.1; cursor_stays = met.same.2 } })

pub returns-in_err-mend-clause-ran : goal.returns-in_err-mend-clause-ran
returns-in_err-mend-clause-ran g c = ran_of _ _ _ _ (returns-in_err-mend-clause-makes g c)

pub returns-then-not-end_by-clause-makes : goal.returns-then-not-end_by-clause-makes
returns-then-not-end_by-clause-makes g c =
    let met = c.in_ok-mend.ensures in
    let b = c.mend.new.self in
    let spool = c.mark.new.self in
    let ends = subst (λ (n : ℕ). All (EndsBy n) c.args.known.now) (sym met.same.1) c.requires.numbers in
    mark_makes g.D.Disk.tells (alone_at c.args.self.now) (alone_at b) (view spool.memory spool.doubt (g.D.Disk.moment spool.disk)) c.args.known.now c.mark.result c.in_ok-mend.field-0 c.requires.numbers
    (record { mended = met.mended; calls = met.calls; keeps = record { end_stays = met.same.1; cursor_stays = met.same.2 } }) c.mark.ensures.calls
    (λ m tells at. absurd (not_outside m (alone_at b) c.args.known.now c.end.result c.end_by.result at ends c.end.ensures.end c.end_by.ensures.1 c.if-not-end_by.true))

pub returns-then-not-end_by-clause-ran : goal.returns-then-not-end_by-clause-ran
returns-then-not-end_by-clause-ran g c = ran_of _ _ _ _ (returns-then-not-end_by-clause-makes g c)

pub returns-clause-makes : goal.returns-clause-makes
returns-clause-makes g c =
    let met = c.in_ok-mend.ensures in
    let spool = c.mark-2.new.self in
    mark_makes g.D.Disk.tells (alone_at c.args.self.now) (alone_at c.mend.new.self) (view spool.memory spool.doubt (g.D.Disk.moment spool.disk)) c.args.known.now c.mark-2.result c.in_ok-mend.field-0 c.requires.numbers
    (record { mended = met.mended; calls = met.calls; keeps = record { end_stays = met.same.1; cursor_stays = met.same.2 } }) c.mark-2.ensures.calls (λ m tells at. c.mark-2.ensures.marked m.spool m.doubt tells at.spool)

pub returns-clause-ran : goal.returns-clause-ran
returns-clause-ran g c = ran_of _ _ _ _ (returns-clause-makes g c)
