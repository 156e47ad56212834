use Rattle.std.proofs.Common.{◌≡◌, ℕ, ◌∙◌, ap, subst, arith}
use Rattle.std.specs.Prelude.{Err}
use Rattle.std.proofs.lemmas.Result.{err_from_is_err_and}
use Rattle.spool_log.specs.State.{view}
use Rattle.spool_answers.specs.Mark.{all_below}
use Rattle.spool_log.specs.Outcome.{MarksFrom}
use Rattle.spool_desk.specs.Alone.{alone_at}
use Rattle.spool_desk.proofs.Making.{confirm_makes, confirm_stops, within_end, ran_of}
use Rattle.spool_desk.proofs.alone.AloneAccess.confirm.Goals as goal

pub returns-in_err-mend-clause-makes : goal.returns-in_err-mend-clause-makes
returns-in_err-mend-clause-makes g c =
    let met = c.in_err-mend.ensures in
    let p = err_from_is_err_and c.from_residual.result c.from_residual.ensures.1 in
    confirm_stops g.D.Disk.tells (alone_at c.args.self.now) (alone_at c.mend.new.self) c.args.upto c.in_err-mend.field-0.0 c.from_residual.result (p.1 ∙ ap Err p.2) c.requires.number
    (record { mended = met.mended; calls = met.calls; keeps = record { end_stays = met.same.1; cursor_stays = met.same.2 } })

pub returns-in_err-mend-clause-ran : goal.returns-in_err-mend-clause-ran
returns-in_err-mend-clause-ran g c = ran_of _ _ _ _ (returns-in_err-mend-clause-makes g c)

pub returns-clause-makes : goal.returns-clause-makes
returns-clause-makes g c =
    let met = c.in_ok-mend.ensures in
    let b = c.mend.new.self in
    let spool = c.confirm.new.self in
    let new = view spool.memory spool.doubt (g.D.Disk.moment spool.disk) in
    let old = view b.desk.spool.memory b.desk.spool.doubt (g.D.Disk.moment b.desk.spool.disk) in
    confirm_makes g.D.Disk.tells (alone_at c.args.self.now) (alone_at b) new c.args.upto c.confirm.result c.in_ok-mend.field-0 c.requires.number
    (record { mended = met.mended; calls = met.calls; keeps = record { end_stays = met.same.1; cursor_stays = met.same.2 } }) c.confirm.ensures.calls
    (λ m tells at.
    let same : c.min-upto.result ≡ c.args.upto = omega (arith, c.min-upto.ensures, c.end.ensures.end, within_end m (alone_at b) c.args.upto at (omega (arith, c.requires.number, met.same.1))) in
    subst (λ (n : ℕ). MarksFrom m.spool m.doubt (all_below n) c.confirm.result old new) same (c.confirm.ensures.confirmed m.spool m.doubt tells at.spool))

pub returns-clause-ran : goal.returns-clause-ran
returns-clause-ran g c = ran_of _ _ _ _ (returns-clause-makes g c)
