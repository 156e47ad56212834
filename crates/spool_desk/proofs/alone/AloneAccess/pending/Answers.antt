use Rattle.std.proofs.Common.{◌≡◌, ℕ, ◌^◌, ◌∙◌, ap, subst, arith}
use Rattle.std.specs.Prelude.{Err}
use Rattle.std.proofs.lemmas.Result.{err_from_is_err_and, IfOk-weaker}
use Rattle.spool_log.specs.Memory.{end_of}
use Rattle.spool_log.specs.State.{view}
use Rattle.spool_log.specs.Outcome.{PendsFrom}
use Rattle.spool_answers.specs.Pend.{AreNumbered}
use Rattle.spool_desk.specs.Alone.{alone_at}
use Rattle.spool_desk.proofs.Making.{pend_makes, pend_stops, within_end, numbered_wider, ran_of}
use Rattle.spool_desk.proofs.alone.AloneAccess.pending.Goals as goal

pub returns-in_err-mend-clause-makes : goal.returns-in_err-mend-clause-makes
returns-in_err-mend-clause-makes g c =
    let met = c.in_err-mend.ensures in
    let p = err_from_is_err_and c.from_residual.result c.from_residual.ensures.1 in
    pend_stops g.D.Disk.tells (alone_at c.args.self.now) (alone_at c.mend.new.self) c.args.from c.args.most c.in_err-mend.field-0.0 c.from_residual.result (p.1 ∙ ap Err p.2)
    (record { mended = met.mended; calls = met.calls; keeps = record { end_stays = met.same.1; cursor_stays = met.same.2 } })

pub returns-in_err-mend-clause-ran : goal.returns-in_err-mend-clause-ran
returns-in_err-mend-clause-ran g c = ran_of _ _ _ _ (returns-in_err-mend-clause-makes g c)

pub returns-clause-makes : goal.returns-clause-makes
returns-clause-makes g c =
    let met = c.in_ok-mend.ensures in
    let b = c.mend.new.self in
    let spool = c.pending.new.self in
    let new = view spool.memory spool.doubt (g.D.Disk.moment spool.disk) in
    let old = view b.desk.spool.memory b.desk.spool.doubt (g.D.Disk.moment b.desk.spool.disk) in
    pend_makes g.D.Disk.tells (alone_at c.args.self.now) (alone_at b) new c.args.from c.args.most c.pending.result c.in_ok-mend.field-0
    (record { mended = met.mended; calls = met.calls; keeps = record { end_stays = met.same.1; cursor_stays = met.same.2 } }) c.pending.ensures.calls
    (λ m tells at.
    let same : c.min-from.result ≡ c.args.from = omega (arith, c.min-from.ensures, c.end.ensures.end, within_end m (alone_at b) c.args.from at (omega (arith, c.requires.number, met.same.1))) in
    subst (λ (n : ℕ). PendsFrom m.spool m.doubt n c.args.most c.pending.result old new) same (c.pending.ensures.pends m.spool m.doubt tells at.spool))

pub returns-clause-ran : goal.returns-clause-ran
returns-clause-ran g c = ran_of _ _ _ _ (returns-clause-makes g c)

pub returns-clause-numbered : goal.returns-clause-numbered
returns-clause-numbered g c =
    let memory = c.pending.new.self.memory in
    IfOk-weaker c.pending.result (λ given. AreNumbered c.min-from.result (end_of memory) given.items) (λ given. AreNumbered 0 (2 ^ 63) given.items)
    (λ given all. numbered_wider c.min-from.result 0 (end_of memory) (2 ^ 63) given.items (omega arith) (omega (arith, memory.active_lies.ends)) all) c.pending.ensures.numbered
