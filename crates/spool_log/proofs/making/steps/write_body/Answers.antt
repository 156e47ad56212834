use Rattle.std.proofs.Common.{◌≡◌, ◌≤◌, length, sym, ◌∙◌, subst, arith}
use Rattle.std.proofs.lemmas.Nat.{row_fits}
use Rattle.edge_disk.proofs.Moments.{from_settled, untouched}
use Rattle.spool_state.specs.Image.{slot_at}
use Rattle.spool_state.specs.Empty.{IsBody}
use Rattle.spool_log.specs.Making.Format.{KeepsFront}
use Rattle.spool_log.proofs.Scans.Faults.{on_ok}
use Rattle.spool_log.proofs.Formats.Fronts.{come_then, front_kept}
use Rattle.spool_log.proofs.making.steps.write_body.Goals as goal

pub returns-in_err-close_slots-clause-any_moment : goal.returns-in_err-close_slots-clause-any_moment
returns-in_err-close_slots-clause-any_moment g c = λ tells.
    from_settled (KeepsFront 8) _ _ (c.requires.settled tells) (come_then _ _ _ (c.write_front.ensures.any_moment tells) (c.close_slots.ensures.any_moment tells))

pub returns-clause-written : goal.returns-clause-written
returns-clause-written g c =
    on_ok c.sync.result _ _ c.sync.ensures.durable (λ settled tells.
    let layout = c.requires.layout in
    let size = c.args.size in
    let reads = (g.D.Disk.moment c.write_front.new.disk).reads in
    let long : length reads ≡ slot_at size c.args.slots = (g.met.D.Disk.lawful c.write_front.new.disk tells).reads_size ∙ c.write_front.ensures.calls.size ∙ layout.long in
    let first : slot_at size 1 ≤ length reads = omega (arith, long, layout.large, row_fits 0 size c.args.slots size layout.some (omega arith)) in
    let front = front_kept c.args.slots size reads (g.D.Disk.moment c.close_slots.new.disk).reads (omega (arith, first, layout.large)) layout.large (c.in_ok-close_slots.ensures.kept tells) first (c.in_ok-write_front.ensures.written tells) in
    let body : IsBody c.args.slots size (g.D.Disk.moment c.close_slots.new.disk).reads = record { front = front; others = c.in_ok-close_slots.ensures.closed tells } in
    subst (IsBody c.args.slots size) (sym (c.sync.ensures.told tells).same) body)

pub returns-clause-any_moment : goal.returns-clause-any_moment
returns-clause-any_moment g c = λ tells.
    untouched _ _ _ _ (from_settled (KeepsFront 8) _ _ (c.requires.settled tells) (come_then _ _ _ (c.write_front.ensures.any_moment tells) (c.close_slots.ensures.any_moment tells))) (c.sync.ensures.told tells)
