use Rattle.std.proofs.Common.{◌≡◌, ℕ, ◌+◌, ◌*◌, ◌<◌, ◌≤◌, [], ◌∷◌, ◌∙◌, ap, arith}
use Rattle.std.proofs.lemmas.Bool.{false≢true}
use Rattle.std.proofs.lemmas.Nat.{row_fits}
use Rattle.foundation.specs.Bytes.{put}
use Rattle.edge_disk.proofs.Calls.{calls_on, calls_as}
use Rattle.spool_state.specs.Image.{slot_at}
use Rattle.spool_log.proofs.Formats.Fronts.{keeps_then, keeps_change, come_more, closed_more}
use Rattle.spool_log.proofs.making.steps.close_slots.Goals as goal

pub returns-in_err-write_at-clause-any_moment : goal.returns-in_err-write_at-clause-any_moment
returns-in_err-write_at-clause-any_moment g c = λ tells.
    come_more _ _ _ (12288 + c.from.result * c.args.size) 1 (omega arith) (c.loop-place.invariant.run tells) (c.write_at.ensures.told tells)

pub loop-place-preserved : goal.loop-place-preserved
loop-place-preserved g c =
    let inv = c.loop-place.invariant in
    let call = c.in_ok-write_at.ensures in
    let moment = g.D.Disk.moment in
    let size = c.args.size in
    let at = 12288 + c.from.result * size in
    let place = c.loop-place.place in
    let place_is : c.from.result ≡ place = c.from.ensures in
    let at_is : at ≡ slot_at size place = ap (λ (n : ℕ). 12288 + n * size) place_is in
    let behind : slot_at size 1 ≤ at = omega (arith, at_is, row_fits 0 size place size (omega (arith, c.loop-place.auto.place)) (omega arith)) in
    let inside : slot_at size place < slot_at size c.args.slots = omega (arith, c.requires.layout.large, row_fits place size c.args.slots size c.loop-place-test.true (omega arith)) in
    record {
      calls = calls_on ⊥ ⊥ _ _ _ inv.calls (λ f. f) (calls_as _ ⊥ _ _ call.calls (λ f. absurd f) false≢true);
      kept = λ tells. keeps_then (slot_at size 1) _ _ _ (inv.kept tells) (keeps_change (slot_at size 1) at 1 _ _ behind (c.write_at.ensures.told tells).reads);
      closed = λ tells.
          let lawful = g.met.D.Disk.lawful c.loop-place.disk tells in
          closed_more size place (moment c.loop-place.disk).reads (moment c.write_at.new.self).reads (omega (arith, c.requires.layout.large)) (omega (arith, inside, lawful.reads_size, inv.calls.size, c.requires.layout.long))
          (call.written tells ∙ ap (λ (n : ℕ). put n (0 ∷ []) (moment c.loop-place.disk).reads) at_is) (inv.closed tells);
      run = λ tells. come_more _ _ _ at 1 (omega arith) (inv.run tells) (c.write_at.ensures.told tells);
    }
