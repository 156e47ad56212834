use Rattle.std.proofs.Common.{ℕ, ◌+◌, List, arith, subst, sym}
use Rattle.edge_disk.proofs.Calls.{calls_on, calls_as}
use Rattle.edge_disk.proofs.Moments.{untouched_then}
use Rattle.spool_log.specs.Reading.{IsSlotsFault, KnowsOpened}
use Rattle.spool_log.proofs.Scans.Faults.{if_err}
use Rattle.spool_log.proofs.reading.slots.read_slots.Goals as goal

pub returns-in_err-read_one-clause-broken : goal.returns-in_err-read_one-clause-broken
returns-in_err-read_one-clause-broken g c =
    let inv = c.loop-place.invariant in
    let items = c.loop-place.opened.items in
    if_err c.from_residual-in_err-read_one.result _ _ c.from_residual-in_err-read_one.ensures.1 (λ tells.
    let same = (inv.told tells).same in
    subst (λ (l : List ℕ). IsSlotsFault c.args.slots c.args.size l c.in_err-read_one.field-0.0) same
    (c.in_err-read_one.ensures.broken c.args.slots tells c.loop-place-test.true (subst (λ (l : List ℕ). KnowsOpened c.loop-place.place c.args.size items l) (sym same) (inv.known tells))))

pub loop-place-preserved : goal.loop-place-preserved
loop-place-preserved g c =
    let inv = c.loop-place.invariant in
    let call = c.in_ok-read_one.ensures in
    let moment = g.D.Disk.moment in
    record {
      calls = calls_on ⊥ ⊥ _ _ _ inv.calls (λ f. f) (calls_as _ ⊥ _ _ call.calls (λ f. absurd f) (λ h. absurd (cc h)));
      told = λ tells. untouched_then (moment c.args.disk.now) (moment c.loop-place.disk) (moment c.read_one.new.disk) (g.met.D.Disk.lawful c.args.disk.now tells) (inv.told tells) (call.told tells);
      spare = omega (arith, inv.spare, call.capacity);
      placed = call.placed c.args.slots c.loop-place-test.true inv.placed;
      known = λ tells.
          let same = (inv.told tells).same in
          subst (λ (l : List ℕ). KnowsOpened (c.loop-place.place + 1) c.args.size c.read_one.new.opened.items l) same
          (call.known tells (subst (λ (l : List ℕ). KnowsOpened c.loop-place.place c.args.size c.loop-place.opened.items l) (sym same) (inv.known tells)));
    }
