use Rattle.std.proofs.Common.{◌+◌, ◌-◌, ℕ, List, sym, ◌∙◌, subst, arith}
use Rattle.foundation.specs.Bytes.{part}
use Rattle.edge_disk.proofs.Calls.{calls_none}
use Rattle.edge_disk.proofs.Moments.{untouched_then}
use Rattle.spool_slots.specs.Groups.{IsStep, IsInside}
use Rattle.spool_slots.specs.declared.group.Step.{Step}
use Rattle.spool_slots.specs.declared.group.Step.TheVariants.{End, Broken, Group}
use Rattle.spool_state.proofs.Segments.{holds_open}
use Rattle.spool_state.proofs.Once.{broken_holds_none}
use Rattle.spool_slots.proofs.Faults.{calls_passed}
use Rattle.spool_slots.proofs.Scans.{scan_start, scan_more, scan_end, scan_broken, known_one}
use Rattle.spool_slots.proofs.slot.Slot.scan.Goals as goal

pub groups-init : goal.groups-init
groups-init g c = record {
  calls = calls_passed _ _ _ _ (calls_none _) c.in_ok-head.ensures.calls (λ f. cc);
  told = c.read_head.ensures.told;
  window = λ tells. c.empty.ensures c.args.at (g.D.Disk.moment c.read_head.new.disk).reads;
  inside = omega (arith, c.requires.large);
  few = omega arith;
  scanned = λ tells. scan_start c.args.at c.args.size c.in-Some.head.ordinal c.in-Some.head.first (g.D.Disk.moment c.args.disk.now).reads (omega (arith, c.requires.large)) (rw c.in-Some.is at (c.in_ok-head.ensures.found tells));
}

pub returns-in_err-step_at-clause-told : goal.returns-in_err-step_at-clause-told
returns-in_err-step_at-clause-told g c = λ tells. untouched_then _ _ _ (g.met.D.Disk.lawful c.args.disk.now tells) (c.groups.invariant.told tells) (c.step_at.ensures.told tells)

pub returns-in-End-clause-told : goal.returns-in-End-clause-told
returns-in-End-clause-told g c = λ tells. untouched_then _ _ _ (g.met.D.Disk.lawful c.args.disk.now tells) (c.groups.invariant.told tells) (c.step_at.ensures.told tells)

pub returns-in-Broken-clause-told : goal.returns-in-Broken-clause-told
returns-in-Broken-clause-told g c = λ tells. untouched_then _ _ _ (g.met.D.Disk.lawful c.args.disk.now tells) (c.groups.invariant.told tells) (c.step_at.ensures.told tells)

pub returns-in-End-clause-found : goal.returns-in-End-clause-found
returns-in-End-clause-found g c = λ tells.
    let lawful = g.met.D.Disk.lawful c.args.disk.now tells in
    let reads = (g.D.Disk.moment c.args.disk.now).reads in
    let scanned = c.groups.invariant.scanned tells in
    let seen = subst (λ (s : Step). IsStep (part (c.args.at + c.groups.gate) (c.args.size - c.groups.gate) (g.D.Disk.moment c.groups.disk).reads) s) c.in-End.is (c.in_ok-step_at.ensures.seen tells) in
    let closed = subst (λ (l : List ℕ). IsStep (part (c.args.at + c.groups.gate) (c.args.size - c.groups.gate) l) End) (c.groups.invariant.told tells).same seen in (
      scanned.before,
      record {
        holds = scan_end c.args.at c.args.size c.in-Some.head.ordinal c.in-Some.head.first c.groups.gate c.groups.count reads (omega (arith, c.requires.place, lawful.reads_size)) c.groups.invariant.inside scanned closed;
        sound = scanned.sound;
        ordinal = sym scanned.ordinal_is;
        first = sym scanned.first_is;
        gate = scanned.gate_is;
        count = scanned.count_is;
      },
    )

pub returns-in-Broken-clause-broken : goal.returns-in-Broken-clause-broken
returns-in-Broken-clause-broken g c = λ tells.
    let reads = (g.D.Disk.moment c.args.disk.now).reads in
    let seen = subst (λ (s : Step). IsStep (part (c.args.at + c.groups.gate) (c.args.size - c.groups.gate) (g.D.Disk.moment c.groups.disk).reads) s) c.in-Broken.is (c.in_ok-step_at.ensures.seen tells) in
    let broken = subst (λ (l : List ℕ). IsStep (part (c.args.at + c.groups.gate) (c.args.size - c.groups.gate) l) Broken) (c.groups.invariant.told tells).same seen in
    scan_broken c.args.at c.args.size c.in-Some.head.ordinal c.in-Some.head.first c.groups.gate c.groups.count reads (c.groups.invariant.scanned tells) broken.0 broken.1

pub groups-preserved : goal.groups-preserved
groups-preserved g c =
    let inside = subst (IsInside c.args.size c.groups.gate) c.in-Group.is c.in_ok-step_at.ensures.inside in
    record {
      calls = calls_passed _ _ _ _ c.groups.invariant.calls c.in_ok-step_at.ensures.calls (λ f. cc);
      told = λ tells. untouched_then _ _ _ (g.met.D.Disk.lawful c.args.disk.now tells) (c.groups.invariant.told tells) (c.step_at.ensures.told tells);
      window = λ tells. c.in_ok-step_at.ensures.window tells;
      inside = omega (arith, inside.0, c.from.ensures);
      few = omega (arith, inside.1, c.groups.invariant.few, c.from.ensures, c.from-count.ensures);
      scanned = λ tells.
          let lawful = g.met.D.Disk.lawful c.args.disk.now tells in
          let reads = (g.D.Disk.moment c.args.disk.now).reads in
          let seen = subst (λ (s : Step). IsStep (part (c.args.at + c.groups.gate) (c.args.size - c.groups.gate) (g.D.Disk.moment c.groups.disk).reads) s) c.in-Group.is (c.in_ok-step_at.ensures.seen tells) in
          let found = subst (λ (l : List ℕ). IsStep (part (c.args.at + c.groups.gate) (c.args.size - c.groups.gate) l) (Group c.in-Group.group)) (c.groups.invariant.told tells).same seen in
          scan_more c.args.at c.args.size c.in-Some.head.ordinal c.in-Some.head.first c.groups.gate c.groups.count _ _ found.0 reads (omega (arith, c.requires.place, lawful.reads_size)) c.groups.invariant.inside (c.groups.invariant.scanned tells) found.1 (omega (arith, c.from.ensures, found.2)) (c.from-count.ensures ∙ found.3);
    }

pub returns-in-End-clause-known : goal.returns-in-End-clause-known
returns-in-End-clause-known g c = λ segment tells holds sound ordinal first.
    let lawful = g.met.D.Disk.lawful c.args.disk.now tells in
    known_one _ segment _ (omega (arith, c.requires.place, lawful.reads_size)) (omega arith) (omega arith) sound ordinal first holds (returns-in-End-clause-found g c tells)

pub returns-in-Broken-clause-known : goal.returns-in-Broken-clause-known
returns-in-Broken-clause-known g c = λ segment tells holds sound ordinal first.
    let lawful = g.met.D.Disk.lawful c.args.disk.now tells in
    broken_holds_none c.args.at c.args.size _ segment _ (omega (arith, c.requires.place, lawful.reads_size)) (omega (arith, c.requires.small)) sound (returns-in-Broken-clause-broken g c tells) holds

pub returns-in_default-clause-known : goal.returns-in_default-clause-known
returns-in_default-clause-known g c = λ segment tells holds sound ordinal first.
    let closed = rw c.in_default.is at (c.in_ok-head.ensures.found tells) in
    absurd (closed (holds_open c.args.at c.args.size segment (g.D.Disk.moment c.args.disk.now).reads (omega (arith, c.requires.large)) holds))
