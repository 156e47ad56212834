use Rattle.std.proofs.Common.{◌≡◌, ◌+◌, ◌-◌, ℕ, List, length, subst, arith}
use Rattle.std.proofs.lemmas.Bool.{eqb-true, eq-eqb, cases_lt}
use Rattle.std.proofs.Common.{inl, inr}
use Rattle.foundation.specs.Bytes.{part}
use Rattle.foundation.proofs.Bytes.{length-part}
use Rattle.event_form.specs.Reading.{Begins, BeginsNoEntry}
use Rattle.edge_disk.proofs.Moments.{untouched_then}
use Rattle.spool_slots.specs.Groups.{BeginsEntries}
use Rattle.spool_slots.proofs.Faults.{calls_passed}
use Rattle.spool_slots.proofs.Walks.{walk_more, walk_none, walk_all, walk_long}
use Rattle.spool_slots.proofs.group.are_entries.Goals as goal

pub returns-in_err-n-clause-told : goal.returns-in_err-n-clause-told
returns-in_err-n-clause-told g c = λ tells. untouched_then _ _ _ (g.met.D.Disk.lawful c.args.disk.now tells) (c.loop-i.invariant.told tells) (c.entry_at.ensures.told tells)

pub returns-in-None-clause-told : goal.returns-in-None-clause-told
returns-in-None-clause-told g c = λ tells. untouched_then _ _ _ (g.met.D.Disk.lawful c.args.disk.now tells) (c.loop-i.invariant.told tells) (c.entry_at.ensures.told tells)

pub returns-in-None-clause-exact : goal.returns-in-None-clause-exact
returns-in-None-clause-exact g c = λ tells.
    let none = rw c.in-None.is at (c.in_ok-n.ensures.found tells) in
    let here = subst (λ (l : List ℕ). BeginsNoEntry (part (c.args.at + c.loop-i.place) (c.args.end - c.loop-i.place) l)) (c.loop-i.invariant.told tells).same none in
    (λ t. cc, λ all. absurd (walk_none c.loop-i.i c.args.count _ _ (c.loop-i.invariant.walked tells) c.loop-i-test.true here all))

pub loop-i-preserved : goal.loop-i-preserved
loop-i-preserved g c =
    let reads = (g.D.Disk.moment c.args.disk.now).reads in
    let n = c.in-Some.n in
    let inside = rw c.in-Some.is at c.in_ok-n.ensures.inside in
    record {
      calls = calls_passed _ _ _ _ c.loop-i.invariant.calls c.in_ok-n.ensures.calls (λ f. cc);
      told = λ tells. untouched_then _ _ _ (g.met.D.Disk.lawful c.args.disk.now tells) (c.loop-i.invariant.told tells) (c.entry_at.ensures.told tells);
      window = λ tells. c.in_ok-n.ensures.window tells;
      begins = omega (arith, c.loop-i.invariant.begins, inside.0);
      ends = omega (arith, inside.2);
      walked = λ tells.
          let found = rw c.in-Some.is at (c.in_ok-n.ensures.found tells) in
          let begins = subst (λ (l : List ℕ). Begins found.0 (part (c.args.at + c.loop-i.place) (c.args.end - c.loop-i.place) l) found.1) (c.loop-i.invariant.told tells).same found.2 in
          let more = walk_more c.loop-i.i (c.args.at + c.loop-i.place) n (c.args.end - c.loop-i.place) _ reads found.0 found.1 (c.loop-i.invariant.walked tells) begins found.3 (omega (arith, inside.2)) in
          let at_is : c.args.at + c.loop-i.place + n ≡ c.args.at + (c.loop-i.place + n) = omega arith in
          let len_is : c.args.end - c.loop-i.place - n ≡ c.args.end - (c.loop-i.place + n) = omega arith in
          let bytes = part (c.args.at + c.args.from) (c.args.end - c.args.from) reads in
          subst (λ (k : ℕ). BeginsEntries (c.loop-i.i + 1) bytes (part k (c.args.end - (c.loop-i.place + n)) reads)) at_is
          (subst (λ (k : ℕ). BeginsEntries (c.loop-i.i + 1) bytes (part (c.args.at + c.loop-i.place + n) k reads)) len_is more);
    }

pub returns-clause-exact : goal.returns-clause-exact
returns-clause-exact g c = λ tells.
    let lawful = g.met.D.Disk.lawful c.args.disk.now tells in
    let reads = (g.D.Disk.moment c.args.disk.now).reads in
    let p = c.args.at + c.loop-i.place in
    let k = c.args.end - c.loop-i.place in
    let bytes = part (c.args.at + c.args.from) (c.args.end - c.args.from) reads in
    let done : c.loop-i.i ≡ c.args.count = omega (arith, c.loop-i-test.false, c.loop-i.auto.i-end) in
    let walked = subst (λ (n : ℕ). BeginsEntries n bytes (part p k reads)) done (c.loop-i.invariant.walked tells) in
    let long : length (part p k reads) ≡ k = length-part p k reads (omega (arith, c.requires.place, c.requires.ends, c.loop-i.invariant.ends, lawful.reads_size)) in (
      λ t. walk_all c.args.count p k bytes reads walked (omega (arith, eqb-true c.loop-i.place c.args.end t)),
      λ all. elim (cases_lt 0 k) [
        | inl some ↦ absurd (walk_long c.args.count bytes (part p k reads) walked (omega (arith, long, some)) all)
        | inr none ↦ eq-eqb c.loop-i.place c.args.end (omega (arith, none, c.loop-i.invariant.ends))
      ],
    )
