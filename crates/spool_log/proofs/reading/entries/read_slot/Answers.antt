use Rattle.std.proofs.Common.{◌≡◌, ◌⊎◌, inl, inr, ℕ, ◌+◌, ◌-◌, ◌<◌, ◌≤◌, ◌++◌, max, length, take, drop, sym, ◌∙◌, ap, subst, arith}
use Rattle.std.specs.Prelude.{Result, MatchResult}
use Rattle.std.proofs.lemmas.Bool.{cases_lt}
use Rattle.known_numbers.specs.Numbers.{IsKnown}
use Rattle.edge_disk.proofs.Calls.{calls_none, calls_on, calls_as}
use Rattle.edge_disk.proofs.Moments.{untouched_refl, untouched_then}
use Rattle.spool_state.specs.Segment.{entries_of}
use Rattle.spool_state.specs.Left.{numbered}
use Rattle.spool_slots.specs.Slot as Slots
use Rattle.spool_slots.specs.Mark.{IsMark}
use Rattle.spool_faults.specs.declared.fault.PendFault.{PendFault}
use Rattle.spool_log.specs.declared.reading.bookmark.Bookmark.{Bookmark}
use Rattle.spool_answers.specs.Pend.{given_entries, AreNumbered, IsNotBroken}
use Rattle.spool_log.specs.Reading.Marked.{AreMarks}
use Rattle.spool_log.specs.Reading.Wanted.{wanted_from}
use Rattle.spool_log.proofs.Opens.Mending.{err_is}
use Rattle.spool_log.proofs.Scans.Known.{numbered_later}
use Rattle.spool_log.proofs.Scans.Listing.{length-given, scan_not_broken, wanted_in, read_start, read_on, read_enough}
use Rattle.spool_log.proofs.reading.entries.read_slot.Goals as goal
use Rattle.spool_log.proofs.reading.entries.read_slot.Goals.{then-parts-test+else-len-most, else-parts-test}

pub parts-init : goal.parts-init
parts-init g c = record {
  calls = calls_none _;
  told = λ tells. untouched_refl _;
  begins = c.requires.begins;
  ends = c.requires.within;
  few = c.requires.few;
  rising = numbered_later c.args.from c.args.slot.now.first c.args.start.number c.args.given.now.items c.requires.begins c.requires.numbered;
  read = λ segment tells knows mark. (
    mark,
    mark,
    read_start c.args.numbers.now c.args.from segment.first (entries_of segment) c.args.start.number (given_entries c.args.given.now.items) (omega (arith, c.requires.begins, knows.first)) (subst (λ (n : ℕ). c.args.start.number ≤ max c.args.from n) knows.first c.requires.start),
  );
}

pub parts-preserved : goal.parts-preserved
parts-preserved g c =
    let inv = c.parts.invariant in
    let slot = c.args.slot.now in
    let from = c.args.from in
    let mark = c.parts.mark in
    let number = c.next_unknown-number.result in
    let part = c.in_ok-part.part in
    let wanted = c.args.most - c.len-in-parts.result in
    let above : max from mark.number ≤ number = omega (arith, c.next_unknown-number.ensures.above, c.max.ensures) in
    let after : part.mark.number ≡ number + length part.entries.items = omega (arith, c.in_ok-part.ensures.number, c.in_ok-here.ensures.number) in
    let count : length part.entries.items ≤ slot.first + slot.count - number = omega (arith, c.in_ok-part.ensures.count, c.in_ok-here.ensures.number) in
    record {
      calls = calls_on ⊥ ⊥ _ _ _ (calls_on ⊥ ⊥ _ _ _ inv.calls (λ f. f) (calls_as _ ⊥ _ _ c.in_ok-here.ensures.calls (λ f. absurd f) (λ h. absurd (cc h)))) (λ f. f) (calls_as _ ⊥ _ _ c.in_ok-part.ensures.calls (λ f. absurd f) (λ h. absurd (cc h)));
      told = λ tells. untouched_then _ _ _ (g.met.D.Disk.lawful c.args.disk.now tells) (untouched_then _ _ _ (g.met.D.Disk.lawful c.args.disk.now tells) (inv.told tells) (c.in_ok-here.ensures.told tells)) (c.in_ok-part.ensures.told tells);
      begins = omega (arith, inv.begins, above, after);
      ends = omega (arith, after, count, c.if-end-number.false);
      few = omega (arith, c.in_ok-give_unknown.ensures.few, c.in_ok-part.ensures.count, inv.few);
      rising = subst (λ (n : ℕ). AreNumbered from n c.give_unknown.new.given.items) (sym after)
          (c.in_ok-give_unknown.ensures.numbered from (omega (arith, above)) c.in_ok-part.ensures.limits (numbered_later from mark.number number c.parts.given.items (omega (arith, above)) inv.rising));
      read = λ segment tells knows start.
          let before = inv.read segment tells knows start in
          let here = subst (Slots.Knows slot segment) (sym (inv.told tells).same) knows in
          let passed = c.in_ok-here.ensures.mark segment tells here before.1 in
          let there = subst (Slots.Knows slot segment) (sym (c.in_ok-here.ensures.told tells).same) here in
          let read = c.in_ok-part.ensures.part segment tells there passed in
          let known : (k : ℕ) → mark.number ≤ k → k < number → (k < from) ⊎ IsKnown c.args.numbers.now k = λ k ge lt. elim (cases_lt k from) [
            | inl low ↦ inl low
            | inr high ↦ inr (c.next_unknown-number.ensures.passed k (omega (arith, c.max.ensures, high, ge)) lt)
          ] in
          let on = read_on c.args.numbers.now from segment.first (entries_of segment) (given_entries c.args.given.now.items) (given_entries c.parts.given.items) (given_entries c.give_unknown.new.given.items) mark.number number wanted part.entries.items
          (omega (arith, inv.begins, knows.first)) (omega (arith, above)) (omega (arith, c.if-end-number.false, knows.first, knows.count)) (omega (arith, above)) known
          (read.0 ∙ ap (λ (n : ℕ). take wanted (drop (n - segment.first) (entries_of segment))) c.in_ok-here.ensures.number) c.in_ok-give_unknown.ensures.given before.2 in
          (elim c.began_at-began.ensures [ inl same ↦ subst (IsMark segment) (sym same) before.0 | inr new ↦ subst (IsMark segment) (sym new) passed ], read.1, on ∙ ap (λ (n : ℕ). given_entries c.args.given.now.items ++ wanted_in c.args.numbers.now from segment.first (entries_of segment) (n - segment.first)) (sym after));
    }

pub returns-then-end-number-clause-numbered : goal.returns-then-end-number-clause-numbered
returns-then-end-number-clause-numbered g c = numbered_later c.args.from c.parts.mark.number (c.args.slot.now.first + c.args.slot.now.count) c.parts.given.items c.parts.invariant.ends c.parts.invariant.rising

pub returns-then-end-number-clause-read : goal.returns-then-end-number-clause-read
returns-then-end-number-clause-read g c = λ segment tells knows start.
    let inv = c.parts.invariant in
    let before = inv.read segment tells knows start in
    let old = c.args.given.now.items in
    let known : (k : ℕ) → c.parts.mark.number ≤ k → k < segment.first + length (entries_of segment) → (k < c.args.from) ⊎ IsKnown c.args.numbers.now k = λ k ge lt. elim (cases_lt k c.args.from) [
      | inl low ↦ inl low
      | inr high ↦ inr (c.next_unknown-number.ensures.passed k (omega (arith, c.max.ensures, high, ge)) (omega (arith, lt, c.if-end-number.true, knows.first, knows.count)))
    ] in
    let enough = read_enough c.args.numbers.now c.args.from segment.first (entries_of segment) c.args.most c.parts.mark.number (given_entries old) (given_entries c.parts.given.items)
    (omega (arith, inv.begins, knows.first)) (omega (arith, inv.ends, knows.first, knows.count)) (omega (arith, inv.few, length-given c.parts.given.items)) (inl known) before.2 in
    (record { began = before.0; ended = before.1 }, enough ∙ ap (λ (n : ℕ). given_entries old ++ take (c.args.most - n) (wanted_from c.args.numbers.now c.args.from (numbered segment.first (entries_of segment)))) (length-given old))

pub returns-in_err-part-clause-read : goal.returns-in_err-part-clause-read
returns-in_err-part-clause-read g c = λ segment tells knows start.
    let inv = c.parts.invariant in
    let before = inv.read segment tells knows start in
    let here = subst (Slots.Knows c.args.slot.now segment) (sym (inv.told tells).same) knows in
    let passed = c.in_ok-here.ensures.mark segment tells here before.1 in
    let there = subst (Slots.Knows c.args.slot.now segment) (sym (c.in_ok-here.ensures.told tells).same) here in
    subst (λ (r : Result Bookmark PendFault). MatchResult r (λ read. AreMarks segment read × (given_entries c.parts.given.items ≡ given_entries c.args.given.now.items ++ take (c.args.most - length c.args.given.now.items) (wanted_from c.args.numbers.now c.args.from (numbered segment.first (entries_of segment))))) IsNotBroken)
    (sym (err_is _ _ c.from_residual-in_err-part.ensures.1)) (scan_not_broken c.in_err-part.field-0.0 (c.in_err-part.ensures.part segment tells there passed))

pub returns-clause-numbered : goal.returns-clause-numbered
returns-clause-numbered g c = numbered_later c.args.from c.parts.mark.number (c.args.slot.now.first + c.args.slot.now.count) c.parts.given.items c.parts.invariant.ends c.parts.invariant.rising

pub returns-clause-read : goal.returns-clause-read
returns-clause-read g c = λ segment tells knows start.
    let inv = c.parts.invariant in
    let before = inv.read segment tells knows start in
    let old = c.args.given.now.items in
    let given = given_entries c.parts.given.items in
    let why : ((k : ℕ) → c.parts.mark.number ≤ k → k < segment.first + length (entries_of segment) → (k < c.args.from) ⊎ IsKnown c.args.numbers.now k) ⊎ (c.args.most ≤ length given) = elim c.parts-test.branch [
      | then-parts-test+else-len-most w ↦ inr (omega (arith, length-given c.parts.given.items, w.if-len-most.false, w.len.ensures))
      | else-parts-test w ↦ inl (λ k ge lt. absurd (omega (arith, ge, lt, w.parts-test.false, knows.first, knows.count)))
    ] in
    let enough = read_enough c.args.numbers.now c.args.from segment.first (entries_of segment) c.args.most c.parts.mark.number (given_entries old) given
    (omega (arith, inv.begins, knows.first)) (omega (arith, inv.ends, knows.first, knows.count)) (omega (arith, inv.few, length-given c.parts.given.items)) why before.2 in
    (record { began = before.0; ended = before.1 }, enough ∙ ap (λ (n : ℕ). given_entries old ++ take (c.args.most - n) (wanted_from c.args.numbers.now c.args.from (numbered segment.first (entries_of segment)))) (length-given old))
