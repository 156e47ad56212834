use Rattle.std.proofs.Common.{◌-◌, ◌≤◌, length}
use Rattle.event_form.specs.declared.limits.TheConstants.{MOST_PAIRS, MOST_TEXT}
use Rattle.event_form.specs.Pairs.{AreUpTo}
use Rattle.event_form.proofs.pairs.are_pairs.Given as goal

abbrev pub invariant-loop : goal.invariant-loop
invariant-loop l =
    record {
      short : length l.rest ≤ MOST_TEXT;
      there : AreUpTo (MOST_PAIRS - l.counter) l.rest → AreUpTo MOST_PAIRS l.text;
      back : AreUpTo MOST_PAIRS l.text → AreUpTo (MOST_PAIRS - l.counter) l.rest;
    }
