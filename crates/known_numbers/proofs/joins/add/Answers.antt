use Rattle.std.proofs.Common.{◌≡◌, refl, sym, ◌∙◌, ap, arith, ◌+◌, ◌≤◌, List, length, min, get_or, is_ok, insert}
use Rattle.std.proofs.lemmas.Bool.{cond-true}
use Rattle.known_numbers.specs.declared.stretch.Stretch.{Stretch}
use Rattle.known_numbers.specs.declared.stretch.TheConstants.{MOST_STRETCHES}
use Rattle.known_numbers.specs.Numbers.{added}
use Rattle.known_numbers.proofs.Placing.{reaches_from, placed_alone, placed_wide, taken, left_out}
use Rattle.known_numbers.proofs.joins.add.Goals as goal

pub returns-then-reached-gt0-clause-added : goal.returns-then-reached-gt0-clause-added
returns-then-reached-gt0-clause-added c =
    let ss = c.args.stretches.now.items in
    let w : Stretch = record { from = c.min-from.result; to = c.reach_of-reached.result.to } in
    let from : w.from ≡ min c.args.more.from (get_or ss c.passed-first.result c.index.result.now).from = c.min-from.ensures ∙ ap (λ (x : Stretch). min c.args.more.from x.from) c.index.ensures in
    let h = reaches_from c.args.more ss _ _ _ _ _ c.deref.ensures.value c.deref-2.ensures.value c.passed-first.ensures c.reach_of-reached.ensures.within c.reach_of-reached.ensures.raised in
    let both = placed_wide c.args.more w c.index.result.now ss _ _ _ h c.requires.apart c.if-reached-gt0.true from refl in
    let n : length ss ≤ MOST_STRETCHES = omega (arith, ap (λ (x : List Stretch). length x) c.deref.ensures.value, c.deref.ensures.len, c.requires.few) in
    c.take_out.ensures.items ∙ sym both.0 ∙ taken (added c.args.more ss) ss (omega (arith, both.1, n))

pub returns-then-len-lt-MOST_STRETCHES-clause-added :
    goal.returns-then-len-lt-MOST_STRETCHES-clause-added
returns-then-len-lt-MOST_STRETCHES-clause-added c =
    let ss = c.args.stretches.now.items in
    let h = reaches_from c.args.more ss _ _ _ _ _ c.deref.ensures.value c.deref-2.ensures.value c.passed-first.ensures c.reach_of-reached.ensures.within c.reach_of-reached.ensures.raised in
    let both = placed_alone c.args.more ss _ _ _ h (omega (arith, c.if-reached-gt0.false)) in
    let n : length ss + 1 ≤ MOST_STRETCHES = omega (arith, ap (λ (x : List Stretch). length x) c.deref.ensures.value, c.deref.ensures.len, c.len.ensures, c.if-len-lt-MOST_STRETCHES.true) in
    let ok = c.insert.ensures.succeeds (omega (arith, c.len.ensures, c.if-len-lt-MOST_STRETCHES.true, c.requires.room)) in
    c.insert.ensures.items ∙ cond-true (is_ok c.insert.result) (insert ss c.passed-first.result c.args.more) ss ok ∙ sym both.0 ∙ taken (added c.args.more ss) ss (omega (arith, both.1, n))

pub returns-else-len-lt-MOST_STRETCHES-clause-added :
    goal.returns-else-len-lt-MOST_STRETCHES-clause-added
returns-else-len-lt-MOST_STRETCHES-clause-added c =
    let ss = c.args.stretches.now.items in
    let h = reaches_from c.args.more ss _ _ _ _ _ c.deref.ensures.value c.deref-2.ensures.value c.passed-first.ensures c.reach_of-reached.ensures.within c.reach_of-reached.ensures.raised in
    let both = placed_alone c.args.more ss _ _ _ h (omega (arith, c.if-reached-gt0.false)) in
    left_out (added c.args.more ss) ss (omega (arith, both.1, ap (λ (x : List Stretch). length x) c.deref.ensures.value, c.deref.ensures.len, c.len.ensures, c.if-len-lt-MOST_STRETCHES.false))
