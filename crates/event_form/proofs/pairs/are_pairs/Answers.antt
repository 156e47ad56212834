use Rattle.std.proofs.Common.{◌≡◌, ◌≢◌, ◌-◌, ◌+◌, ◌<◌, ◌^◌, [], length, refl, sym, ◌∙◌, ap, arith, eq-eqb}
use Rattle.std.proofs.lemmas.Bool.{eqb-true, eqb-false}
use Rattle.event_form.specs.declared.limits.TheConstants.{MOST_PAIRS}
use Rattle.event_form.proofs.Strings.{up_to_none, up_to_zero, up_to_less, up_to_more, up_to_stuck, pair_shorter, pairs_up_to, up_to_pairs}
use Rattle.event_form.proofs.pairs.are_pairs.Goals as goal

pub loop-init : goal.loop-init
loop-init c = record { short = c.requires; there = λ h. h; back = λ h. h }

pub returns-then-is_empty : goal.returns-then-is_empty
returns-then-is_empty c =
    let none : length c.loop.rest.now ≡ 0 = eqb-true _ _ (sym c.is_empty.ensures ∙ c.if-is_empty.true) in
    (λ _. up_to_pairs c.args.text.now (c.loop.invariant.there (up_to_none (MOST_PAIRS - c.loop.counter) c.loop.rest.now none)), λ _. refl)

pub returns-in-None : goal.returns-in-None
returns-in-None c =
    let some : c.loop.rest.now ≢ [] = λ e. eqb-false _ _ (sym c.is_empty.ensures ∙ c.if-is_empty.false) (ap length e) in
    let short : length c.loop.rest.now < 2 ^ 32 = omega (arith, c.loop.invariant.short) in
    (λ is. absurd cc, λ pairs. absurd (up_to_stuck (MOST_PAIRS - c.loop.counter) c.loop.rest.now short some c.in-None.ensures.none (c.loop.invariant.back (pairs_up_to c.args.text.now pairs))))

pub loop-preserved : goal.loop-preserved
loop-preserved c =
    let pair = c.in-Some.ensures.some in
    let one : MOST_PAIRS - c.loop.counter ≡ MOST_PAIRS - (c.loop.counter + 1) + 1 = omega arith in
    record {
      short = omega (arith, pair_shorter _ c.loop.rest.now c.in-Some.behind.now pair, c.loop.invariant.short);
      there = λ h. c.loop.invariant.there (up_to_more (MOST_PAIRS - c.loop.counter) (MOST_PAIRS - (c.loop.counter + 1)) _ c.loop.rest.now c.in-Some.behind.now one pair h);
      back = λ h. up_to_less (MOST_PAIRS - c.loop.counter) (MOST_PAIRS - (c.loop.counter + 1)) _ c.loop.rest.now c.in-Some.behind.now one (omega (arith, c.loop.invariant.short)) pair (c.loop.invariant.back h);
    }

pub returns : goal.returns
returns c =
    let end : MOST_PAIRS - c.loop.counter ≡ 0 = omega arith in (
      λ is. up_to_pairs c.args.text.now (c.loop.invariant.there (up_to_none (MOST_PAIRS - c.loop.counter) c.loop.rest.now (eqb-true _ _ (sym c.is_empty-2.ensures ∙ is)))),
      λ pairs. c.is_empty-2.ensures ∙ eq-eqb _ _ (ap length (up_to_zero (MOST_PAIRS - c.loop.counter) c.loop.rest.now end (c.loop.invariant.back (pairs_up_to c.args.text.now pairs)))),
    )
