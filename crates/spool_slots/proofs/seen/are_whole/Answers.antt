use Rattle.std.proofs.Common.{◌≡◌, ◌+◌, ℕ, length, sym, ◌∙◌, subst, inl, inr, arith, eq-eqb}
use Rattle.std.proofs.lemmas.Bool.{eqb-true, cases_lt}
use Rattle.std.proofs.lemmas.List.{nil_from_length}
use Rattle.spool_slots.specs.Groups.{BeginsEntries}
use Rattle.spool_slots.proofs.Walks.{walk_start, walk_on, walk_none, walk_end, walk_long}
use Rattle.spool_slots.proofs.Peeks.{entry_within}
use Rattle.spool_slots.proofs.seen.are_whole.Goals as goal

pub loop-i-init : goal.loop-i-init
loop-i-init c = walk_start c.args.bytes.now

pub returns-in-None : goal.returns-in-None
returns-in-None c = (λ t. cc, λ all. absurd (walk_none c.loop-i.i c.args.count _ _ c.loop-i.invariant c.loop-i-test.true c.in-None.ensures.none all))

pub loop-i-preserved : goal.loop-i-preserved
loop-i-preserved c =
    let found = c.in-Some.ensures.some in
    subst (BeginsEntries (c.loop-i.i + 1) c.args.bytes.now) (sym c.split_at.ensures.back) (walk_on c.loop-i.i c.in-Some.n c.args.bytes.now c.loop-i.rest.now found.0 found.1 c.loop-i.invariant found.2 found.3)

pub split_at-requires : goal.split_at-requires
split_at-requires c =
    let found = c.in-Some.ensures.some in
    omega (arith, found.3, entry_within c.loop-i.rest.now found.0 found.1 found.2)

pub returns : goal.returns
returns c =
    let rest = c.loop-i.rest.now in
    let done : c.loop-i.i ≡ c.args.count = omega (arith, c.loop-i-test.false, c.loop-i.auto.i-end) in
    let walked = subst (λ (n : ℕ). BeginsEntries n c.args.bytes.now rest) done c.loop-i.invariant in (
      λ t. walk_end c.args.count c.args.bytes.now rest walked (nil_from_length rest (eqb-true _ _ (sym c.is_empty.ensures ∙ t))),
      λ all. elim (cases_lt 0 (length rest)) [
        | inl some ↦ absurd (walk_long c.args.count c.args.bytes.now rest walked some all)
        | inr none ↦ c.is_empty.ensures ∙ eq-eqb (length rest) 0 (omega (arith, none))
      ],
    )
