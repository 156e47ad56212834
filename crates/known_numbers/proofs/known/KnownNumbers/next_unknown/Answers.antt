use Rattle.std.proofs.Common.{◌≡◌, sym, ◌∙◌, ap, subst, arith, ℕ, ◌+◌, ◌<◌, List, ◌∷◌, length, get_or, drop}
use Rattle.std.proofs.lemmas.List.{drop_more}
use Rattle.known_numbers.specs.declared.stretch.Stretch.{Stretch}
use Rattle.known_numbers.specs.Numbers.{Numbers, numbers_of, AreApart, IsNextUnknown}
use Rattle.known_numbers.proofs.Passing.{IsLeft, left_all, left_more, next_before, next_after}
use Rattle.known_numbers.proofs.known.KnownNumbers.next_unknown.Goals as goal

pub loop-stretch-init : goal.loop-stretch-init
loop-stretch-init c = left_all c.self.inside.cursor _ _ (subst (λ (x : List Stretch). AreApart c.self.inside.cursor x) (sym c.deref-stretch-items.ensures.value) c.self.invariant.0.apart)

-- what is read past the end
abbrev none : Stretch
none = record { from = 0; to = 0 }

-- what is left, with its first stretch
here : (ss : List Stretch) (start i : ℕ) → i < length ss → IsLeft ss start (drop i ss) → IsLeft ss start (get_or ss i none ∷ drop (i + 1) ss)
here ss start i lt left = subst (λ (x : List Stretch). IsLeft ss start x) (drop_more ss i none lt) left

pub loop-stretch-preserved : goal.loop-stretch-preserved
loop-stretch-preserved c = left_more _ _ _ _ (here _ _ _ c.loop-stretch-test.true c.loop-stretch.invariant) (omega (arith, c.if-start-stretch-2.false))

pub returns-then-start-stretch : goal.returns-then-start-stretch
returns-then-start-stretch c =
    let same : numbers_of c.self.inside.cursor c.deref-stretch-items.result.now ≡ c.args.self.now = ap (λ (x : List Stretch). numbers_of c.self.inside.cursor x) c.deref-stretch-items.ensures.value ∙ c.self.view_is in
    subst (λ (x : Numbers). IsNextUnknown x c.args.from c.max-start.result) same (next_before _ c.args.from _ _ _ c.max-start.ensures (here _ _ _ c.loop-stretch-test.true c.loop-stretch.invariant) (omega (arith, c.if-start-stretch.true)))

pub returns-then-start-stretch-2 : goal.returns-then-start-stretch-2
returns-then-start-stretch-2 c =
    let same : numbers_of c.self.inside.cursor c.deref-stretch-items.result.now ≡ c.args.self.now = ap (λ (x : List Stretch). numbers_of c.self.inside.cursor x) c.deref-stretch-items.ensures.value ∙ c.self.view_is in
    subst (λ (x : Numbers). IsNextUnknown x c.args.from (get_or c.deref-stretch-items.result.now c.loop-stretch.stretch-index none).to) same (next_after _ c.args.from _ _ _ c.max-start.ensures (here _ _ _ c.loop-stretch-test.true c.loop-stretch.invariant) (omega (arith, c.if-start-stretch.false)) (omega (arith, c.if-start-stretch-2.true)))
