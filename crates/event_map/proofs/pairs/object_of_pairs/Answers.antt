use Rattle.std.proofs.Common.{rules, ◌≡◌, ◌<◌, ℕ, Bool, true, false, ◌==◌, List, [], ◌∷◌, ◌++◌, length, subst, sym, ◌∙◌, ap, arith}
use Rattle.std.proofs.lemmas.Bool.{eqb-true, eqb-false}
use Rattle.event_map.specs.Objects.{pairs_object}
use Rattle.event_map.specs.Maps.{OfPairs}
use Rattle.event_map.proofs.OneList.{shorter}
use Rattle.event_map.proofs.Members.{Comes, comes, closed, comes_on}
use Rattle.event_map.proofs.pairs.object_of_pairs.Goals as goal

-- what `is_empty` says
some : (bytes : List ℕ) (b : Bool) → b ≡ (length bytes == 0) → b ≡ false → 0 < length bytes
some bytes b e f = omega (arith, eqb-false (length bytes) 0 (sym e ∙ f))

none : (bytes : List ℕ) (b : Bool) → b ≡ (length bytes == 0) → b ≡ true → length bytes ≡ 0
none bytes b e t = eqb-true (length bytes) 0 (sym e ∙ t)

pub loop-key-init : goal.loop-key-init
loop-key-init c = subst (λ (object : List ℕ). Comes c.args.text.now c.args.text.now object) (sym c.in_ok-object.ensures.items) (comes c.args.text.now c.requires.short c.requires.pairs)

pub loop-key-smaller : goal.loop-key-smaller
loop-key-smaller c = shorter _ c.loop-key.rest.now c.in-Some.behind.now c.in-Some.ensures.some

pub loop-key-smaller-in_ok-push : goal.loop-key-smaller-in_ok-push
loop-key-smaller-in_ok-push c = shorter _ c.loop-key.rest.now c.in-Some.behind.now c.in-Some.ensures.some

pub loop-key-preserved-in_ok-push : goal.loop-key-preserved-in_ok-push
loop-key-preserved-in_ok-push c =
    let more = some c.in-Some.behind.now c.is_empty.result c.is_empty.ensures c.if-not-is_empty.true in
    comes_on c.args.text.now c.loop-key.rest.now c.loop-key.object.items c.push.new.self.items c.in-Some.behind.now _ c.in-Some.ensures.some record {
      last = λ h. absurd (omega (arith, h, more));
      more = λ _. c.in_ok-push.ensures.items ∙ ap (λ (object : List ℕ). object ++ 44 ∷ []) c.in_ok-write_member.ensures;
    } c.loop-key.invariant

pub loop-key-preserved : goal.loop-key-preserved
loop-key-preserved c =
    let last = none c.in-Some.behind.now c.is_empty.result c.is_empty.ensures c.if-not-is_empty.false in
    comes_on c.args.text.now c.loop-key.rest.now c.loop-key.object.items c.write_member.new.object.items c.in-Some.behind.now _ c.in-Some.ensures.some record {
      last = λ _. c.in_ok-write_member.ensures;
      more = λ h. absurd (omega (arith, h, last));
    } c.loop-key.invariant

pub returns : goal.returns
returns c =
    let is : c.of.result ≡ c.loop-key.object.items ++ 125 ∷ [] = search rules in
    subst (λ (bytes : List ℕ). OfPairs pairs_object c.args.text.now bytes) (sym is) (closed c.args.text.now c.loop-key.rest.now c.loop-key.object.items c.in_default.ensures.none c.loop-key.invariant)
