-- The next pair is counted.
use Rattle.std.proofs.Common.{◌≡◌, ◌<◌, ◌∙◌, ◌+◌, ℕ, List, length, sym, ap, subst, arith}
use Rattle.std.proofs.lemmas.Bool.{eqb-true, eqb-false}
use Rattle.event_form.specs.Pairs.{BeginsString}
use Rattle.lumber_frame.proofs.CountLaws.{Counting, count_none, count_next, count_all}
use Rattle.lumber_frame.proofs.count.pair_count.Goals as goal

pub loop-rest-init : goal.loop-rest-init
loop-rest-init c = count_none c.args.text.now c.requires.short c.requires.pairs

pub behind_string-requires : goal.behind_string-requires
behind_string-requires c =
    let l = c.loop-rest in
    let n = count_next c.args.text.now l.rest.now l.count (eqb-false _ _ (sym c.is_empty.ensures ∙ c.loop-rest-test.true)) l.invariant in
    (n.pair.0, n.begins.middle, n.begins.key)

pub behind_string-rest-requires : goal.behind_string-rest-requires
behind_string-rest-requires c =
    let l = c.loop-rest in
    let n = count_next c.args.text.now l.rest.now l.count (eqb-false _ _ (sym c.is_empty.ensures ∙ c.loop-rest-test.true)) l.invariant in
    (n.pair.1, n.more, subst (λ b. BeginsString n.pair.1 b n.more) (sym (c.behind_string.ensures n.pair.0 n.begins.middle n.begins.key)) n.begins.value)

pub loop-rest-smaller : goal.loop-rest-smaller
loop-rest-smaller c =
    let l = c.loop-rest in
    let n = count_next c.args.text.now l.rest.now l.count (eqb-false _ _ (sym c.is_empty.ensures ∙ c.loop-rest-test.true)) l.invariant in
    let value : BeginsString n.pair.1 c.behind_string.result.now n.more = subst (λ b. BeginsString n.pair.1 b n.more) (sym (c.behind_string.ensures n.pair.0 n.begins.middle n.begins.key)) n.begins.value in
    let e : c.behind_string-rest.result.now ≡ n.more = c.behind_string-rest.ensures n.pair.1 n.more value in
    let s : length c.behind_string-rest.result.now < length l.rest.now = omega (arith, ap length e, n.shorter) in
    s

pub loop-rest-preserved : goal.loop-rest-preserved
loop-rest-preserved c =
    let l = c.loop-rest in
    let n = count_next c.args.text.now l.rest.now l.count (eqb-false _ _ (sym c.is_empty.ensures ∙ c.loop-rest-test.true)) l.invariant in
    let value : BeginsString n.pair.1 c.behind_string.result.now n.more = subst (λ b. BeginsString n.pair.1 b n.more) (sym (c.behind_string.ensures n.pair.0 n.begins.middle n.begins.key)) n.begins.value in
    subst (λ (b : List ℕ). Counting c.args.text.now b (l.count + 1)) (sym (c.behind_string-rest.ensures n.pair.1 n.more value)) n.next

pub returns : goal.returns
returns c =
    let l = c.loop-rest in
    count_all c.args.text.now l.rest.now l.count (eqb-true _ _ (sym c.is_empty.ensures ∙ c.loop-rest-test.false)) l.invariant
