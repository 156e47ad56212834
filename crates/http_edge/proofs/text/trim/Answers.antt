use Rattle.std.proofs.Common.{◌≡◌, ◌≤◌, ℕ, ◌-◌, List, length, take, reverse, slice_range, sym, ap, ◌∙◌, arith}
use Rattle.std.proofs.lemmas.List.{reverse-reverse, take_all}
use Rattle.httparse.specs.Grammar.{skip_ows, trim_ows}
use Rattle.httparse.proofs.TrimLemmas.{skip_ows_yes, skip_ows_no, slice_first, slice_last, slice_empty}
use Rattle.http_edge.proofs.text.trim.Goals.{then-loop-from-test+else-is_blank, else-loop-from-test, then-loop-to-test+else-is_blank-2, else-loop-to-test}
use Rattle.http_edge.proofs.text.trim.Goals as goal

pub loop-from-init : goal.loop-from-init
loop-from-init c =
    let t = c.args.text.now in
    let n : length t - 0 ≡ length t = omega arith in
    (omega arith, ap skip_ows (sym (ap (λ (k : ℕ). take k t) n ∙ take_all (length t) t (omega arith))))

pub loop-from-preserved : goal.loop-from-preserved
loop-from-preserved c =
    let inside : length c.args.text.now ≤ length c.args.text.now = omega arith in (
      omega arith,
      c.loop-from.invariant.1 ∙ skip_ows_yes (slice_first _ _ _ c.loop-from-test.true inside) c.if-is_blank.ensures,
    )

pub loop-to-init : goal.loop-to-init
unfolding trim_ows
loop-to-init c =
    let inside : length c.args.text.now ≤ length c.args.text.now = omega arith in
    let here = slice_range c.args.text.now c.loop-from.from (length c.args.text.now) in
    let stays : skip_ows here ≡ here =
    elim c.loop-from-test.branch [
      | then-loop-from-test+else-is_blank w ↦
          let first = slice_first _ _ _ w.loop-from-test.true inside in
          skip_ows_no first w.if-is_blank.ensures
      | else-loop-from-test w ↦
          let empty = slice_empty c.args.text.now c.loop-from.from (length c.args.text.now) (omega arith) inside in
          ap skip_ows empty ∙ sym empty
    ] in (
      omega arith,
      omega arith,
      ap (λ (t : List ℕ). reverse (skip_ows (reverse t))) (c.loop-from.invariant.1 ∙ stays),
    )

pub loop-to-preserved : goal.loop-to-preserved
loop-to-preserved c =
    let last = slice_last c.args.text.now _ _ c.loop-to-test.true (omega arith) in (
      omega arith,
      omega arith,
      c.loop-to.invariant.2
          ∙ ap reverse (skip_ows_yes last c.if-is_blank-2.ensures),
    )

pub returns : goal.returns
returns c =
    let t = c.args.text.now in
    elim c.loop-to-test.branch [
      | then-loop-to-test+else-is_blank-2 w ↦
          let last = slice_last t c.loop-from.from c.loop-to.to w.loop-to-test.true c.loop-to.invariant.1 in
          sym (c.loop-to.invariant.2 ∙ ap reverse (skip_ows_no last w.if-is_blank-2.ensures) ∙ reverse-reverse _)
      | else-loop-to-test w ↦
          let empty = slice_empty t c.loop-from.from c.loop-to.to (omega arith) c.loop-to.invariant.1 in
          empty ∙ sym (c.loop-to.invariant.2 ∙ ap (λ (s : List ℕ). reverse (skip_ows (reverse s))) empty)
    ]
