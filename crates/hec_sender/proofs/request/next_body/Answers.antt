use Rattle.std.proofs.Common.{◌≡◌, inr, ◌+◌, ◌++◌, ◌∙◌, ℕ, List, length, take, ap, sym, subst, arith, length-append}
use Rattle.event_map.proofs.Functions.{hec_object_of}
use Rattle.hec_sender.specs.Texts.{objects_text}
use Rattle.hec_sender.proofs.Fitting.{Fits, objects_more, size_all, size_full}
use Rattle.hec_sender.proofs.request.next_body.Goals as goal
use Rattle.hec_sender.proofs.request.next_body.Goals.{else-loop-size-test, then-loop-size-test+in_ok-next+then-saturating_add-gt-MOST_BODY}

pub loop-size-preserved : goal.loop-size-preserved
loop-size-preserved c =
    let inv = c.loop-size.invariant in
    let run = c.args.run.now in
    let object = hec_object_of c.index-run-size.result.event in
    let before = c.loop-size.objects.items in
    let next : c.bytes-in-loop-size.result.now ≡ object = c.bytes-in-loop-size.ensures ∙ c.in_ok-next.ensures in
    let items : c.extend_from_slice.new.self.items ≡ before ++ object = c.in_ok-extend_from_slice.ensures.items ∙ ap (λ (l : List ℕ). before ++ l) next in
    let size : length c.bytes.result.now ≡ length object = ap length (c.bytes.ensures ∙ c.in_ok-next.ensures) in
    record {
      some = omega arith;
      within = omega arith;
      objects = items ∙ ap (λ (l : List ℕ). l ++ object) inv.objects ∙ sym (objects_more run c.loop-size.size c.index-run-size.result (omega arith) c.index-run-size.is);
      fits = inr (omega (arith, ap length items, length-append before object, size));
    }

pub returns-clause-size : goal.returns-clause-size
returns-clause-size c =
    let inv = c.loop-size.invariant in
    let run = c.args.run.now in
    let n = c.loop-size.size in
    let fits : Fits n (objects_text (take n run)) = subst (Fits n) inv.objects inv.fits in
    elim c.loop-size-test.branch [
      | else-loop-size-test w ↦ size_all n run inv.some (omega (arith, inv.within, w.loop-size-test.false)) fits
      | then-loop-size-test+in_ok-next+then-saturating_add-gt-MOST_BODY w ↦
          let object = hec_object_of w.index-run-size.result.event in
          let more : objects_text (take (n + 1) run) ≡ objects_text (take n run) ++ object = objects_more run n w.index-run-size.result w.loop-size-test.true w.index-run-size.is in
          let size : length w.bytes.result.now ≡ length object = ap length (w.bytes.ensures ∙ w.in_ok-next.ensures) in
          let sum : length (objects_text (take (n + 1) run)) ≡ length c.loop-size.objects.items + length object = ap length more ∙ length-append (objects_text (take n run)) object ∙ ap (λ (l : List ℕ). length l + length object) (sym inv.objects) in
          size_full n run inv.some w.loop-size-test.true fits (omega (arith, sum, size, w.len.ensures, c.loop-size.objects.ok.0, w.saturating_add.ensures, w.if-saturating_add-gt-MOST_BODY.true))
    ]
