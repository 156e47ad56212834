use Rattle.std.proofs.Common.{◌≡◌, ◌∙◌, ap, sym, inl, inr, ℕ, List, ◌∷◌, [], ◌++◌}
use Rattle.std.proofs.lemmas.List.{map-append}
use Rattle.event_form.specs.declared.event.Entry.{Entry}
use Rattle.spool_answers.specs.declared.numbered.Numbered.{Numbered}
use Rattle.forward_core.specs.Calls.{within, entries_of, numbers_of, after_last}
use Rattle.forward_core.proofs.Batches.{within_taken, within_passed, after_last_push}
use Rattle.forward_core.proofs.refill.batch_of.Goals as goal
use Rattle.forward_core.proofs.refill.batch_of.Goals.{else-next-one-via-then-next-one+else-one-end, else-next-one-via-else-next-one}

pub loop-one-preserved-then-one-end : goal.loop-one-preserved-then-one-end
loop-one-preserved-then-one-end c =
    let l = c.loop-one in
    let one = c.in-Some.one in
    let more : within c.args.next c.args.end (l.yielded ++ one ∷ []) ≡ within c.args.next c.args.end l.yielded ++ one ∷ [] = within_taken c.args.next c.args.end l.yielded one c.if-next-one.true c.if-one-end.true in
    record {
      entries = c.in_ok-push.ensures.items ∙ ap (λ (w : List Entry). w ++ one.entry ∷ []) l.invariant.entries ∙ sym (ap entries_of more ∙ map-append (λ (x : Numbered). x.entry) (within c.args.next c.args.end l.yielded) (one ∷ []));
      numbers = c.in_ok-push_back.ensures.items ∙ ap (λ (w : List ℕ). w ++ one.number ∷ []) l.invariant.numbers ∙ sym (ap numbers_of more ∙ map-append (λ (x : Numbered). x.number) (within c.args.next c.args.end l.yielded) (one ∷ []));
      next_is = sym (ap (λ (w : List Numbered). after_last c.args.next w) more ∙ after_last_push c.args.next (within c.args.next c.args.end l.yielded) one);
    }

pub loop-one-preserved : goal.loop-one-preserved
loop-one-preserved c =
    let l = c.loop-one in
    let one = c.in-Some.one in
    let same : within c.args.next c.args.end (l.yielded ++ one ∷ []) ≡ within c.args.next c.args.end l.yielded = within_passed c.args.next c.args.end l.yielded one
    (elim c.else-next-one.branch [ else-next-one-via-then-next-one+else-one-end w ↦ inr w.if-one-end.false | else-next-one-via-else-next-one w ↦ inl w.if-next-one.false ]) in
    record {
      entries = l.invariant.entries ∙ ap entries_of (sym same);
      numbers = l.invariant.numbers ∙ ap numbers_of (sym same);
      next_is = l.invariant.next_is ∙ ap (λ (w : List Numbered). after_last c.args.next w) (sym same);
    }
