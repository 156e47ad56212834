use Rattle.std.proofs.Common.{◌≡◌, ◌⊎◌, inl, inr, ◌+◌, ◌<◌, ◌≤◌, ◌∷◌, ◌++◌, [], ℕ, List, take, get_or, ap, sym, ◌∙◌, arith, subst}
use Rattle.std.proofs.lemmas.List.{take_all, take_more}
use Rattle.known_numbers.specs.declared.stretch.Stretch.{Stretch}
use Rattle.known_numbers.specs.Numbers.{Numbers, IsWithin, IsInSome, IsKnown, IsSound, count_of, marked}
use Rattle.known_numbers.proofs.Marking.{marked_sound, marked_keeps, marked_only}
use Rattle.spool_log.specs.Device.{numbers_in, MayFollow}
use Rattle.spool_answers.specs.Stages.{total_of}
use Rattle.spool_log.proofs.Changes.Marking.{join_may, join_more, join_rises, join_only, whole_stretch, judged_same}
use Rattle.spool_log.proofs.changing.mark.join.Goals as goal

pub loop-stretch-init : goal.loop-stretch-init
loop-stretch-init c =
    let content = c.args.content.now in
    let is : c.set.new.self ≡ numbers_in content = c.set.ensures ∙ ap (λ (l : List Stretch). record { cursor = content.cursor; stretches = l }) c.deref.ensures.value in
    record {
      may = subst (MayFollow content.cursor c.args.end) (sym is) (record { reaches = omega arith; within = c.requires.within; stretches = c.requires.stretches });
      joined = λ all. is;
      sound = subst IsSound (sym is) c.requires.sound;
      keeps = λ n k. subst (λ (a : Numbers). IsKnown a n) (sym is) k;
      only = λ n k. inl (subst (λ (a : Numbers). IsKnown a n) is k);
      rises = inl is;
    }

pub loop-stretch-preserved : goal.loop-stretch-preserved
loop-stretch-preserved c =
    let content = c.args.content.now in
    let inv = c.loop-stretch.invariant in
    let i = c.loop-stretch.stretch-index in
    let numbers = c.loop-stretch.numbers in
    let none : Stretch = record { from = 0; to = 0 } in
    let one : Stretch = record { from = c.min.result; to = c.min-in-loop-stretch.result } in
    let is : c.mark.new.self ≡ marked numbers (one ∷ []) = c.mark.ensures in
    record {
      may = subst (MayFollow content.cursor c.args.end) (sym is) (join_may content.cursor c.args.end numbers inv.sound one (omega (arith, c.min-in-loop-stretch.ensures)) inv.may);
      joined = λ all. is ∙ join_more (numbers_in content) numbers c.args.more.now i none one c.loop-stretch-test.true (whole_stretch c.args.end (get_or c.args.more.now i none) c.min.result c.min-in-loop-stretch.result (all i none c.loop-stretch-test.true) c.min.ensures c.min-in-loop-stretch.ensures) (inv.joined all);
      sound = subst IsSound (sym is) (marked_sound numbers (one ∷ []) inv.sound);
      keeps = λ n k. subst (λ (a : Numbers). IsKnown a n) (sym is) (marked_keeps numbers (one ∷ []) n (inv.keeps n k));
      only = λ n k. join_only (numbers_in content) numbers c.args.more.now i none one c.args.end c.loop-stretch-test.true c.min.ensures c.min-in-loop-stretch.ensures n (inv.only n) (subst (λ (a : Numbers). IsKnown a n) is k);
      rises = subst (λ (n : Numbers). (n ≡ numbers_in content) ⊎ (total_of (numbers_in content) < total_of n)) (sym is) (join_rises (numbers_in content) numbers one inv.sound inv.rises);
    }

pub returns : goal.returns
returns c =
    let content = c.args.content.now in
    let inv = c.loop-stretch.invariant in
    let is : c.set.new.self ≡ numbers_in content = c.set.ensures ∙ ap (λ (l : List Stretch). record { cursor = content.cursor; stretches = l }) c.deref.ensures.value in
    let judged = judged_same (numbers_in content) c.loop-stretch.numbers c.is_same.result c.count-before.result (c.count-before.ensures ∙ ap (λ (n : Numbers). count_of n.stretches) is) inv.rises c.is_same.ensures in
    record {
      may = inv.may;
      joined = λ all. inv.joined all ∙ ap (λ (l : List Stretch). marked (numbers_in content) l) (take_all c.loop-stretch.stretch-index c.args.more.now c.loop-stretch-test.false);
      new = judged.0;
      same = judged.1;
      keeps = inv.keeps;
      only = λ n k. subst (λ (l : List Stretch). IsKnown (numbers_in content) n ⊎ IsInSome l n) (take_all c.loop-stretch.stretch-index c.args.more.now c.loop-stretch-test.false) (inv.only n k);
    }
