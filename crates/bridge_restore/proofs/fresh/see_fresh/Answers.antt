use Rattle.std.proofs.Common.{◌≡◌, ◌<◌, ◌≤◌, ◌-◌, ◌++◌, [], List, length, get_or, sym, subst, arith}
use Rattle.std.specs.Prelude.{◌≢◌}
use Rattle.std.proofs.lemmas.List.Elements.{All-nil}
use Rattle.edge_disk.proofs.Calls.{calls_none, calls_as, calls_on}
use Rattle.edge_disk.proofs.Moments.{started}
use Rattle.spool_state.specs.Left.{NumberedEntry}
use Rattle.spool_state.proofs.Lefts.{left_from-base}
use Rattle.spool_answers.specs.declared.numbered.Numbered.{Numbered}
use Rattle.spool_answers.specs.Pend.{given_entries}
use Rattle.spool_move.specs.Moved.{connection_of}
use Rattle.spool_move.proofs.Outside.{sure_pends}
use Rattle.spool_move.proofs.Pages.{last_given, page_next, page_last}
use Rattle.spool_move.proofs.ReadOn.{read_on}
use Rattle.bridge_restore.specs.Fresh.{IsFresh, HasTagged}
use Rattle.bridge_restore.proofs.Seeing.{fresh_then, tagged_in}
use Rattle.bridge_restore.proofs.fresh.see_fresh.Goals as goal

pub loop-page-init : goal.loop-page-init
loop-page-init g c = record {
  within = omega arith;
  calls = calls_none _;
  seen = λ u tells held. ([], sym (left_from-base u 0 (omega arith)), All-nil (λ (e : NumberedEntry). e.entry.conn ≢ connection_of c.args.tag));
  kept = λ u tells held. (held, started (g.E.Disk.moment c.args.target.now.disk).image _ (g.met.E.Disk.lawful c.args.target.now.disk tells) (λ d image. image));
}

pub returns-in-Err-clause-seen : goal.returns-in-Err-clause-seen
returns-in-Err-clause-seen g c = λ u tells held.
    let kept = c.loop-page.invariant.kept u tells held in
    (sure_pends u c.loop-page.from 128 _ _ _ kept.0 (c.in-Err.ensures.pends u [] tells kept.0)).pends

pub returns-in-Err-clause-kept : goal.returns-in-Err-clause-kept
returns-in-Err-clause-kept g c = λ u tells held.
    let kept = c.loop-page.invariant.kept u tells held in
    let read = sure_pends u c.loop-page.from 128 _ _ _ kept.0 (c.in-Err.ensures.pends u [] tells kept.0) in
    (read.reached, read_on _ _ _ kept.1 read.any_moment)

pub returns-in-Some-clause-seen : goal.returns-in-Some-clause-seen
returns-in-Some-clause-seen g c = λ u tells held.
    let kept = c.loop-page.invariant.kept u tells held in
    let read = sure_pends u c.loop-page.from 128 _ _ _ kept.0 (c.in-Ok.ensures.pends u [] tells kept.0) in
    let so_far = c.loop-page.invariant.seen u tells held in
    let given = c.in-Ok.page.items in
    tagged_in c.args.tag u so_far.0 c.loop-page.from 128 c.in-Some.number given so_far.1 read.pends so_far.2
    (subst (λ (l : List Numbered). HasTagged c.args.tag (given_entries l) c.in-Some.number) c.deref.ensures.value c.in-Some.ensures)

pub returns-in-Some-clause-kept : goal.returns-in-Some-clause-kept
returns-in-Some-clause-kept g c = λ u tells held.
    let kept = c.loop-page.invariant.kept u tells held in
    let read = sure_pends u c.loop-page.from 128 _ _ _ kept.0 (c.in-Ok.ensures.pends u [] tells kept.0) in
    (read.reached, read_on _ _ _ kept.1 read.any_moment)

pub overflow_add-from : goal.overflow_add-from
overflow_add-from g c =
    let given = c.in-Ok.page.items in
    let one = c.in-Some-last.last.now in
    let place = subst (λ (l : List Numbered). one ≡ get_or l (length l - 1) one) c.deref-in-loop-page.ensures.value c.in-Some-last.ensures.item.1 in
    let some = subst (λ (l : List Numbered). 0 < length l) c.deref-in-loop-page.ensures.value c.in-Some-last.ensures.item.3.0 in
    let last = last_given c.loop-page.from _ given one c.in-Ok.ensures.numbered some place in
    omega (arith, last.below)

pub returns-in-None-clause-seen : goal.returns-in-None-clause-seen
returns-in-None-clause-seen g c = λ u tells held.
    let kept = c.loop-page.invariant.kept u tells held in
    let read = sure_pends u c.loop-page.from 128 _ _ _ kept.0 (c.in-Ok.ensures.pends u [] tells kept.0) in
    let so_far = c.loop-page.invariant.seen u tells held in
    let given = c.in-Ok.page.items in
    let none = subst (λ (l : List Numbered). length l ≤ 0) c.deref-in-loop-page.ensures.value c.in-None.ensures.item.3 in
    let here = subst (λ (l : List Numbered). IsFresh c.args.tag (given_entries l)) c.deref.ensures.value c.in_default.ensures in
    subst (λ (l : List NumberedEntry). IsFresh c.args.tag l) (sym (page_last u so_far.0 c.loop-page.from 128 given so_far.1 read.pends (omega arith) none))
    (fresh_then c.args.tag so_far.0 (given_entries given) so_far.2 here)

pub returns-in-None-clause-kept : goal.returns-in-None-clause-kept
returns-in-None-clause-kept g c = λ u tells held.
    let kept = c.loop-page.invariant.kept u tells held in
    let read = sure_pends u c.loop-page.from 128 _ _ _ kept.0 (c.in-Ok.ensures.pends u [] tells kept.0) in
    (read.reached, read_on _ _ _ kept.1 read.any_moment)

pub loop-page-smaller : goal.loop-page-smaller
loop-page-smaller g c =
    let given = c.in-Ok.page.items in
    let one = c.in-Some-last.last.now in
    let place = subst (λ (l : List Numbered). one ≡ get_or l (length l - 1) one) c.deref-in-loop-page.ensures.value c.in-Some-last.ensures.item.1 in
    let some = subst (λ (l : List Numbered). 0 < length l) c.deref-in-loop-page.ensures.value c.in-Some-last.ensures.item.3.0 in
    let last = last_given c.loop-page.from _ given one c.in-Ok.ensures.numbered some place in
    omega (arith, last.above, last.below)

pub loop-page-preserved : goal.loop-page-preserved
loop-page-preserved g c =
    let inv = c.loop-page.invariant in
    let given = c.in-Ok.page.items in
    let one = c.in-Some-last.last.now in
    let place = subst (λ (l : List Numbered). one ≡ get_or l (length l - 1) one) c.deref-in-loop-page.ensures.value c.in-Some-last.ensures.item.1 in
    let some = subst (λ (l : List Numbered). 0 < length l) c.deref-in-loop-page.ensures.value c.in-Some-last.ensures.item.3.0 in
    let last = last_given c.loop-page.from _ given one c.in-Ok.ensures.numbered some place in
    record {
      within = omega (arith, last.below);
      calls = calls_on _ _ _ _ _ inv.calls (λ none. none) (calls_as _ _ _ _ c.in-Ok.ensures.calls (λ none. absurd none) (λ is. cc));
      seen = λ u tells held.
          let kept = inv.kept u tells held in
          let read = sure_pends u c.loop-page.from 128 _ _ _ kept.0 (c.in-Ok.ensures.pends u [] tells kept.0) in
          let so_far = inv.seen u tells held in
          let here = subst (λ (l : List Numbered). IsFresh c.args.tag (given_entries l)) c.deref.ensures.value c.in_default.ensures in (
            so_far.0 ++ given_entries given,
            page_next u so_far.0 c.loop-page.from 128 given so_far.1 read.pends one some place last.above,
            fresh_then c.args.tag so_far.0 (given_entries given) so_far.2 here,
          );
      kept = λ u tells held.
          let kept = inv.kept u tells held in
          let read = sure_pends u c.loop-page.from 128 _ _ _ kept.0 (c.in-Ok.ensures.pends u [] tells kept.0) in
          (read.reached, read_on _ _ _ kept.1 read.any_moment);
    }
