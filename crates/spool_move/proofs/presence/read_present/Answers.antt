use Rattle.std.proofs.Common.{◌≡◌, ◌<◌, ◌≤◌, ◌-◌, ◌++◌, List, [], length, get_or, drop, sym, subst, arith}
use Rattle.edge_disk.proofs.Calls.{calls_none, calls_as, calls_on}
use Rattle.edge_disk.proofs.Moments.{started}
use Rattle.spool_state.specs.Left.{NumberedEntry, left, left_from}
use Rattle.spool_state.proofs.Lefts.{left_from-base}
use Rattle.spool_answers.specs.declared.numbered.Numbered.{Numbered}
use Rattle.spool_answers.specs.Pend.{given_entries}
use Rattle.spool_move.specs.declared.fault.MoveFault.{MoveFault}
use Rattle.spool_move.specs.Reading.{IsSearched, FindsFault}
use Rattle.spool_move.proofs.Looking.{reading_target}
use Rattle.spool_move.proofs.Outside.{sure_pends}
use Rattle.spool_move.proofs.Pages.{last_given, page_parts, page_next, page_last}
use Rattle.spool_move.proofs.Present.{finds_reading, finds_then, searched_none}
use Rattle.spool_move.proofs.ReadOn.{read_on}
use Rattle.spool_move.proofs.Results.{match_err}
use Rattle.spool_move.proofs.Standing.{contains_none}
use Rattle.spool_move.proofs.presence.read_present.Goals as goal

pub loop-page-init : goal.loop-page-init
loop-page-init g c = record {
  within = omega arith;
  source_calls = calls_none _;
  target_calls = calls_none _;
  searched = λ m u tells tells' held held'. ([], sym (left_from-base u 0 (omega arith)), searched_none c.args.tag m c.new-present.result (contains_none c.new-present.result c.new-present.ensures.empty));
  source_kept = λ m tells held. (held, started (g.D.Disk.moment c.args.source.now.disk).image _ (g.met.D.Disk.lawful c.args.source.now.disk tells) (λ d image. image));
  target_kept = λ u tells held. (held, started (g.E.Disk.moment c.args.target.now.disk).image _ (g.met.E.Disk.lawful c.args.target.now.disk tells) (λ d image. image));
}

pub returns-in-Err-clause-searched : goal.returns-in-Err-clause-searched
returns-in-Err-clause-searched g c = λ m u tells tells' held held'.
    let kept = c.loop-page.invariant.target_kept u tells' held' in
    let read = sure_pends u c.loop-page.from 128 _ _ _ kept.0 (c.in-Err.ensures.pends u [] tells' kept.0) in
    subst (λ (f : MoveFault). FindsFault c.args.tag m (left u) f) (sym c.of_target.ensures)
    (finds_reading c.args.tag m (left u) _ (reading_target c.in-Err.fault read.pends))

pub returns-in-Err-clause-target_kept : goal.returns-in-Err-clause-target_kept
returns-in-Err-clause-target_kept g c = λ u tells held.
    let kept = c.loop-page.invariant.target_kept u tells held in
    let read = sure_pends u c.loop-page.from 128 _ _ _ kept.0 (c.in-Err.ensures.pends u [] tells kept.0) in
    (read.reached, read_on _ _ _ kept.1 read.any_moment)

pub returns-in_err-look_at_page-clause-searched : goal.returns-in_err-look_at_page-clause-searched
returns-in_err-look_at_page-clause-searched g c = λ m u tells tells' held held'.
    let inv = c.loop-page.invariant in
    let kept = inv.target_kept u tells' held' in
    let read = sure_pends u c.loop-page.from 128 _ _ _ kept.0 (c.in-Ok.ensures.pends u [] tells' kept.0) in
    let so_far = inv.searched m u tells tells' held held' in
    let given = c.in-Ok.page.items in
    let finds = c.in_err-look_at_page.ensures.looked m so_far.0 tells (inv.source_kept m tells held).0 so_far.2 in
    let fault = c.in_err-look_at_page.field-0.0 in
    match_err c.from_residual.result fault (λ x. IsSearched c.args.tag m (left u) x) (λ f. FindsFault c.args.tag m (left u) f) c.from_residual.ensures.1
    (subst (λ (l : List NumberedEntry). FindsFault c.args.tag m l fault) (sym (page_parts u so_far.0 c.loop-page.from 128 given so_far.1 read.pends))
    (finds_then c.args.tag m (so_far.0 ++ given_entries given) (drop 128 (left_from u c.loop-page.from)) fault
    (subst (λ (l : List Numbered). FindsFault c.args.tag m (so_far.0 ++ given_entries l) fault) c.deref.ensures.value finds)))

pub returns-in_err-look_at_page-clause-source_kept : goal.returns-in_err-look_at_page-clause-source_kept
returns-in_err-look_at_page-clause-source_kept g c = λ m tells held.
    let kept = c.loop-page.invariant.source_kept m tells held in
    let next = c.in_err-look_at_page.ensures.kept m tells kept.0 in
    (next.0, read_on _ _ _ kept.1 next.1)

pub returns-in_err-look_at_page-clause-target_kept : goal.returns-in_err-look_at_page-clause-target_kept
returns-in_err-look_at_page-clause-target_kept g c = λ u tells held.
    let kept = c.loop-page.invariant.target_kept u tells held in
    let read = sure_pends u c.loop-page.from 128 _ _ _ kept.0 (c.in-Ok.ensures.pends u [] tells kept.0) in
    (read.reached, read_on _ _ _ kept.1 read.any_moment)

pub overflow_add-from : goal.overflow_add-from
overflow_add-from g c =
    let given = c.in-Ok.page.items in
    let one = c.in-Some.last.now in
    let place = subst (λ (l : List Numbered). one ≡ get_or l (length l - 1) one) c.deref-in-loop-page.ensures.value c.in-Some.ensures.item.1 in
    let some = subst (λ (l : List Numbered). 0 < length l) c.deref-in-loop-page.ensures.value c.in-Some.ensures.item.3.0 in
    let last = last_given c.loop-page.from _ given one c.in-Ok.ensures.numbered some place in
    omega (arith, last.below)

pub returns-in-None-clause-searched : goal.returns-in-None-clause-searched
returns-in-None-clause-searched g c = λ m u tells tells' held held'.
    let inv = c.loop-page.invariant in
    let kept = inv.target_kept u tells' held' in
    let read = sure_pends u c.loop-page.from 128 _ _ _ kept.0 (c.in-Ok.ensures.pends u [] tells' kept.0) in
    let so_far = inv.searched m u tells tells' held held' in
    let given = c.in-Ok.page.items in
    let none = subst (λ (l : List Numbered). length l ≤ 0) c.deref-in-loop-page.ensures.value c.in-None.ensures.item.3 in
    let found = c.in_ok-look_at_page.ensures.looked m so_far.0 tells (inv.source_kept m tells held).0 so_far.2 in
    subst (λ (l : List NumberedEntry). IsSearched c.args.tag m l c.look_at_page.new.present) (sym (page_last u so_far.0 c.loop-page.from 128 given so_far.1 read.pends (omega arith) none))
    (subst (λ (l : List Numbered). IsSearched c.args.tag m (so_far.0 ++ given_entries l) c.look_at_page.new.present) c.deref.ensures.value found)

pub returns-in-None-clause-source_kept : goal.returns-in-None-clause-source_kept
returns-in-None-clause-source_kept g c = λ m tells held.
    let kept = c.loop-page.invariant.source_kept m tells held in
    let next = c.in_ok-look_at_page.ensures.kept m tells kept.0 in
    (next.0, read_on _ _ _ kept.1 next.1)

pub returns-in-None-clause-target_kept : goal.returns-in-None-clause-target_kept
returns-in-None-clause-target_kept g c = λ u tells held.
    let kept = c.loop-page.invariant.target_kept u tells held in
    let read = sure_pends u c.loop-page.from 128 _ _ _ kept.0 (c.in-Ok.ensures.pends u [] tells kept.0) in
    (read.reached, read_on _ _ _ kept.1 read.any_moment)

pub loop-page-smaller : goal.loop-page-smaller
loop-page-smaller g c =
    let given = c.in-Ok.page.items in
    let one = c.in-Some.last.now in
    let place = subst (λ (l : List Numbered). one ≡ get_or l (length l - 1) one) c.deref-in-loop-page.ensures.value c.in-Some.ensures.item.1 in
    let some = subst (λ (l : List Numbered). 0 < length l) c.deref-in-loop-page.ensures.value c.in-Some.ensures.item.3.0 in
    let last = last_given c.loop-page.from _ given one c.in-Ok.ensures.numbered some place in
    omega (arith, last.above, last.below)

pub loop-page-preserved : goal.loop-page-preserved
loop-page-preserved g c =
    let inv = c.loop-page.invariant in
    let call = c.in_ok-look_at_page.ensures in
    let given = c.in-Ok.page.items in
    let one = c.in-Some.last.now in
    let place = subst (λ (l : List Numbered). one ≡ get_or l (length l - 1) one) c.deref-in-loop-page.ensures.value c.in-Some.ensures.item.1 in
    let some = subst (λ (l : List Numbered). 0 < length l) c.deref-in-loop-page.ensures.value c.in-Some.ensures.item.3.0 in
    let last = last_given c.loop-page.from _ given one c.in-Ok.ensures.numbered some place in
    record {
      within = omega (arith, last.below);
      source_calls = calls_on _ _ _ _ _ inv.source_calls (λ none. none) (calls_as _ _ _ _ call.calls (λ none. absurd none) (λ is. cc));
      target_calls = calls_on _ _ _ _ _ inv.target_calls (λ none. none) (calls_as _ _ _ _ c.in-Ok.ensures.calls (λ none. absurd none) (λ is. cc));
      searched = λ m u tells tells' held held'.
          let kept = inv.target_kept u tells' held' in
          let read = sure_pends u c.loop-page.from 128 _ _ _ kept.0 (c.in-Ok.ensures.pends u [] tells' kept.0) in
          let so_far = inv.searched m u tells tells' held held' in (
            so_far.0 ++ given_entries given,
            page_next u so_far.0 c.loop-page.from 128 given so_far.1 read.pends one some place last.above,
            subst (λ (l : List Numbered). IsSearched c.args.tag m (so_far.0 ++ given_entries l) c.look_at_page.new.present) c.deref.ensures.value
                (call.looked m so_far.0 tells (inv.source_kept m tells held).0 so_far.2),
          );
      source_kept = λ m tells held.
          let kept = inv.source_kept m tells held in
          let next = call.kept m tells kept.0 in
          (next.0, read_on _ _ _ kept.1 next.1);
      target_kept = λ u tells held.
          let kept = inv.target_kept u tells held in
          let read = sure_pends u c.loop-page.from 128 _ _ _ kept.0 (c.in-Ok.ensures.pends u [] tells kept.0) in
          (read.reached, read_on _ _ _ kept.1 read.any_moment);
    }
