use Rattle.std.proofs.Common.{◌^◌, ◌++◌, ◌∷◌, [], ◌∙◌, List, length, Ok, refl, sym, ap, arith, append_assoc, subst}
use Rattle.std.specs.Prelude.{Result}
use Rattle.std.specs.Vec.Iter.{into_iter_items}
use Rattle.std.proofs.lemmas.List.{append-nil, nil_from_length}
use Rattle.edge_disk.specs.Disk.{LeavesOnly}
use Rattle.edge_disk.proofs.Calls.{calls_none, calls_as, calls_on}
use Rattle.edge_disk.proofs.Moments.{started}
use Rattle.spool_state.specs.Left.{NumberedEntry}
use Rattle.spool_faults.specs.declared.fault.TakeFault.{TakeFault}
use Rattle.spool_answers.specs.declared.numbered.Numbered.{Numbered}
use Rattle.spool_answers.specs.Pend.{AreNumbered, given_entries}
use Rattle.spool_log.specs.State.{view}
use Rattle.spool_move.specs.Moved.{all_moved}
use Rattle.spool_move.specs.Stands.{HasTaken}
use Rattle.spool_move.specs.Reading.{as_entry}
use Rattle.spool_move.specs.declared.walking.course.Course.{Course}
use Rattle.spool_move.specs.Walking.{absent, after_last, IsWalking, TakesPage}
use Rattle.spool_move.proofs.Growing.{taken_none}
use Rattle.spool_move.proofs.Pages.{after_push, given_push, given_next, given_within, given_rises}
use Rattle.spool_move.proofs.Results.{is_err}
use Rattle.spool_move.proofs.Steps.{taken_more, count_more, run_more, page_whole, page_cut, given_cut}
use Rattle.spool_move.proofs.walking.taking.take_page.Goals as goal

pub loop-one-init : goal.loop-one-init
loop-one-init g c = record {
  can_next = tt;
  is_finite = tt;
  parts = sym c.into_iter-one-iterator.ensures.into_iter_gives.0;
  whole = c.into_iter-one-iterator.ensures.into_iter_gives.1 ∙ c.args.page.ok.0 ∙ ap length (sym c.into_iter-one-iterator.ensures.into_iter_gives.0);
  upto_is = refl;
  taken_is = omega arith;
  few = c.requires.few;
  calls = calls_none _;
  taken = λ t tells held.
      let none = taken_none t held.sound.from_base in (
        t,
        held,
        none,
        started (IsWalking c.args.tag c.args.present.now [] t) (g.E.Disk.moment c.args.target.now.disk) (g.met.E.Disk.lawful c.args.target.now.disk tells) (λ d i. (0, t, held.each d i, record { within = omega arith; taken = none })),
      );
}

pub walk_one-requires-clause-limits : goal.walk_one-requires-clause-limits
walk_one-requires-clause-limits g c =
    let parts = c.loop-one.invariant.parts ∙ ap (λ (l : List Numbered). c.loop-one.yielded ++ l) c.in-Some.ensures.steps.0 in
    (given_next c.args.course.now.upto (2 ^ 63) c.loop-one.yielded c.in-Some.one (into_iter_items c.next.new.self) (subst (AreNumbered c.args.course.now.upto (2 ^ 63)) parts c.requires.numbered)).limits

pub walk_one-requires-clause-small : goal.walk_one-requires-clause-small
walk_one-requires-clause-small g c =
    let parts = c.loop-one.invariant.parts ∙ ap (λ (l : List Numbered). c.loop-one.yielded ++ l) c.in-Some.ensures.steps.0 in
    (given_next c.args.course.now.upto (2 ^ 63) c.loop-one.yielded c.in-Some.one (into_iter_items c.next.new.self) (subst (AreNumbered c.args.course.now.upto (2 ^ 63)) parts c.requires.numbered)).below

pub walk_one-requires-clause-few : goal.walk_one-requires-clause-few
walk_one-requires-clause-few g c =
    let parts = c.loop-one.invariant.parts ∙ ap (λ (l : List Numbered). c.loop-one.yielded ++ l) c.in-Some.ensures.steps.0 in
    let next = given_next c.args.course.now.upto (2 ^ 63) c.loop-one.yielded c.in-Some.one (into_iter_items c.next.new.self) (subst (AreNumbered c.args.course.now.upto (2 ^ 63)) parts c.requires.numbered) in
    omega (arith, c.loop-one.invariant.few, c.loop-one.invariant.upto_is, next.above)

pub returns-in_err-walk_one-clause-within : goal.returns-in_err-walk_one-clause-within
returns-in_err-walk_one-clause-within g c = λ end le are.
    let within = given_within c.args.course.now.upto end c.loop-one.yielded (into_iter_items c.loop-one.one-iterator) le (subst (AreNumbered c.args.course.now.upto end) c.loop-one.invariant.parts are) in
    omega (arith, within, c.loop-one.invariant.upto_is, ap (λ (x : Course). x.upto) c.in_err-walk_one.ensures.still)

pub returns-in_err-walk_one-clause-taken : goal.returns-in_err-walk_one-clause-taken
returns-in_err-walk_one-clause-taken g c = λ t tells held.
    let old = view c.args.target.now.memory c.args.target.now.doubt (g.E.Disk.moment c.args.target.now.disk) in
    let mid = view c.loop-one.target.memory c.loop-one.target.doubt (g.E.Disk.moment c.loop-one.target.disk) in
    let new = view c.walk_one.new.target.memory c.walk_one.new.target.doubt (g.E.Disk.moment c.walk_one.new.target.disk) in
    let before = c.loop-one.invariant.taken t tells held in
    let fault = c.in_err-walk_one.field-0.0 in
    let xs = given_entries c.loop-one.yielded in
    let rest = into_iter_items c.next.new.self in
    let page = given_entries c.args.page.items in
    let parts = c.loop-one.invariant.parts ∙ ap (λ (l : List Numbered). c.loop-one.yielded ++ l) c.in-Some.ensures.steps.0 in
    subst (λ (r : Result (Unit {0}) TakeFault). TakesPage c.args.tag c.args.present.now page t r c.args.course.now c.walk_one.new.course old new) (sym (is_err c.from_residual.result fault c.from_residual.ensures.1))
    (page_cut c.args.tag c.args.present.now t xs (as_entry c.in-Some.one) (given_entries rest) page before.0 fault c.args.course.now c.walk_one.new.course old mid new
    (given_cut c.loop-one.yielded c.in-Some.one rest c.args.page.items parts) before.2 before.3 (c.in_err-walk_one.ensures.walked before.0 tells before.1)
    (ap (λ (x : Course). x.upto) c.in_err-walk_one.ensures.still ∙ c.loop-one.invariant.upto_is)
    (ap (λ (x : Course). x.taken) c.in_err-walk_one.ensures.still ∙ c.loop-one.invariant.taken_is))

pub loop-one-preserved : goal.loop-one-preserved
loop-one-preserved g c =
    let inv = c.loop-one.invariant in
    let walk = c.in_ok-walk_one.ensures in
    let xs = given_entries c.loop-one.yielded in
    let one = as_entry c.in-Some.one in
    let push = given_push c.loop-one.yielded c.in-Some.one in
    let old = g.E.Disk.moment c.args.target.now.disk in
    let mid = g.E.Disk.moment c.loop-one.target.disk in
    let new = g.E.Disk.moment c.walk_one.new.target.disk in
    record {
      can_next = tt;
      is_finite = tt;
      parts = inv.parts ∙ ap (λ (l : List Numbered). c.loop-one.yielded ++ l) c.in-Some.ensures.steps.0 ∙ sym (append_assoc c.loop-one.yielded (c.in-Some.one ∷ []) (into_iter_items c.next.new.self));
      whole = omega (arith, inv.whole, ap length c.in-Some.ensures.steps.0, c.in-Some.ensures.steps.1);
      upto_is = walk.counted.0 ∙ sym (ap (after_last c.args.course.now.upto) push ∙ after_push c.args.course.now.upto xs one);
      taken_is =
          let many = ap (λ (l : List NumberedEntry). length (absent c.args.present.now l)) push ∙ count_more c.args.present.now xs (one ∷ []) in
          omega (arith, walk.counted.1, inv.taken_is, many);
      few = walk.few;
      calls = calls_on _ _ _ _ _ inv.calls (λ none. none) (calls_as _ _ _ _ walk.calls (λ none. absurd none) (λ is. cc));
      taken = λ t tells held.
          let before = inv.taken t tells held in
          let walked = walk.walked before.0 tells before.1 in (
            walked.walked.0,
            walked.walked.1,
            subst (λ (l : List NumberedEntry). HasTaken t (all_moved c.args.tag (absent c.args.present.now l)) walked.walked.0) (sym push)
                (taken_more c.args.tag c.args.present.now t xs (one ∷ []) before.0 walked.walked.0 before.2 walked.walked.2),
            subst (λ (l : List NumberedEntry). LeavesOnly (IsWalking c.args.tag c.args.present.now l t) old new) (sym push)
                (run_more c.args.tag c.args.present.now t xs (one ∷ []) before.0 old mid new before.2 before.3 walked.any_moment),
          );
    }

pub returns-clause-within : goal.returns-clause-within
returns-clause-within g c = λ end le are.
    let within = given_within c.args.course.now.upto end c.loop-one.yielded (into_iter_items c.loop-one.one-iterator) le (subst (AreNumbered c.args.course.now.upto end) c.loop-one.invariant.parts are) in
    omega (arith, within, c.loop-one.invariant.upto_is)

pub returns-clause-rises : goal.returns-clause-rises
returns-clause-rises g c = λ some.
    let none = nil_from_length (into_iter_items c.loop-one.one-iterator) (sym c.loop-one.invariant.whole ∙ c.in-None.ensures.steps.0) in
    let all = c.loop-one.invariant.parts ∙ ap (λ (l : List Numbered). c.loop-one.yielded ++ l) none ∙ append-nil c.loop-one.yielded in
    let rise = given_rises c.args.course.now.upto (2 ^ 63) c.loop-one.yielded (subst (AreNumbered c.args.course.now.upto (2 ^ 63)) all c.requires.numbered) in
    omega (arith, some, rise, ap length all, c.loop-one.invariant.upto_is)

pub returns-clause-taken : goal.returns-clause-taken
returns-clause-taken g c = λ t tells held.
    let old = view c.args.target.now.memory c.args.target.now.doubt (g.E.Disk.moment c.args.target.now.disk) in
    let new = view c.loop-one.target.memory c.loop-one.target.doubt (g.E.Disk.moment c.loop-one.target.disk) in
    let before = c.loop-one.invariant.taken t tells held in
    let none = nil_from_length (into_iter_items c.loop-one.one-iterator) (sym c.loop-one.invariant.whole ∙ c.in-None.ensures.steps.0) in
    let all = c.loop-one.invariant.parts ∙ ap (λ (l : List Numbered). c.loop-one.yielded ++ l) none ∙ append-nil c.loop-one.yielded in
    subst (λ (l : List Numbered). TakesPage c.args.tag c.args.present.now (given_entries l) t (Ok tt) c.args.course.now c.loop-one.course old new) (sym all)
    (page_whole c.args.tag c.args.present.now t (given_entries c.loop-one.yielded) before.0 c.args.course.now c.loop-one.course old new before.1 before.2 before.3 c.loop-one.invariant.upto_is c.loop-one.invariant.taken_is)
