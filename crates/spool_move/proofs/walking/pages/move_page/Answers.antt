use Rattle.std.proofs.Common.{◌≡◌, ◌<◌, ◌^◌, ◌∙◌, ℕ, [], length, sym, ap, arith, subst}
use Rattle.std.specs.Prelude.{Bool, Result}
use Rattle.std.proofs.Math.Logic.{∥∥₁_prop, ∥∥₁_elim}
use Rattle.std.proofs.lemmas.Bool.{eqb-true}
use Rattle.spool_answers.specs.Pend.{given_entries}
use Rattle.spool_log.specs.State.{view, IsIn}
use Rattle.spool_log.specs.Memory.{end_of}
use Rattle.spool_move.specs.declared.fault.MoveFault.{MoveFault}
use Rattle.spool_move.specs.Stands.{IsMoving}
use Rattle.spool_move.specs.Reading.{IsReading}
use Rattle.spool_move.specs.Said.{IsSaidBy}
use Rattle.spool_log.specs.declared.spool.Spool.{Spool}
use Rattle.spool_move.specs.Walking.{WalksPage}
use Rattle.spool_move.proofs.Answering.{on_done, none_past, none_read, on_read, stop_here, moving_now, read_stops, page_of, page_safe, page_done, page_kept, page_answers, page_ends, page_turns_up, refusal_sure, whole_page}
use Rattle.spool_move.proofs.Looking.{reading_source}
use Rattle.spool_move.proofs.Outside.{sure_pends}
use Rattle.spool_move.proofs.Pages.{length-given, not_none, numbered_below, numbered_some}
use Rattle.spool_move.proofs.Results.{is_err, match_err}
use Rattle.spool_move.proofs.Standing.{end_is}
use Rattle.spool_move.proofs.Turning.{both_still, source_turn}
use Rattle.spool_move.proofs.walking.pages.move_page.Goals as goal

pub returns-then-end-course-clause-walks : goal.returns-then-end-course-clause-walks
returns-then-end-course-clause-walks g c = λ m u tells tells' at.
    let past = none_past c.args.tag m u c.args.present.now c.args.course.now _ _ at
    (omega (arith, c.if-end-course.true, c.end.ensures.end, end_is at.reaches.s c.args.source.now.memory at.reaches.source.knows at.reaches.source.sound)) in (
      on_done c.args.tag m u c.args.present.now c.args.course.now _ _ at past,
      both_still g.D.Disk.moment g.E.Disk.moment (IsMoving c.args.tag m u) c.args.source.now.disk c.args.target.now.disk (moving_now c.args.tag m u c.args.present.now c.args.course.now _ _ at),
    )

pub returns-in-Err-clause-walks : goal.returns-in-Err-clause-walks
returns-in-Err-clause-walks g c = λ m u tells tells' at.
    let read = sure_pends at.reaches.s c.args.course.now.upto 128 _ _ _ at.reaches.source (c.in-Err.ensures.pends at.reaches.s [] tells at.reaches.source) in (
      read_stops c.of_source.result c.args.tag m u _ _ (subst IsReading (sym c.of_source.ensures) (reading_source c.in-Err.fault read.pends))
          (stop_here c.args.tag m u c.args.present.now c.args.course.now _ _ at _ read.reached),
      source_turn g.D.Disk.moment g.E.Disk.moment (IsMoving c.args.tag m u) (g.D.Disk.moment c.args.source.now.disk).image c.args.source.now.disk c.pending.new.self.disk c.args.target.now.disk read.any_moment
          (moving_now c.args.tag m u c.args.present.now c.args.course.now _ _ at),
    )

pub returns-then-is_empty-clause-walks : goal.returns-then-is_empty-clause-walks
returns-then-is_empty-clause-walks g c = λ m u tells tells' at.
    let read = sure_pends at.reaches.s c.args.course.now.upto 128 _ _ _ at.reaches.source (c.in-Ok.ensures.pends at.reaches.s [] tells at.reaches.source) in
    let empty : length c.in-Ok.page.items ≡ 0 = sym c.in-Ok.page.ok.0 ∙ eqb-true c.in-Ok.page.len 0 (sym c.is_empty.ensures ∙ c.if-is_empty.true) in
    let none = none_read c.args.tag m u c.args.present.now c.args.course.now (given_entries c.in-Ok.page.items) _ _ at read.pends (length-given c.in-Ok.page.items ∙ empty) in (
      on_done c.args.tag m u c.args.present.now c.args.course.now _ _ (on_read c.args.tag m u c.args.present.now c.args.course.now _ _ at _ read.reached) none,
      source_turn g.D.Disk.moment g.E.Disk.moment (IsMoving c.args.tag m u) (g.D.Disk.moment c.args.source.now.disk).image c.args.source.now.disk c.pending.new.self.disk c.args.target.now.disk read.any_moment
          (moving_now c.args.tag m u c.args.present.now c.args.course.now _ _ at),
    )

pub take_page-requires-clause-numbered : goal.take_page-requires-clause-numbered
take_page-requires-clause-numbered g c = numbered_below c.args.course.now.upto (end_of c.pending.new.self.memory) (2 ^ 63) c.in-Ok.page.items c.pending.new.self.memory.active_lies.ends c.in-Ok.ensures.numbered

pub give_up-requires-clause-within : goal.give_up-requires-clause-within
give_up-requires-clause-within g c =
    c.take_page.ensures.within (end_of c.pending.new.self.memory) (numbered_some c.args.course.now.upto (end_of c.pending.new.self.memory) c.in-Ok.page.items (subst (λ (n : ℕ). 0 < n) c.in-Ok.page.ok.0 (not_none c.in-Ok.page.len (sym c.is_empty.ensures ∙ c.if-is_empty.false))) c.in-Ok.ensures.numbered)
    c.in-Ok.ensures.numbered

pub refuse-requires-clause-within : goal.refuse-requires-clause-within
refuse-requires-clause-within g c =
    c.take_page.ensures.within (end_of c.pending.new.self.memory) (numbered_some c.args.course.now.upto (end_of c.pending.new.self.memory) c.in-Ok.page.items (subst (λ (n : ℕ). 0 < n) c.in-Ok.page.ok.0 (not_none c.in-Ok.page.len (sym c.is_empty.ensures ∙ c.if-is_empty.false))) c.in-Ok.ensures.numbered)
    c.in-Ok.ensures.numbered

pub give_up-requires-clause-earned : goal.give_up-requires-clause-earned
give_up-requires-clause-earned g c = λ n lt. c.requires.earned c.pending.new.self.disk c.take_page.new.target.disk n (λ tells tells'.
    ∥∥₁_elim (c.requires.under_way tells tells') ∥∥₁_prop (λ some.
    let at = some.2 in
    let s = at.reaches.s in
    let read = sure_pends s c.args.course.now.upto 128 _ _ _ at.reaches.source (c.in-Ok.ensures.pends s [] tells at.reaches.source) in
    let takes = c.in-Ok-take_page.ensures.taken at.reaches.t tells' at.reaches.target in
    let page = given_entries c.in-Ok.page.items in
    let p = page_of c.args.tag some.0 some.1 c.args.present.now c.args.course.now c.take_page.new.course page _ _ _ _ at read.pends takes in
    let upto = numbered_some c.args.course.now.upto (end_of c.pending.new.self.memory) c.in-Ok.page.items (subst (λ (n : ℕ). 0 < n) c.in-Ok.page.ok.0 (not_none c.in-Ok.page.len (sym c.is_empty.ensures ∙ c.if-is_empty.false))) c.in-Ok.ensures.numbered in
    let within = c.take_page.ensures.within (end_of c.pending.new.self.memory) upto c.in-Ok.ensures.numbered in
    ∣ page_safe c.args.tag some.0 some.1 c.args.present.now c.args.course.now c.take_page.new.course page _ _ p (g.D.Disk.moment c.pending.new.self.disk) (g.E.Disk.moment c.take_page.new.target.disk)
    (read.reached.each (g.D.Disk.moment c.pending.new.self.disk).reads (g.met.D.Disk.lawful c.pending.new.self.disk tells).reads_image) takes.ends.0.each
    (omega (arith, within, end_is s c.pending.new.self.memory read.reached.knows read.reached.sound)) n lt ∣₁))

pub refuse-requires-clause-earned : goal.refuse-requires-clause-earned
refuse-requires-clause-earned g c = λ refusal n lt. c.requires.earned c.pending.new.self.disk c.take_page.new.target.disk n (λ tells tells'.
    ∥∥₁_elim (c.requires.under_way tells tells') ∥∥₁_prop (λ some.
    let at = some.2 in
    let s = at.reaches.s in
    let read = sure_pends s c.args.course.now.upto 128 _ _ _ at.reaches.source (c.in-Ok.ensures.pends s [] tells at.reaches.source) in
    let takes = c.in-Err-take_page.ensures.taken at.reaches.t tells' at.reaches.target in
    let page = given_entries c.in-Ok.page.items in
    let p = page_of c.args.tag some.0 some.1 c.args.present.now c.args.course.now c.take_page.new.course page _ _ _ _ at read.pends takes in
    let upto = numbered_some c.args.course.now.upto (end_of c.pending.new.self.memory) c.in-Ok.page.items (subst (λ (n : ℕ). 0 < n) c.in-Ok.page.ok.0 (not_none c.in-Ok.page.len (sym c.is_empty.ensures ∙ c.if-is_empty.false))) c.in-Ok.ensures.numbered in
    let within = c.take_page.ensures.within (end_of c.pending.new.self.memory) upto c.in-Ok.ensures.numbered in
    ∣ page_safe c.args.tag some.0 some.1 c.args.present.now c.args.course.now c.take_page.new.course page _ _ p (g.D.Disk.moment c.pending.new.self.disk) (g.E.Disk.moment c.take_page.new.target.disk)
    (read.reached.each (g.D.Disk.moment c.pending.new.self.disk).reads (g.met.D.Disk.lawful c.pending.new.self.disk tells).reads_image)
    (refusal_sure c.in-Err-take_page.fault takes.t' _ refusal takes.ends.reached).each
    (omega (arith, within, end_is s c.pending.new.self.memory read.reached.knows read.reached.sound)) n lt ∣₁))

pub returns-in_err-give_up-in-Ok-take_page-clause-told : goal.returns-in_err-give_up-in-Ok-take_page-clause-told
returns-in_err-give_up-in-Ok-take_page-clause-told g c =
    match_err c.from_residual.result c.in_err-give_up-in-Ok-take_page.field-0.0 (λ _. Unit {0}) (λ fault. IsSaidBy c.give_up.new.source.memory c.take_page.new.target.memory fault) c.from_residual.ensures.1
    (c.in_err-give_up-in-Ok-take_page.ensures.told c.take_page.new.target.memory)

pub returns-in_err-give_up-in-Ok-take_page-clause-walks : goal.returns-in_err-give_up-in-Ok-take_page-clause-walks
returns-in_err-give_up-in-Ok-take_page-clause-walks g c = λ m u tells tells' at.
    let s = at.reaches.s in
    let read = sure_pends s c.args.course.now.upto 128 _ _ _ at.reaches.source (c.in-Ok.ensures.pends s [] tells at.reaches.source) in
    let takes = c.in-Ok-take_page.ensures.taken at.reaches.t tells' at.reaches.target in
    let page = given_entries c.in-Ok.page.items in
    let p = page_of c.args.tag m u c.args.present.now c.args.course.now c.take_page.new.course page _ _ _ _ at read.pends takes in
    let gives = c.in_err-give_up-in-Ok-take_page.ensures.given s tells read.reached in
    let fault = c.in_err-give_up-in-Ok-take_page.field-0.0 in
    let v2 = view c.give_up.new.source.memory c.give_up.new.source.doubt (g.D.Disk.moment c.give_up.new.source.disk) in
    let w1 = view c.take_page.new.target.memory c.take_page.new.target.doubt (g.E.Disk.moment c.take_page.new.target.disk) in (
      subst (λ (r : Result Bool MoveFault). WalksPage c.args.tag m u c.args.present.now c.take_page.new.course r v2 w1) (sym (is_err c.from_residual.result fault c.from_residual.ensures.1))
          (page_kept c.args.tag m u c.args.present.now c.args.course.now c.take_page.new.course page _ _ p v2 w1 fault takes.ends.0 gives.given),
      page_turns_up c.args.tag m u c.args.present.now c.args.course.now c.take_page.new.course page _ _ p g.D.Disk.moment g.E.Disk.moment c.args.source.now.disk c.pending.new.self.disk c.args.target.now.disk c.take_page.new.target.disk
          at.reaches.source.each at.reaches.target.each read.any_moment c.give_up.new.source.disk
          (whole_page c.args.tag m u c.args.present.now c.args.course.now c.take_page.new.course page _ _ p takes.ends.1) takes.any_moment takes.ends.0.each gives.any_moment,
    )

pub returns-in_ok-give_up-in-Ok-take_page-clause-walks : goal.returns-in_ok-give_up-in-Ok-take_page-clause-walks
returns-in_ok-give_up-in-Ok-take_page-clause-walks g c = λ m u tells tells' at.
    let s = at.reaches.s in
    let read = sure_pends s c.args.course.now.upto 128 _ _ _ at.reaches.source (c.in-Ok.ensures.pends s [] tells at.reaches.source) in
    let takes = c.in-Ok-take_page.ensures.taken at.reaches.t tells' at.reaches.target in
    let page = given_entries c.in-Ok.page.items in
    let p = page_of c.args.tag m u c.args.present.now c.args.course.now c.take_page.new.course page _ _ _ _ at read.pends takes in
    let gives = c.in_ok-give_up-in-Ok-take_page.ensures.given s tells read.reached in (
      page_done c.args.tag m u c.args.present.now c.args.course.now c.take_page.new.course page _ _ p _ _ takes.ends.1 takes.ends.0 gives.given,
      page_turns_up c.args.tag m u c.args.present.now c.args.course.now c.take_page.new.course page _ _ p g.D.Disk.moment g.E.Disk.moment c.args.source.now.disk c.pending.new.self.disk c.args.target.now.disk c.take_page.new.target.disk
          at.reaches.source.each at.reaches.target.each read.any_moment c.give_up.new.source.disk
          (whole_page c.args.tag m u c.args.present.now c.args.course.now c.take_page.new.course page _ _ p takes.ends.1) takes.any_moment takes.ends.0.each gives.any_moment,
    )

pub returns-in-Err-take_page-clause-told : goal.returns-in-Err-take_page-clause-told
returns-in-Err-take_page-clause-told g c = let refused = c.in-Err-take_page.ensures.refused in c.refuse.ensures.told c.take_page.new.target.memory refused.0 refused.1

pub returns-in-Err-take_page-clause-walks : goal.returns-in-Err-take_page-clause-walks
returns-in-Err-take_page-clause-walks g c = λ m u tells tells' at.
    let s = at.reaches.s in
    let read = sure_pends s c.args.course.now.upto 128 _ _ _ at.reaches.source (c.in-Ok.ensures.pends s [] tells at.reaches.source) in
    let takes = c.in-Err-take_page.ensures.taken at.reaches.t tells' at.reaches.target in
    let page = given_entries c.in-Ok.page.items in
    let p = page_of c.args.tag m u c.args.present.now c.args.course.now c.take_page.new.course page _ _ _ _ at read.pends takes in
    let answers = c.refuse.ensures.answers s tells read.reached in
    let fault = c.in-Err-take_page.fault in (
      page_answers c.args.tag m u c.args.present.now c.args.course.now c.take_page.new.course page _ _ p _ _ fault c.refuse.result _
          (λ is. subst (λ (x : Spool g.row.D.Denot g.D.Disk). IsIn s [] (view x.memory x.doubt (g.D.Disk.moment x.disk))) (sym (c.refuse.ensures.still is)) read.reached)
          takes.ends answers,
      page_ends c.args.tag m u c.args.present.now c.args.course.now c.take_page.new.course page _ _ p g.D.Disk.moment g.E.Disk.moment c.args.source.now.disk c.pending.new.self.disk c.args.target.now.disk c.take_page.new.target.disk
          at.reaches.source.each at.reaches.target.each read.any_moment fault c.refuse.result c.refuse.new.source.disk _ _ _ (λ is. ap (λ (x : Spool g.row.D.Denot g.D.Disk). x.disk) (c.refuse.ensures.still is)) takes.ends (λ d i. i) answers (λ run. run)
          takes.any_moment,
    )

pub returns-in_ok-give_up-in-Ok-take_page-clause-rises : goal.returns-in_ok-give_up-in-Ok-take_page-clause-rises
returns-in_ok-give_up-in-Ok-take_page-clause-rises g c = λ is.
    let some = subst (λ (n : ℕ). 0 < n) c.in-Ok.page.ok.0 (not_none c.in-Ok.page.len (sym c.is_empty.ensures ∙ c.if-is_empty.false)) in
    let within = c.take_page.ensures.within (end_of c.pending.new.self.memory) (numbered_some c.args.course.now.upto (end_of c.pending.new.self.memory) c.in-Ok.page.items some c.in-Ok.ensures.numbered) c.in-Ok.ensures.numbered in
    (c.in-Ok-take_page.ensures.rises some, omega (arith, within, c.pending.new.self.memory.active_lies.ends))
