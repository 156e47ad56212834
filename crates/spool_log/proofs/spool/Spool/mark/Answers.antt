use Rattle.std.proofs.Common.{inl, inr, ℕ, ◌<◌, sym, ◌∙◌, ap, subst, arith}
use Rattle.std.proofs.lemmas.Bool.{false≢true}
use Rattle.known_numbers.specs.Numbers.{IsKnown, marked}
use Rattle.spool_state.specs.SpoolState.{end}
use Rattle.disk_cell.specs.declared.content.Content.{Content}
use Rattle.spool_log.specs.Device.{numbers_in, MayFollow}
use Rattle.spool_log.specs.Memory.{end_of}
use Rattle.spool_answers.specs.Stages.{total_of}
use Rattle.spool_log.proofs.Numbers.{end_known}
use Rattle.spool_log.proofs.Changes.Marking.{nothing_as, nothing_stage}
use Rattle.spool_answers.proofs.Marking.{ends_later}
use Rattle.spool_log.proofs.Going.{goes_on, goes_nowhere}
use Rattle.spool_log.proofs.spool.Spool.mark.Goals as goal

pub returns-then-not-join-clause-marked : goal.returns-then-not-join-clause-marked
returns-then-not-join-clause-marked g c = λ s doubt tells held.
    let mended = c.in_ok-mend.ensures.mended s doubt tells held in
    let m = mended.0 in
    let reached = mended.1.reached in
    let more = c.args.known.now in
    let memory = c.mend.new.self.memory in
    let all = ends_later _ c.end-end.result more (omega (arith, c.end-end.ensures.end, end_known s c.args.self.now.memory.active held.sound held.knows.active, mended.1.follows.end_rises, end_known m memory.active reached.sound reached.knows.active)) c.requires.numbers in
    let same = nothing_as m memory c.value.result.now c.join.new.numbers more reached.knows c.value.ensures (c.join.ensures.joined all) (c.join.ensures.same (λ t. false≢true (sym c.if-not-join.true ∙ t))) in
    inr (m, inl same, goes_nowhere s doubt m _ _ _ (nothing_stage m more reached.sound same) mended.1)

pub returns-clause-marked : goal.returns-clause-marked
returns-clause-marked g c = λ s doubt tells held.
    let mended = c.in_ok-mend.ensures.mended s doubt tells held in
    let m = mended.0 in
    let reached = mended.1.reached in
    let more = c.args.known.now in
    let memory = c.mend.new.self.memory in
    let all = ends_later _ c.end-end.result more (omega (arith, c.end-end.ensures.end, end_known s c.args.self.now.memory.active held.sound held.knows.active, mended.1.follows.end_rises, end_known m memory.active reached.sound reached.knows.active)) c.requires.numbers in
    let joined = c.join.ensures.joined all ∙ ap (λ (x : Content). marked (numbers_in x) more) c.value.ensures in
    let written = c.write_known.ensures.marked m more tells reached (ends_later _ (end m) more (omega (arith, c.end-end.ensures.end, end_known m memory.active reached.sound reached.knows.active)) all) joined in
    inr (m, written.answer, goes_on s doubt m _ _ _ _ _ _ mended.1 written.follows written.stages_follow written.reached written.any_moment)

pub write_known-requires-clause-may : goal.write_known-requires-clause-may
write_known-requires-clause-may g c =
    let numbers = c.join.new.numbers in
    subst (λ (x : Content). MayFollow x.cursor (end_of c.mend.new.self.memory) numbers) c.value.ensures (subst (λ (e : ℕ). MayFollow c.value.result.now.cursor e numbers) c.end-end.ensures.end c.join.ensures.may)

pub write_known-requires-clause-new : goal.write_known-requires-clause-new
write_known-requires-clause-new g c = subst (λ (x : Content). total_of (numbers_in x) < total_of c.join.new.numbers) c.value.ensures (c.join.ensures.new.0 c.if-not-join.false)

pub write_known-requires-clause-keeps : goal.write_known-requires-clause-keeps
write_known-requires-clause-keeps g c = λ n is. c.join.ensures.keeps n (subst (λ (x : Content). IsKnown (numbers_in x) n) (sym c.value.ensures) is)

pub write_known-requires-clause-earned : goal.write_known-requires-clause-earned
write_known-requires-clause-earned g c = λ n is.
    elim (c.join.ensures.only n is) [
      | inl was ↦ inl (subst (λ (x : Content). IsKnown (numbers_in x) n) c.value.ensures was)
      | inr more ↦ inr (c.requires.earned n more)
    ]
