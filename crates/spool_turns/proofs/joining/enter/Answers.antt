use Rattle.std.proofs.Common.{◌-◌, ◌∷◌, [], ◌++◌, ◌∙◌, sym, ap, subst, refl}
use Rattle.desk_access.specs.Desk.{DeskState}
use Rattle.desk_access.specs.Legal.{Met}
use Rattle.spool_turns.specs.Rules.{PassView, made_by, after_call, with_record}
use Rattle.desk_seats.specs.Passes.{LeadsAbove}
use Rattle.spool_turns.specs.Passes.{pass_of, locked_of, facts_in, caller_in}
use Rattle.spool_turns.specs.Joining.{entries_out, joint_record}
use Rattle.spool_turns.proofs.Entering.{met_joined, is_entered}
use Rattle.spool_turns.proofs.joining.enter.Goals as goal

pub invariant_of-result : goal.invariant_of-result
invariant_of-result g c =
    let h = c.admit.ensures in
    let e = c.add_record-seat.ensures in
    let f = facts_in c.args.locked.now.me.0 in
    let one = joint_record c.args.before (g.D.Disk.moment c.args.alone.now.desk.spool.disk).clock c.args.first.now c.args.part.now c.args.answer in
    let part = c.requires.part ∙ ap (λ (m : PassView). entries_out m.out) (sym c.letter.view_is) in
    let leads = subst (λ (m : PassView). (x : DeskState) → g.J.Naming.start x → LeadsAbove x (f.log ++ made_by m.number one ∷ []) f.end f.cursor) (sym c.letter.view_is) c.requires.leads in (
      e.tables.1 ∙ h.tables.0 ∙ c.requires.tables.0,
      is_entered _ _ _ _ _ _ _ _ c.letter.invariant.1 f one c.args.part.now c.args.answer refl part h.knew c.requires.met leads _
          (e.pass ∙ ap (λ x. pass_of (after_call (facts_in x.0) (caller_in x.0) one)) h.locked) c.requires.receipt c.requires.only,
      c.letter.invariant.2,
    )

pub returns-clause-met : goal.returns-clause-met
returns-clause-met g c =
    let h = c.admit.ensures in
    let e = c.add_record-seat.ensures in
    let f = facts_in c.args.locked.now.me.0 in
    let one = joint_record c.args.before (g.D.Disk.moment c.args.alone.now.desk.spool.disk).clock c.args.first.now c.args.part.now c.args.answer in
    let part = c.requires.part ∙ ap (λ (m : PassView). entries_out m.out) (sym c.letter.view_is) in
    let leads = subst (λ (m : PassView). (x : DeskState) → g.J.Naming.start x → LeadsAbove x (f.log ++ made_by m.number one ∷ []) f.end f.cursor) (sym c.letter.view_is) c.requires.leads in
    subst (λ m. Met g.J.Naming.run (g.J.Naming.seats - 1) [] (facts_in m.0).log) (sym (e.locked ∙ ap (λ x. locked_of (with_record (facts_in x.0) (made_by (caller_in x.0).number one))) h.locked))
    (met_joined _ _ _ _ _ _ _ _ c.letter.invariant.1 f one c.args.part.now c.args.answer refl part h.knew c.requires.met leads)
