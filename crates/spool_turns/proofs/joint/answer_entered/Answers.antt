use Rattle.std.proofs.Common.{ℕ, ◌-◌, List, [], ◌∷◌, ◌++◌, refl, sym, ap, ◌∙◌, subst, arith, append_assoc}
use Rattle.std.specs.Prelude.{None}
use Rattle.std.specs.Vec.Iter.{into_iter_items}
use Rattle.std.proofs.lemmas.List.{append-nil, nil_from_length}
use Rattle.desk_access.specs.JointRecords.{joined}
use Rattle.desk_access.specs.Legal.{Met}
use Rattle.spool_desk.specs.Alone.{alone_at}
use Rattle.spool_turns.specs.Rules.{PassView}
use Rattle.spool_turns.specs.Passes.{IsTurn, facts_in}
use Rattle.spool_turns.specs.Replays.{Replays}
use Rattle.spool_turns.specs.Joining.{parts_of, numbers_of, entries_out, AreJoint}
use Rattle.spool_turns.specs.Stands.{with_ids}
use Rattle.spool_turns.proofs.Entering.{same_front}
use Rattle.spool_turns.proofs.Grouping.{joint_next, joint_here}
use Rattle.spool_turns.proofs.joint.answer_entered.Goals as goal

pub loop-letter-init : goal.loop-letter-init
loop-letter-init g c =
    let l = c.into_iter-left.ensures in
    let r = c.requires in (
      refl,
      refl,
      subst (AreJoint (facts_in c.args.locked.now.me.0).log) (sym l.rest) r.joins,
      c.into_iter-group.ensures.rest ∙ r.group ∙ ap (λ (k : List PassView). joined (parts_of k)) (sym l.rest),
      ap (λ (k : List PassView). c.args.answers.now.items ++ numbers_of k) l.rest,
      omega (arith, l.len, r.room),
      refl,
    )

pub catch_up-answer-requires-clause-tables : goal.catch_up-answer-requires-clause-tables
catch_up-answer-requires-clause-tables g c = (c.loop-letter.invariant.0 ∙ c.requires.tables.0, c.requires.tables.1, c.requires.tables.2)

pub catch_up-answer-requires-clause-turn : goal.catch_up-answer-requires-clause-turn
catch_up-answer-requires-clause-turn g c = subst (λ x. IsTurn g.J.Naming.seats x (with_ids c.args.ids.now None (alone_at c.args.alone.now))) (sym c.loop-letter.invariant.1) c.requires.turn

pub catch_up-answer-requires-clause-replays : goal.catch_up-answer-requires-clause-replays
catch_up-answer-requires-clause-replays g c =
    subst (λ x. Replays g.D.Disk.tells g.J.Naming.start g.J.Naming.run g.J.Naming.began (facts_in x.0).log (with_ids c.args.ids.now None (alone_at c.args.alone.now))) (sym c.loop-letter.invariant.1) c.requires.replays

pub catch_up-answer-requires-clause-met : goal.catch_up-answer-requires-clause-met
catch_up-answer-requires-clause-met g c = subst (λ x. Met g.J.Naming.run (g.J.Naming.seats - 1) [] (facts_in x.0).log) (sym c.loop-letter.invariant.1) c.requires.met

pub catch_up-answer-requires-clause-joins : goal.catch_up-answer-requires-clause-joins
catch_up-answer-requires-clause-joins g c =
    let i = c.loop-letter.invariant in
    let h = subst (AreJoint (facts_in c.args.locked.now.me.0).log) c.in-Some.ensures.items i.2 in
    λ behind is. joint_here _ c.in-Some.letter _ h behind (is ∙ ap (λ x. (facts_in x.0).log) i.1)

pub catch_up-answer-requires-clause-entries : goal.catch_up-answer-requires-clause-entries
catch_up-answer-requires-clause-entries g c =
    (joined (parts_of (into_iter_items c.next.new.self)), c.loop-letter.invariant.3 ∙ ap (λ (k : List PassView). joined (parts_of k)) c.in-Some.ensures.items)

pub push_reserved-requires : goal.push_reserved-requires
push_reserved-requires g c = omega (arith, c.loop-letter.invariant.5, c.in-Some.ensures.cases.1)

pub loop-letter-smaller : goal.loop-letter-smaller
loop-letter-smaller g c = omega (arith, c.in-Some.ensures.cases.1)

pub loop-letter-preserved : goal.loop-letter-preserved
loop-letter-preserved g c =
    let i = c.loop-letter.invariant in
    let e = c.catch_up-answer.ensures in
    let p = c.push_reserved.ensures in
    let items = c.in-Some.ensures.items in
    let left = into_iter_items c.next.new.self in
    let own = entries_out c.in-Some.letter.out in (
      e.same.0 ∙ i.0,
      e.same.1 ∙ i.1,
      joint_next _ c.in-Some.letter left (subst (AreJoint (facts_in c.args.locked.now.me.0).log) items i.2),
      (same_front own own (into_iter_items c.catch_up-answer.new.group) (joined (parts_of left)) (sym e.entries ∙ i.3 ∙ ap (λ (k : List PassView). joined (parts_of k)) items) refl).1,
      ap (λ (k : List ℕ). k ++ numbers_of left) (p.items ∙ ap (λ (n : ℕ). c.loop-letter.answers.items ++ n ∷ []) e.number)
          ∙ append_assoc c.loop-letter.answers.items (c.in-Some.letter.number ∷ []) (numbers_of left)
          ∙ ap (λ (k : List PassView). c.loop-letter.answers.items ++ numbers_of k) (sym items) ∙ i.4,
      omega (arith, p.len, p.capacity, i.5, c.in-Some.ensures.cases.1),
      p.capacity ∙ i.6,
    )

pub returns-clause-same : goal.returns-clause-same
returns-clause-same g c = (c.loop-letter.invariant.0, c.loop-letter.invariant.1)

pub returns-clause-answers : goal.returns-clause-answers
returns-clause-answers g c =
    let none = nil_from_length (into_iter_items c.loop-letter.left) (omega (arith, c.in_default.ensures.cases.0, c.loop-letter.left.rest.ok.0)) in
    sym (append-nil c.loop-letter.answers.items) ∙ ap (λ (k : List PassView). c.loop-letter.answers.items ++ numbers_of k) (sym none) ∙ c.loop-letter.invariant.4

pub returns-clause-capacity : goal.returns-clause-capacity
returns-clause-capacity g c = c.loop-letter.invariant.6
