use Rattle.std.proofs.Common.{◌≡◌, ℕ, ◌≤◌, ◌∙◌, length, refl, sym, ap, subst}
use Rattle.std.specs.Prelude.{take, None}
use Rattle.atomic_table.specs.Table.{Me}
use Rattle.desk_access.specs.Call.{takes}
use Rattle.spool_turns.specs.Rules.{View, Handed}
use Rattle.desk_seats.specs.Passes.{Known, Calls}
use Rattle.spool_turns.specs.Passes.{known_of, number_in, pass_in, IsPass, Sound}
use Rattle.spool_turns.specs.Replays.{IsReal}
use Rattle.spool_turns.specs.Letters.{claimed}
use Rattle.spool_turns.proofs.Outward.{same_handed, sound_back}
use Rattle.spool_turns.proofs.going.collect.Goals as goal

pub take_back-requires : goal.take_back-requires
take_back-requires g c =
    let a = c.answer.invariant in
    let t = c.requires.tables in
    record {
      tables = (t.0, a.0 ∙ sym t.1, t.2);
      views = (c.requires.claim, a.1.pass);
      number = a.1.number_is ∙ c.answer.view_is ∙ c.requires.number;
    }

pub returns-clause-pass : goal.returns-clause-pass
returns-clause-pass g c =
    let a = c.answer.invariant.1 in
    let n = a.number_is ∙ c.answer.view_is ∙ c.requires.number in
    subst (λ (x : Me ℕ View). IsPass x × Sound g.J.Naming.start (pass_in x.0) × ((pass_in x.0).number ≡ number_in c.args.seat.now.me.0) × ((pass_in x.0).out ≡ None)) (sym c.take_back.ensures.back)
    (refl, sound_back g.J.Naming.start _ a.sound, n, refl)

pub returns-clause-call : goal.returns-clause-call
returns-clause-call g c =
    let a = c.answer.invariant.1 in
    let handed = same_handed _ _ _ a.out c.take_back.ensures.was in
    let number = c.answer.view_is ∙ c.requires.number in
    let back = sym (ap (λ (x : Me ℕ View). known_of (pass_in x.0)) c.take_back.ensures.back) in
    subst (λ (x : ℕ × Handed × Known). Calls g.J.Naming.start g.J.Naming.run g.J.Naming.seats (claimed x.0 x.1) (takes (take c.answer.inside.count x.1.entries) c.answer.inside.answer) x.2)
    (λ i. (number i, handed i, back i)) a.calls

pub returns-clause-real : goal.returns-clause-real
returns-clause-real g c =
    let a = c.answer.invariant.1 in
    subst (λ (x : Me ℕ View). IsReal g.D.Disk g.J.Naming.start g.J.Naming.run g.J.Naming.seats g.J.Naming.began (pass_in x.0).seen) (sym c.take_back.ensures.back) a.real

pub returns-clause-same : goal.returns-clause-same
returns-clause-same g c =
    let a = c.answer.invariant.1 in
    a.same ∙ ap (λ (h : Handed). h.entries) (same_handed _ _ _ a.out c.take_back.ensures.was)

pub returns-clause-front : goal.returns-clause-front
returns-clause-front g c =
    let a = c.answer.invariant.1 in
    (a.some, subst (λ (h : Handed). c.answer.inside.count ≤ length h.entries) (same_handed _ _ _ a.out c.take_back.ensures.was) a.within)

pub returns-clause-whole : goal.returns-clause-whole
returns-clause-whole g c =
    let a = c.answer.invariant.1 in
    let handed = same_handed _ _ _ a.out c.take_back.ensures.was in
    λ whole. a.whole (ap (λ (h : Handed). h.front) handed ∙ whole) ∙ ap (λ (h : Handed). length h.entries) handed

pub returns-clause-receipt : goal.returns-clause-receipt
returns-clause-receipt g c = c.answer.invariant.1.receipt

pub returns-clause-alone : goal.returns-clause-alone
returns-clause-alone g c =
    let a = c.answer.invariant.1 in
    λ front. a.alone (ap (λ (h : Handed). h.front) (same_handed _ _ _ a.out c.take_back.ensures.was) ∙ front)
