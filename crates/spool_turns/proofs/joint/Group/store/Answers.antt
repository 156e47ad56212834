use Rattle.std.proofs.Common.{length, List, ◌∷◌, All, sym, ap, ◌∙◌, subst, arith}
use Rattle.event_form.specs.declared.event.Entry.{Entry}
use Rattle.event_form.specs.Entry.{IsEntry}
use Rattle.desk_access.specs.declared.standing.Standing.{Standing}
use Rattle.desk_access.specs.JointRecords.{joint_of}
use Rattle.spool_desk.specs.Alone.{alone_at, RunsTo}
use Rattle.spool_turns.specs.Joining.{parts_of}
use Rattle.spool_turns.proofs.JointRecords.{all_entries}
use Rattle.spool_turns.proofs.Grouping.{some_entries, count_of_parts}
use Rattle.spool_turns.proofs.joint.Group.store.Goals as goal

pub take_jointly-result-requires-clause-few : goal.take_jointly-result-requires-clause-few
take_jointly-result-requires-clause-few g c =
    let are = c.deref-all.ensures.value ∙ c.requires.entries in
    let some = some_entries (parts_of c.args.self.now.letters.items) (count_of_parts c.args.self.now.letters.items c.requires.some) c.requires.parts in
    (omega (arith, some, ap (λ (l : List Entry). length l) are), omega (arith, c.requires.few, ap (λ (l : List Entry). length l) c.deref-all.ensures.value))

pub take_jointly-result-requires-clause-limits : goal.take_jointly-result-requires-clause-limits
take_jointly-result-requires-clause-limits g c = subst (All IsEntry) (sym (c.deref-all.ensures.value ∙ c.requires.entries)) (all_entries (parts_of c.args.self.now.letters.items) c.requires.parts)

pub returns-clause-made : goal.returns-clause-made
returns-clause-made g c = λ part parts are all.
    let t = c.take_jointly-result in
    subst (λ (s : Standing). RunsTo g.D.Disk.tells (alone_at c.args.alone.now) (joint_of t.result (g.D.Disk.moment t.new.self.desk.spool.disk).clock s (part ∷ parts)) (alone_at t.new.self)) (sym c.standing-before.ensures)
    (t.ensures.made part parts (are ∙ sym c.deref-all.ensures.value) all)

pub returns-clause-numbers : goal.returns-clause-numbers
returns-clause-numbers g c = omega (arith, c.requires.fits.numbers, ap (λ (s : Standing). s.end) c.standing-before.ensures)
