use Rattle.std.proofs.Common.{List, ◌++◌, length, sym, ap, ◌∙◌}
use Rattle.std.specs.Prelude.{None}
use Rattle.std.specs.Vec.Iter.{into_iter_items}
use Rattle.event_form.specs.declared.event.Entry.{Entry}
use Rattle.spool_turns.specs.Rules.{PassView}
use Rattle.spool_desk.specs.Alone.{alone_at}
use Rattle.spool_turns.specs.Joining.{entries_out}
use Rattle.spool_turns.specs.Stands.{with_ids}
use Rattle.spool_turns.proofs.Kept.{alone_with, exact_of}
use Rattle.spool_turns.proofs.Entering.{same_front, is_answered}
use Rattle.spool_turns.proofs.joining.catch_up.Goals as goal

pub invariant_of-result : goal.invariant_of-result
invariant_of-result g c =
    let s = c.see_all-seat.ensures in
    let b = c.bring_back.ensures in
    let e = c.letter.invariant.1 in
    let view = c.letter.view_is in
    let joins = c.requires.joins s.knew.seen.0 (ap (λ (m : PassView). m.seen ++ s.knew.seen.0) (sym view) ∙ s.knew.seen.1) in
    let count = b.count ∙ e.count_is ∙ sym (ap (λ o. length (entries_out o)) e.out) ∙ ap (λ (m : PassView). length (entries_out m.out)) view in
    let same = same_front c.bring_back.new.place.items (entries_out c.args.letter.out) (into_iter_items c.bring_back.new.group) c.requires.entries.0 (sym b.items ∙ c.requires.entries.1) count in (
      s.table ∙ c.letter.invariant.0,
      is_answered _ _ _ _ _ c.args.locked.now.me c.letter.inside.seat.me (alone_with c.args._ids.now None c.args._alone.now) _ _ _ _ c.requires.turn c.requires.replays c.requires.met
          (exact_of g.D.Disk.tells (with_ids c.args._ids.now None (alone_at c.args._alone.now)) c.requires.told) s.knew e joins
          c.bring_back.new.place.items _ (same.0 ∙ ap (λ (m : PassView). entries_out m.out) (sym view)) s.pass,
    )

pub returns-clause-entries : goal.returns-clause-entries
returns-clause-entries g c =
    let b = c.bring_back.ensures in
    let e = c.letter.invariant.1 in
    let view = c.letter.view_is in
    let count = b.count ∙ e.count_is ∙ sym (ap (λ o. length (entries_out o)) e.out) ∙ ap (λ (m : PassView). length (entries_out m.out)) view in
    let same = same_front c.bring_back.new.place.items (entries_out c.args.letter.out) (into_iter_items c.bring_back.new.group) c.requires.entries.0 (sym b.items ∙ c.requires.entries.1) count in
    b.items ∙ ap (λ (l : List Entry). l ++ into_iter_items c.bring_back.new.group) same.0
