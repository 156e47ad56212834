use Rattle.std.proofs.Common.{◌≤◌, List, length, ◌++◌, [], sym, ap, ◌∙◌, subst, arith}
use Rattle.std.specs.Prelude.{None}
use Rattle.event_form.specs.declared.event.Entry.{Entry}
use Rattle.desk_access.specs.Call.{Record}
use Rattle.spool_desk.specs.Alone.{alone_at}
use Rattle.spool_turns.specs.Passes.{IsTurn, facts_in}
use Rattle.spool_turns.specs.Replays.{Replays}
use Rattle.spool_turns.specs.Stands.{with_ids}
use Rattle.spool_turns.proofs.Grouping.{same_count, same_numbers, leads_all, words_rise, replays_all, turn_all, log_all, joint_all}
use Rattle.spool_turns.proofs.OtherIds.{runs_beside}
use Rattle.spool_turns.proofs.Stored.{stored_made}
use Rattle.spool_turns.proofs.joint.enter_group.Goals as goal

pub enter_all-requires-clause-met : goal.enter_all-requires-clause-met
enter_all-requires-clause-met g c = c.requires.stored.met

pub enter_all-requires-clause-view : goal.enter_all-requires-clause-view
enter_all-requires-clause-view g c = c.requires.stored.turn.locked

pub enter_all-requires-clause-leads : goal.enter_all-requires-clause-leads
enter_all-requires-clause-leads g c =
    let n = g.J.Naming in
    let r = c.requires in
    let s = r.stored in
    let ids = c.args.ids.now in
    let old = with_ids ids None (alone_at s.from) in
    let mid = with_ids ids None (alone_at c.args.alone.now) in
    let are = c.deref-all.ensures.value ∙ r.entries in
    let made = stored_made g.D.Disk n.start n.run n.seats n.began ids c.args.locked.now.me c.args.group.entries.items c.deref-all.result.now c.args.before c.args.answer c.args.alone.now c.deref-all.ensures.value s in
    leads_all g.D.Disk.tells n.start n.run n.seats n.began c.args.locked.now.me old mid mid c.args.group.letters.items c.deref-all.result.now c.args.before c.args.answer c.is_ok-stored.result c.is_ok-stored.ensures.value r.grouped s.turn s.replays r.some r.parts.0 r.parts.1 are s.standing s.only made

pub write_words-requires-clause-words : goal.write_words-requires-clause-words
write_words-requires-clause-words g c =
    let n = g.J.Naming in
    let r = c.requires in
    let s = r.stored in
    let ids = c.args.ids.now in
    let old = with_ids ids None (alone_at s.from) in
    let mid = with_ids ids None (alone_at c.args.alone.now) in
    let are = c.deref-all.ensures.value ∙ r.entries in
    let made = stored_made g.D.Disk n.start n.run n.seats n.began ids c.args.locked.now.me c.args.group.entries.items c.deref-all.result.now c.args.before c.args.answer c.args.alone.now c.deref-all.ensures.value s in
    subst (λ x. ((facts_in x.0).end ≤ c.args.alone.now.end_told) × ((facts_in x.0).cursor ≤ c.args.alone.now.cursor_told)) (sym c.enter_all.ensures.locked)
    (words_rise g.D.Disk.tells n.start n.run n.seats n.began c.args.locked.now.me old mid mid c.args.group.letters.items c.deref-all.result.now c.args.before c.args.answer c.is_ok-stored.result c.is_ok-stored.ensures.value r.grouped s.turn s.replays r.some r.parts.0 r.parts.1 are s.standing s.only made)

pub answer_entered-requires-clause-turn : goal.answer_entered-requires-clause-turn
answer_entered-requires-clause-turn g c =
    let n = g.J.Naming in
    let r = c.requires in
    let s = r.stored in
    let ids = c.args.ids.now in
    let old = with_ids ids None (alone_at s.from) in
    let mid = with_ids ids None (alone_at c.args.alone.now) in
    let are = c.deref-all.ensures.value ∙ r.entries in
    let made = stored_made g.D.Disk n.start n.run n.seats n.began ids c.args.locked.now.me c.args.group.entries.items c.deref-all.result.now c.args.before c.args.answer c.args.alone.now c.deref-all.ensures.value s in
    let new = with_ids ids None (alone_at c.write_words.new.alone) in
    turn_all g.D.Disk.tells n.start n.run n.seats n.began c.args.locked.now.me old mid new c.args.group.letters.items c.deref-all.result.now c.args.before c.args.answer c.is_ok-stored.result c.is_ok-stored.ensures.value r.grouped s.turn s.replays r.some r.parts.0 r.parts.1 are s.standing s.only made c.enter_all.new.locked.me c.write_words.new.locked.me c.enter_all.ensures.locked c.write_words.ensures.locked

pub answer_entered-requires-clause-replays : goal.answer_entered-requires-clause-replays
answer_entered-requires-clause-replays g c =
    let n = g.J.Naming in
    let r = c.requires in
    let s = r.stored in
    let ids = c.args.ids.now in
    let old = with_ids ids None (alone_at s.from) in
    let mid = with_ids ids None (alone_at c.args.alone.now) in
    let are = c.deref-all.ensures.value ∙ r.entries in
    let made = stored_made g.D.Disk n.start n.run n.seats n.began ids c.args.locked.now.me c.args.group.entries.items c.deref-all.result.now c.args.before c.args.answer c.args.alone.now c.deref-all.ensures.value s in
    let new = with_ids ids None (alone_at c.write_words.new.alone) in
    subst (λ (l : List Record). Replays g.D.Disk.tells n.start n.run n.began l new)
    (sym (log_all g.D.Disk.tells n.start n.run n.seats n.began c.args.locked.now.me old mid new c.args.group.letters.items c.deref-all.result.now c.args.before c.args.answer c.is_ok-stored.result c.is_ok-stored.ensures.value r.grouped s.turn s.replays r.some r.parts.0 r.parts.1 are s.standing s.only made c.enter_all.new.locked.me c.write_words.new.locked.me c.enter_all.ensures.locked c.write_words.ensures.locked))
    (replays_all g.D.Disk.tells n.start n.run n.seats n.began c.args.locked.now.me old mid new c.args.group.letters.items c.deref-all.result.now c.args.before c.args.answer c.is_ok-stored.result c.is_ok-stored.ensures.value r.grouped s.turn s.replays r.some r.parts.0 r.parts.1 are s.standing s.only made
    (runs_beside g.D.Disk.tells ids None None (alone_at c.args.alone.now) (alone_at c.write_words.new.alone) [] tt s.unused.0 s.unused.1 c.write_words.ensures.run))

pub answer_entered-requires-clause-joins : goal.answer_entered-requires-clause-joins
answer_entered-requires-clause-joins g c =
    let n = g.J.Naming in
    let r = c.requires in
    let s = r.stored in
    let ids = c.args.ids.now in
    let old = with_ids ids None (alone_at s.from) in
    let mid = with_ids ids None (alone_at c.args.alone.now) in
    let are = c.deref-all.ensures.value ∙ r.entries in
    let made = stored_made g.D.Disk n.start n.run n.seats n.began ids c.args.locked.now.me c.args.group.entries.items c.deref-all.result.now c.args.before c.args.answer c.args.alone.now c.deref-all.ensures.value s in
    let new = with_ids ids None (alone_at c.write_words.new.alone) in
    joint_all g.D.Disk.tells n.start n.run n.seats n.began c.args.locked.now.me old mid new c.args.group.letters.items c.deref-all.result.now c.args.before c.args.answer c.is_ok-stored.result c.is_ok-stored.ensures.value r.grouped s.turn s.replays r.some r.parts.0 r.parts.1 are s.standing s.only made c.enter_all.new.locked.me c.write_words.new.locked.me c.enter_all.ensures.locked c.write_words.ensures.locked c.enter_all.new.entered.items c.enter_all.ensures.behind

pub answer_entered-requires-clause-room : goal.answer_entered-requires-clause-room
answer_entered-requires-clause-room g c =
    omega (arith, c.requires.room.2, same_count c.enter_all.new.entered.items c.args.group.letters.items c.enter_all.ensures.parts, c.enter_all.new.entered.ok.0, c.args.group.letters.ok.0)

pub returns-clause-turn : goal.returns-clause-turn
returns-clause-turn g c =
    let n = g.J.Naming in
    let r = c.requires in
    let s = r.stored in
    let ids = c.args.ids.now in
    let old = with_ids ids None (alone_at s.from) in
    let mid = with_ids ids None (alone_at c.args.alone.now) in
    let are = c.deref-all.ensures.value ∙ r.entries in
    let made = stored_made g.D.Disk n.start n.run n.seats n.began ids c.args.locked.now.me c.args.group.entries.items c.deref-all.result.now c.args.before c.args.answer c.args.alone.now c.deref-all.ensures.value s in
    let new = with_ids ids None (alone_at c.write_words.new.alone) in
    subst (λ x. IsTurn n.seats x new) (sym c.answer_entered.ensures.same.1)
    (turn_all g.D.Disk.tells n.start n.run n.seats n.began c.args.locked.now.me old mid new c.args.group.letters.items c.deref-all.result.now c.args.before c.args.answer c.is_ok-stored.result c.is_ok-stored.ensures.value r.grouped s.turn s.replays r.some r.parts.0 r.parts.1 are s.standing s.only made c.enter_all.new.locked.me c.write_words.new.locked.me c.enter_all.ensures.locked c.write_words.ensures.locked)

pub returns-clause-replays : goal.returns-clause-replays
returns-clause-replays g c =
    let n = g.J.Naming in
    let r = c.requires in
    let s = r.stored in
    let ids = c.args.ids.now in
    let old = with_ids ids None (alone_at s.from) in
    let mid = with_ids ids None (alone_at c.args.alone.now) in
    let are = c.deref-all.ensures.value ∙ r.entries in
    let made = stored_made g.D.Disk n.start n.run n.seats n.began ids c.args.locked.now.me c.args.group.entries.items c.deref-all.result.now c.args.before c.args.answer c.args.alone.now c.deref-all.ensures.value s in
    let new = with_ids ids None (alone_at c.write_words.new.alone) in
    subst (λ x. Replays g.D.Disk.tells n.start n.run n.began (facts_in x.0).log new) (sym c.answer_entered.ensures.same.1)
    (subst (λ (l : List Record). Replays g.D.Disk.tells n.start n.run n.began l new)
    (sym (log_all g.D.Disk.tells n.start n.run n.seats n.began c.args.locked.now.me old mid new c.args.group.letters.items c.deref-all.result.now c.args.before c.args.answer c.is_ok-stored.result c.is_ok-stored.ensures.value r.grouped s.turn s.replays r.some r.parts.0 r.parts.1 are s.standing s.only made c.enter_all.new.locked.me c.write_words.new.locked.me c.enter_all.ensures.locked c.write_words.ensures.locked))
    (replays_all g.D.Disk.tells n.start n.run n.seats n.began c.args.locked.now.me old mid new c.args.group.letters.items c.deref-all.result.now c.args.before c.args.answer c.is_ok-stored.result c.is_ok-stored.ensures.value r.grouped s.turn s.replays r.some r.parts.0 r.parts.1 are s.standing s.only made
    (runs_beside g.D.Disk.tells ids None None (alone_at c.args.alone.now) (alone_at c.write_words.new.alone) [] tt s.unused.0 s.unused.1 c.write_words.ensures.run)))

pub enter_all-requires-clause-numbers : goal.enter_all-requires-clause-numbers
enter_all-requires-clause-numbers g c = omega (arith, c.requires.numbers, ap (λ (l : List Entry). length l) c.deref-all.ensures.value)

pub returns-clause-answers : goal.returns-clause-answers
returns-clause-answers g c =
    c.answer_entered.ensures.answers ∙ ap (λ l. c.args.answers.now.items ++ l) (same_numbers c.enter_all.new.entered.items c.args.group.letters.items c.enter_all.ensures.parts)
