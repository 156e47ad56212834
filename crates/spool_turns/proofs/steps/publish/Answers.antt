use Rattle.std.proofs.Common.{ap, ◌∙◌, sym, subst, refl}
use Rattle.spool_turns.specs.Rules.{end_at, cursor_at}
use Rattle.spool_turns.specs.Passes.{IsHosting, hosting_of, hosted_in, facts_in}
use Rattle.spool_turns.proofs.steps.publish.Goals as goal

pub write_words-requires-clause-view : goal.write_words-requires-clause-view
write_words-requires-clause-view g c = subst IsHosting (sym c.requires.view) refl

pub returns-clause-locked : goal.returns-clause-locked
returns-clause-locked g c =
    let f = cursor_at c.write_words.new.alone.cursor_told (end_at c.write_words.new.alone.end_told (facts_in c.args.locked.now.me.0)) in
    c.write_words.ensures.locked ∙ ap (λ m. hosting_of f (hosted_in m.0)) c.requires.view

pub write_words-requires-clause-tables : goal.write_words-requires-clause-tables
write_words-requires-clause-tables g c = c.requires.tables

pub write_words-requires-clause-words : goal.write_words-requires-clause-words
write_words-requires-clause-words g c = c.requires.words

pub returns-clause-run : goal.returns-clause-run
returns-clause-run g c = c.write_words.ensures.run

pub returns-clause-kept : goal.returns-clause-kept
returns-clause-kept g c = c.write_words.ensures.kept

pub returns-clause-told : goal.returns-clause-told
returns-clause-told g c = c.write_words.ensures.told

pub returns-clause-ids : goal.returns-clause-ids
returns-clause-ids g c = c.write_words.ensures.ids

pub returns-clause-table : goal.returns-clause-table
returns-clause-table g c = c.write_words.ensures.table
