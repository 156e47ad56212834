use Rattle.bridge_words.proofs.grammar.list_words.Goals as goal

pub returns : goal.returns
returns c = c.with_option.ensures _ c.command_named-list.ensures
