use Rattle.bridge_words.proofs.grammar.format_words.Goals as goal

pub returns : goal.returns
returns c = c.with_word.ensures _ (c.with_word-format.ensures _ c.command_named-format.ensures)
