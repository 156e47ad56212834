use Rattle.bridge_words.proofs.grammar.move_words.Goals as goal

pub returns : goal.returns
returns c = c.with_word.ensures _ (c.with_word-pair.ensures _ c.command_named-pair.ensures)
