use Rattle.bridge_words.proofs.grammar.load_words.Goals as goal

pub returns : goal.returns
returns c = c.with_word.ensures _ (c.with_word-load-2.ensures _ (c.with_word-load.ensures _ c.command_named-load.ensures))
