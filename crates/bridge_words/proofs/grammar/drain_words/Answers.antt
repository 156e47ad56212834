use Rattle.bridge_words.proofs.grammar.drain_words.Goals as goal

pub returns : goal.returns
returns c = c.with_option.ensures _ (c.with_option-drain-2.ensures _ (c.with_option-drain.ensures _ (c.with_word-drain-2.ensures _ (c.with_word-drain.ensures _ c.command_named-drain.ensures))))
