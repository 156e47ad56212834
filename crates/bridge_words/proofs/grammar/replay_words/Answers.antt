use Rattle.bridge_words.proofs.grammar.replay_words.Goals as goal

pub returns : goal.returns
returns c = c.with_option.ensures _ (c.with_option-replay.ensures _ (c.with_word-replay.ensures _ c.command_named-replay.ensures))
