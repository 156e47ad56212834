use Rattle.bridge_words.proofs.grammar.command_named.Goals as goal

pub returns : goal.returns
returns c = record { is = c.new.ensures.app; local = c.new.ensures.local }
