use Rattle.bridge_words.proofs.Apps.{chooses}
use Rattle.bridge_words.proofs.grammar.top_words.Goals as goal

pub returns : goal.returns
returns c =
    chooses _ _ _ _ _ _ _ (record { is = c.new.ensures.app; local = c.new.ensures.local })
    c.no_binary_name.ensures c.disable_help_flag.ensures c.disable_help_subcommand.ensures c.disable_version_flag.ensures c.subcommand_required-bridge.ensures
