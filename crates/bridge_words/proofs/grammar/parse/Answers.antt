use Rattle.std.proofs.Common.{refl, map, string_bytes}
use Rattle.bridge_words.specs.Grammar.{bridge_app, refusals, named}
use Rattle.bridge_words.proofs.Apps.{fails_as, finds_as}
use Rattle.bridge_words.proofs.grammar.parse.Goals as goal

pub returns-clause-refusals : goal.returns-clause-refusals
unfolding refusals
returns-clause-refusals c = fails_as bridge_app _ (map string_bytes c.args.words.now) c.try_get_matches_from.result c.in_ok-bridge.ensures refl c.try_get_matches_from.ensures.kinds

pub returns-clause-named : goal.returns-clause-named
unfolding named
returns-clause-named c = finds_as bridge_app _ (map string_bytes c.args.words.now) c.try_get_matches_from.result c.in_ok-bridge.ensures refl c.try_get_matches_from.ensures.matches
