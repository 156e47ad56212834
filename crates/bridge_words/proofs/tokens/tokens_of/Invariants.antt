use Rattle.std.proofs.Common.{◌≡◌, drop}
use Rattle.bridge_words.specs.Tokens.{tokens_of}
use Rattle.bridge_words.proofs.Listed.{after, texts}
use Rattle.bridge_words.proofs.tokens.tokens_of.Given as goal

-- the tokens are those of the lines before this one and then those of the lines from it on
abbrev pub invariant-loop-line : goal.invariant-loop-line
invariant-loop-line l = tokens_of (texts l.lines) ≡ after l.tokens.items (tokens_of (texts (drop l.line-index l.lines)))
