use Rattle.std.proofs.Common.{◌∙◌, codes, false}
use Rattle.std.proofs.lemmas.Str.Pattern.{ends_text}
use Rattle.bridge_words.proofs.Listed.{plain}
use Rattle.bridge_words.proofs.tokens.token_at.Goals as goal

pub returns-in-None : goal.returns-in-None
returns-in-None c = c.guid_token-in-None.ensures ∙ plain c.args.line.now (ends_text false (codes " ack") c.args.line.now c.in-None.ensures.cases)
