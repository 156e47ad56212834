use Rattle.bridge_words.proofs.Spellings as spelling
use Rattle.bridge_words.proofs.spelt.naming_tokens.Goals as goal

pub returns : goal.returns
returns c = record {
  token = spelling.spells_token;
  ack_token = spelling.spells_ack_token;
  tokens = spelling.spells_tokens;
  token_apart = spelling.token_apart;
  ack_token_apart = spelling.ack_token_apart;
}
