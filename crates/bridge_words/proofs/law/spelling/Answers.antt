use Rattle.bridge_words.proofs.Spelled as spelled
use Rattle.bridge_words.proofs.law.spelling.Goals as goal

pub returns : goal.returns
returns c = record {
  joined = spelled.joined;
  turned = spelled.turned;
  twice = spelled.twice;
  ended = spelled.ended;
  before = spelled.before;
  placed = spelled.placed;
}
