use Rattle.bridge_words.proofs.Spelled as spelled
use Rattle.bridge_words.proofs.law.grouping.Goals as goal

pub returns : goal.returns
returns c = record {
  without = spelled.without;
  before = spelled.grouped_before;
  behind = spelled.grouped_behind;
  twice = spelled.grouped_twice;
  valued = spelled.grouped_by;
}
