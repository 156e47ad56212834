-- A success, with an id and without, and the answer to a query.
use Rattle.collector_laws.proofs.Refusals.{others_refuse}
use Rattle.collector_laws.proofs.Replies.{answer_decides, success_asks, success_confirms}
use Rattle.collector_laws.proofs.answers.replies_are_understood.Goals as goal

pub returns : goal.returns
returns c = record { confirms = success_confirms; asks = success_asks; decides = answer_decides; refuses = others_refuse }
