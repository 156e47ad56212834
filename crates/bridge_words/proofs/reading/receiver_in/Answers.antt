use Rattle.std.proofs.Common.{◌∙◌}
use Rattle.bridge_words.specs.Values.{rows_in, polls_in}
use Rattle.bridge_words.proofs.Together.{err_is, receiver_channel, receiver_polls, receiver_all}
use Rattle.bridge_words.proofs.reading.receiver_in.Goals as goal

pub returns-in_err-channel-clause-receiver : goal.returns-in_err-channel-clause-receiver
returns-in_err-channel-clause-receiver c =
    err_is _ _ c.from_residual-in_err-channel.ensures ∙ receiver_channel _ _ _ (polls_in (rows_in c.args.matches.now)) _ _ _ c.in_ok-proto.ensures c.in_ok-token.ensures c.in_err-channel.ensures

pub returns-in_err-polls-clause-receiver : goal.returns-in_err-polls-clause-receiver
returns-in_err-polls-clause-receiver c =
    err_is _ _ c.from_residual-in_err-polls.ensures ∙ receiver_polls _ _ _ _ _ _ _ _ c.in_ok-proto.ensures c.in_ok-token.ensures c.in_ok-channel.ensures c.in_err-polls.ensures.number

pub returns-clause-receiver : goal.returns-clause-receiver
returns-clause-receiver c = c.receiver_of.ensures ∙ receiver_all _ _ _ _ _ _ _ _ c.in_ok-proto.ensures c.in_ok-token.ensures c.in_ok-channel.ensures c.in_ok-polls.ensures.number
