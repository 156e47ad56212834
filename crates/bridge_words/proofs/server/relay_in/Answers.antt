use Rattle.std.proofs.Common.{◌≡◌, ◌∙◌, sym, subst}
use Rattle.std.specs.Prelude.{Err}
use Rattle.words_faults.specs.declared.fault.WordsFault.{WordsFault}
use Rattle.bridge_words.specs.Values.{rows_in, polls_in}
use Rattle.bridge_words.specs.Words.{relay_in}
use Rattle.bridge_words.proofs.Together.{told_as, relay_channel, relay_polls, relay_all}
use Rattle.bridge_words.proofs.server.relay_in.Goals as goal

pub returns-in_err-channel-clause-wrong : goal.returns-in_err-channel-clause-wrong
returns-in_err-channel-clause-wrong c = λ fault is.
    let same = told_as _ _ fault c.from_residual-in_err-channel.ensures is in
    let told = relay_channel _ _ _ _ (polls_in (rows_in c.args.matches.now)) _ _ _ _ c.in_ok-proto.ensures c.in_ok-place.ensures.place c.in_ok-token.ensures c.in_err-channel.ensures in
    subst (λ (w : WordsFault). relay_in (rows_in c.args.matches.now) ≡ Err w) same told

pub returns-in_err-polls-clause-wrong : goal.returns-in_err-polls-clause-wrong
returns-in_err-polls-clause-wrong c = λ fault is.
    let same = told_as _ _ fault c.from_residual-in_err-polls.ensures is in
    let told = relay_polls _ _ _ _ _ _ _ _ _ _ c.in_ok-proto.ensures c.in_ok-place.ensures.place c.in_ok-token.ensures c.in_ok-channel.ensures c.in_err-polls.ensures.number in
    subst (λ (w : WordsFault). relay_in (rows_in c.args.matches.now) ≡ Err w) same told

pub returns-in_err-relay-clause-wrong : goal.returns-in_err-relay-clause-wrong
returns-in_err-relay-clause-wrong c = λ fault is.
    let same = told_as _ _ fault c.from_residual-in_err-relay.ensures is in
    let told = relay_all _ _ _ _ _ _ _ _ _ _ c.in_ok-proto.ensures c.in_ok-place.ensures.place c.in_ok-token.ensures c.in_ok-channel.ensures c.in_ok-polls.ensures.number ∙ sym c.in_err-relay.ensures in
    subst (λ (w : WordsFault). relay_in (rows_in c.args.matches.now) ≡ Err w) same told

pub returns-clause-relay : goal.returns-clause-relay
returns-clause-relay c =
    relay_all _ _ _ _ _ _ _ _ _ _ c.in_ok-proto.ensures c.in_ok-place.ensures.place c.in_ok-token.ensures c.in_ok-channel.ensures c.in_ok-polls.ensures.number ∙ sym c.in_ok-relay.ensures
